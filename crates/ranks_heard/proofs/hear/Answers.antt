use Rattle.fabric.specs.Speakers.{opened_by, threads_by}
use Rattle.ranks_heard.proofs.Whole.{ends, heard_first, left_so, speakers}
use Rattle.ranks_heard.proofs.hear.Goals as goal

pub close_all-requires : goal.close_all-requires
close_all-requires g c = (
  c.in_ok-domain.domain.info,
  c.peers.result.selective,
  opened_by (speakers c.args.one.items c.in_ok-domain.domain.endpoints.items c.in-Some.four.endpoints.items c.in-Some.four.told c.in-Some.ensures),
  threads_by (speakers c.args.one.items c.in_ok-domain.domain.endpoints.items c.in-Some.four.endpoints.items c.in-Some.four.told c.in-Some.ensures),
  left_so c.args.one.items c.in_ok-domain.domain.endpoints.items c.in-Some.four.endpoints.items c.in-Some.four.told c.in-Some.ensures c.in_ok-domain.domain.info c.peers.result.selective c.in_ok-domain.ensures.opened,
  ends c.args.one.items c.in_ok-domain.domain.endpoints.items c.in-Some.four.endpoints.items c.in-Some.four.told c.in-Some.ensures c.in_ok-domain.domain.info c.peers.result.selective c.in_ok-domain.ensures.opened,
)

pub returns-in-Ok : goal.returns-in-Ok
returns-in-Ok g c = heard_first c.args.one.items c.in_ok-domain.domain.endpoints.items c.in-Some.four.endpoints.items c.in-Some.four.told c.in-Some.ensures c.in_ok-domain.domain.info c.peers.result.selective c.in_ok-domain.ensures.opened c.law_library_heard.ensures.heard (c.in-Ok.ensures.lawful c.in_ok-domain.domain.info c.peers.result.selective (opened_by (speakers c.args.one.items c.in_ok-domain.domain.endpoints.items c.in-Some.four.endpoints.items c.in-Some.four.told c.in-Some.ensures)) (threads_by (speakers c.args.one.items c.in_ok-domain.domain.endpoints.items c.in-Some.four.endpoints.items c.in-Some.four.told c.in-Some.ensures)) (left_so c.args.one.items c.in_ok-domain.domain.endpoints.items c.in-Some.four.endpoints.items c.in-Some.four.told c.in-Some.ensures c.in_ok-domain.domain.info c.peers.result.selective c.in_ok-domain.ensures.opened) (ends c.args.one.items c.in_ok-domain.domain.endpoints.items c.in-Some.four.endpoints.items c.in-Some.four.told c.in-Some.ensures c.in_ok-domain.domain.info c.peers.result.selective c.in_ok-domain.ensures.opened)) c.requires
