use Rattle.fabric.specs.Speakers.{opened_by, threads_by}
use Rattle.hello_threads.proofs.Whole.{all_to_one, all_to_zero, ends, left_so, speakers, to_one, to_zero}
use Rattle.hello_threads.proofs.hello.Goals as goal

pub close_all-requires : goal.close_all-requires
close_all-requires g c = (
  c.in_ok-domain.domain.info,
  c.peers.result.selective,
  opened_by (speakers c.args.zero.items c.args.one.items c.in_ok-domain.domain.endpoints.items c.in-Some.both.endpoints.items c.in-Some.both.zero c.in-Some.both.one c.in-Some.ensures),
  threads_by (speakers c.args.zero.items c.args.one.items c.in_ok-domain.domain.endpoints.items c.in-Some.both.endpoints.items c.in-Some.both.zero c.in-Some.both.one c.in-Some.ensures),
  left_so c.args.zero.items c.args.one.items c.in_ok-domain.domain.endpoints.items c.in-Some.both.endpoints.items c.in-Some.both.zero c.in-Some.both.one c.in-Some.ensures c.in_ok-domain.domain.info c.peers.result.selective c.in_ok-domain.ensures.opened,
  ends c.args.zero.items c.args.one.items c.in_ok-domain.domain.endpoints.items c.in-Some.both.endpoints.items c.in-Some.both.zero c.in-Some.both.one c.in-Some.ensures c.in_ok-domain.domain.info c.peers.result.selective c.in_ok-domain.ensures.opened,
)

pub returns-in-Ok-clause-first : goal.returns-in-Ok-clause-first
returns-in-Ok-clause-first g c = (
  to_zero c.args.zero.items c.args.one.items c.in_ok-domain.domain.endpoints.items c.in-Some.both.endpoints.items c.in-Some.both.zero c.in-Some.both.one c.in-Some.ensures c.in_ok-domain.domain.info c.peers.result.selective c.in_ok-domain.ensures.opened c.law_library_heard.ensures.heard (c.in-Ok.ensures.lawful c.in_ok-domain.domain.info c.peers.result.selective (opened_by (speakers c.args.zero.items c.args.one.items c.in_ok-domain.domain.endpoints.items c.in-Some.both.endpoints.items c.in-Some.both.zero c.in-Some.both.one c.in-Some.ensures)) (threads_by (speakers c.args.zero.items c.args.one.items c.in_ok-domain.domain.endpoints.items c.in-Some.both.endpoints.items c.in-Some.both.zero c.in-Some.both.one c.in-Some.ensures)) (left_so c.args.zero.items c.args.one.items c.in_ok-domain.domain.endpoints.items c.in-Some.both.endpoints.items c.in-Some.both.zero c.in-Some.both.one c.in-Some.ensures c.in_ok-domain.domain.info c.peers.result.selective c.in_ok-domain.ensures.opened) (ends c.args.zero.items c.args.one.items c.in_ok-domain.domain.endpoints.items c.in-Some.both.endpoints.items c.in-Some.both.zero c.in-Some.both.one c.in-Some.ensures c.in_ok-domain.domain.info c.peers.result.selective c.in_ok-domain.ensures.opened)) c.requires.zero_short c.requires.one_short,
  to_one c.args.zero.items c.args.one.items c.in_ok-domain.domain.endpoints.items c.in-Some.both.endpoints.items c.in-Some.both.zero c.in-Some.both.one c.in-Some.ensures c.in_ok-domain.domain.info c.peers.result.selective c.in_ok-domain.ensures.opened c.law_library_heard.ensures.heard (c.in-Ok.ensures.lawful c.in_ok-domain.domain.info c.peers.result.selective (opened_by (speakers c.args.zero.items c.args.one.items c.in_ok-domain.domain.endpoints.items c.in-Some.both.endpoints.items c.in-Some.both.zero c.in-Some.both.one c.in-Some.ensures)) (threads_by (speakers c.args.zero.items c.args.one.items c.in_ok-domain.domain.endpoints.items c.in-Some.both.endpoints.items c.in-Some.both.zero c.in-Some.both.one c.in-Some.ensures)) (left_so c.args.zero.items c.args.one.items c.in_ok-domain.domain.endpoints.items c.in-Some.both.endpoints.items c.in-Some.both.zero c.in-Some.both.one c.in-Some.ensures c.in_ok-domain.domain.info c.peers.result.selective c.in_ok-domain.ensures.opened) (ends c.args.zero.items c.args.one.items c.in_ok-domain.domain.endpoints.items c.in-Some.both.endpoints.items c.in-Some.both.zero c.in-Some.both.one c.in-Some.ensures c.in_ok-domain.domain.info c.peers.result.selective c.in_ok-domain.ensures.opened)) c.requires.zero_short c.requires.one_short,
)

pub returns-in-Ok-clause-all : goal.returns-in-Ok-clause-all
returns-in-Ok-clause-all g c = (
  all_to_zero c.args.zero.items c.args.one.items c.in_ok-domain.domain.endpoints.items c.in-Some.both.endpoints.items c.in-Some.both.zero c.in-Some.both.one c.in-Some.ensures c.in_ok-domain.domain.info c.peers.result.selective c.in_ok-domain.ensures.opened c.law_library_heard.ensures.heard (c.in-Ok.ensures.lawful c.in_ok-domain.domain.info c.peers.result.selective (opened_by (speakers c.args.zero.items c.args.one.items c.in_ok-domain.domain.endpoints.items c.in-Some.both.endpoints.items c.in-Some.both.zero c.in-Some.both.one c.in-Some.ensures)) (threads_by (speakers c.args.zero.items c.args.one.items c.in_ok-domain.domain.endpoints.items c.in-Some.both.endpoints.items c.in-Some.both.zero c.in-Some.both.one c.in-Some.ensures)) (left_so c.args.zero.items c.args.one.items c.in_ok-domain.domain.endpoints.items c.in-Some.both.endpoints.items c.in-Some.both.zero c.in-Some.both.one c.in-Some.ensures c.in_ok-domain.domain.info c.peers.result.selective c.in_ok-domain.ensures.opened) (ends c.args.zero.items c.args.one.items c.in_ok-domain.domain.endpoints.items c.in-Some.both.endpoints.items c.in-Some.both.zero c.in-Some.both.one c.in-Some.ensures c.in_ok-domain.domain.info c.peers.result.selective c.in_ok-domain.ensures.opened)) c.requires.zero_short c.requires.one_short,
  all_to_one c.args.zero.items c.args.one.items c.in_ok-domain.domain.endpoints.items c.in-Some.both.endpoints.items c.in-Some.both.zero c.in-Some.both.one c.in-Some.ensures c.in_ok-domain.domain.info c.peers.result.selective c.in_ok-domain.ensures.opened c.law_library_heard.ensures.heard (c.in-Ok.ensures.lawful c.in_ok-domain.domain.info c.peers.result.selective (opened_by (speakers c.args.zero.items c.args.one.items c.in_ok-domain.domain.endpoints.items c.in-Some.both.endpoints.items c.in-Some.both.zero c.in-Some.both.one c.in-Some.ensures)) (threads_by (speakers c.args.zero.items c.args.one.items c.in_ok-domain.domain.endpoints.items c.in-Some.both.endpoints.items c.in-Some.both.zero c.in-Some.both.one c.in-Some.ensures)) (left_so c.args.zero.items c.args.one.items c.in_ok-domain.domain.endpoints.items c.in-Some.both.endpoints.items c.in-Some.both.zero c.in-Some.both.one c.in-Some.ensures c.in_ok-domain.domain.info c.peers.result.selective c.in_ok-domain.ensures.opened) (ends c.args.zero.items c.args.one.items c.in_ok-domain.domain.endpoints.items c.in-Some.both.endpoints.items c.in-Some.both.zero c.in-Some.both.one c.in-Some.ensures c.in_ok-domain.domain.info c.peers.result.selective c.in_ok-domain.ensures.opened)) c.requires.zero_short c.requires.one_short,
)
