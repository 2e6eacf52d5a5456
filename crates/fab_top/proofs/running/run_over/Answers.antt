use Rattle.std.proofs.Common.{◌≡◌, ◌≤◌, ◌^◌, List, length, map, subst, ap, ◌∙◌, string_bytes, rules}
use Rattle.fab_model.specs.Replay.{all_done}
use Rattle.fab_model.specs.Report.{report_of}
use Rattle.fab_finish.specs.Joined.{Member, member_actor, member_steps}
use Rattle.fab_top.proofs.Telling.{reports}
use Rattle.fab_top.proofs.running.run_over.Goals as goal

pub returns : goal.returns
returns g c =
    let b = c.args.bound.now in
    let e = c.in_ok-peers.ensures in
    let peers = c.in_ok-peers.peers.items in
    let few : length peers ≤ 10 ^ 64 = search rules in
    let text = subst (λ (xs : List Member). string_bytes c.in_ok-text.text ≡ report_of b.script.version (map member_actor xs) (map member_steps xs)) c.deref.ensures.value c.in_ok-text.ensures in
    let done = c.all_done.ensures ∙ ap (λ (xs : List Member). all_done (map member_actor xs)) c.deref-2.ensures.value in
    reports b peers _ _ e.reached e.rest e.cleared few text done (c.law_headline.ensures.headline b)

pub run_ready-requires-clause-log : goal.run_ready-requires-clause-log
run_ready-requires-clause-log g c κs live = c.requires.sized.log

pub run_ready-requires-clause-peers : goal.run_ready-requires-clause-peers
run_ready-requires-clause-peers g c κs live = c.requires.sized.peers.1
