use Rattle.std.proofs.Common.{◌≡◌, ap, ◌∙◌, sym, rules, Some, true, false}
use Rattle.fab_model.specs.Peers.{with_state}
use Rattle.fab_model.specs.Arrivals.{do_tail}
use Rattle.fab_replay.specs.Seen.{actor_of}
use Rattle.fab_replay.proofs.Steps.{tail_by}
use Rattle.fab_replay.proofs.actor.Actor.completed.Goals as goal

pub returns-then-not-may_complete : goal.returns-then-not-may_complete
returns-then-not-may_complete c = λ bound v there sent.
    tail_by v (actor_of bound c.args.self.now) c.args.source c.args.sent c.args.item.now false there sent (sym (c.may_complete.ensures c.args.item.now.bytes) ∙ search rules)

pub returns : goal.returns
returns c = λ bound v there sent.
    let a = actor_of bound c.args.self.now in
    let same : c.in_ok-bytes.bytes ≡ c.args.item.now.bytes = search rules in
    tail_by v a c.args.source c.args.sent c.args.item.now true there sent (sym (c.may_complete.ensures c.args.item.now.bytes) ∙ search rules)
    ∙ ap (λ bytes. Some (with_state a (do_tail a.state c.args.source c.args.item.now.head bytes))) (sym same)
