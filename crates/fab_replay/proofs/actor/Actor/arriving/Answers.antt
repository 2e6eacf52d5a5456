use Rattle.std.proofs.Common.{◌≡◌, Some, None, sym, ap, ◌∙◌, rules}
use Rattle.std.specs.Prelude.{slice_get, slice_index}
use Rattle.std.specs.Option.{option_copied}
use Rattle.fab_report.proofs.Pieces.{option_copied-get}
use Rattle.fab_replay.specs.Seen.{actor_of}
use Rattle.fab_replay.proofs.Gets.{same_get}
use Rattle.fab_replay.proofs.Steps.{head_differs, head_waits, head_missing, head_arrives}
use Rattle.fab_replay.proofs.actor.Actor.arriving.Goals as goal
use Rattle.fab_replay.proofs.actor.Actor.arriving.Goals.{then-heads-tails-via-then-heads-tails, then-heads-tails-via-else-heads-tails+then-draw_due}

pub returns-then-heads-tails : goal.returns-then-heads-tails
returns-then-heads-tails c = λ bound v ready.
    let a = actor_of bound c.args.self.now in
    elim c.then-heads-tails.branch [
      | then-heads-tails-via-then-heads-tails w ↦ head_differs v a c.args.source c.number_at-heads.result c.number_at-tails.result (search rules) (search rules) w.if-heads-tails.true
      | then-heads-tails-via-else-heads-tails+then-draw_due w ↦ head_waits v a c.args.source (search rules)
    ]

pub returns-in-Some : goal.returns-in-Some
returns-in-Some c = λ bound v ready.
    let a = actor_of bound c.args.self.now in
    let n = c.number_at-heads.result in
    let is : n ≡ slice_index a.state.rx.heads c.args.source = search rules in
    let got : slice_get c.args.items.now n ≡ Some c.in-Some.item.now = sym (option_copied-get c.args.items.now n c.get.result c.get.ensures.lookup) ∙ ap option_copied c.in-Some.is in
    head_arrives v a c.args.source n c.number_at-tails.result c.in-Some.item.now is (search rules) c.if-heads-tails.false (search rules) (same_get (v.ready c.args.source) c.args.items.now _ n _ ready is got)

pub returns-in-None : goal.returns-in-None
returns-in-None c = λ bound v ready.
    let a = actor_of bound c.args.self.now in
    let n = c.number_at-heads.result in
    let is : n ≡ slice_index a.state.rx.heads c.args.source = search rules in
    let got : slice_get c.args.items.now n ≡ None = sym (option_copied-get c.args.items.now n c.get.result c.get.ensures.lookup) ∙ ap option_copied c.in-None.is in
    head_missing v a c.args.source (same_get (v.ready c.args.source) c.args.items.now _ n _ ready is got)
