use Rattle.std.proofs.Common.{◌≡◌, Some, None, sym, ap, ◌∙◌, rules}
use Rattle.std.specs.Prelude.{slice_get, slice_index}
use Rattle.std.specs.Option.{option_copied}
use Rattle.fab_report.proofs.Pieces.{option_copied-get}
use Rattle.fab_replay.specs.Seen.{actor_of}
use Rattle.fab_replay.proofs.Gets.{same_get}
use Rattle.fab_replay.proofs.Steps.{tail_missing}
use Rattle.fab_replay.proofs.actor.Actor.completing.Goals as goal

pub returns-in-Some : goal.returns-in-Some
returns-in-Some c = λ bound v ready sent.
    let a = actor_of bound c.args.self.now in
    let n = c.number_at-tails.result in
    let is : n ≡ slice_index a.state.rx.tails c.args.source = search rules in
    let got : slice_get c.args.items.now n ≡ Some c.in-Some.item.now = sym (option_copied-get c.args.items.now n c.get.result c.get.ensures.lookup) ∙ ap option_copied c.in-Some.is in
    c.completed.ensures bound v (same_get (v.ready c.args.source) c.args.items.now _ n _ ready is got) sent

pub returns-in-None : goal.returns-in-None
returns-in-None c = λ bound v ready sent.
    let a = actor_of bound c.args.self.now in
    let n = c.number_at-tails.result in
    let is : n ≡ slice_index a.state.rx.tails c.args.source = search rules in
    let got : slice_get c.args.items.now n ≡ None = sym (option_copied-get c.args.items.now n c.get.result c.get.ensures.lookup) ∙ ap option_copied c.in-None.is in
    tail_missing v a c.args.source (same_get (v.ready c.args.source) c.args.items.now _ n _ ready is got)
