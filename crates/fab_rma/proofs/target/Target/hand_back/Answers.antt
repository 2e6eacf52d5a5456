use Rattle.std.proofs.Common.{◌≡◌, sym, subst, arith}
use Rattle.fab_base.specs.declared.items.Outcome.TheVariants.{Done}
use Rattle.fab_rma.specs.Serving.{Serving, outcome_at}
use Rattle.fab_rma.proofs.Performing.{bytes_of, is_done, is_there, not_found}
use Rattle.fab_rma.proofs.target.Target.hand_back.Goals as goal

pub unreachable-requires : goal.unreachable-requires
unreachable-requires c =
    let judged : outcome_at c.self.inside.regions c.args.head.now ≡ Done = subst (λ (s : Serving). outcome_at s.regions c.args.head.now ≡ Done) (sym c.self.view_is) c.requires.judged in
    is_there c.self.inside.regions c.args.head.now judged (not_found (λ r. r.bytes) _ c.in_default.ensures)

pub part-requires : goal.part-requires
part-requires c =
    let judged : outcome_at c.self.inside.regions c.args.head.now ≡ Done = subst (λ (s : Serving). outcome_at s.regions c.args.head.now ≡ Done) (sym c.self.view_is) c.requires.judged in
    let d = is_done c.self.inside.regions c.args.head.now judged in
    let same = bytes_of c.self.inside.regions c.args.head.now judged c.in-Some.bytes.now c.in-Some.ensures in
    let count = c.requires.count in
    let within = d.within in
    omega (arith, same, count, within)
