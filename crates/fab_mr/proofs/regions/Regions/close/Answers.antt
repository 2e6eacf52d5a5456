use Rattle.std.proofs.Common.{refl, ap, subst, sym, ◌∙◌}
use Rattle.std.specs.Option.{option_map, ok_or}
use Rattle.fab_base.specs.declared.faults.Fault.TheVariants.{NoKey}
use Rattle.fab_mr.specs.Regions.{KeepsOthers}
use Rattle.fab_mr.proofs.Keyed.{held_region, region_at-regions_of, read_at, closed_rest, KeepsOthers-remove_first}
use Rattle.fab_mr.proofs.regions.Regions.close.Goals as goal
use Rattle.fab_mr.proofs.regions.Regions.close.Goals.{in-Some, in-None}

pub returns-clause-answer : goal.returns-clause-answer
returns-clause-answer c =
    let there = ap (λ o. ok_or o NoKey) (read_at (λ h. h.buf) (λ r. r.bytes) c.args.key (λ h. refl) c.self.inside.held.entries c.args.self.now c.self.view_is) in
    elim c.match-shift_remove.branch [
      | in-Some w ↦ w.result-is ∙ ap (λ o. ok_or (option_map (λ h. h.buf) o) NoKey) w.in-Some.ensures.value ∙ there
      | in-None w ↦ w.result-is ∙ ap (λ o. ok_or (option_map (λ h. h.buf) o) NoKey) w.in-None.ensures.value ∙ there
    ]

pub returns-clause-rest : goal.returns-clause-rest
returns-clause-rest c = closed_rest c.args.key c.self.inside.held.entries c.args.self.now c.self.view_is c.shift_remove.new.self.entries c.shift_remove.ensures.entries

pub returns-clause-closed : goal.returns-clause-closed
returns-clause-closed c = region_at-regions_of c.args.key c.shift_remove.new.self.entries ∙ ap (option_map (held_region c.args.key)) (c.shift_remove.ensures.updates.1)

pub returns-clause-others : goal.returns-clause-others
returns-clause-others c = subst (KeepsOthers c.args.key c.args.self.now) (sym (returns-clause-rest c)) (KeepsOthers-remove_first c.args.key c.args.self.now)
