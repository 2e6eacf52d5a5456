use Rattle.std.proofs.Common.{ℕ, List, subst, sym, ap, ◌∙◌}
use Rattle.fab_mr.specs.declared.regions.Held.{Held}
use Rattle.fab_mr.specs.Regions.{regions_of}
use Rattle.fab_mr.proofs.Keyed.{Puts, puts_found, puts_missing}
use Rattle.fab_mr.proofs.regions.Regions.put.Goals as goal
use Rattle.fab_mr.proofs.regions.Regions.put.Goals.{in-Some, in-None}

abbrev PutsInto : (c : goal.Joined-get_mut) → List (ℕ × Held) → Type 0
PutsInto c new = Puts c.args.key c.args.at c.args.src.now c.args.self.now (regions_of new) c.match-get_mut.result

puts : (c : goal.Joined-get_mut) → PutsInto c c.match-get_mut.self-inside.held.entries
puts c =
    let es = c.self.inside.held.entries in
    elim c.match-get_mut.branch [
      | in-Some w ↦ subst (PutsInto c) (sym (ap (λ i. i.held.entries) w.self-inside-is))
          (puts_found c.args.key c.args.at c.args.src.now es c.args.self.now c.self.view_is w.in-Some.held.now w.put.new.self c.match-get_mut.result
          (c.get_mut.follows.lender w.put.new.self).entries (sym w.in-Some.ensures.value) (w.result-is ∙ w.put.ensures.answer)
          (rw w.result-is w.put.ensures.ok) (rw w.result-is w.put.ensures.err) (c.get_mut.follows.holds w.put.new.self).0)
      | in-None w ↦ subst (PutsInto c) (sym (ap (λ i. i.held.entries) w.self-inside-is))
          (puts_missing c.args.key c.args.at c.args.src.now es c.args.self.now c.self.view_is c.match-get_mut.result c.get_mut.follows.lender-at-none.entries
          (sym w.in-None.ensures.value) w.result-is (ap (λ m. m.entries) c.get_mut.follows.holds-at-none))
    ]

pub returns-clause-answer : goal.returns-clause-answer
returns-clause-answer c = (puts c).answer

pub returns-clause-ok : goal.returns-clause-ok
returns-clause-ok c = (puts c).ok

pub returns-clause-err : goal.returns-clause-err
returns-clause-err c = (puts c).err

pub returns-clause-written : goal.returns-clause-written
returns-clause-written c = (puts c).written

pub returns-clause-others : goal.returns-clause-others
returns-clause-others c = (puts c).others
