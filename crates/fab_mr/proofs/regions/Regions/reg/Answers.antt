use Rattle.std.proofs.Common.{sym, ap, subst, ◌∙◌}
use Rattle.std.specs.Prelude.{nat_eq}
use Rattle.fab_mr.specs.Regions.{region_at, KeepsOthers}
use Rattle.indexmap.proofs.CallerLemmas.{insert_entry-new}
use Rattle.fab_mr.proofs.Keyed.{joined_rest, in_use_from, free_from, KeepsOthers-append, region_at-append}
use Rattle.fab_mr.proofs.regions.Regions.reg.Goals as goal

pub returns-then-contains_key-clause-free : goal.returns-then-contains_key-clause-free
returns-then-contains_key-clause-free c = λ none. absurd (in_use_from c.args.key c.self.inside.held.entries c.args.self.now c.self.view_is (sym c.contains_key.ensures ∙ c.if-contains_key.true) none)

pub returns-in-Ok-clause-in_use : goal.returns-in-Ok-clause-in_use
returns-in-Ok-clause-in_use c =
    rw ((free_from c.args.key c.self.inside.held.entries c.args.self.now c.self.view_is (sym c.contains_key.ensures ∙ c.if-contains_key.false)).1) tt

pub returns-in-Ok-clause-ok : goal.returns-in-Ok-clause-ok
returns-in-Ok-clause-ok c =
    let free = free_from c.args.key c.self.inside.held.entries c.args.self.now c.self.view_is (sym c.contains_key.ensures ∙ c.if-contains_key.false) in
    joined_rest c.args.key c.self.inside.held.entries c.args.self.now c.self.view_is c.insert.new.self.entries (record { access = c.args.access; buf = c.args.buf })
    (c.in-Ok.ensures.entries ∙ insert_entry-new nat_eq c.self.inside.held c.args.key (record { access = c.args.access; buf = c.args.buf }) free.0)

pub returns-in-Ok-clause-registered : goal.returns-in-Ok-clause-registered
returns-in-Ok-clause-registered c =
    let free = free_from c.args.key c.self.inside.held.entries c.args.self.now c.self.view_is (sym c.contains_key.ensures ∙ c.if-contains_key.false) in
    ap (λ rs. region_at rs c.args.key) (returns-in-Ok-clause-ok c) ∙ region_at-append c.args.key c.args.access c.args.buf c.args.self.now free.1

pub returns-in-Ok-clause-others : goal.returns-in-Ok-clause-others
returns-in-Ok-clause-others c =
    subst (KeepsOthers c.args.key c.args.self.now) (sym (returns-in-Ok-clause-ok c)) (KeepsOthers-append c.args.key c.args.access c.args.buf c.args.self.now)

pub returns-clause-in_use : goal.returns-clause-in_use
returns-clause-in_use c =
    rw ((free_from c.args.key c.self.inside.held.entries c.args.self.now c.self.view_is (sym c.contains_key.ensures ∙ c.if-contains_key.false)).1) tt
