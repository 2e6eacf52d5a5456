use Rattle.std.proofs.Common.{◌+◌, ◌++◌, ◌∷◌, [], length-append, append_assoc, sym, ap, ◌∙◌, subst, arith}
use Rattle.fab_face.specs.Held.{Seen}
use Rattle.fab_face.specs.Answers.{PopsNot}
use Rattle.fab_app.specs.Takes.{TakesAll}
use Rattle.fab_app.proofs.Taking.{none_next, takes_on}
use Rattle.fab_app.proofs.endpoint.Endpoint.cq_take.Goals as goal

pub returns-in-Err-clause-took : goal.returns-in-Err-clause-took
returns-in-Err-clause-took g c =
    let seen = g.E.Sees.seen in
    let (entries, items, count, takes) = c.entries.invariant.took in
    let most = c.entries.invariant.most in
    let test = c.entries-test.true in
    let last = c.in-Err.ensures.err in (
      entries,
      items,
      (
        subst (λ (x : Seen g.E.Sees.Home). TakesAll entries (seen c.args.self.now) x) (sym last.0) takes,
        omega (arith, count, most, test),
        λ less w is. none_next (seen c.cq_pop.new.self).held.state.cq c.in-Err.field-0 (subst (λ (x : Seen g.E.Sees.Home). PopsNot x.held.state.cq c.in-Err.field-0) (sym last.0) last.1) w is,
      ),
    )

pub entries-preserved : goal.entries-preserved
entries-preserved g c =
    let seen = g.E.Sees.seen in
    let (entries, items, count, takes) = c.entries.invariant.took in
    let length_ = length-append entries (c.in-Ok.entry ∷ []) in
    let len = c.push_reserved.ensures.len in
    let cap = c.push_reserved.ensures.capacity in
    let room = c.entries.invariant.room in
    let test = c.entries-test.true in
    record {
      took = (
        entries ++ c.in-Ok.entry ∷ [],
        c.push_reserved.ensures.items ∙ ap (λ xs. xs ++ c.in-Ok.entry ∷ []) items ∙ append_assoc c.args.into.now.items entries (c.in-Ok.entry ∷ []),
        length_ ∙ ap (λ n. n + 1) count,
        takes_on entries c.in-Ok.entry (seen c.args.self.now) (seen c.entries.self-inside.inner) (seen c.cq_pop.new.self) takes c.in-Ok.ensures.ok,
      );
      room = omega (arith, len, cap, room, test);
      most = c.entries.invariant.most;
    }

pub returns-clause-took : goal.returns-clause-took
returns-clause-took g c =
    let (entries, items, count, takes) = c.entries.invariant.took in
    let most = c.entries.invariant.most in
    let test = c.entries-test.false in
    (entries, items, (takes, omega (arith, count, most, test), λ less w is success. absurd (omega (arith, count, most, test, less))))
