use Rattle.std.proofs.Common.{◌≡◌, ◌∙◌, List, Option, None, refl, sym, ap, rules}
use Rattle.std.specs.Prelude.{find}
use Rattle.fab_match.specs.Matcher.{ids}
use Rattle.fab_rx.specs.declared.stored.Begun.{Begun}
use Rattle.fab_rx.specs.Leaving.{may_leave_at}
use Rattle.fab_rx.proofs.Leaving.{none_leaves, nothing_changes, seat_found, cancelled_is, left, multi_left}
use Rattle.fab_rx.proofs.Tables.{same_ids}
use Rattle.fab_rx.proofs.Numbering.{numbers_leave}
use Rattle.fab_rx.proofs.inbox.Inbox.leave.Goals as goal

pub returns-in_default-clause-found : goal.returns-in_default-clause-found
returns-in_default-clause-found g c =
    let none : find (may_leave_at c.args.ctx c.self.inside.seats c.self.inside.coming.items) (ids (g.M.Matcher.posted c.self.inside.matcher)) ≡ None = search rules in
    rw (← c.self.view_is, none_leaves _ _ _ _ _ _ _ c.self.invariant.kept c.self.invariant.numbers _ c.self.invariant.shared c.args.ctx none) refl

pub returns-in_default-clause-rest : goal.returns-in_default-clause-rest
returns-in_default-clause-rest g c =
    let none : find (may_leave_at c.args.ctx c.self.inside.seats c.self.inside.coming.items) (ids (g.M.Matcher.posted c.self.inside.matcher)) ≡ None = search rules in
    rw (← c.self.view_is) (sym (nothing_changes _ _ _ _ _ _ _ c.self.invariant.kept c.self.invariant.numbers _ c.self.invariant.shared c.args.ctx none))

pub unreachable-requires : goal.unreachable-requires
unreachable-requires g c =
    let e = ap (λ (xs : List (Option Begun)). find (may_leave_at c.args.ctx c.self.inside.seats xs) (ids (g.M.Matcher.posted c.self.inside.matcher))) (sym c.as_slice.ensures.value) ∙ sym c.in-Some.ensures in
    seat_found _ _ _ _ _ _ _ c.self.invariant.kept c.self.invariant.numbers _ c.self.invariant.shared c.args.ctx c.in-Some.meant e (search rules)

pub invariant_of-self-2 : goal.invariant_of-self-2
invariant_of-self-2 g c =
    let e = ap (λ (xs : List (Option Begun)). find (may_leave_at c.args.ctx c.self.inside.seats xs) (ids (g.M.Matcher.posted c.self.inside.matcher))) (sym c.as_slice.ensures.value) ∙ sym c.in-Some.ensures in
    rw (c.note.ensures, c.remove_posted.ensures.unexpected, c.remove_posted.ensures.room) (record {
      kept = left _ _ _ _ _ _ _ c.self.invariant.kept c.self.invariant.numbers _ c.self.invariant.shared c.args.ctx c.in-Some.meant e _ _ c.remove_posted.ensures.rest c.remove_posted.ensures.gone c.take.ensures.cells c.in-Some-take.ensures.spare;
      shared = multi_left _ _ _ _ _ _ _ c.self.invariant.kept c.self.invariant.numbers _ c.self.invariant.shared c.args.ctx c.in-Some.meant e _ _ c.remove_posted.ensures.rest c.remove_posted.ensures.gone c.take.ensures.cells c.in-Some-take.ensures.spare;
      closable = c.self.invariant.closable;
      ids = same_ids c.self.inside.seats c.take.new.self _ _ c.take.ensures.cells c.self.invariant.ids;
      sharing = c.self.invariant.sharing;
      numbers = numbers_leave c.self.inside.past c.self.invariant.numbers _;
      aside = c.self.invariant.aside;
    })

pub returns-clause-found : goal.returns-clause-found
returns-clause-found g c =
    let e = ap (λ (xs : List (Option Begun)). find (may_leave_at c.args.ctx c.self.inside.seats xs) (ids (g.M.Matcher.posted c.self.inside.matcher))) (sym c.as_slice.ensures.value) ∙ sym c.in-Some.ensures in
    rw (← c.self.view_is, c.id_where.ensures) (cancelled_is _ _ _ _ _ _ _ c.self.invariant.kept c.self.invariant.numbers _ c.self.invariant.shared c.args.ctx c.in-Some.meant e c.in-Some-take.field-0 c.in-Some-take.ensures.value)
