use Rattle.std.proofs.Common.{◌≡◌, ◌∙◌, true, false, List, None, Option, Some, sym, ap, rules}
use Rattle.std.specs.Prelude.{find, is_some}
use Rattle.fab_base.proofs.Options.{some_there as there_is}
use Rattle.fab_match.specs.Matcher.{first_id, ids}
use Rattle.fab_match.specs.Signs.{fits}
use Rattle.fab_rx.specs.declared.stored.Begun.{Begun}
use Rattle.fab_rx.specs.Table.{at}
use Rattle.fab_rx.specs.Draws.{draws_at, draws_by}
use Rattle.fab_rx.specs.Drawing.{entries_drawn}
use Rattle.fab_rx.specs.Sharing.{is_closed, multi_at}
use Rattle.fab_rx.proofs.Drawing.{undrawn, undue}
use Rattle.fab_rx.proofs.Leaving.{passes}
use Rattle.fab_rx.proofs.Finding.{message_there}
use Rattle.fab_rx.proofs.Draught.{drawer_told, one_counts, rest_drawn, two_count, usable_drawn}
use Rattle.fab_rx.proofs.inbox.Inbox.draw_entries.Goals as goal

pub returns-then-is_still : goal.returns-then-is_still
returns-then-is_still g c = sym (ap entries_drawn (undue c.args.self.now (c.is_still.ensures (search rules))))

pub returns-in_default : goal.returns-in_default
returns-in_default g c =
    let us = g.M.Matcher.unexpected c.self.inside.matcher in
    let none : find (draws_at c.self.inside.seats us) (ids (g.M.Matcher.posted c.self.inside.matcher)) ≡ None = search rules in
    rw (← c.self.view_is) (sym (ap entries_drawn (undrawn _ _ _ _ _ _ _ c.self.invariant.kept none)))

pub unreachable-requires : goal.unreachable-requires
unreachable-requires g c =
    let us = g.M.Matcher.unexpected c.self.inside.matcher in
    let e : find (draws_at c.self.inside.seats us) (ids (g.M.Matcher.posted c.self.inside.matcher)) ≡ Some c.in-Some.id = search rules in
    let none : multi_at c.self.inside.seats c.in-Some.id ≡ None = search rules in
    let not_so : false ≡ true = sym (ap (draws_by us) none) ∙ passes (draws_at c.self.inside.seats us) (ids (g.M.Matcher.posted c.self.inside.matcher)) c.in-Some.id e in
    cc

pub unreachable-requires-in_default-first_unexpected :
    goal.unreachable-requires-in_default-first_unexpected
unreachable-requires-in_default-first_unexpected g c =
    let us = g.M.Matcher.unexpected c.self.inside.matcher in
    let e : find (draws_at c.self.inside.seats us) (ids (g.M.Matcher.posted c.self.inside.matcher)) ≡ Some c.in-Some.id = search rules in
    let shared : multi_at c.self.inside.seats c.in-Some.id ≡ Some c.in-Some-multi_at.multi = search rules in
    let none : first_id (λ sign. fits c.in-Some-multi_at.multi.want sign) us ≡ None = sym c.in_default-first_unexpected.ensures.first in
    let not_so : false ≡ true = sym (ap (draws_by us) shared ∙ ap is_some none) ∙ passes (draws_at c.self.inside.seats us) (ids (g.M.Matcher.posted c.self.inside.matcher)) c.in-Some.id e in
    cc

pub unreachable-requires-in_default-get : goal.unreachable-requires-in_default-get
unreachable-requires-in_default-get g c =
    message_there _ _ _ _ _ _ _ c.self.invariant.kept c.in-Some-multi_at.multi.want c.in-Some-first_unexpected.message (sym c.in-Some-first_unexpected.ensures.first) (search rules)

pub returns-then-is_none : goal.returns-then-is_none
returns-then-is_none g c =
    let us = g.M.Matcher.unexpected c.self.inside.matcher in
    let id = c.in-Some.id in
    let q = c.in-Some-multi_at.multi in
    let e : find (draws_at c.self.inside.seats us) (ids (g.M.Matcher.posted c.self.inside.matcher)) ≡ Some id = search rules in
    let shared : multi_at c.self.inside.seats id ≡ Some q = search rules in
    let d = drawer_told _ _ _ _ _ _ _ _ _ _ _ _ c.self.invariant id e q shared in
    let mid = c.in-Some-first_unexpected.message in
    let first : first_id (λ sign. fits q.want sign) us ≡ Some mid = sym c.in-Some-first_unexpected.ensures.first in
    let p = c.in-Some-get.parcel.now in
    let taken : at c.self.inside.parcels mid ≡ Some p = search rules in
    let none : p.bytes ≡ None = search rules in
    rw (← c.self.view_is) (ap entries_drawn (rest_drawn _ _ _ _ _ _ _ _ _ _ _ _ c.self.invariant id e q shared d.0 d.1 mid first p taken none))

pub closes-requires : goal.closes-requires
closes-requires g c =
    let us = g.M.Matcher.unexpected c.self.inside.matcher in
    let id = c.in-Some.id in
    let q = c.in-Some-multi_at.multi in
    let e : find (draws_at c.self.inside.seats us) (ids (g.M.Matcher.posted c.self.inside.matcher)) ≡ Some id = search rules in
    let shared : multi_at c.self.inside.seats id ≡ Some q = search rules in
    let d = drawer_told _ _ _ _ _ _ _ _ _ _ _ _ c.self.invariant id e q shared in
    record { usable = usable_drawn _ _ _ _ _ _ _ _ _ _ _ _ c.self.invariant id e q shared d.0 d.1 }

pub returns-then-closes : goal.returns-then-closes
returns-then-closes g c =
    let us = g.M.Matcher.unexpected c.self.inside.matcher in
    let id = c.in-Some.id in
    let q = c.in-Some-multi_at.multi in
    let e : find (draws_at c.self.inside.seats us) (ids (g.M.Matcher.posted c.self.inside.matcher)) ≡ Some id = search rules in
    let shared : multi_at c.self.inside.seats id ≡ Some q = search rules in
    let d = drawer_told _ _ _ _ _ _ _ _ _ _ _ _ c.self.invariant id e q shared in
    let mid = c.in-Some-first_unexpected.message in
    let first : first_id (λ sign. fits q.want sign) us ≡ Some mid = sym c.in-Some-first_unexpected.ensures.first in
    let p = c.in-Some-get.parcel.now in
    let taken : at c.self.inside.parcels mid ≡ Some p = search rules in
    let slice = ap (λ (xs : List (Option Begun)). is_closed xs id p.head.total (at c.self.inside.seats id)) (sym c.as_slice.ensures.value) in
    let some : is_some p.bytes ≡ true = search rules in
    let whole = there_is p.bytes some in
    let over : is_closed c.self.inside.coming.items id p.head.total (at c.self.inside.seats id) ≡ true = slice ∙ sym c.closes.ensures ∙ search rules in
    rw (← c.self.view_is) (two_count _ _ _ _ _ _ _ _ _ _ _ _ c.self.invariant id e q shared d.0 d.1 mid first p taken whole.0 whole.1 over)

pub returns : goal.returns
returns g c =
    let us = g.M.Matcher.unexpected c.self.inside.matcher in
    let id = c.in-Some.id in
    let q = c.in-Some-multi_at.multi in
    let e : find (draws_at c.self.inside.seats us) (ids (g.M.Matcher.posted c.self.inside.matcher)) ≡ Some id = search rules in
    let shared : multi_at c.self.inside.seats id ≡ Some q = search rules in
    let d = drawer_told _ _ _ _ _ _ _ _ _ _ _ _ c.self.invariant id e q shared in
    let mid = c.in-Some-first_unexpected.message in
    let first : first_id (λ sign. fits q.want sign) us ≡ Some mid = sym c.in-Some-first_unexpected.ensures.first in
    let p = c.in-Some-get.parcel.now in
    let taken : at c.self.inside.parcels mid ≡ Some p = search rules in
    let slice = ap (λ (xs : List (Option Begun)). is_closed xs id p.head.total (at c.self.inside.seats id)) (sym c.as_slice.ensures.value) in
    let some : is_some p.bytes ≡ true = search rules in
    let whole = there_is p.bytes some in
    let goes_on : is_closed c.self.inside.coming.items id p.head.total (at c.self.inside.seats id) ≡ false = slice ∙ sym c.closes.ensures ∙ search rules in
    rw (← c.self.view_is) (one_counts _ _ _ _ _ _ _ _ _ _ _ _ c.self.invariant id e q shared d.0 d.1 mid first p taken whole.0 whole.1 goes_on)
