use Rattle.std.proofs.Common.{◌≡◌, ◌∙◌, ℕ, true, false, List, None, Option, Some, set, sym, ap, subst, rules, arith}
use Rattle.std.specs.Prelude.{find, is_some}
use Rattle.std.specs.Option.{option_map}
use Rattle.fab_base.specs.declared.items.Want.{Want}
use Rattle.fab_model.specs.Receiving.{draw_due}
use Rattle.fab_match.specs.Matcher.{first_id, ids, without}
use Rattle.fab_match.specs.Signs.{fits}
use Rattle.fab_match.proofs.Pairs.{without-first}
use Rattle.fab_rx.specs.declared.stored.Begun.{Begun}
use Rattle.fab_rx.specs.Table.{at}
use Rattle.fab_rx.specs.Arriving.{Arriving}
use Rattle.fab_rx.specs.Draws.{draws_at, draws_by}
use Rattle.fab_rx.specs.Sharing.{is_closed, kept_or, left_by, multi_at, placed_in, released_of, taken_in}
use Rattle.fab_rx.proofs.Drawing.{due_where}
use Rattle.fab_rx.proofs.Leaving.{passes}
use Rattle.fab_rx.proofs.Finding.{message_there}
use Rattle.fab_rx.proofs.Draught.{completes, drawer_told, drawn_over, drawn_part, drawn_rest, rest_begun, rest_drawn, rest_within, room_part, room_rest, told_last, told_part, turned_rest, turned_whole, usable_drawn}
use Rattle.fab_rx.proofs.inbox.Inbox.draw.Goals as goal

pub unreachable-requires : goal.unreachable-requires
unreachable-requires g c =
    let us = g.M.Matcher.unexpected c.self.inside.matcher in
    let none : find (draws_at c.self.inside.seats us) (ids (g.M.Matcher.posted c.self.inside.matcher)) ≡ None = search rules in
    let due : draw_due c.self.inside.past.rx ≡ true = subst (λ (v : Arriving). draw_due v.rx ≡ true) (sym c.self.view_is) c.requires.due in
    let told = due_where _ _ _ _ _ _ _ c.self.invariant.kept None none in
    let not_so : false ≡ true = told ∙ due in
    cc

pub unreachable-requires-in_default-multi_at : goal.unreachable-requires-in_default-multi_at
unreachable-requires-in_default-multi_at g c =
    let us = g.M.Matcher.unexpected c.self.inside.matcher in
    let e : find (draws_at c.self.inside.seats us) (ids (g.M.Matcher.posted c.self.inside.matcher)) ≡ Some c.in-Some.id = search rules in
    let none : multi_at c.self.inside.seats c.in-Some.id ≡ None = search rules in
    let not_so : false ≡ true = sym (ap (draws_by us) none) ∙ passes (draws_at c.self.inside.seats us) (ids (g.M.Matcher.posted c.self.inside.matcher)) c.in-Some.id e in
    cc

pub unreachable-requires-in_default-first_unexpected :
    goal.unreachable-requires-in_default-first_unexpected
unreachable-requires-in_default-first_unexpected g c =
    let us = g.M.Matcher.unexpected c.self.inside.matcher in
    let e : find (draws_at c.self.inside.seats us) (ids (g.M.Matcher.posted c.self.inside.matcher)) ≡ Some c.in-Some.id = search rules in
    let shared : multi_at c.self.inside.seats c.in-Some.id ≡ Some c.in-Some-multi_at.multi = search rules in
    let none : first_id (λ sign. fits c.in-Some-multi_at.multi.want sign) us ≡ None = sym c.in_default-first_unexpected.ensures.first in
    let not_so : false ≡ true = sym (ap (draws_by us) shared ∙ ap is_some none) ∙ passes (draws_at c.self.inside.seats us) (ids (g.M.Matcher.posted c.self.inside.matcher)) c.in-Some.id e in
    cc

pub unreachable-requires-in_default-take : goal.unreachable-requires-in_default-take
unreachable-requires-in_default-take g c =
    message_there _ _ _ _ _ _ _ c.self.invariant.kept c.in-Some-multi_at.multi.want c.in-Some-first_unexpected.message (sym c.in-Some-first_unexpected.ensures.first) (search rules)

pub take_begun-requires : goal.take_begun-requires
take_begun-requires g c =
    let us = g.M.Matcher.unexpected c.self.inside.matcher in
    let id = c.in-Some.id in
    let q = c.in-Some-multi_at.multi in
    let e : find (draws_at c.self.inside.seats us) (ids (g.M.Matcher.posted c.self.inside.matcher)) ≡ Some id = search rules in
    let shared : multi_at c.self.inside.seats id ≡ Some q = search rules in
    let d = drawer_told _ _ _ _ _ _ _ _ _ _ _ _ c.self.invariant id e q shared in
    let mid = c.in-Some-first_unexpected.message in
    let first : first_id (λ sign. fits q.want sign) us ≡ Some mid = sym c.in-Some-first_unexpected.ensures.first in
    let p = c.in-Some-take.parcel in
    let taken : at c.self.inside.parcels mid ≡ Some p = sym c.in-Some-take.ensures.value in
    let none : p.bytes ≡ None = search rules in
    let within = rest_within _ _ _ _ _ _ _ _ _ _ _ _ c.self.invariant id e q shared d.0 d.1 mid first p taken none in
    omega arith

pub unreachable-requires-in_default-take_begun : goal.unreachable-requires-in_default-take_begun
unreachable-requires-in_default-take_begun g c =
    let us = g.M.Matcher.unexpected c.self.inside.matcher in
    let id = c.in-Some.id in
    let q = c.in-Some-multi_at.multi in
    let e : find (draws_at c.self.inside.seats us) (ids (g.M.Matcher.posted c.self.inside.matcher)) ≡ Some id = search rules in
    let shared : multi_at c.self.inside.seats id ≡ Some q = search rules in
    let d = drawer_told _ _ _ _ _ _ _ _ _ _ _ _ c.self.invariant id e q shared in
    let mid = c.in-Some-first_unexpected.message in
    let first : first_id (λ sign. fits q.want sign) us ≡ Some mid = sym c.in-Some-first_unexpected.ensures.first in
    let p = c.in-Some-take.parcel in
    let taken : at c.self.inside.parcels mid ≡ Some p = sym c.in-Some-take.ensures.value in
    let none : p.bytes ≡ None = search rules in
    rest_begun _ _ _ _ _ _ _ _ _ _ _ _ c.self.invariant id e q shared d.0 d.1 mid first p taken none (search rules)

pub give_room-requires-clause-usable : goal.give_room-requires-clause-usable
give_room-requires-clause-usable g c =
    let us = g.M.Matcher.unexpected c.self.inside.matcher in
    let id = c.in-Some.id in
    let q = c.in-Some-multi_at.multi in
    let e : find (draws_at c.self.inside.seats us) (ids (g.M.Matcher.posted c.self.inside.matcher)) ≡ Some id = search rules in
    let shared : multi_at c.self.inside.seats id ≡ Some q = search rules in
    let d = drawer_told _ _ _ _ _ _ _ _ _ _ _ _ c.self.invariant id e q shared in
    usable_drawn _ _ _ _ _ _ _ _ _ _ _ _ c.self.invariant id e q shared d.0 d.1

pub give_room-requires-clause-room : goal.give_room-requires-clause-room
give_room-requires-clause-room g c =
    let us = g.M.Matcher.unexpected c.self.inside.matcher in
    let id = c.in-Some.id in
    let q = c.in-Some-multi_at.multi in
    let e : find (draws_at c.self.inside.seats us) (ids (g.M.Matcher.posted c.self.inside.matcher)) ≡ Some id = search rules in
    let shared : multi_at c.self.inside.seats id ≡ Some q = search rules in
    let d = drawer_told _ _ _ _ _ _ _ _ _ _ _ _ c.self.invariant id e q shared in
    let mid = c.in-Some-first_unexpected.message in
    let first : first_id (λ sign. fits q.want sign) us ≡ Some mid = sym c.in-Some-first_unexpected.ensures.first in
    let p = c.in-Some-take.parcel in
    let taken : at c.self.inside.parcels mid ≡ Some p = sym c.in-Some-take.ensures.value in
    let none : p.bytes ≡ None = search rules in
    let less = room_rest _ _ _ _ _ _ _ _ _ _ _ _ c.self.invariant id e q shared d.0 d.1 mid first p taken none in
    let closable = c.self.invariant.closable in
    λ leaves. omega arith

pub invariant_of-self : goal.invariant_of-self
invariant_of-self g c =
    let us = g.M.Matcher.unexpected c.self.inside.matcher in
    let id = c.in-Some.id in
    let q = c.in-Some-multi_at.multi in
    let e : find (draws_at c.self.inside.seats us) (ids (g.M.Matcher.posted c.self.inside.matcher)) ≡ Some id = search rules in
    let shared : multi_at c.self.inside.seats id ≡ Some q = search rules in
    let d = drawer_told _ _ _ _ _ _ _ _ _ _ _ _ c.self.invariant id e q shared in
    let mid = c.in-Some-first_unexpected.message in
    let first : first_id (λ sign. fits q.want sign) us ≡ Some mid = sym c.in-Some-first_unexpected.ensures.first in
    let p = c.in-Some-take.parcel in
    let taken : at c.self.inside.parcels mid ≡ Some p = sym c.in-Some-take.ensures.value in
    let none : p.bytes ≡ None = search rules in
    let rest = c.remove_unexpected.ensures.rest ∙ without-first (λ sign. fits q.want sign) mid us c.in-Some-first_unexpected.ensures.distinct first in
    let now = turned_rest _ _ _ _ _ _ _ _ _ _ _ _ c.self.invariant id e q shared d.0 d.1 mid first p taken none c.in-Some-take_begun.begun c.in-Some-take_begun.ensures.value _ (c.put_begun.ensures ∙ ap (λ (xs : List (Option Begun)). set xs p.source (Some c.gone_on.result)) c.take_begun.ensures.rest ∙ ap (λ (b : Begun). set (set c.self.inside.coming.items p.source None) p.source (Some b)) c.gone_on.ensures) in
    let posted = c.give_room.ensures.posted ∙ ap (λ (xs : List (ℕ × Want)). kept_or (left_by p.head.total (at c.self.inside.seats id)) xs (without id xs)) c.remove_unexpected.ensures.posted in
    rw (c.note.ensures, c.give_room.ensures.unexpected, c.give_room.ensures.most, c.remove_unexpected.ensures.room)
    (drawn_rest _ _ _ _ _ _ _ _ _ _ _ _ c.self.invariant id e q shared d.0 d.1 mid first p taken _ c.take.ensures.cells c.in-Some-take.ensures.spare _ rest c.remove_unexpected.ensures.gone _ now none _ c.give_room.ensures.cells c.give_room.ensures.spare _ _ _ posted c.give_room.ensures.gone c.give_room.ensures.closing c.give_room.ensures.open c.give_room.ensures.closable)

pub returns-in_default-bytes-clause-outcome : goal.returns-in_default-bytes-clause-outcome
returns-in_default-bytes-clause-outcome g c =
    let us = g.M.Matcher.unexpected c.self.inside.matcher in
    let id = c.in-Some.id in
    let q = c.in-Some-multi_at.multi in
    let e : find (draws_at c.self.inside.seats us) (ids (g.M.Matcher.posted c.self.inside.matcher)) ≡ Some id = search rules in
    let shared : multi_at c.self.inside.seats id ≡ Some q = search rules in
    let d = drawer_told _ _ _ _ _ _ _ _ _ _ _ _ c.self.invariant id e q shared in
    let mid = c.in-Some-first_unexpected.message in
    let first : first_id (λ sign. fits q.want sign) us ≡ Some mid = sym c.in-Some-first_unexpected.ensures.first in
    let p = c.in-Some-take.parcel in
    let taken : at c.self.inside.parcels mid ≡ Some p = sym c.in-Some-take.ensures.value in
    let none : p.bytes ≡ None = search rules in
    rw (← c.self.view_is) (rest_drawn _ _ _ _ _ _ _ _ _ _ _ _ c.self.invariant id e q shared d.0 d.1 mid first p taken none)

pub closes-requires : goal.closes-requires
closes-requires g c =
    let us = g.M.Matcher.unexpected c.self.inside.matcher in
    let id = c.in-Some.id in
    let q = c.in-Some-multi_at.multi in
    let e : find (draws_at c.self.inside.seats us) (ids (g.M.Matcher.posted c.self.inside.matcher)) ≡ Some id = search rules in
    let shared : multi_at c.self.inside.seats id ≡ Some q = search rules in
    let d = drawer_told _ _ _ _ _ _ _ _ _ _ _ _ c.self.invariant id e q shared in
    record { usable = usable_drawn _ _ _ _ _ _ _ _ _ _ _ _ c.self.invariant id e q shared d.0 d.1 }

pub close-over-requires : goal.close-over-requires
close-over-requires g c =
    let us = g.M.Matcher.unexpected c.self.inside.matcher in
    let id = c.in-Some.id in
    let q = c.in-Some-multi_at.multi in
    let e : find (draws_at c.self.inside.seats us) (ids (g.M.Matcher.posted c.self.inside.matcher)) ≡ Some id = search rules in
    let shared : multi_at c.self.inside.seats id ≡ Some q = search rules in
    let d = drawer_told _ _ _ _ _ _ _ _ _ _ _ _ c.self.invariant id e q shared in
    record { usable = usable_drawn _ _ _ _ _ _ _ _ _ _ _ _ c.self.invariant id e q shared d.0 d.1 }

pub invariant_of-self-then-closes : goal.invariant_of-self-then-closes
invariant_of-self-then-closes g c =
    let us = g.M.Matcher.unexpected c.self.inside.matcher in
    let id = c.in-Some.id in
    let q = c.in-Some-multi_at.multi in
    let e : find (draws_at c.self.inside.seats us) (ids (g.M.Matcher.posted c.self.inside.matcher)) ≡ Some id = search rules in
    let shared : multi_at c.self.inside.seats id ≡ Some q = search rules in
    let d = drawer_told _ _ _ _ _ _ _ _ _ _ _ _ c.self.invariant id e q shared in
    let mid = c.in-Some-first_unexpected.message in
    let first : first_id (λ sign. fits q.want sign) us ≡ Some mid = sym c.in-Some-first_unexpected.ensures.first in
    let p = c.in-Some-take.parcel in
    let taken : at c.self.inside.parcels mid ≡ Some p = sym c.in-Some-take.ensures.value in
    let whole : p.bytes ≡ Some c.in-Some-bytes.bytes = search rules in
    let rest = c.remove_unexpected.ensures.rest ∙ without-first (λ sign. fits q.want sign) mid us c.in-Some-first_unexpected.ensures.distinct first in
    let slice = ap (λ (xs : List (Option Begun)). is_closed xs id p.head.total (at c.self.inside.seats id)) (sym c.as_slice.ensures.value) in
    let over : is_closed c.self.inside.coming.items id p.head.total (at c.self.inside.seats id) ≡ true = slice ∙ sym c.closes.ensures ∙ search rules in
    let posted = c.remove_posted.ensures.rest ∙ ap (λ (xs : List (ℕ × Want)). without id xs) c.remove_unexpected.ensures.posted in
    rw (c.note.ensures, c.remove_posted.ensures.unexpected, c.remove_posted.ensures.room, c.remove_unexpected.ensures.room)
    (drawn_over _ _ _ _ _ _ _ _ _ _ _ _ c.self.invariant id e q shared d.0 d.1 mid first p taken _ c.take.ensures.cells c.in-Some-take.ensures.spare _ rest c.remove_unexpected.ensures.gone _ (turned_whole _ _ _ _ _ _ _ _ _ _ _ _ c.self.invariant id e q shared d.0 d.1 mid first p taken _ whole) _ whole over _ c.close-over.ensures.cells c.close-over.ensures.spare _ posted c.remove_posted.ensures.gone)

pub returns-then-closes-clause-outcome : goal.returns-then-closes-clause-outcome
returns-then-closes-clause-outcome g c =
    let us = g.M.Matcher.unexpected c.self.inside.matcher in
    let id = c.in-Some.id in
    let q = c.in-Some-multi_at.multi in
    let e : find (draws_at c.self.inside.seats us) (ids (g.M.Matcher.posted c.self.inside.matcher)) ≡ Some id = search rules in
    let shared : multi_at c.self.inside.seats id ≡ Some q = search rules in
    let d = drawer_told _ _ _ _ _ _ _ _ _ _ _ _ c.self.invariant id e q shared in
    let mid = c.in-Some-first_unexpected.message in
    let first : first_id (λ sign. fits q.want sign) us ≡ Some mid = sym c.in-Some-first_unexpected.ensures.first in
    let p = c.in-Some-take.parcel in
    let taken : at c.self.inside.parcels mid ≡ Some p = sym c.in-Some-take.ensures.value in
    let whole : p.bytes ≡ Some c.in-Some-bytes.bytes = search rules in
    let slice = ap (λ (xs : List (Option Begun)). is_closed xs id p.head.total (at c.self.inside.seats id)) (sym c.as_slice.ensures.value) in
    let over : is_closed c.self.inside.coming.items id p.head.total (at c.self.inside.seats id) ≡ true = slice ∙ sym c.closes.ensures ∙ search rules in
    let is_bytes : c.as_slice-then-closes.result.now ≡ c.in-Some-bytes.bytes = search rules in
    let buffer = c.close-over.ensures.buffer ∙ ap (λ (xs : List ℕ). option_map (λ w. released_of id (taken_in p.head.total q.used xs w)) (at c.self.inside.seats id)) is_bytes in
    rw (← c.self.view_is) (told_last _ _ _ _ _ _ _ _ _ _ _ _ c.self.invariant id e q shared d.0 d.1 mid first p taken _ whole over _ (completes _ _ _ _ _ _ _ _ _ _ _ _ c.self.invariant id e q shared d.0 d.1 mid first p taken _ whole _ c.part-completed.ensures) _ buffer)

pub give_room-requires-2-clause-usable : goal.give_room-requires-2-clause-usable
give_room-requires-2-clause-usable g c =
    let us = g.M.Matcher.unexpected c.self.inside.matcher in
    let id = c.in-Some.id in
    let q = c.in-Some-multi_at.multi in
    let e : find (draws_at c.self.inside.seats us) (ids (g.M.Matcher.posted c.self.inside.matcher)) ≡ Some id = search rules in
    let shared : multi_at c.self.inside.seats id ≡ Some q = search rules in
    let d = drawer_told _ _ _ _ _ _ _ _ _ _ _ _ c.self.invariant id e q shared in
    usable_drawn _ _ _ _ _ _ _ _ _ _ _ _ c.self.invariant id e q shared d.0 d.1

pub give_room-requires-2-clause-room : goal.give_room-requires-2-clause-room
give_room-requires-2-clause-room g c =
    let us = g.M.Matcher.unexpected c.self.inside.matcher in
    let id = c.in-Some.id in
    let q = c.in-Some-multi_at.multi in
    let e : find (draws_at c.self.inside.seats us) (ids (g.M.Matcher.posted c.self.inside.matcher)) ≡ Some id = search rules in
    let shared : multi_at c.self.inside.seats id ≡ Some q = search rules in
    let d = drawer_told _ _ _ _ _ _ _ _ _ _ _ _ c.self.invariant id e q shared in
    let mid = c.in-Some-first_unexpected.message in
    let first : first_id (λ sign. fits q.want sign) us ≡ Some mid = sym c.in-Some-first_unexpected.ensures.first in
    let p = c.in-Some-take.parcel in
    let taken : at c.self.inside.parcels mid ≡ Some p = sym c.in-Some-take.ensures.value in
    let slice = ap (λ (xs : List (Option Begun)). is_closed xs id p.head.total (at c.self.inside.seats id)) (sym c.as_slice.ensures.value) in
    let goes_on : is_closed c.self.inside.coming.items id p.head.total (at c.self.inside.seats id) ≡ false = slice ∙ sym c.closes.ensures ∙ search rules in
    let closable = c.self.invariant.closable in
    λ leaves. let less = room_part _ _ _ _ _ _ _ _ _ _ _ _ c.self.invariant id e q shared d.0 d.1 mid first p taken goes_on leaves in omega arith

pub invariant_of-self-2 : goal.invariant_of-self-2
invariant_of-self-2 g c =
    let us = g.M.Matcher.unexpected c.self.inside.matcher in
    let id = c.in-Some.id in
    let q = c.in-Some-multi_at.multi in
    let e : find (draws_at c.self.inside.seats us) (ids (g.M.Matcher.posted c.self.inside.matcher)) ≡ Some id = search rules in
    let shared : multi_at c.self.inside.seats id ≡ Some q = search rules in
    let d = drawer_told _ _ _ _ _ _ _ _ _ _ _ _ c.self.invariant id e q shared in
    let mid = c.in-Some-first_unexpected.message in
    let first : first_id (λ sign. fits q.want sign) us ≡ Some mid = sym c.in-Some-first_unexpected.ensures.first in
    let p = c.in-Some-take.parcel in
    let taken : at c.self.inside.parcels mid ≡ Some p = sym c.in-Some-take.ensures.value in
    let whole : p.bytes ≡ Some c.in-Some-bytes.bytes = search rules in
    let rest = c.remove_unexpected.ensures.rest ∙ without-first (λ sign. fits q.want sign) mid us c.in-Some-first_unexpected.ensures.distinct first in
    let slice = ap (λ (xs : List (Option Begun)). is_closed xs id p.head.total (at c.self.inside.seats id)) (sym c.as_slice.ensures.value) in
    let goes_on : is_closed c.self.inside.coming.items id p.head.total (at c.self.inside.seats id) ≡ false = slice ∙ sym c.closes.ensures ∙ search rules in
    let is_bytes : c.as_slice-2.result.now ≡ c.in-Some-bytes.bytes = search rules in
    let put = c.place.ensures.cells ∙ ap (λ (xs : List ℕ). set c.give_room-2.new.seats.cells id (option_map (placed_in q.used xs) (at c.give_room-2.new.seats id))) is_bytes in
    let posted = c.give_room-2.ensures.posted ∙ ap (λ (xs : List (ℕ × Want)). kept_or (left_by p.head.total (at c.self.inside.seats id)) xs (without id xs)) c.remove_unexpected.ensures.posted in
    rw (c.note.ensures, c.give_room-2.ensures.unexpected, c.give_room-2.ensures.most, c.remove_unexpected.ensures.room)
    (drawn_part _ _ _ _ _ _ _ _ _ _ _ _ c.self.invariant id e q shared d.0 d.1 mid first p taken _ c.take.ensures.cells c.in-Some-take.ensures.spare _ rest c.remove_unexpected.ensures.gone _ (turned_whole _ _ _ _ _ _ _ _ _ _ _ _ c.self.invariant id e q shared d.0 d.1 mid first p taken _ whole) _ whole goes_on _ _ c.give_room-2.ensures.cells c.give_room-2.ensures.spare put c.place.ensures.spare _ _ _ posted c.give_room-2.ensures.gone c.give_room-2.ensures.closing c.give_room-2.ensures.open c.give_room-2.ensures.closable)

pub returns-clause-outcome : goal.returns-clause-outcome
returns-clause-outcome g c =
    let us = g.M.Matcher.unexpected c.self.inside.matcher in
    let id = c.in-Some.id in
    let q = c.in-Some-multi_at.multi in
    let e : find (draws_at c.self.inside.seats us) (ids (g.M.Matcher.posted c.self.inside.matcher)) ≡ Some id = search rules in
    let shared : multi_at c.self.inside.seats id ≡ Some q = search rules in
    let d = drawer_told _ _ _ _ _ _ _ _ _ _ _ _ c.self.invariant id e q shared in
    let mid = c.in-Some-first_unexpected.message in
    let first : first_id (λ sign. fits q.want sign) us ≡ Some mid = sym c.in-Some-first_unexpected.ensures.first in
    let p = c.in-Some-take.parcel in
    let taken : at c.self.inside.parcels mid ≡ Some p = sym c.in-Some-take.ensures.value in
    let whole : p.bytes ≡ Some c.in-Some-bytes.bytes = search rules in
    let slice = ap (λ (xs : List (Option Begun)). is_closed xs id p.head.total (at c.self.inside.seats id)) (sym c.as_slice.ensures.value) in
    let goes_on : is_closed c.self.inside.coming.items id p.head.total (at c.self.inside.seats id) ≡ false = slice ∙ sym c.closes.ensures ∙ search rules in
    rw (← c.self.view_is) (told_part _ _ _ _ _ _ _ _ _ _ _ _ c.self.invariant id e q shared d.0 d.1 mid first p taken _ whole goes_on _ (completes _ _ _ _ _ _ _ _ _ _ _ _ c.self.invariant id e q shared d.0 d.1 mid first p taken _ whole _ c.part-completed.ensures))
