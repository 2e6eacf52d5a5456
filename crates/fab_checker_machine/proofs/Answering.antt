-- What a call answers, from the tests that it makes.
use Rattle.std.proofs.Common.{◌≡◌, ℕ, Bool, true, false, cond, List, ◌++◌, length, Option, Some, None, refl, ap}
use Rattle.std.specs.Prelude.{nat_lt, find, get_or, position, is_some}
use Rattle.fab_base.specs.declared.faults.Fault.TheVariants.{Again}
use Rattle.fab_base.specs.declared.faults.Busy.TheVariants.{CqFull}
use Rattle.fab_base.specs.declared.faults.Fault.{Fault}
use Rattle.fab_base.specs.declared.operations.Receive.{Receive}
use Rattle.fab_base.specs.declared.operations.Arrival.{Arrival}
use Rattle.fab_model.specs.State.{State, with_rx}
use Rattle.fab_model.specs.Complete.{release}
use Rattle.fab_model.specs.Matching.{takes}
use Rattle.fab_model.specs.Arrivals.{shut, do_draw}
use Rattle.fab_model.specs.Receiving.{Posting, give, without_first, may_receive, source_is_known, least_is_wrong, taken_by, receive_of, post_fault, cancellable, cancel_fault, draws}
use Rattle.fab_checker_machine.specs.Room.{waits, place_fault, entries_drawn, entries_taken}
use Rattle.fab_checker_halves.specs.Places.{seated_at}
use Rattle.fab_checker_halves.proofs.Placing.{found_at, seated_is}
use Rattle.fab_checker_machine.proofs.Growing.{fits_post_none, fits_post_some, fits_cancel}

-- ---- posting

post_fault_by : (s : State) (p : Posting) (o : Option Arrival) → may_receive s p.tagged ≡ true → nat_lt s.most_message (length p.buf) ≡ false → source_is_known s p.source ≡ true → least_is_wrong p ≡ false
    → taken_by (receive_of s p) s ≡ o → place_fault o s ≡ post_fault s p
unfolding post_fault
post_fault_by s p None may short known right e = rw (may, short, known, right, fits_post_none s p e, e) refl
post_fault_by s p (Some a) may short known right e = rw (may, short, known, right, fits_post_some s p a e, e) refl

pub post_fault_is : (s : State) (p : Posting) → may_receive s p.tagged ≡ true → nat_lt s.most_message (length p.buf) ≡ false → source_is_known s p.source ≡ true → least_is_wrong p ≡ false
    → place_fault (taken_by (receive_of s p) s) s ≡ post_fault s p
post_fault_is s p may short known right = post_fault_by s p (taken_by (receive_of s p) s) may short known right refl

-- ---- cancelling

-- the answer of a receive call that has nothing to wait for but room
abbrev pub first_of : Bool → State → Option Fault
first_of b s = cond b (Some (Again (CqFull s.cq.size))) None

cancel_fault_by : (s : State) (test : Receive → Bool) (o : Option Receive) (b : Bool) → cancellable test s.rx ≡ o → is_some o ≡ true → waits 1 s ≡ b → first_of b s ≡ cancel_fault s test
unfolding cancel_fault
cancel_fault_by s test None b e some room = absurd (cc)
cancel_fault_by s test (Some r) true e some room = rw (e, fits_cancel s test r e, room) refl
cancel_fault_by s test (Some r) false e some room = rw (e, fits_cancel s test r e, room) refl

pub cancel_fault_is : (s : State) (test : Receive → Bool) (b : Bool) → is_some (cancellable test s.rx) ≡ true → waits 1 s ≡ b → first_of b s ≡ cancel_fault s test
cancel_fault_is s test b some room = cancel_fault_by s test (cancellable test s.rx) b refl some room

-- ---- draws

pub draw_none : (s : State) → find (draws s.rx.unexpected) s.rx.posted ≡ None → do_draw s ≡ s
unfolding do_draw
draw_none s e = rw (e, do_draw) refl

pub draw_untaken : (s : State) (r : Receive) → find (draws s.rx.unexpected) s.rx.posted ≡ Some r → find (takes r.want) s.rx.unexpected ≡ None → do_draw s ≡ s
unfolding do_draw
draw_untaken s r e f = rw (e, f, do_draw) refl

-- the machine after the receive at this place took its message
abbrev pub drawn_in : List Receive → Receive → Arrival → State → State
drawn_in posted r a s = (let rx = s.rx in with_rx (record (without_first r.want rx) { posted = posted; closing = rx.closing ++ shut a.head.total r }) s)

pub draw_some : (s : State) (k : ℕ) (r : Receive) (a : Arrival) → position (draws s.rx.unexpected) s.rx.posted ≡ Some k → r ≡ get_or s.rx.posted k r → find (takes r.want) s.rx.unexpected ≡ Some a
    → do_draw s ≡ release r (give r r.used a (drawn_in (seated_at k a.head.total r s.rx.posted) r a s))
unfolding do_draw
draw_some s k r a at is f =
    let e = found_at (draws s.rx.unexpected) r s.rx.posted k at is in
    rw (e, f, do_draw) (ap (λ posted. release r (give r r.used a (drawn_in posted r a s))) (seated_is (draws s.rx.unexpected) a.head.total r s.rx.posted k at is))

pub drawn_none : (s : State) → find (draws s.rx.unexpected) s.rx.posted ≡ None → entries_drawn s ≡ 0
drawn_none s e = rw (e, entries_drawn) refl

pub drawn_untaken : (s : State) (r : Receive) → find (draws s.rx.unexpected) s.rx.posted ≡ Some r → find (takes r.want) s.rx.unexpected ≡ None → entries_drawn s ≡ 0
drawn_untaken s r e f = rw (e, f, entries_drawn) refl

pub drawn_some : (s : State) (r : Receive) (a : Arrival) → find (draws s.rx.unexpected) s.rx.posted ≡ Some r → find (takes r.want) s.rx.unexpected ≡ Some a → entries_drawn s ≡ entries_taken r a s.rx
drawn_some s r a e f = rw (e, f, entries_drawn) refl
