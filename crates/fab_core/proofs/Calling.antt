-- Calls: why they are refused, and that they are the machine's.
use Rattle.std.proofs.Common.{◌≡◌, ℕ, ◌+◌, ◌<◌, ◌≤◌, Bool, true, false, not, ◌&&◌, ◌||◌, cond, List, [], ◌∷◌, length, Option, Some, None, refl, sym, ap, ◌∙◌, subst, arith}
use Rattle.std.specs.Prelude.{find, is_none, is_some, nat_le, nat_lt, IfSome, IfNone, IfErr, OnErr, OnOk, Result, Ok, Err}
use Rattle.std.proofs.lemmas.Bool.{leb-false, ltb-false}
use Rattle.fab_base.specs.declared.faults.Fault.{Fault}
use Rattle.fab_base.specs.declared.faults.Fault.TheVariants.{Again, NotSupported, MsgSize, Invalid, NoEntry}
use Rattle.fab_base.specs.declared.faults.Refused.{Refused as Turned}
use Rattle.fab_base.specs.declared.faults.Busy.TheVariants.{TxFull, CqFull, PostedFull}
use Rattle.fab_base.specs.declared.peers.LineResult.TheVariants.{Done, Refused}
use Rattle.fab_base.specs.declared.items.Want.{Want}
use Rattle.fab_base.specs.declared.operations.Arrival.{Arrival}
use Rattle.fab_base.specs.declared.operations.Receive.{Receive}
use Rattle.fab_base.proofs.Bools.{or_false_left as either_false}
use Rattle.fab_base.specs.Kinds.{at_match}
use Rattle.fab_model.specs.Matching.{takes}
use Rattle.fab_model.specs.State.{State, fits, in_use, lookup}
use Rattle.fab_model.specs.Receiving.{Posting, cancel, cancel_fault, cancellable, draw_due, lacks_room, least_is_wrong, may_receive, post, post_fault, receive_of, source_is_known, taken_by}
use Rattle.fab_model.specs.Sending.{Order, first_fault, is_granted, is_too_long, is_well_formed, transmit, most_bytes, transmit_fault, transmit_to}
use Rattle.fab_model.specs.Calls.{Post, Transmit, answer, do_call}
use Rattle.fab_cq.specs.Queues.{has_room}
use Rattle.fab_rx.specs.Leaving.{is_meant}
use Rattle.fab_face.specs.Acts.{DoesCall, multi_made}
use Rattle.fab_face.specs.Answers.{is_final}
use Rattle.fab_face.specs.Machine.{StayNext, asking, cancelling, kind_of, sending}
use Rattle.fab_face.specs.declared.machine.Ask.{Ask}
use Rattle.fab_face.specs.declared.machine.Message.{Message}
use Rattle.fab_core.specs.Parts.{Parts, held_of, state_of}
use Rattle.fab_core.specs.Doing.{accepted_by, lasting_post, lasting_transmit, left_by, posted_by}
use Rattle.fab_settling.specs.Orders.{most_of, order_of, posting_of, wanted}
use Rattle.fab_core.specs.Passing.{is_held, passing, passing_post}
use Rattle.fab_core.proofs.Doing.{accepted_is, left_is, posted_is}
use Rattle.fab_core.proofs.Made.{none_made}
use Rattle.fab_core.proofs.Fits.{fits_writing}
use Rattle.fab_core.proofs.Next.{posted_next}

-- ---- messages

-- the last test is behind those that do not pass
behind : (a b c d : Bool) (x y z w : Fault) → first_fault ((a, x) ∷ (b, y) ∷ (c, z) ∷ (d, w) ∷ []) ≡ elim (first_fault ((a, x) ∷ (b, y) ∷ (c, z) ∷ [])) [ Some f ↦ Some f | None ↦ cond d (Some w) None ]
behind true b c d x y z w = refl
behind false true c d x y z w = refl
behind false false true d x y z w = refl
behind false false false d x y z w = refl

lasting_is_final : (a b c : Bool) (why : Fault) → first_fault ((a, NotSupported) ∷ (b, MsgSize) ∷ (c, Invalid) ∷ []) ≡ Some why → is_final (Refused why) ≡ true
lasting_is_final true b c why is = (let e : NotSupported ≡ why = cc in rw (← e) refl)
lasting_is_final false true c why is = (let e : MsgSize ≡ why = cc in rw (← e) refl)
lasting_is_final false false true why is = (let e : Invalid ≡ why = cc in rw (← e) refl)
lasting_is_final false false false why is = absurd (cc)

module _ (s : State) (o : Order) where
  abbrev full : Bool
  full = nat_le s.most_tx (in_use s.tx)

  judged : transmit_fault s o ≡ elim (lasting_transmit s o) [ Some f ↦ Some f | None ↦ cond full (Some (Again (TxFull s.most_tx))) None ]
  unfolding transmit_fault
  judged = behind (not (is_granted s.caps o.kind o.atom)) (is_too_long s.most_message o) (is_none (lookup s.av o.dest) || nat_le 4_611_686_018_427_387_904 s.tx.ops || not (is_well_formed o o.atom)) full NotSupported MsgSize Invalid (Again (TxFull s.most_tx))

  pub transmit_refused : (why : Fault) → lasting_transmit s o ≡ Some why → do_call s (Transmit o) ≡ (Refused why, s)
  unfolding do_call
  transmit_refused why is = rw (do_call, judged, is) refl

  pub transmit_final : (why : Fault) → lasting_transmit s o ≡ Some why → is_final (Refused why) ≡ true
  transmit_final why is = lasting_is_final _ _ _ why is

  pub transmit_passing : lasting_transmit s o ≡ None → is_final (do_call s (Transmit o)).0 ≡ false
  unfolding do_call
  transmit_passing none = by full refl
    where
      by : (b : Bool) → full ≡ b → is_final (do_call s (Transmit o)).0 ≡ false
      by true e = rw (do_call, judged, none, e) refl
      by false e = rw (do_call, judged, none, e) refl

  -- what is not refused for good has none of these faults
  pub not_lasting : is_final (do_call s (Transmit o)).0 ≡ false → lasting_transmit s o ≡ None
  not_lasting granted = by (lasting_transmit s o) refl
    where
      by : (f : Option Fault) → lasting_transmit s o ≡ f → lasting_transmit s o ≡ None
      by None e = e
      by (Some why) e = absurd (let r : is_final (do_call s (Transmit o)).0 ≡ true = ap (λ (a : _ × State). is_final a.0) (transmit_refused why e) ∙ transmit_final why e in cc)

  pub transmit_done : lasting_transmit s o ≡ None → full ≡ false → do_call s (Transmit o) ≡ (Done, transmit s o)
  unfolding do_call
  transmit_done none room = rw (do_call, judged, none, room) refl

module _ (s : State) (m : Message) (bytes : List ℕ) where
  pub if_transmit_some : (r : Option Fault) → r ≡ lasting_transmit s (order_of m bytes) → IfSome r (λ why. do_call s (sending m bytes) ≡ (Refused why, s))
  if_transmit_some None is = tt
  if_transmit_some (Some why) is = transmit_refused s (order_of m bytes) why (sym is)

  pub if_transmit_none : (r : Option Fault) → r ≡ lasting_transmit s (order_of m bytes) → IfNone r (is_final (do_call s (sending m bytes)).0 ≡ false)
  if_transmit_none None is = transmit_passing s (order_of m bytes) (sym is)
  if_transmit_none (Some why) is = tt

pub sends : (p : Parts) (t : ℕ) (m : Message) (bytes : List ℕ) (q : Parts) → lookup p.av.indices m.dest ≡ Some t → is_final (do_call (state_of p) (sending m bytes)).0 ≡ false → nat_le p.tx.most (in_use p.tx.tx) ≡ false
    → q ≡ accepted_by t (order_of m bytes) p → DoesCall (Some (sending m bytes)) (held_of p) (held_of q)
unfolding transmit
sends p t m bytes q there granted room is =
    let none = not_lasting (state_of p) (order_of m bytes) granted in
    let goes : transmit (state_of p) (order_of m bytes) ≡ state_of (accepted_by t (order_of m bytes) p) = to_peer ∙ accepted_is p t m bytes in
    rw is (transmit_done (state_of p) (order_of m bytes) none room ∙ ap (λ (s : State). (Done, s)) goes, none_made (sending m bytes) (held_of p) (state_of (accepted_by t (order_of m bytes) p)) refl)
  where
    to_peer : transmit (state_of p) (order_of m bytes) ≡ transmit_to t (state_of p) (order_of m bytes)
    to_peer = rw (transmit, there) refl

-- a call with no fault has neither of the last two of its three reasons
pub three : (a b c : Bool) → first_fault ((a, NotSupported) ∷ (b, MsgSize) ∷ (c, Invalid) ∷ []) ≡ None → (b ≡ false) × (c ≡ false)
three true b c e = absurd (cc)
three false true c e = absurd (cc)
three false false true e = absurd (cc)
three false false false e = (refl, refl)

-- the tests that a message passed that is not refused for good
module _ (p : Parts) (m : Message) (bytes : List ℕ) (granted : is_final (do_call (state_of p) (sending m bytes)).0 ≡ false) where
  none_lasting : lasting_transmit (state_of p) (order_of m bytes) ≡ None
  none_lasting = not_lasting (state_of p) (order_of m bytes) granted

  passed : (is_too_long p.most_message (order_of m bytes) ≡ false) × ((is_none (lookup p.av.indices m.dest) || nat_le 4_611_686_018_427_387_904 p.tx.tx.ops || false) ≡ false)
  passed = three (not (is_granted p.caps (order_of m bytes).kind None)) (is_too_long p.most_message (order_of m bytes)) (is_none (lookup p.av.indices m.dest) || nat_le 4_611_686_018_427_387_904 p.tx.tx.ops || false) none_lasting

  or_false : (a b c : Bool) → (a || b || c) ≡ false → (a ≡ false) × (b ≡ false)
  or_false true b c e = absurd (cc)
  or_false false true c e = absurd (cc)
  or_false false false c e = (refl, refl)

  -- its peer stands in the address vector
  pub stands : (r : Result ℕ Fault) (why : Fault) → IfErr r (λ fault. (fault ≡ NoEntry) × (lookup p.av.indices m.dest ≡ None)) → r ≡ Err why → ⊥
  stands r why all is =
      let gone : lookup p.av.indices m.dest ≡ None = (subst (λ (r : Result ℕ Fault). IfErr r (λ fault. (fault ≡ NoEntry) × (lookup p.av.indices m.dest ≡ None))) is all).1 in
      let there : is_none (lookup p.av.indices m.dest) ≡ false = (or_false _ _ _ passed.1).0 in
      let not_there : is_none (lookup p.av.indices m.dest) ≡ true = ap is_none gone in
      absurd (cc)

  pub counts : p.tx.tx.ops < 4_611_686_018_427_387_904
  counts = leb-false _ _ (or_false _ _ _ passed.1).1

  pub short : length bytes ≤ most_of p.most_message m
  short = (let e = ltb-false (most_of p.most_message m) (length bytes + 0) (either_false (nat_lt (most_of p.most_message m) (length bytes + 0)) (nat_lt (most_of p.most_message m) 0) passed.0) in omega (arith, e))

most_in_word : (most : ℕ) (tagged injected : Bool) → most < 4_294_967_296 → most_bytes most (kind_of tagged) injected < 4_294_967_296
most_in_word most true true word = omega (arith, word)
most_in_word most true false word = omega (arith, word)
most_in_word most false true word = omega (arith, word)
most_in_word most false false word = omega (arith, word)

pub fits_in_word : (p : Parts) (m : Message) (bytes : List ℕ) → is_final (do_call (state_of p) (sending m bytes)).0 ≡ false → p.most_message < 4_294_967_296 → length bytes < 4_294_967_296
fits_in_word p m bytes granted word = (let s = short p m bytes granted in let most = most_in_word p.most_message m.tagged (is_none m.ctx) word in omega (arith, s, most))

copied_most : (most : ℕ) (tagged : Bool) → most_bytes most (kind_of tagged) true ≤ 4_096
copied_most most true = omega arith
copied_most most false = omega arith

pub few_copied : (p : Parts) (m : Message) (bytes : List ℕ) → is_final (do_call (state_of p) (sending m bytes)).0 ≡ false → m.ctx ≡ None → length bytes ≤ 4_096
few_copied p m bytes granted none =
    let s = short p m bytes granted in
    let most : most_of p.most_message m ≤ 4_096 = rw none (copied_most p.most_message m.tagged) in
    omega (arith, s, most)

-- ---- receives

posted_five : (a b c d e : Bool) (x y z v w : Fault) → first_fault ((a, x) ∷ (b, y) ∷ (c, z) ∷ (d, v) ∷ (e, w) ∷ []) ≡ elim (first_fault ((a, x) ∷ (b, y) ∷ (c, z) ∷ [])) [ Some f ↦ Some f | None ↦ cond d (Some v) (cond e (Some w) None) ]
posted_five true b c d e x y z v w = refl
posted_five false true c d e x y z v w = refl
posted_five false false true d e x y z v w = refl
posted_five false false false d e x y z v w = refl

module _ (s : State) (a : Posting) where
  abbrev pub again : Option Fault
  again = cond (lacks_room s (post s a)) (Some (Again (CqFull s.cq.size))) (cond (is_none (taken_by (receive_of s a) s) && nat_le s.most_rx (length s.rx.posted)) (Some (Again (PostedFull s.most_rx))) None)

  post_judged : post_fault s a ≡ elim (lasting_post s a) [ Some f ↦ Some f | None ↦ again ]
  unfolding post_fault
  post_judged = posted_five (not (may_receive s a.tagged)) (nat_lt s.most_message (length a.buf)) (not (source_is_known s a.source) || least_is_wrong a) (lacks_room s (post s a)) (is_none (taken_by (receive_of s a) s) && nat_le s.most_rx (length s.rx.posted)) NotSupported MsgSize Invalid (Again (CqFull s.cq.size)) (Again (PostedFull s.most_rx))

  pub post_refused : (why : Fault) → lasting_post s a ≡ Some why → do_call s (Post a) ≡ (Refused why, s)
  unfolding do_call
  post_refused why is = rw (do_call, post_judged, is) refl

  pub post_final : (why : Fault) → lasting_post s a ≡ Some why → is_final (Refused why) ≡ true
  post_final why is = lasting_is_final _ _ _ why is

  pub post_passing : lasting_post s a ≡ None → is_final (do_call s (Post a)).0 ≡ false
  unfolding do_call
  post_passing none = by (lacks_room s (post s a)) refl (is_none (taken_by (receive_of s a) s) && nat_le s.most_rx (length s.rx.posted)) refl
    where
      by : (b : Bool) → lacks_room s (post s a) ≡ b → (d : Bool) → (is_none (taken_by (receive_of s a) s) && nat_le s.most_rx (length s.rx.posted)) ≡ d → is_final (do_call s (Post a)).0 ≡ false
      by true e d f = rw (do_call, post_judged, none, e) refl
      by false e true f = rw (do_call, post_judged, none, e, f) refl
      by false e false f = rw (do_call, post_judged, none, e, f) refl

  pub post_not_lasting : is_final (do_call s (Post a)).0 ≡ false → lasting_post s a ≡ None
  post_not_lasting granted = by (lasting_post s a) refl
    where
      by : (f : Option Fault) → lasting_post s a ≡ f → lasting_post s a ≡ None
      by None e = e
      by (Some why) e = absurd (let r : is_final (do_call s (Post a)).0 ≡ true = ap (λ (x : _ × State). is_final x.0) (post_refused why e) ∙ post_final why e in cc)

  pub post_again : (why : Fault) → lasting_post s a ≡ None → again ≡ Some why → do_call s (Post a) ≡ (Refused why, s)
  unfolding do_call
  post_again why none is = rw (do_call, post_judged, none, is) refl

  pub post_done : lasting_post s a ≡ None → again ≡ None → do_call s (Post a) ≡ (Done, post s a)
  unfolding do_call
  post_done none passed = rw (do_call, post_judged, none, passed) refl

module _ (s : State) (a : Ask) (buf : List ℕ) where
  pub if_post_some : (r : Option Fault) → r ≡ lasting_post s (posting_of a buf) → IfSome r (λ why. do_call s (asking a buf) ≡ (Refused why, s))
  if_post_some None is = tt
  if_post_some (Some why) is = post_refused s (posting_of a buf) why (sym is)

  pub if_post_none : (r : Option Fault) → r ≡ lasting_post s (posting_of a buf) → IfNone r (is_final (do_call s (asking a buf)).0 ≡ false)
  if_post_none None is = post_passing s (posting_of a buf) (sym is)
  if_post_none (Some why) is = tt

module _ (p : Parts) (ask : Ask) (buf : List ℕ) (read : p.cq.taken_out ≤ length p.cq.written) (now : fits p.cq ≡ true) where
  abbrev s : State
  s = state_of p

  abbrev want : Want
  want = wanted s ask

  room_of : draw_due p.rx.rx ≡ false → (b : Bool) → fits (post s (posting_of ask buf)).cq ≡ b → lacks_room s (post s (posting_of ask buf)) ≡ not b
  room_of still b is = rw (still, is) refl

  again_held : draw_due p.rx.rx ≡ true → again s (posting_of ask buf) ≡ passing_post want p
  again_held due = rw due refl

  again_still : draw_due p.rx.rx ≡ false → again s (posting_of ask buf) ≡ passing_post want p
  again_still still = found (find (takes want) p.rx.rx.unexpected) refl
    where
      found : (o : Option Arrival) → find (takes want) p.rx.rx.unexpected ≡ o → again s (posting_of ask buf) ≡ passing_post want p
      found None e =
          let fit : fits (post s (posting_of ask buf)).cq ≡ true = ap (λ (s : State). fits s.cq) (posted_is p ask buf) ∙ rw e now in
          rw (room_of still true fit, still, e) refl
      found (Some a) e = by a.bytes refl
        where
          by : (b : Option (List ℕ)) → a.bytes ≡ b → again s (posting_of ask buf) ≡ passing_post want p
          by None none =
              let fit : fits (post s (posting_of ask buf)).cq ≡ true = ap (λ (s : State). fits s.cq) (posted_is p ask buf) ∙ rw (e, none) now in
              rw (room_of still true fit, still, e, none) refl
          by (Some bytes) some =
              let fit : fits (post s (posting_of ask buf)).cq ≡ has_room 1 p.cq = ap (λ (s : State). fits s.cq) (posted_is p ask buf) ∙ rw (e, some) (fits_writing p.cq read now _ _) in
              room (has_room 1 p.cq) refl fit
            where
              room : (b : Bool) → has_room 1 p.cq ≡ b → fits (post s (posting_of ask buf)).cq ≡ has_room 1 p.cq → again s (posting_of ask buf) ≡ passing_post want p
              room true holds fit = rw (room_of still true (fit ∙ holds), still, e, some, holds) refl
              room false fails fit = rw (room_of still false (fit ∙ fails), still, e, some, fails) refl

  again_is : again s (posting_of ask buf) ≡ passing_post want p
  again_is = by (draw_due p.rx.rx) refl
    where
      by : (b : Bool) → draw_due p.rx.rx ≡ b → again s (posting_of ask buf) ≡ passing_post want p
      by true due = again_held due
      by false still = again_still still

  held_posted : record (held_of p) { state = state_of (posted_by want buf ask.ctx p) } ≡ held_of (posted_by want buf ask.ctx p)
  held_posted = found (find (takes want) p.rx.rx.unexpected) refl
    where
      found : (o : Option Arrival) → find (takes want) p.rx.rx.unexpected ≡ o → record (held_of p) { state = state_of (posted_by want buf ask.ctx p) } ≡ held_of (posted_by want buf ask.ctx p)
      found None e = rw e refl
      found (Some a) e = by a.bytes refl
        where
          due : (bytes : List ℕ) → a.bytes ≡ Some bytes → (b : Bool) → at_match a.head.ack ≡ b → record (held_of p) { state = state_of (posted_by want buf ask.ctx p) } ≡ held_of (posted_by want buf ask.ctx p)
          due bytes some true is = rw (e, some, is) refl
          due bytes some false is = rw (e, some, is) refl

          by : (b : Option (List ℕ)) → a.bytes ≡ b → record (held_of p) { state = state_of (posted_by want buf ask.ctx p) } ≡ held_of (posted_by want buf ask.ctx p)
          by None none = rw (e, none) refl
          by (Some bytes) some = due bytes some (at_match a.head.ack) refl

  pub posts : (q : Parts) → is_final (do_call s (asking ask buf)).0 ≡ false → passing_post want p ≡ None → q ≡ posted_by want buf ask.ctx p → DoesCall (Some (asking ask buf)) (held_of p) (held_of q)
  posts q granted passing is =
      rw is (post_done s (posting_of ask buf) (post_not_lasting s (posting_of ask buf) granted) (again_is ∙ passing) ∙ ap (λ (x : State). (Done, x)) (posted_is p ask buf), sym held_posted ∙ none_made (asking ask buf) (held_of p) (state_of (posted_by want buf ask.ctx p)) refl)

  pub posts_not : (why : Fault) → is_final (do_call s (asking ask buf)).0 ≡ false → passing_post want p ≡ Some why → do_call s (asking ask buf) ≡ (Refused why, s)
  posts_not why granted is = post_again s (posting_of ask buf) why (post_not_lasting s (posting_of ask buf) granted) (again_is ∙ is)

-- ---- cancels

pub cancel_call : (s : State) (ctx : Option ℕ) → do_call s (cancelling ctx) ≡ answer (cancel_fault s (is_meant ctx)) s (cancel s (is_meant ctx))
unfolding do_call
cancel_call s None = refl
cancel_call s (Some ctx) = refl

module _ (p : Parts) (ctx : Option ℕ) (read : p.cq.taken_out ≤ length p.cq.written) (now : fits p.cq ≡ true) where
  fault_of : (found : Option Receive) → cancellable (is_meant ctx) p.rx.rx ≡ found
      → cancel_fault (state_of p) (is_meant ctx) ≡ elim found [ None ↦ Some NoEntry | Some r ↦ cond (is_held 1 p) (Some (Again (CqFull p.cq.size))) None ]
  unfolding cancel_fault
  fault_of None e = rw (cancel_fault, e) refl
  fault_of (Some r) e =
      let fit : fits (cancel (state_of p) (is_meant ctx)).cq ≡ has_room 1 p.cq = ap (λ (s : State). fits s.cq) (left_is p ctx) ∙ rw e (fits_writing p.cq read now _ _) in
      room (has_room 1 p.cq) refl fit
    where
      room : (b : Bool) → has_room 1 p.cq ≡ b → fits (cancel (state_of p) (is_meant ctx)).cq ≡ has_room 1 p.cq
          → cancel_fault (state_of p) (is_meant ctx) ≡ cond (is_held 1 p) (Some (Again (CqFull p.cq.size))) None
      room true holds fit = rw (cancel_fault, e, fit, holds) refl
      room false fails fit = rw (cancel_fault, e, fit, fails) refl

  pub cancels_none : is_some (cancellable (is_meant ctx) p.rx.rx) ≡ false → do_call (state_of p) (cancelling ctx) ≡ (Refused NoEntry, state_of p)
  cancels_none none = by (cancellable (is_meant ctx) p.rx.rx) refl
    where
      by : (o : Option Receive) → cancellable (is_meant ctx) p.rx.rx ≡ o → do_call (state_of p) (cancelling ctx) ≡ (Refused NoEntry, state_of p)
      by None e = cancel_call (state_of p) ctx ∙ rw (fault_of None e) refl
      by (Some r) e = absurd (let t : is_some (cancellable (is_meant ctx) p.rx.rx) ≡ true = ap is_some e in cc)

  pub cancels_passing : is_some (cancellable (is_meant ctx) p.rx.rx) ≡ true → is_final (do_call (state_of p) (cancelling ctx)).0 ≡ false
  cancels_passing some = by (cancellable (is_meant ctx) p.rx.rx) refl
    where
      room : (r : Receive) → cancellable (is_meant ctx) p.rx.rx ≡ Some r → (b : Bool) → is_held 1 p ≡ b → is_final (do_call (state_of p) (cancelling ctx)).0 ≡ false
      room r e true has = rw (cancel_call (state_of p) ctx, fault_of (Some r) e, has) refl
      room r e false has = rw (cancel_call (state_of p) ctx, fault_of (Some r) e, has) refl

      by : (o : Option Receive) → cancellable (is_meant ctx) p.rx.rx ≡ o → is_final (do_call (state_of p) (cancelling ctx)).0 ≡ false
      by None e = absurd (let t : is_some (cancellable (is_meant ctx) p.rx.rx) ≡ false = ap is_some e in cc)
      by (Some r) e = room r e (is_held 1 p) refl

  -- who is not turned away for good is there
  pub is_there : is_final (do_call (state_of p) (cancelling ctx)).0 ≡ false → is_some (cancellable (is_meant ctx) p.rx.rx) ≡ true
  is_there granted = by (cancellable (is_meant ctx) p.rx.rx) refl
    where
      by : (o : Option Receive) → cancellable (is_meant ctx) p.rx.rx ≡ o → is_some (cancellable (is_meant ctx) p.rx.rx) ≡ true
      by None e = absurd (let f : is_final (do_call (state_of p) (cancelling ctx)).0 ≡ true = rw (cancel_call (state_of p) ctx, fault_of None e) refl in cc)
      by (Some r) e = ap is_some e

  pub cancels : (q : Parts) → is_some (cancellable (is_meant ctx) p.rx.rx) ≡ true → is_held 1 p ≡ false → q ≡ left_by ctx p → DoesCall (Some (cancelling ctx)) (held_of p) (held_of q)
  cancels q some room is = by (cancellable (is_meant ctx) p.rx.rx) refl ctx refl
    where
      made : record (held_of p) { state = state_of (left_by ctx p) } ≡ held_of (left_by ctx p)
      made = by_receive (cancellable (is_meant ctx) p.rx.rx) refl
        where
          by_receive : (o : Option Receive) → cancellable (is_meant ctx) p.rx.rx ≡ o → record (held_of p) { state = state_of (left_by ctx p) } ≡ held_of (left_by ctx p)
          by_receive None e = rw e refl
          by_receive (Some r) e = rw e refl

      none : (c : Option ℕ) (n : ℕ) → multi_made (cancelling c) n ≡ []
      none None n = refl
      none (Some x) n = refl

      by : (o : Option Receive) → cancellable (is_meant ctx) p.rx.rx ≡ o → (c : Option ℕ) → ctx ≡ c → DoesCall (Some (cancelling ctx)) (held_of p) (held_of q)
      by None e c same = absurd (let t : is_some (cancellable (is_meant ctx) p.rx.rx) ≡ false = ap is_some e in cc)
      by (Some r) e c same = rw is (cancel_call (state_of p) ctx ∙ rw (fault_of (Some r) e, room) (ap (λ (x : State). (Done, x)) (left_is p ctx)), sym made ∙ none_made (cancelling ctx) (held_of p) (state_of (left_by ctx p)) (none ctx p.calls))

  pub cancels_not : (why : Fault) → is_some (cancellable (is_meant ctx) p.rx.rx) ≡ true → is_held 1 p ≡ true → why ≡ Again (CqFull p.cq.size) → do_call (state_of p) (cancelling ctx) ≡ (Refused why, state_of p)
  cancels_not why some lacking is = by (cancellable (is_meant ctx) p.rx.rx) refl
    where
      by : (o : Option Receive) → cancellable (is_meant ctx) p.rx.rx ≡ o → do_call (state_of p) (cancelling ctx) ≡ (Refused why, state_of p)
      by None e = absurd (let t : is_some (cancellable (is_meant ctx) p.rx.rx) ≡ false = ap is_some e in cc)
      by (Some r) e = cancel_call (state_of p) ctx ∙ rw (fault_of (Some r) e, lacking, is) refl

  pub if_cancels : (q : Parts) (r : Result (Unit {0}) Fault) → is_final (do_call (state_of p) (cancelling ctx)).0 ≡ false → OnOk r ((is_held 1 p ≡ false) × (q ≡ left_by ctx p)) → OnOk r (DoesCall (Some (cancelling ctx)) (held_of p) (held_of q))
  if_cancels q (Ok u) granted does = cancels q (is_there granted) does.0 does.1
  if_cancels q (Err why) granted does = tt

  pub if_cancels_not : (r : Result (Unit {0}) Fault) → is_final (do_call (state_of p) (cancelling ctx)).0 ≡ false → IfErr r (λ why. (why ≡ Again (CqFull p.cq.size)) × (is_held 1 p ≡ true)) → IfErr r (λ why. do_call (state_of p) (cancelling ctx) ≡ (Refused why, state_of p))
  if_cancels_not (Ok u) granted why_not = tt
  if_cancels_not (Err why) granted why_not = cancels_not why (is_there granted) why_not.1 why_not.0

-- ---- receives, by their answer

module _ (p : Parts) (ask : Ask) (buf : List ℕ) (read : p.cq.taken_out ≤ length p.cq.written) (now : fits p.cq ≡ true) where
  pub if_posts : (q : Parts) (r : Result (Unit {0}) Turned) → is_final (do_call (state_of p) (asking ask buf)).0 ≡ false → OnOk r ((passing_post (wanted (state_of p) ask) p ≡ None) × (q ≡ posted_by (wanted (state_of p) ask) buf ask.ctx p))
      → OnOk r (DoesCall (Some (asking ask buf)) (held_of p) (held_of q))
  if_posts q (Ok u) granted done = posts p ask buf read now q granted done.0 done.1
  if_posts q (Err why) granted done = tt

  pub if_posts_not : (r : Result (Unit {0}) Turned) → is_final (do_call (state_of p) (asking ask buf)).0 ≡ false → IfErr r (λ r. (r.buf ≡ buf) × (passing_post (wanted (state_of p) ask) p ≡ Some r.why))
      → IfErr r (λ r. (r.buf ≡ buf) × (do_call (state_of p) (asking ask buf) ≡ (Refused r.why, state_of p)))
  if_posts_not (Ok u) granted why_not = tt
  if_posts_not (Err r) granted why_not = (why_not.0, posts_not p ask buf read now r.why granted why_not.1)

  pub if_posts_next : (q : Parts) (r : Result (Unit {0}) Turned) → OnOk r ((passing_post (wanted (state_of p) ask) p ≡ None) × (q ≡ posted_by (wanted (state_of p) ask) buf ask.ctx p)) → OnErr r (q ≡ p) → StayNext (state_of p) (state_of q)
  if_posts_next q (Ok u) done same = rw done.1 (posted_next p (wanted (state_of p) ask) buf ask.ctx)
  if_posts_next q (Err why) done same = rw same (λ d item is. is)
