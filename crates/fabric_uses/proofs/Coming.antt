-- What a receive makes of the message that it takes at once.
use Rattle.std.proofs.Common.{◌≡◌, ◌+◌, ◌-◌, ◌≤◌, ◌++◌, ℕ, zero, suc, Bool, true, false, List, [], ◌∷◌, length, min, take, drop, Option, Some, None, refl, sym, ap, subst, ◌∙◌, arith, append-nil, take_all}
use Rattle.std.proofs.lemmas.Bool.{leb-false}
use Rattle.std.proofs.lemmas.List.{drop_all}
use Rattle.std.specs.Prelude.{IfSome, slice_get}
use Rattle.std.specs.Option.{option_map}
use Rattle.fabric.specs.Answers.{receive_call}
use Rattle.fabric.specs.Complete.{entry_of, fill, has_space, paste, received, truncated}
use Rattle.fabric.specs.Kinds.{at_match}
use Rattle.fabric.specs.Held.{Seen}
use Rattle.fabric.specs.Late.{ReceivesLate}
use Rattle.fabric.specs.Matching.{takes}
use Rattle.fabric.specs.Probes.{probed_of}
use Rattle.fabric.specs.Receiving.{give, joining_posted, post, receive_of, taken_by, without_first}
use Rattle.fabric.specs.State.{Completions, State, called, with_rx, writing}
use Rattle.fabric.specs.Words.{Arrival, Entry, ErrEntry, Failure, Probed, Receive, Received, Success, Taken}
use Rattle.fabric_uses.specs.declared.receiving.Cut.{Cut}
use Rattle.fabric_uses.specs.Uses.{Fills, HasBytesOf, HasLength, IsCalm, IsCut, IsCutBy, IsReceived, first_unread, has_multi, of_some, single, waiting}
use Rattle.fabric_uses.proofs.Posting.{booked, post_made}

-- ---- the next completion

-- where none of the list stands at this place, one that stands there of the longer list is the last
pub at_last : {X Y : Type 0} (xs : List X) (x : X) (f : X → Y) (y : Y) (k : ℕ) → of_some (slice_get xs k) f ≡ None → of_some (slice_get (xs ++ x ∷ []) k) f ≡ Some y → y ≡ f x
at_last [] x f y zero none is = cc (is)
at_last [] x f y (suc k) none is = absurd (cc (is))
at_last (z ∷ xs) x f y zero none is = absurd (cc (none))
at_last (z ∷ xs) x f y (suc k) none is = at_last xs x f y k none is

-- the entry of an arrival that is given to a receive
given_next : (r : Receive) (a : Arrival) (t : State) (e : Taken) → first_unread t.cq ≡ None → first_unread (give r 0 a t).cq ≡ Some e
    → (bytes : List ℕ) × (a.bytes ≡ Some bytes) × (e ≡ entry_of r 0 a.source a.head bytes)
unfolding give fill
given_next r a t e none is = by a.bytes refl
  where
    by : (o : Option (List ℕ)) → a.bytes ≡ o → (bytes : List ℕ) × (a.bytes ≡ Some bytes) × (e ≡ entry_of r 0 a.source a.head bytes)
    by None same = absurd (cc (none, rw same at is))
    by (Some bytes) same =
        let wrote = (booked (at_match a.head.ack) a (fill r 0 a.source a.head bytes t)).1 in
        let next : first_unread (writing (Some r.call) (entry_of r 0 a.source a.head bytes) t.cq) ≡ Some e = subst (λ (cq : Completions). first_unread cq ≡ Some e) wrote (rw same at is) in
        (bytes, same, at_last t.cq.written (record { call = Some r.call; entry = entry_of r 0 a.source a.head bytes }) (λ w. w.entry) e t.cq.taken_out none next)

post_next : (tag : ℕ) (buf : List ℕ) (ctx : ℕ) (s : State) (e : Taken) → first_unread s.cq ≡ None → first_unread (post s (single true tag buf ctx)).cq ≡ Some e
    → (a : Arrival) × (bytes : List ℕ) × (taken_by (receive_of s (single true tag buf ctx)) s ≡ Some a) × (a.bytes ≡ Some bytes) × (e ≡ entry_of (receive_of s (single true tag buf ctx)) 0 a.source a.head bytes)
unfolding post
post_next tag buf ctx s e none is = by (taken_by (receive_of s (single true tag buf ctx)) s) refl is
  where
    by : (o : Option Arrival) → taken_by (receive_of s (single true tag buf ctx)) s ≡ o → (let u : State = elim o [
      | None ↦ called (with_rx (joining_posted (receive_of s (single true tag buf ctx)) s.rx) s)
      | Some a ↦ give (receive_of s (single true tag buf ctx)) 0 a (called (with_rx (without_first (receive_of s (single true tag buf ctx)).want s.rx) s))
    ] in first_unread u.cq ≡ Some e)
        → (a : Arrival) × (bytes : List ℕ) × (taken_by (receive_of s (single true tag buf ctx)) s ≡ Some a) × (a.bytes ≡ Some bytes) × (e ≡ entry_of (receive_of s (single true tag buf ctx)) 0 a.source a.head bytes)
    by None same next = absurd (cc (none, next))
    by (Some a) same next =
        let (bytes, whole, entry) = given_next (receive_of s (single true tag buf ctx)) a (called (with_rx (without_first (receive_of s (single true tag buf ctx)).want s.rx) s)) e none next in
        (a, bytes, same, whole, entry)

-- ---- its entry

abbrev bytes_in : Taken → List ℕ
bytes_in (Success entry) = elim entry [ Received ctx source tag imm len buf ↦ buf | _ ↦ [] ]
bytes_in (Failure error) = []

abbrev placed_in : Taken → ℕ
placed_in (Success entry) = 0
placed_in (Failure error) = error.len

abbrev lost_in : Taken → ℕ
lost_in (Success entry) = 0
lost_in (Failure error) = error.olen

module _ (tag : ℕ) (buf : List ℕ) (ctx : ℕ) (s : State) (a : Arrival) (bytes : List ℕ) where
  filled : (entry : Entry) (got : List ℕ) → IsReceived entry got → Success entry ≡ entry_of (receive_of s (single true tag buf ctx)) 0 a.source a.head bytes → got ≡ paste buf 0 bytes
  unfolding entry_of received truncated
  filled entry got (c, source, t, imm, len, came) is = by (has_space (receive_of s (single true tag buf ctx)) 0 a.head) is
    where
      by : (b : Bool) → Success entry ≡ (let e : Taken = elim b [
        | true ↦ received (receive_of s (single true tag buf ctx)) 0 a.source a.head bytes
        | false ↦ truncated (receive_of s (single true tag buf ctx)) (length buf - 0) 0 a.source a.head bytes
      ] in e) → got ≡ paste buf 0 bytes
      by true same = ap (λ (e : Entry). bytes_in (Success e)) (sym came) ∙ ap bytes_in same
      by false same = absurd (cc (same))

  cut_to : (error : ErrEntry) → Failure error ≡ entry_of (receive_of s (single true tag buf ctx)) 0 a.source a.head bytes → (error.len ≡ length buf) × (error.len + error.olen ≡ a.head.total)
  unfolding entry_of received truncated
  cut_to error is = by (has_space (receive_of s (single true tag buf ctx)) 0 a.head) refl is
    where
      by : (b : Bool) → has_space (receive_of s (single true tag buf ctx)) 0 a.head ≡ b → Failure error ≡ (let e : Taken = elim b [
        | true ↦ received (receive_of s (single true tag buf ctx)) 0 a.source a.head bytes
        | false ↦ truncated (receive_of s (single true tag buf ctx)) (length buf - 0) 0 a.source a.head bytes
      ] in e) → (error.len ≡ length buf) × (error.len + error.olen ≡ a.head.total)
      by true space same = absurd (cc (same))
      by false space same =
          let placed : error.len ≡ length buf - 0 = ap placed_in same in
          let lost : error.olen ≡ a.head.total - (length buf - 0) = ap lost_in same in
          let short = leb-false a.head.total (length buf - 0) space in
          (omega (arith, placed), omega (arith, placed, lost, short))

-- ---- the receives

pub fills : {Home : Type 0} (tag : ℕ) (buf : List ℕ) (ctx : ℕ) (old mid : Seen Home) → ReceivesLate (receive_call true None tag 0 buf None ctx) old mid → (o : Option (List ℕ))
    → (has_multi mid.held.state.rx.posted ≡ false → IfSome o (λ got. (entry : Entry) × (first_unread mid.held.state.cq ≡ Some (Success entry)) × IsReceived entry got)) → IsCalm old → IfSome o (λ got. Fills buf got (waiting tag old))
fills tag buf ctx old mid late None told calm = tt
fills tag buf ctx old mid late (Some got) told calm =
    let (still, is) = post_made true tag buf ctx old mid late calm.0 in
    let (entry, next, came) = told still in
    let (a, bytes, takes, whole, wrote) = post_next tag buf ctx old.held.state (Success entry) calm.1 (subst (λ (s : State). first_unread s.cq ≡ Some (Success entry)) is next) in
    (a, bytes, takes, whole, filled tag buf ctx old.held.state a bytes entry got came wrote)

pub cuts : {Home : Type 0} (tag : ℕ) (buf : List ℕ) (ctx : ℕ) (old mid : Seen Home) → ReceivesLate (receive_call true None tag 0 buf None ctx) old mid → (o : Option Cut)
    → (has_multi mid.held.state.rx.posted ≡ false → IfSome o (λ cut. (error : ErrEntry) × (first_unread mid.held.state.cq ≡ Some (Failure error)) × IsCutBy cut error)) → IsCalm old → IfSome o (λ cut. IsCut cut buf (waiting tag old))
cuts tag buf ctx old mid late None told calm = tt
cuts tag buf ctx old mid late (Some cut) told calm =
    let (still, is) = post_made true tag buf ctx old mid late calm.0 in
    let (error, next, by) = told still in
    let (placed, lost) = by in
    let (a, bytes, takes, whole, wrote) = post_next tag buf ctx old.held.state (Failure error) calm.1 (subst (λ (s : State). first_unread s.cq ≡ Some (Failure error)) is next) in
    let (full, all) = cut_to tag buf ctx old.held.state a bytes error wrote in
    (a, takes, placed ∙ full, omega (arith, placed, lost, all))

-- ---- a look

pub told_len : (o : Option Arrival) (met : Option Probed) (len : Option ℕ) → met ≡ option_map probed_of o → len ≡ option_map (λ (m : Probed). m.len) met → IfSome len (λ n. HasLength o n)
told_len o met None is told = tt
told_len None met (Some n) is told = (let no : Some n ≡ None = told ∙ ap (λ (p : Option Probed). option_map (λ (m : Probed). m.len) p) is in absurd (cc (no)))
told_len (Some a) met (Some n) is told = (let same : Some n ≡ Some a.head.total = told ∙ ap (λ (p : Option Probed). option_map (λ (m : Probed). m.len) p) is in (a, refl, cc (same)))

-- a buffer that is as long as the bytes has them all
whole_in : (buf bytes : List ℕ) (n : ℕ) → length bytes ≤ n → length buf ≤ n → take 0 buf ++ take n bytes ++ drop (0 + n) buf ≡ bytes
whole_in buf bytes n short room =
    let taken = take_all n bytes short in
    let none : drop (0 + n) buf ≡ [] = drop_all (0 + n) buf (omega (arith, room)) in
    rw (taken, none, append-nil) refl

paste_whole : (buf bytes : List ℕ) → length bytes ≡ length buf → paste buf 0 bytes ≡ bytes
unfolding paste
paste_whole buf bytes same = whole_in buf bytes (min (length bytes) (length buf - 0)) (omega (arith, same)) (omega (arith, same))

has_bytes : (o : Option Arrival) (len : ℕ) (got : List ℕ) → HasLength o len → (buf : List ℕ) → length buf ≡ len → Fills buf got o → HasBytesOf got o
has_bytes o len got (b, is, long) buf size (a, bytes, takes, whole, put) =
    let same : b ≡ a = (let both : Some b ≡ Some a = sym is ∙ takes in cc (both)) in
    (a, bytes, takes, whole, λ all. put ∙ paste_whole buf bytes (all ∙ ap (λ (x : Arrival). x.head.total) (sym same) ∙ long ∙ sym size))

pub with_length : (buf : List ℕ) (len : ℕ) (o : Option Arrival) (r : Option (List ℕ)) → length buf ≡ len → IfSome r (λ got. Fills buf got o) → IfSome r (λ got. (b : List ℕ) × (length b ≡ len) × Fills b got o)
with_length buf len o None size put = tt
with_length buf len o (Some got) size put = (buf, size, put)

pub all_bytes : (o : Option Arrival) (len : ℕ) (r : Option (List ℕ)) → HasLength o len → IfSome r (λ got. (b : List ℕ) × (length b ≡ len) × Fills b got o) → IfSome r (λ got. HasBytesOf got o)
all_bytes o len None is put = tt
all_bytes o len (Some got) is (buf, size, put) = has_bytes o len got is buf size put
