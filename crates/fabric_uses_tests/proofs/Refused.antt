-- What bodies of these uses do that their clauses refuse.
--     wiped_first       bytes are wiped before they are injected: the message has others than stood there
--     counted_before    it is told that one more message is counted, and the count is what it was before the call
--     placed_as_lost    of a message longer than its buffer, what was placed is told for what was cut off
use Rattle.std.proofs.Common.{◌≡◌, ◌≢◌, ℕ, ◌+◌, ◌<◌, Bool, true, false, ◌&&◌, IsTrue, List, [], ◌∷◌, ◌++◌, append_assoc, append-nil, get_or, get_or-set_same, length, Option, Some, None, refl, sym, ap, ap₂, ◌∙◌, subst, subst₂, arith}
use Rattle.std.proofs.lemmas.List.{append_cancel_left, map-append}
use Rattle.std.proofs.lemmas.Option.{same_Some}
use Rattle.fab_base.specs.declared.entries.Class.TheVariants.{Send}
use Rattle.fab_base.specs.declared.items.Item.{Item}
use Rattle.fab_base.specs.declared.operations.Held.{Held}
use Rattle.fabric.specs.Acts.{Act, Did, GoesBy}
use Rattle.fabric.specs.Answers.{IsFull, Sends}
use Rattle.fabric.specs.Calls.{Transmit as TransmitCall, do_call}
use Rattle.fabric.specs.Cleared.{cleared}
use Rattle.fabric.specs.Held.{Held as Machine, Seen, next_frame}
use Rattle.fabric.specs.Sending.{Order, accepting, held_back, is_busy, item_of, items_of, let_out, letting_out, operation_of, transmit, transmit_fault, transmit_to}
use Rattle.fabric.specs.State.{State, accepted_for, held_for, lookup, tally_of}
use Rattle.fabric.specs.Words.{Arrival, Done, Inject, Msg}
use Rattle.fabric_uses.specs.declared.receiving.Cut.{Cut}
use Rattle.fabric_uses.specs.Uses.{IsCut, SendsCopy}
use Rattle.fabric_uses.proofs.Posting.{done as after_answer}

-- ---- what is sent, the clause `sent` of `inject_and_wipe`

-- the items for the peer t, those that a fence holds back the last
abbrev items_for : ℕ → State → List Item
items_for t s = accepted_for s.tx t ++ items_of (held_for s.tx t)

parts : (busy : Bool) (held : List Held) → let_out busy held ++ held_back busy held ≡ held
parts busy [] = refl
parts busy (o ∷ held) = by (parts true held) (busy && o.fence)
  where
    by : let_out true held ++ held_back true held ≡ held → (b : Bool)
        → elim b [ true ↦ [] | false ↦ o ∷ let_out true held ] ++ elim b [ true ↦ o ∷ held | false ↦ held_back true held ] ≡ o ∷ held
    by rest true = refl
    by rest false = ap (λ (xs : List Held). o ∷ xs) rest

-- the item of a call that is Ok is the last one for its peer
module _ (s : State) (order : Order) (t : ℕ) (at : lookup s.av order.dest ≡ Some t) (accepts : t < length s.tx.accepted) (holds : t < length s.tx.held) where
  behind : items_for t (transmit_to t s order) ≡ items_for t s ++ item_of s.tx.ops order ∷ []
  unfolding transmit_to accepting letting_out
  behind =
      let busy : Bool = is_busy s.tx t in
      let all : List Held = held_for s.tx t ++ operation_of s order ∷ [] in
      let out : List Held = let_out busy all in
      let back : List Held = held_back busy all in
      let item = λ (o : Held). o.item in
      ap₂ (λ (xs : List Item) (ys : List Held). xs ++ items_of ys) (get_or-set_same s.tx.accepted t (accepted_for s.tx t ++ items_of out) [] accepts)
      (get_or-set_same s.tx.held t back [] holds)
      ∙ append_assoc (accepted_for s.tx t) (items_of out) (items_of back)
      ∙ ap (λ (xs : List Item). accepted_for s.tx t ++ xs)
      (sym (map-append item out back) ∙ ap items_of (parts busy all) ∙ map-append item (held_for s.tx t) (operation_of s order ∷ []))
      ∙ sym (append_assoc (accepted_for s.tx t) (items_of (held_for s.tx t)) (item_of s.tx.ops order ∷ []))

  last_item : items_for t (transmit s order) ≡ items_for t s ++ item_of s.tx.ops order ∷ []
  unfolding transmit
  last_item = ap (λ (o : Option ℕ). items_for t (elim o [ None ↦ s | Some peer ↦ transmit_to peer s order ])) at ∙ behind

after_call : (s t : State) (order : Order) → do_call s (TransmitCall order) ≡ (Done, t) → t ≡ transmit s order
unfolding do_call
after_call s t order is = after_answer (transmit_fault s order) s (transmit s order) t is

module _ {Home : Type 0} (fixed : Bool) (dest t : ℕ) (old new : Seen Home) where
  -- there is no push, and nothing is posted behind what waits for the peer
  only_call : (IsFull old → ⊥) → lookup old.held.state.av dest ≡ Some t → next_frame old.held t ≢ None → (order : Order)
      → Sends fixed (TransmitCall order) dest old new → new.held.state ≡ transmit old.held.state order
  only_call free at waits order s =
      let none : s.before ≡ [] = no_push free s.before s.only_if_full in
      let same : old.held ≡ s.mid.held = subst (λ (acts : List Act). GoesBy None old.held acts s.mid.held) none s.till.goes in
      let after : s.after ≡ [] = s.behind t at (subst (λ (h : Machine). next_frame h t ≢ None) same waits) in
      let goes : GoesBy (Some (TransmitCall order)) old.held (Did ∷ []) new.held =
      subst₂ (λ (before after : List Act). GoesBy (Some (TransmitCall order)) old.held (before ++ Did ∷ after) new.held) none after s.went.goes in
      ap (λ (h : Machine). h.state) (sym goes.2) ∙ after_call old.held.state goes.0.state order goes.1.0
    where
      no_push : (IsFull old → ⊥) → (acts : List Act) → (acts ≢ [] → IsFull old) → acts ≡ []
      no_push free [] full = refl
      no_push free (act ∷ acts) full = absurd (free (full (λ none. absurd (cc none))))

-- the call that injects these bytes
copied : ℕ → List ℕ → Order
copied dest bytes = record {
  kind = Msg;
  injected = true;
  dest = dest;
  tag = 0;
  imm = None;
  key = 0;
  at = 0;
  count = 0;
  atom = None;
  bytes = bytes;
  compared = [];
  ctx = None;
  level = Inject;
  completion = false;
  fence = false;
  buf = Some bytes;
}

-- an entry is free, and something waits for the peer
pub wiped_first : {Home : Type 0} (fixed : Bool) (dest t : ℕ) (old new : Seen Home) (bytes wiped : List ℕ)
    → (IsFull old → ⊥) → lookup old.held.state.av dest ≡ Some t
    → next_frame old.held t ≢ None → t < length old.held.state.tx.accepted → t < length old.held.state.tx.held
    → SendsCopy fixed dest bytes old new → wiped ≢ bytes → SendsCopy fixed dest wiped old new → ⊥
unfolding copied
wiped_first fixed dest t old new bytes wiped free at waits accepts holds sent differ told =
    let s : State = old.held.state in
    let first : Item = item_of s.tx.ops (copied dest bytes) in
    let second : Item = item_of s.tx.ops (copied dest wiped) in
    let one : new.held.state ≡ transmit s (copied dest bytes) = only_call fixed dest t (cleared old) new free at waits (copied dest bytes) sent in
    let other : new.held.state ≡ transmit s (copied dest wiped) = only_call fixed dest t (cleared old) new free at waits (copied dest wiped) told in
    let both : first ∷ [] ≡ second ∷ [] =
    append_cancel_left (items_for t s) (first ∷ []) (second ∷ [])
    (sym (last_item s (copied dest bytes) t at accepts holds) ∙ ap (items_for t) (sym one ∙ other) ∙ last_item s (copied dest wiped) t at accepts holds) in
    let same : bytes ++ [] ≡ wiped ++ [] = ap (λ (items : List Item). (get_or items 0 first).bytes) both in
    differ (sym (append-nil wiped) ∙ sym same ∙ append-nil bytes)

-- ---- what is counted, the clause of `send_counted`

pub counted_before : {Home : Type 0} (old new : Seen Home) (result : Bool)
    → (IsTrue result → (tally_of old.held.state.counters Send).ok < (tally_of new.held.state.counters Send).ok)
    → result ≡ true → (tally_of new.held.state.counters Send).ok ≡ (tally_of old.held.state.counters Send).ok → ⊥
counted_before old new result more told same = let less = more told in omega (arith, less, same)

-- ---- what was cut off, the clause of `receive_cut`

pub placed_as_lost : (cut : Cut) (buf : List ℕ) (message : Option Arrival) (a : Arrival) → IsCut cut buf message → message ≡ Some a
    → a.head.total ≢ length buf + length buf
    → cut.lost ≡ cut.placed → ⊥
placed_as_lost cut buf message a is came differ told =
    let same : is.0 ≡ a = same_Some is.0 a (sym is.1 ∙ came) in
    let total : is.0.head.total ≡ a.head.total = ap (λ (x : Arrival). x.head.total) same in
    let placed = is.2 in
    let all = is.3 in
    differ (omega (arith, total, placed, all, told))
