-- The matching machine is patient: no step that stands minds what other peers do.
--     Within peers v s      what steps keep true of a peer's state, in this view
use Rattle.std.proofs.Common.{◌≡◌, ◌≤◌, ◌<◌, ◌+◌, ℕ, zero, suc, Bool, true, false, not, ◌&&◌, List, [], ◌∷◌, length, map, slice_get, set, get_or, Option, Some, None, option_map, inl, inr, refl, sym, ◌∙◌, ap, subst, arith, length-append}
use Rattle.std.specs.Prelude.{slice_index, is_none}
use Rattle.std.specs.List.{list_any}
use Rattle.std.specs.Option.{option_map_or}
use Rattle.std.proofs.lemmas.Bool.{cases_eq, and_parts, eqb-true, or_parts as neither}
use Rattle.std.proofs.lemmas.List.{length-map, length-replicate}
use Rattle.std.proofs.lemmas.Option.{slice_get_within, slice_get-map, slice_get-get_or}
use Rattle.fab_base.specs.declared.items.Item.{Item}
use Rattle.fab_base.specs.declared.operations.Receive.{Receive}
use Rattle.fab_base.specs.declared.peers.Step.{Step}
use Rattle.fab_base.specs.declared.peers.Step.TheVariants.{Do, Head, Tail, Draw, Final}
use Rattle.fab_base.specs.declared.faults.Fault.{Fault}
use Rattle.fab_base.specs.declared.script.Bound.{Bound}
use Rattle.fab_model.specs.Matching.{remove_first}
use Rattle.fab_model.specs.State.{State, accepted_for, raise, with_rx, with_tx, write, count, called}
use Rattle.fab_base.specs.declared.entries.ErrKind.TheVariants.{Canceled}
use Rattle.fab_base.specs.declared.entries.Class.TheVariants.{Recv}
use Rattle.fab_base.proofs.Bools.{not_true}
use Rattle.fab_base.proofs.Lists.{list_all_at, all_the_same}
use Rattle.fab_model.specs.Complete.{error}
use Rattle.fab_model.specs.Sending.{transmitting}
use Rattle.fab_model.specs.Receiving.{draws, draw_due, cancel, cancel_fault, cancellable, may_leave, without_posted}
use Rattle.fab_model.specs.Arrivals.{made_whole}
use Rattle.fab_model.specs.Calls.{CancelFirst, do_call, answer, upto}
use Rattle.fab_model.specs.Peers.{Actor, Facts, facts, with_state, all_below, has_all, is_calm, is_finished, next_line, fabric}
use Rattle.fab_model.specs.Replay.{newly, lines_of, opening}
use Rattle.fab_model.specs.Views.{View, More, seen}
use Rattle.fab_model.proofs.Parts.{get_or-set, map-set_same}
use Rattle.fab_model.proofs.Passes.{Passes}
use Rattle.fab_model.proofs.Grows.{StepIs, step_is, tails_of, grows}
use Rattle.fab_model.proofs.Waits.{waits}
use Rattle.fab_model.proofs.Views.{Patient, Sound}
use Rattle.fab_model.proofs.Elements.{length-upto}

-- there is a list for each peer at the most; nothing is whole before it is sent, or sent before it is accepted
pub record Within (peers : ℕ) (v : View Item) (s : State) : Type 0 where
  pub count : length s.tx.accepted ≤ peers
  pub whole : (source : ℕ) → slice_index s.rx.tails source ≤ v.sent source
  pub sent : (t : ℕ) → slice_index s.tx.sent t ≤ length (accepted_for s.tx t)

abbrev pub Own : ℕ → View Item → Actor → Type 0
Own peers v a = Within peers v a.state

-- ---- what steps keep

pub passes_within : (peers : ℕ) (v : View Item) (s u : State) → Passes s u → Within peers v s → Within peers v u
passes_within peers v s u passes within = record {
  count = omega (arith, passes.count, within.count);
  whole = λ source. omega (arith, within.whole source, ap (λ xs. slice_index xs source) passes.tails);
  sent = λ t.
      let more = passes.ready t in
      omega (arith, within.sent t, ap (λ xs. slice_index xs t) passes.sent, length-append (accepted_for s.tx t) more.0, ap length more.1);
}

pub raised : (xs : List ℕ) (t q most : ℕ) → slice_index xs q ≤ most → (t ≡ q → slice_index xs q < most) → slice_index (raise xs t) q ≤ most
raised xs t q most le lt = elim (get_or-set xs t q (slice_index xs t + 1) 0) [ inl e ↦ omega (arith, e, le) | inr e ↦ omega (arith, e.1, lt e.0, ap (slice_index xs) e.0) ]

pub whole_within : (peers : ℕ) (v : View Item) (s : State) (source : ℕ) → slice_index s.rx.tails source < v.sent source → Within peers v s → Within peers v (with_rx (made_whole source s.rx) s)
unfolding made_whole
whole_within peers v s source lt within = record {
  count = within.count;
  whole = λ q. raised s.rx.tails source q (v.sent q) (within.whole q) (λ e. subst (λ k. slice_index s.rx.tails k < v.sent k) e lt);
  sent = within.sent;
}

pub sent_within : (peers : ℕ) (v : View Item) (s : State) (t : ℕ) → slice_index s.tx.sent t < length (accepted_for s.tx t) → Within peers v s → Within peers v (with_tx (transmitting t s.tx) s)
unfolding transmitting
sent_within peers v s t lt within = record {
  count = within.count;
  whole = within.whole;
  sent = λ q. raised s.tx.sent t q (length (accepted_for s.tx q)) (within.sent q) (λ e. subst (λ k. slice_index s.tx.sent k < length (accepted_for s.tx k)) e lt);
}

owns : (peers : ℕ) (v : View Item) (a b : Actor) (x : Step) → Own peers v a → StepIs v a x b → Own peers v b
owns peers v a b Do own (line, has, passes) = passes_within peers v a.state b.state passes own
owns peers v a b (Head source) own (item, has, none, passes) = passes_within peers v a.state b.state passes own
owns peers v a b (Tail source) own (item, has, lt, passes) = passes_within peers v _ b.state passes (whole_within peers v a.state source lt own)
owns peers v a b (Step.Sent t) own (lt, passes) = passes_within peers v _ b.state passes (sent_within peers v a.state t lt own)
owns peers v a b Draw own (due, passes) = passes_within peers v a.state b.state passes own
owns peers v a b Step.Read own (same, passes) = passes_within peers v a.state b.state passes own
owns peers v a b Final own (calm, is, passes) = passes_within peers v a.state b.state passes own

owns_more : (peers : ℕ) (v w : View Item) (a : Actor) → More v w → Own peers v a → Own peers w a
owns_more peers v w a more own = record { count = own.count; whole = λ source. omega (arith, own.whole source, more.sent source); sent = own.sent }

-- ---- when all is calm

all_below_at : (test : ℕ → Bool) (n k : ℕ) → all_below test n ≡ true → k < n → test k ≡ true
all_below_at test zero k all lt = absurd (omega arith)
all_below_at test (suc n) k all lt = let b = and_parts _ _ all in elim (cases_eq k n) [ inl same ↦ ap test same ∙ b.1 | inr differ ↦ all_below_at test n k b.0 (omega arith) ]

facts_at : (states : List Actor) (p : ℕ) (a : Actor) → slice_get states p ≡ Some a → slice_get (map facts states) p ≡ Some (facts a)
facts_at states p a e = slice_get-map facts states p ∙ ap (λ o. option_map facts o) e

pub calm_done : (states : List Actor) (p : ℕ) (a : Actor) → is_calm (map facts states) ≡ true → slice_get states p ≡ Some a → (is_finished a ≡ true) × (draw_due a.state.rx ≡ false)
unfolding is_calm
calm_done states p a c e =
    let b = and_parts _ _ (list_all_at (λ f. f.finished && not f.draw_due) (map facts states) p (facts a) (and_parts _ _ c).0 (facts_at states p a e)) in
    (b.0, not_true _ b.1)

-- what the sender accepted for the receiver is whole there
pub calm_whole :
    (states : List Actor) (p q : ℕ) (sender receiver : Actor) → is_calm (map facts states) ≡ true → slice_get states p ≡ Some sender → slice_get states q ≡ Some receiver
    → tails_of receiver p ≡ length (accepted_for sender.state.tx q)
unfolding is_calm
calm_whole states p q sender receiver c e f =
    let all = map facts states in
    let at_p = all_below_at (λ k. all_below (has_all all k) (length all)) _ p (and_parts _ _ c).1 (slice_get_within all p (facts sender) (facts_at states p sender e)) in
    let at_q = all_below_at (has_all all p) _ q at_p (slice_get_within all q (facts receiver) (facts_at states q receiver f)) in
    eqb-true _ _ (rw (facts_at states p sender e, facts_at states q receiver f) at at_q)

-- who is seen to have an item ready is a peer
pub sender_is : (states : List Actor) (p source k : ℕ) (item : Item) → slice_get ((seen fabric states p).ready source) k ≡ Some item → (sender : Actor) × (slice_get states source ≡ Some sender) × (k < length (accepted_for sender.state.tx p))
unfolding fabric
sender_is states p source k item has = go (slice_get states source) refl has
  where
    go :
        (o : Option Actor) → slice_get states source ≡ o → slice_get (option_map_or (λ a. accepted_for a.state.tx p) o []) k ≡ Some item
        → (sender : Actor) × (slice_get states source ≡ Some sender) × (k < length (accepted_for sender.state.tx p))
    go None e has = absurd (cc)
    go (Some a) e has = (a, e, slice_get_within (accepted_for a.state.tx p) k item has)

-- what a receiver sees of how much is sent
whole_sent : (states : List Actor) (p t k : ℕ) (a : Actor) → slice_get states p ≡ Some a → k ≤ (seen fabric states t).sent p → k ≤ slice_index a.state.tx.sent t
unfolding fabric
whole_sent states p t k a e le = rw e at le

pub accepted_within : (accepted : List (List Item)) (t k : ℕ) → k < length (get_or accepted t []) → t < length accepted
accepted_within [] t k lt = absurd (omega arith)
accepted_within (x ∷ accepted) zero k lt = omega arith
accepted_within (x ∷ accepted) (suc t) k lt = let ih = accepted_within accepted t k lt in omega arith

-- ---- a final cancel

pub still_none : {X : Type 0} (test leaves : X → Bool) (xs : List X) → list_any test xs ≡ false → list_any test (remove_first leaves xs) ≡ false
still_none test leaves [] none = refl
still_none test leaves (x ∷ xs) none = go (leaves x) (neither (test x) (list_any test xs) none) (λ e. still_none test leaves xs e)
  where
    go :
        (left : Bool) → (test x ≡ false) × (list_any test xs ≡ false) → (list_any test xs ≡ false → list_any test (remove_first leaves xs) ≡ false)
        → list_any test (elim left [ true ↦ xs | false ↦ x ∷ remove_first leaves xs ]) ≡ false
    go true e rest = e.1
    go false e rest = rw (e.0, rest e.1) refl

-- what is asked of a peer where all is calm stays as it was
abbrev pub StaysCalm : State → State → Type 0
StaysCalm s u = (u.tx.accepted ≡ s.tx.accepted) × (u.rx.tails ≡ s.rx.tails) × (draw_due u.rx ≡ draw_due s.rx)

cancel_stays : (s : State) (test : Receive → Bool) → draw_due s.rx ≡ false → StaysCalm s (cancel s test)
unfolding cancel
cancel_stays s test none = go (cancellable test s.rx)
  where
    go : (o : Option Receive) → StaysCalm s (elim o [
      | None ↦ s
      | Some r ↦ write (Some r.call) (error (Some r.ctx) Canceled (Some r.buf)) (count Recv false (called (with_rx (without_posted test s.rx) s)))
    ])
    go None = (refl, refl, refl)
    go (Some r) = (refl, refl, still_none (draws s.rx.unexpected) (may_leave s.rx test) s.rx.posted none ∙ sym none)

fault_stays : (fault : Option Fault) (s after : State) → StaysCalm s after → StaysCalm s (answer fault s after).1
fault_stays None s after stays = stays
fault_stays (Some fault) s after stays = (refl, refl, refl)

facts_same : (done : Bool) (x x' : List (List Item)) (y y' : List ℕ) (z z' : Bool) → x' ≡ x → y' ≡ y → z' ≡ z
    → (let f : Facts = record { finished = done; accepted = x'; tails = y'; draw_due = z' } in f) ≡ (let f : Facts = record { finished = done; accepted = x; tails = y; draw_due = z } in f)
facts_same done x x' y y' z z' e f g = rw (e, f, g) refl

final_stays : (a b : Actor) → b ≡ with_state a (do_call a.state CancelFirst).1 → draw_due a.state.rx ≡ false → facts b ≡ facts a
unfolding do_call
final_stays a b is none =
    let stays = fault_stays (cancel_fault a.state (λ r. true)) a.state _ (cancel_stays a.state (λ r. true) none) in
    ap facts is ∙ facts_same (is_finished a) _ _ _ _ _ _ stays.0 stays.1 stays.2

-- ---- the whole

calm_stays :
    (peers : ℕ) (states : List Actor) (p : ℕ) (a b : Actor) (x : Step) → Sound fabric peers (Own peers) states → slice_get states p ≡ Some a → is_calm (map facts states) ≡ true → StepIs (seen fabric states p) a x b
    → is_calm (map facts (set states p b)) ≡ true
calm_stays peers states p a b Do sound e c (line, has, passes) = let none : is_none (next_line a) ≡ true = (calm_done states p a c e).0 in absurd (cc (has, none))
calm_stays peers states p a b (Head source) sound e c (item, has, none, passes) =
    let sender = sender_is states p source _ item has in
    absurd (omega (arith, none, sender.2, calm_whole states source p sender.0 a c sender.1 e))
calm_stays peers states p a b (Tail source) sound e c (item, has, lt, passes) =
    let sender = sender_is states p source _ item has in
    absurd (omega (arith, sender.2, calm_whole states source p sender.0 a c sender.1 e))
calm_stays peers states p a b (Step.Sent t) sound e c (lt, passes) =
    let there = accepted_within a.state.tx.accepted t _ lt in
    let other = slice_get-get_or states t a (omega (arith, there, (sound.own p a e).count, sound.count)) in
    let whole = whole_sent states p t _ a e ((sound.own t (get_or states t a) other).whole p) in
    absurd (omega (arith, lt, whole, calm_whole states p t a _ c e other))
calm_stays peers states p a b Draw sound e c (due, passes) = let none = (calm_done states p a c e).1 in absurd (cc (due, none))
calm_stays peers states p a b Step.Read sound e c (same, passes) = rw (map-set_same facts states p a b e same) c
calm_stays peers states p a b Final sound e c (calm, is, passes) = rw (map-set_same facts states p a b e (final_stays a b is (calm_done states p a c e).1)) c

pub fabric_patient : (peers : ℕ) → Patient fabric peers (Own peers)
unfolding fabric
fabric_patient peers = record {
  owns = λ v a b x own e. owns peers v a b x own (step_is v a b x e);
  owns_more = owns_more peers;
  grows = grows;
  waits = waits;
  calm_stays = λ states p a b x sound e c step. calm_stays peers states p a b x sound e c (step_is _ a b x step);
}

-- ---- the opening

pub mapped : {X Y : Type 0} (f : X → Y) (xs : List X) (k : ℕ) (y : Y) → slice_get (map f xs) k ≡ Some y → (x : X) × (y ≡ f x)
mapped f [] k y e = absurd (cc)
mapped f (x ∷ xs) zero y e = (x, cc)
mapped f (x ∷ xs) (suc k) y e = mapped f xs k y e

pub opening_sound : (b : Bound) → Sound fabric b.script.conf.peers (Own b.script.conf.peers) (opening b)
unfolding opening
opening_sound b =
    let conf = b.script.conf in
    let n = conf.peers in
    record {
      count = length-map (upto n) (λ p. newly conf (lines_of b p)) ∙ length-upto n;
      own = λ p a e. let f = mapped (λ p. newly conf (lines_of b p)) (upto n) p a e in rw (f.1) (record {
        count = omega (arith, length-replicate {A = List Item} n []);
        whole = λ source. omega (arith, all_the_same {X = ℕ} n source 0);
        sent = λ t. omega (arith, all_the_same {X = ℕ} n t 0);
      });
    }
