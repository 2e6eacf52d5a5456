-- A round in which nothing moved: no peer can do anything, and nothing is on its way. So the peers are at rest.
use Rattle.std.proofs.Common.{◌≡◌, ◌≢◌, ◌<◌, ◌≤◌, ◌+◌, ℕ, zero, suc, true, false, not, List, [], ◌∷◌, ◌++◌, length, take, drop, map, Option, Some, None, inl, inr, refl, sym, ap, subst, ◌∙◌, arith, append-nil}
use Rattle.std.specs.Prelude.{◌==◌, slice_get, slice_index}
use Rattle.std.proofs.lemmas.Bool.{and_from, cases_lt}
use Rattle.std.proofs.lemmas.Bool.Decides.{nat_tests}
use Rattle.std.proofs.lemmas.List.{take-append-drop}
use Rattle.std.proofs.lemmas.Option.{slice_get_within}
use Rattle.fab_base.specs.declared.frames.Frame.{Frame}
use Rattle.fab_link.specs.Joined.{joined}
use Rattle.fab_link.specs.Plain.{Lane, left, in_of, out_of}
use Rattle.fab_model.specs.State.{accepted_for}
use Rattle.fab_model.specs.Peers.{Actor, fabric, do_next}
use Rattle.fab_model.specs.Receiving.{draw_due}
use Rattle.fab_model.specs.Replay.{can_do, agree_all, all_idle, at_rest}
use Rattle.fab_face.specs.Held.{next_frame}
use Rattle.fab_peer.specs.Turns.{IsStill as IsStillAfter}
use Rattle.fab_peer.proofs.Agreeing.{sent_within}
use Rattle.fab_base.specs.declared.peers.Step.{Step}
use Rattle.fab_base.proofs.Lists.{none_past}
use Rattle.fab_model.specs.Orders.{Reached}
use Rattle.fab_model.specs.Views.{rule}
use Rattle.fab_ep.proofs.Accepting.{none_item as no_item}
use Rattle.fab_finish.specs.Joined.{Member, told_of, member_actor, actors, schedules, lane, IsJoined, GoesOn, IsStill, IsStillAt, AreStill}
use Rattle.fab_finish.specs.Rests.{Rest}
use Rattle.fab_finish.proofs.Joining.{lane_is}

-- ---- one peer

-- a plain port is never full, and of what it saw empty all is taken
pub still_plain : (a b : Member) → IsStillAfter (told_of a) (told_of b) → IsStill b
still_plain a b still = record {
  held = still.held;
  read = still.read;
  draws = still.idle.draws;
  taken = λ s below. (let e = still.idle.empty s below in e.all);
  sent = λ d below. by_next d below (next_frame b.endpoint.held d) refl;
}
  where
    by_next : (d : ℕ) → d < length b.endpoint.port.lanes → (o : Option Frame) → next_frame b.endpoint.held d ≡ o → next_frame b.endpoint.held d ≡ None
    by_next d below None e = e
    by_next d below (Some f) e =
        let full = still.idle.full d below (λ none. cc (e, none)) in
        absurd (elim full.rose [
          | inl r ↦ elim r [ inl less ↦ omega (arith, less) | inr same ↦ (let last = same.1 in omega (arith, last)) ]
          | inr r ↦ elim r [ inl less ↦ omega (arith, less) | inr same ↦ (let last = same.1 in omega (arith, last)) ]
        ])

-- after one more turn
pub still_next : (ps qs : List Member) (n k : ℕ) → ((j : ℕ) → j ≢ n → slice_get qs j ≡ slice_get ps j) → (k < n → IsStillAt ps k) → IsStillAt qs n → k < n + 1 → IsStillAt qs k
still_next ps qs n k others before here below = elim (cases_lt k n) [
  | inl less ↦ (λ p has. before less p (sym (others k (λ e. omega (arith, e, less))) ∙ has))
  | inr past ↦ (let is : n ≡ k = omega (arith, past, below) in subst (IsStillAt qs) is here)
]

-- after the turns of all peers
pub still_all : (ps : List Member) (n : ℕ) → length ps ≤ n → ((k : ℕ) → k < n → IsStillAt ps k) → (k : ℕ) → IsStillAt ps k
still_all ps n all each k p has = each k (omega (arith, slice_get_within ps k p has, all)) p has

-- ---- what is carried

-- carrying takes no step
pub goes_carried : (ps qs : List Member) → actors qs ≡ actors ps → schedules qs ≡ schedules ps → GoesOn ps qs
goes_carried ps qs same steps first reached =
    subst (λ (x : List (List Step)). Reached (rule fabric) first x (actors qs)) (sym steps) (subst (λ (x : List Actor). Reached (rule fabric) first (schedules ps) x) (sym same) reached)

-- nothing was carried
pub still_carried : (ps qs : List Member) (n : ℕ) → length ps ≤ n → ((k : ℕ) → k < n → IsStillAt ps k) → qs ≡ ps → ((s r : ℕ) → s < length qs → r < length qs → left (lane qs s r) ≡ []) → AreStill qs
still_carried ps qs n all each same none = record {
  each = subst (λ (x : List Member). (k : ℕ) → IsStillAt x k) (sym same) (still_all ps n all each);
  carried = none;
}

-- ---- all peers

-- the member that a list's image shows
pub mapped : {X Y : Type 0} (f : X → Y) (xs : List X) (k : ℕ) (y : Y) → slice_get (map f xs) k ≡ Some y → (x : X) × (slice_get xs k ≡ Some x) × (f x ≡ y)
mapped f [] k y e = absurd (cc)
mapped f (x ∷ xs) zero y e = (x, refl, cc)
mapped f (x ∷ xs) (suc k) y e = mapped f xs k y e

module _ (ps : List Member) (joined_ps : IsJoined ps) (still : AreStill ps) where
  -- all that was accepted is sent
  sent_all : (s p : ℕ) (b : Member) → slice_get ps s ≡ Some b → p < length ps → slice_index b.endpoint.held.state.tx.sent p ≡ length (accepted_for b.endpoint.held.state.tx p)
  sent_all s p b has below =
      let own = joined_ps.own s b has in
      let calm = still.each s b has in
      let none = no_item b.endpoint.held p (calm.sent p (omega (arith, below, own.lanes))) in
      let past = none_past (accepted_for b.endpoint.held.state.tx p) (slice_index b.endpoint.held.state.tx.sent p) none in
      let within = sent_within (length ps) b.endpoint.held _ _ p own.agrees in
      omega (arith, past, within)

  -- all that was posted is taken
  taken_all : (p s : ℕ) (a b : Member) → slice_get ps p ≡ Some a → slice_get ps s ≡ Some b → joined_ps.ins p s ++ (in_of a.endpoint.port s).taken ≡ joined_ps.outs s p ++ (out_of b.endpoint.port p).frames
  taken_all p s a b ha hb =
      let own = joined_ps.own p a ha in
      let in_s : s < length ps = slice_get_within ps s b hb in
      let in_p : p < length ps = slice_get_within ps p a ha in
      let took = (still.each p a ha).taken s (omega (arith, in_s, own.lanes)) in
      let gone : drop (lane ps s p).moved (lane ps s p).out.frames ≡ [] = still.carried s p in_s in_p in
      let all : take (lane ps s p).moved (lane ps s p).out.frames ≡ (lane ps s p).out.frames =
      sym (append-nil _) ∙ ap (λ fs. take (lane ps s p).moved (lane ps s p).out.frames ++ fs) (sym gone) ∙ take-append-drop (lane ps s p).moved (lane ps s p).out.frames in
      ap (λ fs. joined_ps.ins p s ++ fs) (took ∙ ap (λ (l : Lane). l.in_list) (sym (lane_is ps p s a ha))) ∙ joined_ps.came s p in_p ∙ ap (λ fs. joined_ps.outs s p ++ fs) (all ∙ ap (λ (l : Lane). l.out.frames) (lane_is ps s p b hb))

  whole_all : (p s : ℕ) (a b : Member) → slice_get ps p ≡ Some a → slice_get ps s ≡ Some b → slice_index a.endpoint.held.state.rx.tails s ≡ length (accepted_for b.endpoint.held.state.tx p)
  whole_all p s a b ha hb =
      let own_a = joined_ps.own p a ha in
      let own_b = joined_ps.own s b hb in
      sym (own_a.agrees.tails s) ∙ ap (λ fs. length (joined fs).whole) (taken_all p s a b ha hb) ∙ own_b.agrees.sent p ∙ sent_all s p b hb (slice_get_within ps p a ha)

  held_line : (a : Actor) → do_next a ≡ None → can_do a ≡ false
  held_line a none = rw (none, can_do) refl

  pub rests : Rest (actors ps)
  rests = record {
    read = λ p x has. (let m = mapped member_actor ps p x has in let calm = still.each p m.0 m.1 in subst (λ (y : Actor). y.state.cq.taken_out ≡ length y.state.cq.written) m.2 calm.read);
    draws = λ p x has. (let m = mapped member_actor ps p x has in let calm = still.each p m.0 m.1 in subst (λ (y : Actor). draw_due y.state.rx ≡ false) m.2 calm.draws);
    lines = λ p x has. (let m = mapped member_actor ps p x has in let calm = still.each p m.0 m.1 in subst (λ (y : Actor). can_do y ≡ false) m.2 (held_line (member_actor m.0) calm.held));
    whole = λ p s x y has there. (
        let m = mapped member_actor ps p x has in
        let n = mapped member_actor ps s y there in
        subst (λ (z : Actor). slice_index z.state.rx.tails s ≡ length (accepted_for y.state.tx p)) m.2
        (subst (λ (z : Actor). slice_index (member_actor m.0).state.rx.tails s ≡ length (accepted_for z.state.tx p)) n.2 (whole_all p s m.0 n.0 m.1 n.1)));
    sent = λ p s x y has there. (
        let m = mapped member_actor ps p x has in
        let n = mapped member_actor ps s y there in
        subst (λ (z : Actor). slice_index z.state.tx.sent p ≡ length (accepted_for z.state.tx p)) n.2 (sent_all s p n.0 n.1 (slice_get_within ps p m.0 m.1)));
  }

-- ---- the test

from_start : (all : List Actor) (k : ℕ) (x : Actor) → slice_get all k ≡ Some x → slice_get all (0 + k) ≡ Some x
from_start all k x e = subst (λ i. slice_get all i ≡ Some x) (omega arith) e

eq_self : (n m : ℕ) → n ≡ m → (n == m) ≡ true
eq_self n m e = grind (arith, nat_tests)

agrees : (all : List Actor) (p s : ℕ) (a : Actor) (senders : List Actor) → Rest all → slice_get all p ≡ Some a → ((k : ℕ) (x : Actor) → slice_get senders k ≡ Some x → slice_get all (s + k) ≡ Some x)
    → agree_all p s a senders ≡ true
agrees all p s a [] rest has each = refl
agrees all p s a (x ∷ senders) rest has each =
    let there : slice_get all s ≡ Some x = subst (λ k. slice_get all k ≡ Some x) (omega arith) (each 0 x refl) in
    and_from _ _ (and_from _ _ (eq_self _ _ (rest.whole p s a x has there)) (eq_self _ _ (rest.sent p s a x has there)))
    (agrees all p (s + 1) a senders rest has (λ k y e. subst (λ i. slice_get all i ≡ Some y) (omega arith) (each (suc k) y e)))

idles : (all : List Actor) (p : ℕ) (some : List Actor) → Rest all → ((k : ℕ) (x : Actor) → slice_get some k ≡ Some x → slice_get all (p + k) ≡ Some x) → all_idle all p some ≡ true
idles all p [] rest each = refl
idles all p (a ∷ some) rest each =
    let has : slice_get all p ≡ Some a = subst (λ k. slice_get all k ≡ Some a) (omega arith) (each 0 a refl) in
    let draws : not (draw_due a.state.rx) ≡ true = ap not (rest.draws p a has) in
    let lines : not (can_do a) ≡ true = ap not (rest.lines p a has) in
    and_from _ _
    (and_from _ _ (and_from _ _ (and_from _ _ (agrees all p 0 a all rest has (from_start all)) (eq_self _ _ (rest.read p a has))) draws) lines)
    (idles all (p + 1) some rest (λ k y e. subst (λ i. slice_get all i ≡ Some y) (omega arith) (each (suc k) y e)))

pub rest_is : (all : List Actor) → Rest all → at_rest all ≡ true
unfolding at_rest
rest_is all rest = idles all 0 all rest (from_start all)
