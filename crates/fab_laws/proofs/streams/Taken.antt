-- What is whole of a source is the first of what it lets out, each item once.
use Rattle.std.proofs.Common.{◌≡◌, ◌≢◌, ◌≤◌, ◌<◌, ◌+◌, ℕ, Bool, true, false, List, [], ◌∷◌, ◌++◌, length, take, drop, set, get_or-set_same, slice_get, Option, Some, None, inl, inr, refl, sym, ◌∙◌, ap, subst, arith}
use Rattle.std.specs.Prelude.{slice_index, ◌==◌}
use Rattle.std.proofs.lemmas.Bool.{eqb-true}
use Rattle.std.proofs.lemmas.Bool.Decides.{nat_tests}
use Rattle.std.proofs.lemmas.List.{take-append-drop, take-append-le}
use Rattle.fab_base.specs.declared.items.Item.{Item}
use Rattle.fab_base.proofs.Lists.{all_the_same, take_one}
use Rattle.fab_model.specs.State.{State, accepted_for, raise}
use Rattle.fab_model.specs.Arrivals.{made_whole}
use Rattle.fab_model.specs.Orders.{Turn}
use Rattle.fab_model.specs.Views.{More, View, rule, seen}
use Rattle.fab_model.proofs.Parts.{get_or-set}
use Rattle.fab_model.proofs.Passes.{call_passes, draw_passes, head_passes, sent_passes, tail_passes}
use Rattle.fab_model.proofs.Views as views
use Rattle.fab_laws.specs.Programs.{Deed, Makes, Counts, Head, Tail, Draw, Opening, Peer, program}
use Rattle.fab_laws.specs.Moments.{LeadTo}
use Rattle.fab_laws.specs.StreamLaws.{TakenIsFirst, taking, whole_from}
use Rattle.fab_laws.proofs.Memory.{remembered_keeps}
use Rattle.fab_laws.proofs.Programs.{Own, program_patient}
use Rattle.fab_laws.proofs.Stepping.{StepIs, at_opening, step_is}
use Rattle.fab_laws.proofs.replies.Stray.{AllOwed, all_owed, peer_of, turn_owed}

abbrev tail_of : Peer → ℕ → ℕ
tail_of a source = slice_index a.state.rx.tails source

abbrev pub IsTaken : ℕ → List Item → View Item → Peer → Type 0
IsTaken source m v a = m ≡ take (tail_of a source) (v.ready source)

-- ---- in the view before

module _ (n source : ℕ) (v : View Item) (a b : Peer) (m : List Item) (count : length a.state.rx.tails ≡ n) (peer : (s k : ℕ) (item : Item) → slice_get (v.ready s) k ≡ Some item → s < n) (taken : IsTaken source m v a) where
  same_tails : b.state.rx.tails ≡ a.state.rx.tails → IsTaken source m v b
  same_tails e = taken ∙ ap (λ (xs : List ℕ). take (slice_index xs source) (v.ready source)) (sym e)

  by_step : (x : Deed) → StepIs v a x b → IsTaken source (taking source v a x b m) v b
  unfolding made_whole
  by_step (Makes call) (inl (none, is)) = same_tails (ap (λ (s : State). s.rx.tails) is)
  by_step (Makes call) (inr (c, asks, is)) = same_tails (ap (λ (s : State). s.rx.tails) is ∙ (call_passes a.state c).tails)
  by_step (Counts counters) is = same_tails (ap (λ (s : State). s.rx.tails) is)
  by_step (Head s) (item, has, level, none, is) = same_tails (ap (λ (s : State). s.rx.tails) is ∙ (head_passes a.state s item.head).tails)
  by_step (Deed.Sent t) (less, is) = same_tails (ap (λ (s : State). s.rx.tails) is ∙ (sent_passes a.state t).tails)
  by_step Draw (due, is) = same_tails (ap (λ (s : State). s.rx.tails) is ∙ (draw_passes a.state).tails)
  by_step Deed.Read is = same_tails (ap (λ (s : State). s.rx.tails) is)
  by_step (Tail s) (item, has, odd, sent, is) = go (s == source) refl
    where
      now : b.state.rx.tails ≡ raise a.state.rx.tails s
      now = ap (λ (u : State). u.rx.tails) is ∙ (tail_passes a.state s item.head item.bytes).tails

      go : (mine : Bool) → (s == source) ≡ mine
          → IsTaken source (let m' : List Item = elim mine [ true ↦ elim (slice_get (v.ready s) (slice_index a.state.rx.tails s)) [ None ↦ m | Some item ↦ m ++ item ∷ [] ] | false ↦ m ] in m') v b
      go true e =
          let same : s ≡ source = eqb-true s source e in
          let has' : slice_get (v.ready source) (tail_of a source) ≡ Some item = subst (λ k. slice_get (v.ready k) (tail_of a k) ≡ Some item) same has in
          let up : tail_of b source ≡ tail_of a source + 1 =
          ap (λ (xs : List ℕ). slice_index xs source) now ∙ subst (λ k. slice_index (raise a.state.rx.tails k) source ≡ tail_of a source + 1) (sym same)
          (get_or-set_same a.state.rx.tails source (tail_of a source + 1) 0 (omega (arith, count, peer source (tail_of a source) item has'))) in
          ap (λ (o : Option Item). elim o [ None ↦ m | Some item ↦ m ++ item ∷ [] ]) has
          ∙ ap (λ (xs : List Item). xs ++ item ∷ []) taken ∙ sym (take_one (v.ready source) (tail_of a source) item has') ∙ ap (λ k. take k (v.ready source)) (sym up)
      go false e =
          let other : s ≢ source = λ f. (let t : (s == source) ≡ true = grind (arith, nat_tests, f) in absurd (cc (t, e))) in
          let still : tail_of b source ≡ tail_of a source =
          ap (λ (xs : List ℕ). slice_index xs source) now ∙ elim (get_or-set a.state.rx.tails s source (tail_of a s + 1) 0) [ inl f ↦ f | inr f ↦ absurd (other f.0) ] in
          taken ∙ ap (λ k. take k (v.ready source)) (sym still)

-- ---- where more is seen

-- what is whole was let out
bounded : (n : ℕ) (states : List Peer) → AllOwed n states → (p : ℕ) (b : Peer) → Own n (seen program states p) b → (source : ℕ) → tail_of b source ≤ length ((seen program states p).ready source)
unfolding program
bounded n states all p b own source = go (slice_get states source) refl (own.whole source)
  where
    go : (o : Option Peer) → slice_get states source ≡ o → tail_of b source ≤ (seen program states p).sent source → tail_of b source ≤ length ((seen program states p).ready source)
    go None e le = rw e (rw e at le)
    go (Some c) e le = let less = (all.sound.own source c e).sent p in rw e (let le' = (rw e at le) in omega (arith, le', less))

pub more_taken : (source k : ℕ) (m : List Item) (v w : View Item) → More v w → k ≤ length (v.ready source) → m ≡ take k (v.ready source) → m ≡ take k (w.ready source)
more_taken source k m v w more le taken =
    let r = more.ready source in
    taken ∙ sym (take-append-le k (v.ready source) r.0 le) ∙ ap (take k) r.1

module _ (n source p : ℕ) where
  own : (states : List Peer) (m : List Item) (a b : Peer) (x : Deed) → AllOwed n states → slice_get states p ≡ Some a → rule program states p x ≡ Some b → program.step (seen program states p) a x ≡ Some b
      → IsTaken source m (seen program states p) a → IsTaken source (taking source (seen program states p) a x b m) (seen program (set states p b) p) b
  own states m a b x all here ruled stood taken =
      let v = seen program states p in
      let within = (program_patient n).owns v a b x (all.sound.own p a here) stood in
      more_taken source (tail_of b source) (taking source v a x b m) v (seen program (set states p b) p) (views.sees_more program n (Own n) (program_patient n) states p p a b x all.sound here stood)
      (bounded n states all p b within source) (by_step n source v a b m (all.owed p a here).tails_count (peer_of n states all p a here) taken x (step_is v a b x stood))

  other : (states : List Peer) (m : List Item) (q : ℕ) (a b : Peer) (x : Deed) → AllOwed n states → slice_get states p ≡ Some a → q ≢ p → rule program states q x ≡ Some b
      → IsTaken source m (seen program states p) a → IsTaken source m (seen program (set states q b) p) a
  other states m q a b x all here differ ruled taken =
      let is = views.rule_is program states q x b ruled in
      more_taken source (tail_of a source) m (seen program states p) (seen program (set states q b) p) (views.sees_more program n (Own n) (program_patient n) states q p is.0 b x all.sound is.1 is.2)
      (bounded n states all p a (all.sound.own p a here) source) taken

pub taken_at : (from : Opening) (turns : List (Turn Deed)) (states : List Peer) → LeadTo from turns states → (p source : ℕ) (a : Peer) → slice_get states p ≡ Some a
    → IsTaken source (whole_from from.peers turns p source) (seen program states p) a
taken_at from turns states leads p source a here = remembered_keeps (taking source) p (AllOwed (length from.peers)) (λ m ss x. IsTaken source m (seen program ss p) x) (turn_owed (length from.peers))
    (λ ss m b c x good at ruled stood taken. own (length from.peers) source p ss m b c x good at ruled stood taken)
    (λ ss m q b c x good at differ ruled taken. other (length from.peers) source p ss m q b c x good at differ ruled taken)
    turns from.peers states [] (all_owed from [] from.peers refl)
    (λ x at. at_opening from (λ (s : State). [] ≡ take (slice_index s.rx.tails source) ((seen program from.peers p).ready source)) (λ conf av names.
    ap (λ k. take k ((seen program from.peers p).ready source)) (sym (all_the_same {X = ℕ} (length from.peers) source 0))) p x at) leads a here

pub taken_is_first : TakenIsFirst
unfolding program
taken_is_first from turns states leads p a here source c at =
    let e : whole_from from.peers turns p source ≡ take (tail_of a source) (accepted_for c.state.tx p) = (let t = taken_at from turns states leads p source a here in rw at at t) in
    (drop (tail_of a source) (accepted_for c.state.tx p), ap (λ (xs : List Item). xs ++ drop (tail_of a source) (accepted_for c.state.tx p)) e ∙ take-append-drop (tail_of a source) (accepted_for c.state.tx p))
