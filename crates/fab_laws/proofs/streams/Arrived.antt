-- What arrived of a source is the first of what it lets out; what is whole is the first of what arrived, and at rest both are all of it.
use Rattle.std.proofs.Common.{◌≡◌, ◌≢◌, ◌≤◌, ◌<◌, ◌+◌, ℕ, Bool, true, false, List, [], ◌∷◌, ◌++◌, length, take, drop, set, slice_get, Option, Some, None, inl, inr, refl, sym, ◌∙◌, ap, subst, arith, length-append}
use Rattle.std.specs.Prelude.{slice_index, ◌==◌}
use Rattle.std.proofs.lemmas.Bool.{eqb-true}
use Rattle.std.proofs.lemmas.Bool.Decides.{nat_tests}
use Rattle.std.proofs.lemmas.List.{length-take-le, take-append-drop, take-take, take_all}
use Rattle.std.proofs.lemmas.Option.{slice_get_within}
use Rattle.fab_base.specs.declared.items.Item.{Item}
use Rattle.fab_base.proofs.Lists.{all_the_same, take_one}
use Rattle.fab_model.specs.State.{State, accepted_for, raise}
use Rattle.fab_model.specs.Orders.{Turn}
use Rattle.fab_model.specs.Views.{More, View, seen}
use Rattle.fab_model.proofs.Parts.{get_or-set}
use Rattle.fab_model.proofs.Views as views
use Rattle.fab_laws.specs.Programs.{Deed, Makes, Counts, Head, Tail, Draw, Opening, Peer, program}
use Rattle.fab_laws.specs.Moments.{LeadTo}
use Rattle.fab_laws.specs.Completed.{operations_of}
use Rattle.fab_laws.specs.StreamLaws.{AllIsTaken, ArrivedIsFirst, ArrivedIsPosted, WholeHasArrived, arrived_from, arriving, whole_from}
use Rattle.fab_laws.proofs.Lists.{raise_here}
use Rattle.fab_laws.proofs.Memory.{remembered_keeps}
use Rattle.fab_laws.proofs.Programs.{Own, program_patient}
use Rattle.fab_laws.proofs.Rest.{rest_at}
use Rattle.fab_laws.proofs.Stepping.{StepIs, at_opening, step_is}
use Rattle.fab_laws.proofs.matching.Quiet.{sent_quiet, tail_quiet}
use Rattle.fab_laws.proofs.working.Costs.{call_adds, draw_falls, head_arrives}
use Rattle.fab_laws.proofs.replies.Stray.{AllOwed, all_owed, peer_of, sender_ready, turn_owed}
use Rattle.fab_laws.proofs.streams.Posted.{first_posted, posted_at}
use Rattle.fab_laws.proofs.streams.Taken.{more_taken, taken_at}

abbrev head_of : Peer → ℕ → ℕ
head_of a source = slice_index a.state.rx.heads source

-- the items are those that arrived, and all of them were let out
abbrev HasCome : ℕ → List Item → View Item → Peer → Type 0
HasCome source m v a = (m ≡ take (head_of a source) (v.ready source)) × (head_of a source ≤ length (v.ready source))

-- ---- in the view before

module _ (n source : ℕ) (v : View Item) (a b : Peer) (m : List Item) (count : length a.state.rx.heads ≡ n) (peer : (s k : ℕ) (item : Item) → slice_get (v.ready s) k ≡ Some item → s < n) (come : HasCome source m v a) where
  same_count : head_of b source ≡ head_of a source → HasCome source m v b
  same_count e = (come.0 ∙ ap (λ k. take k (v.ready source)) (sym e), omega (arith, e, come.1))

  same_heads : b.state.rx.heads ≡ a.state.rx.heads → HasCome source m v b
  same_heads e = same_count (ap (λ (xs : List ℕ). slice_index xs source) e)

  by_step : (x : Deed) → StepIs v a x b → HasCome source (arriving source v a x b m) v b
  by_step (Makes call) (inl (none, is)) = same_heads (ap (λ (s : State). s.rx.heads) is)
  by_step (Makes call) (inr (c, asks, is)) = same_heads (ap (λ (s : State). s.rx.heads) is ∙ (call_adds a.state c).heads)
  by_step (Counts counters) is = same_heads (ap (λ (s : State). s.rx.heads) is)
  by_step (Tail s) (item, has, odd, sent, is) = same_heads (ap (λ (s : State). s.rx.heads) is ∙ (tail_quiet a.state s item.head item.bytes).heads)
  by_step (Deed.Sent t) (less, is) = same_heads (ap (λ (s : State). s.rx.heads) is ∙ (sent_quiet a.state t).heads)
  by_step Draw (due, is) = same_heads (ap (λ (s : State). s.rx.heads) is ∙ (draw_falls a.state due).heads)
  by_step Deed.Read is = same_heads (ap (λ (s : State). s.rx.heads) is)
  by_step (Head s) (item, has, level, none, is) = go (s == source) refl
    where
      within : s < length a.state.rx.heads
      within = omega (arith, count, peer s (head_of a s) item has)

      now : b.state.rx.heads ≡ raise a.state.rx.heads s
      now = ap (λ (u : State). u.rx.heads) is ∙ (head_arrives a.state s item.head level within).heads

      go : (mine : Bool) → (s == source) ≡ mine
          → HasCome source (let m' : List Item = elim mine [ true ↦ elim (slice_get (v.ready s) (slice_index a.state.rx.heads s)) [ None ↦ m | Some item ↦ m ++ item ∷ [] ] | false ↦ m ] in m') v b
      go true e =
          let same : s ≡ source = eqb-true s source e in
          let has' : slice_get (v.ready source) (head_of a source) ≡ Some item = subst (λ k. slice_get (v.ready k) (head_of a k) ≡ Some item) same has in
          let up : head_of b source ≡ head_of a source + 1 =
          ap (λ (xs : List ℕ). slice_index xs source) now ∙ subst (λ k. slice_index (raise a.state.rx.heads k) source ≡ head_of a source + 1) (sym same)
          (raise_here a.state.rx.heads source (subst (λ k. k < length a.state.rx.heads) same within)) in (
            ap (λ (o : Option Item). elim o [ None ↦ m | Some item ↦ m ++ item ∷ [] ]) has
                ∙ ap (λ (xs : List Item). xs ++ item ∷ []) come.0 ∙ sym (take_one (v.ready source) (head_of a source) item has') ∙ ap (λ k. take k (v.ready source)) (sym up),
            omega (arith, up, slice_get_within (v.ready source) (head_of a source) item has'),
          )
      go false e =
          let other : s ≢ source = λ f. (let t : (s == source) ≡ true = grind (arith, nat_tests, f) in absurd (cc (t, e))) in
          same_count (ap (λ (xs : List ℕ). slice_index xs source) now ∙ elim (get_or-set a.state.rx.heads s source (head_of a s + 1) 0) [ inl f ↦ f | inr f ↦ absurd (other f.0) ])

-- ---- where more is seen

more_come : (source : ℕ) (m : List Item) (v w : View Item) (a : Peer) → More v w → HasCome source m v a → HasCome source m w a
more_come source m v w a more come =
    let r = more.ready source in (more_taken source (head_of a source) m v w more come.1 come.0, omega (arith, come.1, length-append (v.ready source) r.0, ap length r.1))

pub come_at : (from : Opening) (turns : List (Turn Deed)) (states : List Peer) → LeadTo from turns states → (p source : ℕ) (a : Peer) → slice_get states p ≡ Some a
    → HasCome source (arrived_from from.peers turns p source) (seen program states p) a
come_at from turns states leads p source a here = remembered_keeps (arriving source) p (AllOwed n) (λ m ss x. HasCome source m (seen program ss p) x) (turn_owed n)
    (λ ss m b c x good at ruled stood come. more_come source (arriving source (seen program ss p) b x c m) (seen program ss p) (seen program (set ss p c) p) c (views.sees_more program n (Own n) (program_patient n) ss p p b c x good.sound at stood)
    (by_step n source (seen program ss p) b c m (good.owed p b at).heads_count (peer_of n ss good p b at) come x (step_is (seen program ss p) b c x stood)))
    (λ ss m q b c x good at differ ruled come.
    let is = views.rule_is program ss q x c ruled in
    more_come source m (seen program ss p) (seen program (set ss q c) p) b (views.sees_more program n (Own n) (program_patient n) ss q p is.0 c x good.sound is.1 is.2) come)
    turns from.peers states [] (all_owed from [] from.peers refl)
    (λ x at. at_opening from (λ (s : State). ([] ≡ take (slice_index s.rx.heads source) ((seen program from.peers p).ready source)) × (slice_index s.rx.heads source ≤ length ((seen program from.peers p).ready source)))
    (λ conf av names. let none = all_the_same {X = ℕ} n source 0 in (ap (λ k. take k ((seen program from.peers p).ready source)) (sym none), omega (arith, none))) p x at) leads a here
  where
    n : ℕ
    n = length from.peers

-- ---- the laws

module _ (from : Opening) (turns : List (Turn Deed)) (states : List Peer) (leads : LeadTo from turns states) (p : ℕ) (a : Peer) (here : slice_get states p ≡ Some a) where
  -- all that arrived, of what a peer lets out
  arrived_is : (source : ℕ) (c : Peer) → slice_get states source ≡ Some c → (arrived_from from.peers turns p source ≡ take (head_of a source) (accepted_for c.state.tx p)) × (head_of a source ≤ length (accepted_for c.state.tx p))
  arrived_is source c at =
      let come = come_at from turns states leads p source a here in
      let e = sender_ready states p source c at in
      (come.0 ∙ ap (take (head_of a source)) e, omega (arith, come.1, ap length e))

  -- what is whole has arrived, all but one item at most
  behind : (source : ℕ) → (slice_index a.state.rx.tails source ≤ head_of a source) × (head_of a source ≤ slice_index a.state.rx.tails source + 1)
  behind source = elim (((all_owed from turns states leads).owed p a here).lanes source) [
    | inl idle ↦ (let level = idle.0 in (omega (arith, level), omega (arith, level)))
    | inr busy ↦ (let up = busy.0 in (omega (arith, up), omega (arith, up)))
  ]

pub arrived_is_first : ArrivedIsFirst
arrived_is_first from turns states leads p a here source c at =
    let e = (arrived_is from turns states leads p a here source c at).0 in
    (drop (head_of a source) (accepted_for c.state.tx p), ap (λ (xs : List Item). xs ++ drop (head_of a source) (accepted_for c.state.tx p)) e ∙ take-append-drop (head_of a source) (accepted_for c.state.tx p))

pub arrived_is_posted : ArrivedIsPosted
arrived_is_posted from turns states leads p a here source c at = first_posted (length from.peers) p (operations_of from.peers turns source).accepted c.state.tx (arrived_from from.peers turns p source) (arrived_is_first from turns states leads p a here source c at) (posted_at from turns states leads source c at)

pub whole_has_arrived : WholeHasArrived
whole_has_arrived from turns states leads p a here source = (
  (drop k arrived, ap (λ (xs : List Item). xs ++ drop k arrived) whole ∙ take-append-drop k arrived),
  omega (arith, b.1, ap length come.0 ∙ length-take-le (head_of a source) ready come.1, ap length taken ∙ length-take-le k ready (omega (arith, b.0, come.1))),
)
  where
    k : ℕ
    k = slice_index a.state.rx.tails source

    ready : List Item
    ready = (seen program states p).ready source

    arrived : List Item
    arrived = arrived_from from.peers turns p source

    b : (slice_index a.state.rx.tails source ≤ head_of a source) × (head_of a source ≤ slice_index a.state.rx.tails source + 1)
    b = behind from turns states leads p a here source

    come : HasCome source (arrived_from from.peers turns p source) (seen program states p) a
    come = come_at from turns states leads p source a here

    taken : whole_from from.peers turns p source ≡ take (slice_index a.state.rx.tails source) ((seen program states p).ready source)
    taken = taken_at from turns states leads p source a here

    whole : whole_from from.peers turns p source ≡ take (slice_index a.state.rx.tails source) (arrived_from from.peers turns p source)
    whole = taken ∙ sym (take-take k (head_of a source) ready b.0) ∙ ap (take k) (sym come.0)

pub all_is_taken : AllIsTaken
all_is_taken from turns states leads p a here source c at rest =
    let r = (rest_at states p a rest here).whole source c at in
    let arrived = arrived_is from turns states leads p a here source c at in
    let b = behind from turns states leads p a here source in
    let ready = sender_ready states p source c at in
    let full : head_of a source ≡ length (accepted_for c.state.tx p) = omega (arith, r, arrived.1, b.0) in
    let all : arrived_from from.peers turns p source ≡ accepted_for c.state.tx p = arrived.0 ∙ ap (λ k. take k (accepted_for c.state.tx p)) full ∙ take_all (length (accepted_for c.state.tx p)) (accepted_for c.state.tx p) (omega arith) in
    (taken_at from turns states leads p source a here ∙ ap (take (slice_index a.state.rx.tails source)) ready ∙ ap (λ k. take k (accepted_for c.state.tx p)) r ∙ take_all (length (accepted_for c.state.tx p)) (accepted_for c.state.tx p) (omega arith) ∙ sym all, all)
