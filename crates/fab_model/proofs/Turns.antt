-- Peers whose steps don't disturb one another: every order of the turns ends as the replay does.
use Rattle.std.proofs.Common.{◌≡◌, ◌≢◌, ◌≤◌, ◌<◌, ◌+◌, ℕ, zero, suc, List, [], ◌∷◌, length, slice_get, set, Option, Some, None, ◌⊎◌, inl, inr, refl, sym, ◌∙◌, ap, ap₂, subst, subst₂, arith, length-set, option_map}
use Rattle.std.proofs.lemmas.List.{set_comm}
use Rattle.std.proofs.lemmas.List.Sums.{sum_by-set}
use Rattle.std.proofs.lemmas.Option.{slice_get_within, get_or_from_slice_get, slice_get_past}
use Rattle.fab_model.specs.Orders.{Moment, steps_left, turn_with, turn, lowest, replay_for, replay}
use Rattle.fab_model.specs.Laws.{Run, AtEnd}
use Rattle.fab_model.proofs.Confluence.{Exchange, replay_is_end, at_end, none_or_some, lowest_some}

pub slice_get-set_other : {X : Type 0} (xs : List X) (i j : ℕ) (x : X) → i ≢ j → slice_get (set xs i x) j ≡ slice_get xs j
slice_get-set_other [] i j x differ = refl
slice_get-set_other (y ∷ xs) zero zero x differ = absurd (differ refl)
slice_get-set_other (y ∷ xs) zero (suc j) x differ = refl
slice_get-set_other (y ∷ xs) (suc i) zero x differ = refl
slice_get-set_other (y ∷ xs) (suc i) (suc j) x differ = slice_get-set_other xs i j x (λ e. differ (ap suc e))

pub slice_get-set_same : {X : Type 0} (xs : List X) (i : ℕ) (x : X) → i < length xs → slice_get (set xs i x) i ≡ Some x
slice_get-set_same [] i x lt = absurd (omega arith)
slice_get-set_same (y ∷ xs) zero x lt = refl
slice_get-set_same (y ∷ xs) (suc i) x lt = slice_get-set_same xs i x (omega arith)

-- a state after a write: the one written, or the one before
pub slice_get-set : {X : Type 0} (xs : List X) (i j : ℕ) (x y : X) → slice_get (set xs i x) j ≡ Some y → (slice_get xs j ≡ Some y) ⊎ ((i ≡ j) × (y ≡ x))
slice_get-set [] i j x y e = absurd (cc)
slice_get-set (z ∷ xs) zero zero x y e = inr (refl, cc)
slice_get-set (z ∷ xs) zero (suc j) x y e = inl e
slice_get-set (z ∷ xs) (suc i) zero x y e = inl e
slice_get-set (z ∷ xs) (suc i) (suc j) x y e = elim (slice_get-set xs i j x y e) [ inl f ↦ inl f | inr f ↦ inr (ap suc f.0, f.1) ]

-- what is asked of the rule, at states of a kind that steps keep: a step that stands keeps standing while another peer takes one, and does the same then
pub record Commutes {S Step : Type 0} (rule : List S → ℕ → Step → Option S) (Sound : List S → Type 0) : Type 0 where
  pub keeps : (states : List S) (p : ℕ) (a : Step) (s : S) → Sound states → rule states p a ≡ Some s → Sound (set states p s)
  pub still : (states : List S) (p q : ℕ) (a b : Step) (s t : S) → Sound states → p ≢ q → rule states p a ≡ Some s → rule states q b ≡ Some t → rule (set states p s) q b ≡ Some t

-- the moment after a step
abbrev pub moved : {S Step : Type 0} → Moment S Step → ℕ → S → List Step → Moment S Step
moved m p s rest = record { states = set m.states p s; left = set m.left p rest }

-- of the moments: the states are sound, and there are lists for this number of peers
abbrev pub SoundMoment : {S Step : Type 0} → (List S → Type 0) → ℕ → Moment S Step → Type 0
SoundMoment Sound peers m = Sound m.states × (length m.left ≡ peers)

-- a turn is taken exactly where the peer has a next step that stands
module _ {S Step : Type 0} (rule : List S → ℕ → Step → Option S) where
  pub turn_taken : (m : Moment S Step) (p : ℕ) (a : Step) (rest : List Step) (s : S) → slice_get m.left p ≡ Some (a ∷ rest) → rule m.states p a ≡ Some s → turn rule m p ≡ Some (moved m p s rest)
  turn_taken m p a rest s here stands = rw (here, stands) refl

  abbrev pub TurnIs : Moment S Step → ℕ → Moment S Step → Type 0
  TurnIs m p x = (a : Step) × (rest : List Step) × (s : S) × (slice_get m.left p ≡ Some (a ∷ rest)) × (rule m.states p a ≡ Some s) × (x ≡ moved m p s rest)

  pub turn_is : (m x : Moment S Step) (p : ℕ) → turn rule m p ≡ Some x → TurnIs m p x
  turn_is m x p t = go (slice_get m.left p) refl t
    where
      stood : (a : Step) (rest : List Step) (o : Option S) → slice_get m.left p ≡ Some (a ∷ rest) → rule m.states p a ≡ o → option_map (λ s. moved m p s rest) o ≡ Some x → TurnIs m p x
      stood a rest None here stands t = absurd (cc)
      stood a rest (Some s) here stands t = (a, rest, s, here, stands, cc)

      go : (o : Option (List Step)) → slice_get m.left p ≡ o → turn_with rule m p o ≡ Some x → TurnIs m p x
      go None here t = absurd (cc)
      go (Some []) here t = absurd (cc)
      go (Some (a ∷ rest)) here t = stood a rest (rule m.states p a) here refl t

  -- a turn uses one step
  turn_uses : (m x : Moment S Step) (p : ℕ) → turn rule m p ≡ Some x → suc (steps_left x) ≡ steps_left m
  turn_uses m x p t =
      let is = turn_is m x p t in
      let sums = sum_by-set length m.left p is.1 [] (slice_get_within m.left p (is.0 ∷ is.1) is.3) in
      let size = ap length (get_or_from_slice_get m.left p (is.0 ∷ is.1) [] is.3) in
      omega (arith, sums, size, ap steps_left is.5)

  pub run_uses : (order : List ℕ) (m x : Moment S Step) → Run (turn rule) m order x → length order + steps_left x ≡ steps_left m
  run_uses [] m x run = omega (arith, ap steps_left run)
  run_uses (p ∷ order) m x run = omega (arith, turn_uses m run.0 p run.1, run_uses order run.0 x run.2)

module _ {S Step : Type 0} (rule : List S → ℕ → Step → Option S) (Sound : List S → Type 0) (law : Commutes rule Sound) where
  pub exchange : (peers : ℕ) → Exchange (turn rule) peers (SoundMoment Sound peers)
  exchange peers = record {
    keeps = λ m x p sound t. let is = turn_is rule m x p t in
        subst (SoundMoment Sound peers) (sym (is.5)) (law.keeps m.states p is.0 is.2 sound.0 is.4, length-set m.left p is.1 ∙ sound.1);
    swap = λ m x y p q sound differ t u.
        let i = turn_is rule m x p t in
        let j = turn_is rule m y q u in
        let differ' : q ≢ p = (λ e. differ (sym e)) in
        let z : Moment S Step = moved (moved m p i.2 i.1) q j.2 j.1 in
        let z' : Moment S Step = moved (moved m q j.2 j.1) p i.2 i.1 in
        let same : z' ≡ z = ap₂ (λ (ss : List S) (ls : List (List Step)). let w : Moment S Step = record { states = ss; left = ls } in w) (set_comm m.states q p j.2 i.2 differ') (set_comm m.left q p j.1 i.1 differ') in (
          z,
          subst (λ w. turn rule w q ≡ Some z) (sym (i.5)) (turn_taken rule (moved m p i.2 i.1) q j.0 j.1 j.2 (slice_get-set_other m.left p q i.1 differ ∙ j.3) (law.still m.states p q i.0 j.0 i.2 j.2 sound.0 differ i.4 j.4)),
          subst₂ (λ w v. turn rule w p ≡ Some v) (sym (j.5)) same (turn_taken rule (moved m q j.2 j.1) p i.0 i.1 i.2 (slice_get-set_other m.left q p j.1 differ' ∙ i.3) (law.still m.states q p j.0 i.0 j.2 i.2 sound.0 differ' j.4 i.4)),
        );
    outside = λ m p sound past. let none : slice_get m.left p ≡ None = slice_get_past m.left p (omega arith) in rw none refl;
  }

  -- every order of turns that goes on to the end ends where the replay does
  pub confluence : (m x : Moment S Step) (order : List ℕ) → Sound m.states → Run (turn rule) m order x → AtEnd (turn rule) x → replay rule m ≡ x
  confluence m x order sound run end = replay_is_end (turn rule) (length m.left) (SoundMoment Sound (length m.left)) (exchange (length m.left)) (steps_left m) order m x (sound, refl) run end (omega (arith, run_uses rule order m x run))

  -- the replay goes on until no peer can take a step
  replay_for_ends : (peers turns : ℕ) (m : Moment S Step) → SoundMoment Sound peers m → steps_left m ≤ turns → AtEnd (turn rule) (replay_for (turn rule) peers turns m)
  replay_for_ends peers zero m sound enough = at_end (turn rule) peers (SoundMoment Sound peers) (exchange peers) m sound
      (elim (none_or_some (lowest (turn rule m) peers)) [
        | inl none ↦ none
        | inr some ↦ let here = lowest_some (turn rule m) peers some.0 some.1 in absurd (omega (arith, turn_uses rule m some.0 here.0 here.1))
      ])
  replay_for_ends peers (suc turns) m sound enough =
      elim (none_or_some (lowest (turn rule m) peers)) [
        | inl none ↦ rw (none, replay_for) (at_end (turn rule) peers (SoundMoment Sound peers) (exchange peers) m sound none)
        | inr some ↦
            let here = lowest_some (turn rule m) peers some.0 some.1 in
            rw (some.1, replay_for) (replay_for_ends peers turns some.0 ((exchange peers).keeps m some.0 here.0 sound here.1) (omega (arith, turn_uses rule m some.0 here.0 here.1)))
      ]

  pub replay_ends : (m : Moment S Step) → Sound m.states → AtEnd (turn rule) (replay rule m)
  replay_ends m sound = replay_for_ends (length m.left) (steps_left m) m (sound, refl) (omega arith)
