-- Any number of peers, each with a state and a list of steps that it takes in order. Whose turn it is, is free.
--     rule states p step      the state of peer p after the step; None where the step does not stand
--     replay rule m           in each turn the lowest-numbered peer whose next step stands takes it, until there is none
--     Reached rule opening schedules states      in some order of turns these steps of the peers lead from the opening to these states
use Rattle.std.specs.Prelude.{◌≡◌, ℕ, zero, suc, List, [], ◌∷◌, length, map, filter, ◌==◌, sum_by, slice_get, slice_set, slice_index_or, Option, Some, None}
use Rattle.std.specs.Option.{option_or, option_map}

-- the states of all peers, and the steps that each has still to take
pub record Moment (S Step : Type 0) : Type 0 where
  pub states : List S
  pub left : List (List Step)

-- how many steps are left over
abbrev pub steps_left : {S Step : Type 0} → Moment S Step → ℕ
steps_left m = sum_by length m.left

-- the moment after the peer takes the first of its steps left, if it has one and this stands
abbrev pub turn_with : {S Step : Type 0} → (List S → ℕ → Step → Option S) → Moment S Step → ℕ → Option (List Step) → Option (Moment S Step)
turn_with rule m p None = None
turn_with rule m p (Some []) = None
turn_with rule m p (Some (step ∷ rest)) = option_map (λ s. record { states = slice_set m.states p s; left = slice_set m.left p rest }) (rule m.states p step)

abbrev pub turn : {S Step : Type 0} → (List S → ℕ → Step → Option S) → Moment S Step → ℕ → Option (Moment S Step)
turn rule m p = turn_with rule m p (slice_get m.left p)

-- what the lowest of the first n peers gives that gives something
abbrev pub lowest : {M : Type 0} → (ℕ → Option M) → ℕ → Option M
lowest gives zero = None
lowest gives (suc n) = option_or (lowest gives n) (gives n)

-- so many turns at the most
abbrev pub replay_for : {M : Type 0} → (M → ℕ → Option M) → ℕ → ℕ → M → M
replay_for turn peers zero m = m
replay_for turn peers (suc turns) m = elim (lowest (turn m) peers) [ None ↦ m | Some next ↦ replay_for turn peers turns next ]

-- each turn uses a step, so there are no more turns than steps
abbrev pub replay : {S Step : Type 0} → (List S → ℕ → Step → Option S) → Moment S Step → Moment S Step
replay rule m = replay_for (turn rule) (length m.left) (steps_left m) m

-- ---- some order of turns

-- a step and the peer that takes it
pub record Turn (Step : Type 0) : Type 0 where
  pub peer : ℕ
  pub step : Step

-- these turns, in this order, lead from these states to the last; each step stands when it is taken
abbrev pub Leads : {S Step : Type 0} → (List S → ℕ → Step → Option S) → List S → List (Turn Step) → List S → Type 0
Leads rule states [] last = states ≡ last
Leads {S} rule states (t ∷ turns) last = (s : S) × (rule states t.peer t.step ≡ Some s) × Leads rule (slice_set states t.peer s) turns last

-- the peer's own steps among these turns, in order
abbrev pub steps_of : {Step : Type 0} → ℕ → List (Turn Step) → List Step
steps_of p turns = map (λ t. t.step) (filter (λ t. t.peer == p) turns)

-- each list holds its peer's own steps among these turns
abbrev pub AreSteps : {Step : Type 0} → List (List Step) → List (Turn Step) → Type 0
AreSteps left turns = (p : ℕ) → slice_index_or left p [] ≡ steps_of p turns

-- the peer takes these steps, one after another
abbrev pub by : {Step : Type 0} → ℕ → List Step → List (Turn Step)
by p steps = map (λ a. record { peer = p; step = a }) steps

abbrev pub Reached : {S Step : Type 0} → (List S → ℕ → Step → Option S) → List S → List (List Step) → List S → Type 0
Reached {S} {Step} rule opening schedules states = (turns : List (Turn Step)) × Leads rule opening turns states × AreSteps schedules turns
