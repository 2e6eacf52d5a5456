-- Peers that see nothing of one another but lists that only grow, at their ends, numbers that only grow, and whether all is calm.
--     View       what a peer sees of the others
--     Machine    what a state shows, and what a step makes of the state of its peer
--     rule machine states p step      the state of peer p after the step, in these states
--     Walk machine v s steps last     the steps of one peer lead from s to last, in this view
use Rattle.std.specs.Prelude.{◌≡◌, ◌≤◌, ℕ, Bool, true, List, [], ◌∷◌, ◌++◌, slice_get, Option, Some, is_some}
use Rattle.std.specs.Option.{option_and_then, option_map_or}

-- what a peer sees: what it may take of each sender, in order; a number that each sender shows it; and whether all peers are calm
pub record View (Item : Type 0) : Type 0 where
  pub ready : ℕ → List Item
  pub sent : ℕ → ℕ
  pub calm : Bool

-- what a state shows to a receiver, when all are calm, and the state after a step; None where the step does not stand
pub record Machine (S Step Item : Type 0) : Type 0 where
  pub ready : S → ℕ → List Item
  pub sent : S → ℕ → ℕ
  pub calm : List S → Bool
  pub step : View Item → S → Step → Option S

-- what the receiver sees in these states
abbrev pub seen : {S Step Item : Type 0} → Machine S Step Item → List S → ℕ → View Item
seen machine states receiver = record {
  ready = λ sender. option_map_or (λ s. machine.ready s receiver) (slice_get states sender) [];
  sent = λ sender. option_map_or (λ s. machine.sent s receiver) (slice_get states sender) 0;
  calm = machine.calm states;
}

abbrev pub rule : {S Step Item : Type 0} → Machine S Step Item → List S → ℕ → Step → Option S
rule machine states p step = option_and_then (λ s. machine.step (seen machine states p) s step) (slice_get states p)

abbrev pub IsPrefixOf : {X : Type 0} → List X → List X → Type 0
IsPrefixOf {X} xs ys = (rest : List X) × (xs ++ rest ≡ ys)

-- w shows all that v shows
pub record More {Item : Type 0} (v w : View Item) : Type 0 where
  pub ready : (sender : ℕ) → IsPrefixOf (v.ready sender) (w.ready sender)
  pub sent : (sender : ℕ) → v.sent sender ≤ w.sent sender
  pub calm : v.calm ≡ true → w.calm ≡ true

abbrev pub Walk : {S Step Item : Type 0} → Machine S Step Item → View Item → S → List Step → S → Type 0
Walk machine v s [] last = s ≡ last
Walk {S} machine v s (a ∷ steps) last = (next : S) × (machine.step v s a ≡ Some next) × Walk machine v next steps last

-- whether the step of the peer stands in these states
abbrev pub stands : {S Step Item : Type 0} → Machine S Step Item → List S → ℕ → Step → Bool
stands machine states p step = is_some (rule machine states p step)
