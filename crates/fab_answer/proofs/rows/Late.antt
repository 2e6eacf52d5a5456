-- Answers by a rule in which a receive takes the second message that it matches, and not the first: a lawful schedule of a settled script has other results.
use Rattle.std.proofs.Common.{ap}
use Rattle.std.specs.Prelude.{Bool, List, None, Option, Some, [], false, find, option_map, refl, slice_index_or, true, ℕ, ◌++◌, ◌==◌, ◌∷◌, ◌≡◌}
use Rattle.std.specs.Option.{option_and_then}
use Rattle.fab_base.specs.declared.entries.Taken.{Taken}
use Rattle.fab_base.specs.declared.operations.Receive.{Receive}
use Rattle.fab_base.specs.declared.peers.LineResult.{LineResult}
use Rattle.fab_base.specs.declared.peers.LineResult.TheVariants.{Refused}
use Rattle.fab_base.specs.declared.peers.Step.{Step}
use Rattle.fab_base.specs.declared.script.Bound.{Bound}
use Rattle.fab_base.specs.declared.script.Line.{Line}
use Rattle.fab_base.specs.declared.script.LineOp.{LineOp}
use Rattle.fab_base.specs.declared.script.LineOp.TheVariants.{Wait}
use Rattle.fab_model.specs.Machine.{machine}
use Rattle.fab_model.specs.Matching.{remove_first}
use Rattle.fab_model.specs.Orders.{replay}
use Rattle.fab_model.specs.Replay.{Lawful, lines_of}
use Rattle.fab_answer.specs.Answer.{Answer, done_lines, is_waited, makes, received_after, sent_entry, unanswered, waited}
use Rattle.fab_answer.specs.Laws.{BeginsSo, last_states}
use Rattle.fab_answer.specs.Partners.{Message, fits, messages, order_of, receive_at, receives}
use Rattle.fab_answer.specs.Settled.{is_settled, refusal}
use Rattle.fab_answer.proofs.Lists.{Never}
use Rattle.fab_answer.proofs.rows.Scripts.{order_posted, twice}
use Rattle.fab_answer.proofs.rows.Wrong.{differ, tells_x}

-- the rule
abbrev late : {R M : Type 0} → (R → M → Bool) → List R → List M → List (R × Option M)
late fits [] ms = []
late fits (r ∷ rs) ms = (r, find (fits r) (remove_first (fits r) ms)) ∷ late fits rs (remove_first (fits r) ms)

-- what follows is as `specs/Partners.antt` and `specs/Answer.antt` have it, by that rule
abbrev late_partner : Bound → ℕ → ℕ → ℕ → Option Message
late_partner bound p source ctx =
    let conf = bound.script.conf in
    let pairs = late (fits source) (receives conf source (lines_of bound p)) (messages conf p 0 (lines_of bound source)) in
    option_and_then (λ pair. pair.1) (find (λ pair. pair.0.ctx == ctx) pairs)

abbrev received_by : Bound → List (List LineResult) → ℕ → Receive → Option Taken
received_by bound all p r = option_and_then (λ source. received_after all source r (late_partner bound p source r.ctx)) r.want.source

abbrev entry_after : Bound → List (List LineResult) → ℕ → LineOp → Option Taken
entry_after bound all p op = elim (order_of op) [
  | Some order ↦ Some (sent_entry bound.script.conf order)
  | None ↦ option_and_then (received_by bound all p) (receive_at bound.script.conf op)
]

abbrev comes : Bound → List (List LineResult) → ℕ → ℕ → Option Taken
comes bound all p ctx = option_and_then (λ (line : Line). entry_after bound all p line.op) (find (makes bound.script.conf ctx) (done_lines bound all p))

abbrev result_of : Bound → List (List LineResult) → ℕ → LineOp → Option LineResult
result_of bound all p (Wait None) = None
result_of bound all p (Wait (Some ctx)) = elim (is_waited bound all p ctx) [ true ↦ None | false ↦ option_map waited (comes bound all p ctx) ]
result_of bound all p op = elim (refusal bound.script.conf op) [ None ↦ Some LineResult.Done | Some fault ↦ Some (Refused fault) ]

abbrev answering : Bound → List (List LineResult) → ℕ → Line → Option (List LineResult)
answering bound all p line = option_map (λ outcome. slice_index_or all p [] ++ outcome ∷ []) (result_of bound all p line.op)

-- results alone
abbrev late_answer : Bound → Answer
late_answer bound = record { results = (replay (answering bound) (unanswered bound)).states; next = []; left = [] }

abbrev LateLaw : Type 0
LateLaw = (bound : Bound) (schedule : List (List Step)) → is_settled bound ≡ true → Lawful bound schedule → BeginsSo (late_answer bound) (last_states bound schedule)

pub no_law : LateLaw → Never
unfolding twice order_posted machine
no_law law = differ (ap tells_x (law twice order_posted refl refl 0).1)
