-- What holds of the script of every workload, whatever its file has.
--     OfEach P          P holds of each such script
--     AreSettled        it is settled, and its sizes are those that the law of settled scripts asks for
--     AreAnswered       its answer leaves no line over
--     NoneIsStuck       wherever a lawful schedule of it comes to rest, all lines are done
use Rattle.std.specs.Prelude.{◌≡◌, ℕ, true, is_none, List}
use Rattle.std.specs.List.{list_all}
use Rattle.fab_base.specs.declared.peers.Step.{Step}
use Rattle.fab_base.specs.declared.script.Bound.{Bound}
use Rattle.fab_model.specs.Replay.{Lawful, all_done, at_rest}
use Rattle.fab_answer.specs.Answer.{answer}
use Rattle.fab_answer.specs.Laws.{HasSizes, last_states}
use Rattle.fab_answer.specs.Settled.{is_settled}
use Rattle.fab_workloads.specs.Commands.{IsWithin}
use Rattle.fab_workloads.specs.Script.{bound_of}
use Rattle.fab_workloads.specs.declared.workload.Workload.{Workload}

abbrev pub OfEach : (Bound → Type 0) → Type 0
OfEach P = (workload : Workload) (file : List ℕ) → IsWithin workload → P (bound_of workload file)

abbrev pub AreSettled : Type 0
AreSettled = OfEach (λ bound. is_settled bound ≡ true)

abbrev pub HaveSizes : Type 0
HaveSizes = OfEach HasSizes

abbrev pub AreAnswered : Type 0
AreAnswered = OfEach (λ bound. list_all is_none (answer bound).next ≡ true)

abbrev pub NoneIsStuck : Type 0
NoneIsStuck = OfEach (λ bound. (schedule : List (List Step)) → Lawful bound schedule → at_rest (last_states bound schedule) ≡ true
    → all_done (last_states bound schedule) ≡ true)
