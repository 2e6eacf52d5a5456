-- The laws, workload by workload.
use Rattle.std.proofs.Common.{List, true, ℕ, ◌∙◌, ◌≡◌}
use Rattle.fab_answer.specs.Laws.{HasSizes}
use Rattle.fab_answer.specs.Settled.{is_settled}
use Rattle.fab_answer.proofs.peers.AtRest.{done_at_rest}
use Rattle.fab_workloads.specs.Commands.{IsWithin}
use Rattle.fab_workloads.specs.Script.{bound_of}
use Rattle.fab_workloads.specs.declared.workload.Workload.TheVariants.{Bandwidth, Generated, Pingpong}
use Rattle.fab_workloads.specs.declared.workload.Workload.{Workload}
use Rattle.fab_workload_laws.specs.Laws.{AreAnswered, NoneIsStuck}
use Rattle.fab_workload_laws.proofs.Bandwidth.{bandwidth_settled, bandwidth_whole}
use Rattle.fab_workload_laws.proofs.Generated.{generated_settled, generated_whole}
use Rattle.fab_workload_laws.proofs.Pingpong.{pingpong_settled, pingpong_whole}

pub each_settled : (w : Workload) (file : List ℕ) → IsWithin w → (is_settled (bound_of w file) ≡ true) × HasSizes (bound_of w file)
each_settled (Pingpong size count) file within = pingpong_settled size count file within.0 within.2
each_settled (Bandwidth size count window) file within = bandwidth_settled size count window file within.0 within.2 within.4
each_settled (Generated number peers messages) file within = generated_settled number peers messages file within.1 within.2 within.3

pub each_answered : AreAnswered
each_answered (Pingpong size count) file within = pingpong_whole size count file within.0 within.2
each_answered (Bandwidth size count window) file within = bandwidth_whole size count window file within.0 within.2 within.4
each_answered (Generated number peers messages) file within = generated_whole number peers messages file within.1 within.2 within.3

pub none_stuck : NoneIsStuck
none_stuck w file within schedule lawful rest =
    let settled = each_settled w file within in
    done_at_rest (bound_of w file) schedule settled.0 settled.1 lawful rest ∙ each_answered w file within
