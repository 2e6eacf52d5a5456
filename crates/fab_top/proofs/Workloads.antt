-- What holds of the script of a workload, and of every run of it.
use Rattle.std.proofs.Common.{◌≡◌, ◌<◌, ◌≤◌, ℕ, List, Bool, true, sym, ap, subst, ◌∙◌, arith}
use Rattle.fab_base.specs.declared.script.Bound.{Bound}
use Rattle.fab_base.specs.declared.script.Conf.{Conf}
use Rattle.fab_model.specs.Replay.{Lawful, replayed, at_rest, all_done}
use Rattle.fab_rounds.specs.Phases.{IsSized}
use Rattle.fab_command_runs.proofs.Rounds.{sized_by}
use Rattle.fab_workloads.specs.declared.workload.Workload.{Workload}
use Rattle.fab_workloads.specs.declared.workload.Workload.TheVariants.{Pingpong, Bandwidth, Generated}
use Rattle.fab_workloads.specs.Commands.{IsWithin}
use Rattle.fab_workloads.specs.Script.{bound_of, conf_of, peers_of}
use Rattle.fab_workload_laws.specs.Laws.{NoneIsStuck}
use Rattle.fab_top.specs.Runs.{ComesToRest}

-- its settings are those of its number of peers
settings : (w : Workload) (file : List ℕ) (b : Bound) → b ≡ bound_of w file → b.script.conf ≡ conf_of (peers_of w)
unfolding bound_of
settings w file b is = ap (λ (x : Bound). x.script.conf) is

pub cq_enough : (w : Workload) (file : List ℕ) (b : Bound) → b ≡ bound_of w file → 2 ≤ b.script.conf.info.cq
cq_enough w file b is = subst (λ (c : Conf). 2 ≤ c.info.cq) (sym (settings w file b is)) (omega arith)

few_peers : (w : Workload) → IsWithin w → (0 < peers_of w) × (peers_of w ≤ 64)
few_peers (Pingpong size count) within = (omega arith, omega arith)
few_peers (Bandwidth size count window) within = (omega arith, omega arith)
few_peers (Generated number peers messages) within = (omega (arith, within.1), omega (arith, within.2))

pub sized : (w : Workload) (file : List ℕ) (b : Bound) → IsWithin w → b ≡ bound_of w file → IsSized b.script.conf
sized w file b within is = sized_by b.script.conf (peers_of w) (settings w file b is) (few_peers w within)

-- wherever a run of it comes to rest, all lines are done
pub always_done : NoneIsStuck → (w : Workload) (file : List ℕ) (b : Bound) (done : Bool) → IsWithin w → b ≡ bound_of w file → ComesToRest b done → done ≡ true
always_done none_stuck w file b done within is r =
    let lawful : Lawful (bound_of w file) r.0 = subst (λ (x : Bound). Lawful x r.0) is r.1 in
    let rest : at_rest (replayed (bound_of w file) r.0).states ≡ true = subst (λ (x : Bound). at_rest (replayed x r.0).states ≡ true) is r.2 in
    sym r.3 ∙ ap (λ (x : Bound). all_done (replayed x r.0).states) is ∙ none_stuck w file within r.0 lawful rest
