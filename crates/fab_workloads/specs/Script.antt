-- The script that a workload runs.
--     ops_of workload file      of each peer, what its lines ask for
--     bound_of workload file    the script, with default sizes and no capability asked for
use Rattle.std.specs.Prelude.{ℕ, ◌+◌, ◌-◌, ◌++◌, false, List, [], ◌∷◌, length, map, take, replicate, Some}
use Rattle.fab_base.specs.declared.caps.Hints.{Hints}
use Rattle.fab_base.specs.declared.script.Bound.{Bound}
use Rattle.fab_base.specs.declared.script.Conf.{Conf}
use Rattle.fab_base.specs.declared.script.Line.{Line}
use Rattle.fab_base.specs.declared.script.LineOp.{LineOp}
use Rattle.fab_model.specs.Calls.{upto}
use Rattle.fab_base.specs.declared.caps.Api.TheVariants.{One}
use Rattle.fab_model.specs.Negotiation.{granted_info, no_hints}
use Rattle.fab_workloads.specs.declared.workload.Workload.{Workload}
use Rattle.fab_workloads.specs.declared.workload.Workload.TheVariants.{Pingpong, Bandwidth, Generated}
use Rattle.fab_workloads.specs.Lines.{joined, ping, pong, sending, receiving, windows}
use Rattle.fab_workloads.specs.Generator.{sends, receives}

-- the file's first bytes, followed by zeros where it is shorter
abbrev pub payload_of : ℕ → List ℕ → List ℕ
payload_of size file = take size file ++ replicate (size - length file) 0

abbrev pub peers_of : Workload → ℕ
peers_of (Pingpong size count) = 2
peers_of (Bandwidth size count window) = 2
peers_of (Generated number peers messages) = peers

abbrev pub ops_of : Workload → List ℕ → List (List LineOp)
ops_of (Pingpong size count) file =
    let payload = payload_of size file in joined count (ping size payload) ∷ joined count (pong size payload) ∷ []
ops_of (Bandwidth size count window) file =
    let n = windows count window in
    joined n (sending count window (payload_of size file)) ∷ joined n (receiving size count window) ∷ []
ops_of (Generated number peers messages) file = map (λ p. sends number peers messages p ++ receives number peers messages p) (upto peers)

-- ---- the script

-- only the number of peers is asked for
abbrev pub hints_for : ℕ → Hints
hints_for peers = record no_hints { peers = Some peers }

abbrev pub conf_of : ℕ → Conf
conf_of peers = record { hints = Some (hints_for peers); info = granted_info One (hints_for peers); peers = peers; selective = false }

-- the lines are numbered in order of peers
abbrev pub numbered : ℕ → List LineOp → List Line
numbered first [] = []
numbered first (op ∷ ops) = record { number = first; op = op } ∷ numbered (first + 1) ops

abbrev pub all_numbered : ℕ → List (List LineOp) → List (List Line)
all_numbered first [] = []
all_numbered first (ops ∷ more) = numbered first ops ∷ all_numbered (first + length ops) more

unfoldable pub bound_of : Workload → List ℕ → Bound
bound_of workload file = record {
  script = record { version = 1; conf = conf_of (peers_of workload); payloads = []; peers = all_numbered 1 (ops_of workload file) };
  files = [];
}
