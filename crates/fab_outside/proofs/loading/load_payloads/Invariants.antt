use Rattle.std.proofs.Common.{◌≡◌, ◌≤◌, take}
use Rattle.fab_outside.specs.Loading.{AreWhole, LoadsOnly, Reaches}
use Rattle.fab_outside.proofs.loading.load_payloads.Given as goal

abbrev pub invariant-loop-payload : goal.invariant-loop-payload
invariant-loop-payload g l =
    (g.D.Depot.files l.depot ≡ g.D.Depot.files l.initial.depot)
    × (g.D.Depot.faults l.initial.depot ≤ g.D.Depot.faults l.depot)
    × AreWhole (g.D.Depot.files l.initial.depot) (take l.payload-index l.payloads) l.files.items
    × LoadsOnly (Reaches (g.D.Depot.files l.initial.depot) l.payloads) (g.D.Depot.loaded l.initial.depot) (g.D.Depot.loaded l.depot)
