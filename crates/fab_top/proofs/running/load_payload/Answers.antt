use Rattle.std.proofs.Common.{◌≡◌, Some, sym}
use Rattle.fab_outside.proofs.Named.{loads_one}
use Rattle.fab_workloads.specs.Commands.{payload_file}
use Rattle.fab_top.proofs.running.load_payload.Goals as goal

pub returns-in-Some-clause-loads : goal.returns-in-Some-clause-loads
returns-in-Some-clause-loads g c =
    loads_one (λ name. payload_file c.args.words.now ≡ Some name) c.in-Some.name.now (g.D.Depot.loaded c.args.depot.now) (g.D.Depot.loaded c.load_file.new.depot) (sym c.in-Some.ensures) c.load_file.ensures.loads
