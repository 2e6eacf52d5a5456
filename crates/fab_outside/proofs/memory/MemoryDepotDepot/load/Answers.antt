use Rattle.std.proofs.Common.{◌≡◌, ◌+◌, Some, take, rules}
use Rattle.std.proofs.lemmas.Grind.{common_steps}
use Rattle.std.proofs.Common.{arith}
use Rattle.fab_outside.specs.Outside.{file_of}
use Rattle.fab_outside.proofs.Pieces.{BeginsFile-take}
use Rattle.fab_outside.proofs.memory.MemoryDepotDepot.load.Goals as goal

pub returns-clause-too_long : goal.returns-clause-too_long
returns-clause-too_long c =
    let files = c.args.self.now.files.items in
    let name = c.args.name.now in
    let whole = c.in-Some.bytes.now in
    let found : file_of files name ≡ Some whole = search rules in
    let cuts : c.in_ok-cut.cut ≡ take (c.args.limit + 1) whole = grind (arith, common_steps) in
    BeginsFile-take (file_of files) name whole c.in_ok-cut.cut (c.args.limit + 1) found cuts
