use Rattle.std.proofs.Common.{◌∙◌, arith, refl, rules}
use Rattle.std.proofs.lemmas.Result.{err_from_is_err_and}
use Rattle.fab_outside.proofs.Loads.{line_unloaded, line_whole}
use Rattle.fab_outside.specs.Loading.{Reaches}
use Rattle.fab_outside.proofs.Named.{loads_none, names_next}
use Rattle.fab_outside.proofs.loading.load_payloads.Goals as goal

pub returns-in_err-file-clause-err : goal.returns-in_err-file-clause-err
returns-in_err-file-clause-err g c =
    let was = c.loop-payload.invariant in
    let p = err_from_is_err_and c.from_residual.result c.from_residual.ensures.1 in
    let before = c.loop-payload.depot in
    let after = c.load_file.new.depot in
    rw (p.1, p.2) (line_unloaded (g.D.Depot.files c.args.depot.now) (g.D.Depot.files before) c.args.payloads.now c.loop-payload.payload-index c.payload-item.result c.loop-payload.files.items
    (g.D.Depot.faults c.args.depot.now) (g.D.Depot.faults before) (g.D.Depot.faults after) (g.D.Depot.failed_name after) c.in_err-file.field-0.0
    was.0 c.loop-payload-test.true c.payload-item.is was.2 was.1 c.in_err-file.ensures.err)

pub loop-payload-preserved : goal.loop-payload-preserved
loop-payload-preserved g c =
    let was = c.loop-payload.invariant in (
      c.in_ok-file.ensures.files ∙ was.0,
      omega (arith, was.1, c.in_ok-file.ensures.never_falls),
      line_whole (g.D.Depot.files c.args.depot.now) (g.D.Depot.files c.loop-payload.depot) c.args.payloads.now c.loop-payload.payload-index c.payload-item.result c.loop-payload.files.items c.push.new.self.items c.in_ok-file.file
          was.0 c.loop-payload-test.true c.payload-item.is was.2 c.in_ok-file.ensures.ok c.in-Ok.ensures.items,
      names_next (g.D.Depot.files c.args.depot.now) c.args.payloads.now c.loop-payload.payload-index c.payload-item.result c.loop-payload.files.items (g.D.Depot.loaded c.args.depot.now) (g.D.Depot.loaded c.loop-payload.depot) (g.D.Depot.loaded c.load_file.new.depot)
          c.loop-payload-test.true c.payload-item.is was.2 was.3 c.load_file.ensures.loads,
    )

pub returns-in_err-file-clause-loads : goal.returns-in_err-file-clause-loads
returns-in_err-file-clause-loads g c =
    let was = c.loop-payload.invariant in
    names_next (g.D.Depot.files c.args.depot.now) c.args.payloads.now c.loop-payload.payload-index c.payload-item.result c.loop-payload.files.items (g.D.Depot.loaded c.args.depot.now) (g.D.Depot.loaded c.loop-payload.depot) (g.D.Depot.loaded c.load_file.new.depot)
    c.loop-payload-test.true c.payload-item.is was.2 was.3 c.load_file.ensures.loads

pub loop-payload-init : goal.loop-payload-init
loop-payload-init g c = (refl, omega arith, search rules, loads_none (Reaches (g.D.Depot.files c.args.depot.now) c.args.payloads.now) (g.D.Depot.loaded c.args.depot.now) (g.D.Depot.loaded c.args.depot.now) refl)

pub returns-in_default-clause-loads : goal.returns-in_default-clause-loads
returns-in_default-clause-loads g c =
    let was = c.loop-payload.invariant in
    names_next (g.D.Depot.files c.args.depot.now) c.args.payloads.now c.loop-payload.payload-index c.payload-item.result c.loop-payload.files.items (g.D.Depot.loaded c.args.depot.now) (g.D.Depot.loaded c.loop-payload.depot) (g.D.Depot.loaded c.load_file.new.depot)
    c.loop-payload-test.true c.payload-item.is was.2 was.3 c.load_file.ensures.loads
