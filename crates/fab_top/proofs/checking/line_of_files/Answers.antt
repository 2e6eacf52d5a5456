use Rattle.fab_top.proofs.Asking.{names_read, names_trace}
use Rattle.fab_top.proofs.checking.line_of_files.Goals as goal

pub returns-in_err-bound-clause-loads : goal.returns-in_err-bound-clause-loads
returns-in_err-bound-clause-loads g c =
    names_read (g.D.Depot.files c.args.depot.now) c.args.file.now c.args.trace.now (g.D.Depot.loaded c.args.depot.now) (g.D.Depot.loaded c.load_script.new.depot) c.load_script.ensures.loads

pub returns-in_err-text-clause-loads : goal.returns-in_err-text-clause-loads
returns-in_err-text-clause-loads g c =
    names_trace (g.D.Depot.files c.args.depot.now) c.args.file.now c.args.trace.now c.in_ok-bound.bound (g.D.Depot.loaded c.args.depot.now) (g.D.Depot.loaded c.load_script.new.depot) (g.D.Depot.loaded c.load_file.new.depot)
    c.load_script.ensures.loads c.in_ok-bound.ensures.ok c.load_file.ensures.loads

pub returns-in-Ok-clause-loads : goal.returns-in-Ok-clause-loads
returns-in-Ok-clause-loads g c =
    names_trace (g.D.Depot.files c.args.depot.now) c.args.file.now c.args.trace.now c.in_ok-bound.bound (g.D.Depot.loaded c.args.depot.now) (g.D.Depot.loaded c.load_script.new.depot) (g.D.Depot.loaded c.load_file.new.depot)
    c.load_script.ensures.loads c.in_ok-bound.ensures.ok c.load_file.ensures.loads

pub returns-clause-loads : goal.returns-clause-loads
returns-clause-loads g c =
    names_trace (g.D.Depot.files c.args.depot.now) c.args.file.now c.args.trace.now c.in_ok-bound.bound (g.D.Depot.loaded c.args.depot.now) (g.D.Depot.loaded c.load_script.new.depot) (g.D.Depot.loaded c.load_file.new.depot)
    c.load_script.ensures.loads c.in_ok-bound.ensures.ok c.load_file.ensures.loads
