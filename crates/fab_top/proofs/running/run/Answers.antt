use Rattle.std.proofs.Common.{string_bytes, inl, inr, true, sym}
use Rattle.fab_top.proofs.Answering.{bench_answered, check_answered, coll_answered, unread_answered}
use Rattle.fab_top.proofs.Asking.{names_check, names_payload, names_rounds, names_script}
use Rattle.fab_top.proofs.Sticking.{may_stick, never}
use Rattle.fab_top.proofs.running.run.Goals as goal

pub returns-in-Some-workload_of-clause-complete : goal.returns-in-Some-workload_of-clause-complete
returns-in-Some-workload_of-clause-complete g c =
    let e = c.carry_out_workload.ensures in
    bench_answered (g.D.Depot.files c.args.depot.now) c.args.words.now (g.D.Depot.faults c.args.depot.now) (g.D.Depot.faults c.carry_out_workload.new.depot)
    (g.S.Sink.faults c.args.sink.now) (g.S.Sink.faults c.carry_out_workload.new.sink) c.in-Some-workload_of.workload c.carry_out_workload.result
    (sym c.in-Some-workload_of.ensures.value) e.ends e.too_long (λ name is. (e.read_fault name is).1) (λ is. (e.write_fault is).0)

pub returns-in-Some-replay_files-clause-complete : goal.returns-in-Some-replay_files-clause-complete
returns-in-Some-replay_files-clause-complete g c =
    let e = c.carry_out_check.ensures in
    check_answered (g.D.Depot.files c.args.depot.now) c.args.words.now (g.D.Depot.faults c.args.depot.now) (g.D.Depot.faults c.carry_out_check.new.depot)
    (g.S.Sink.faults c.args.sink.now) (g.S.Sink.faults c.carry_out_check.new.sink) c.in-Some-replay_files.file.now c.in-Some-replay_files.trace.now c.carry_out_check.result
    (sym c.in-Some-replay_files.ensures) e.ends e.refused e.too_long (λ name is. (e.read_fault name is).1) (λ is. (e.write_fault is).0)

pub returns-in-Some-coll_file-clause-complete : goal.returns-in-Some-coll_file-clause-complete
returns-in-Some-coll_file-clause-complete g c =
    let e = c.carry_out_rounds.ensures in
    coll_answered (g.D.Depot.files c.args.depot.now) c.args.words.now (g.D.Depot.faults c.args.depot.now) (g.D.Depot.faults c.carry_out_rounds.new.depot)
    (g.S.Sink.faults c.args.sink.now) (g.S.Sink.faults c.carry_out_rounds.new.sink) c.in-Some-coll_file.file.now c.carry_out_rounds.result
    (sym c.in-Some-coll_file.ensures) e.ends e.refused e.too_long (λ name is. (e.read_fault name is).1) (λ is. (e.write_fault is).0)

pub returns-in-Err-clause-complete : goal.returns-in-Err-clause-complete
returns-in-Err-clause-complete g c =
    unread_answered (g.D.Depot.files c.args.depot.now) c.args.words.now (g.D.Depot.faults c.args.depot.now) (g.D.Depot.faults c.load_script.new.depot)
    (g.S.Sink.faults c.args.sink.now) (g.S.Sink.faults c.args.sink.now) (g.D.Depot.failed_name c.load_script.new.depot) c.in-Some-script_file.name.now c.in-Err.status
    (sym c.in-Some-script_file.ensures) c.in-Err.ensures.err

pub returns-in-Ok-run_script-clause-sticks : goal.returns-in-Ok-run_script-clause-sticks
returns-in-Ok-run_script-clause-sticks g c is =
    let e = c.in-Ok.ensures in
    may_stick c.law_one_answer.ensures.done (g.D.Depot.files c.args.depot.now) c.args.words.now c.in-Some-script_file.name.now c.in-Ok.bound (string_bytes c.in-Ok-run_script.ran.text) c.in-Ok-run_script.ran.done
    (sym c.in-Some-script_file.ensures) e.ok e.tx e.sized.0 c.in-Ok-run_script.ensures (c.write_text.ensures.stuck is).0

pub returns-in-Ok-run_script-clause-whole : goal.returns-in-Ok-run_script-clause-whole
returns-in-Ok-run_script-clause-whole g c =
    never (g.D.Depot.files c.args.depot.now) c.args.words.now c.write_text.result (returns-in-Ok-run_script-clause-sticks g c)

-- ---- the names of the files that were loaded

pub returns-in-Some-workload_of-clause-loads : goal.returns-in-Some-workload_of-clause-loads
returns-in-Some-workload_of-clause-loads g c =
    names_payload (g.D.Depot.files c.args.depot.now) c.args.words.now c.in-Some-workload_of.workload (g.D.Depot.loaded c.args.depot.now) (g.D.Depot.loaded c.carry_out_workload.new.depot)
    (sym c.in-Some-workload_of.ensures.value) c.carry_out_workload.ensures.loads

pub returns-in-Some-replay_files-clause-loads : goal.returns-in-Some-replay_files-clause-loads
returns-in-Some-replay_files-clause-loads g c =
    names_check (g.D.Depot.files c.args.depot.now) c.args.words.now c.in-Some-replay_files.file.now c.in-Some-replay_files.trace.now (g.D.Depot.loaded c.args.depot.now) (g.D.Depot.loaded c.carry_out_check.new.depot)
    (sym c.in-Some-replay_files.ensures) c.carry_out_check.ensures.loads

pub returns-in-Some-coll_file-clause-loads : goal.returns-in-Some-coll_file-clause-loads
returns-in-Some-coll_file-clause-loads g c =
    names_rounds (g.D.Depot.files c.args.depot.now) c.args.words.now c.in-Some-coll_file.file.now (g.D.Depot.loaded c.args.depot.now) (g.D.Depot.loaded c.carry_out_rounds.new.depot)
    (sym c.in-Some-coll_file.ensures) c.carry_out_rounds.ensures.loads

pub returns-in-Err-clause-loads : goal.returns-in-Err-clause-loads
returns-in-Err-clause-loads g c =
    names_script (g.D.Depot.files c.args.depot.now) c.args.words.now c.in-Some-script_file.name.now (g.D.Depot.loaded c.args.depot.now) (g.D.Depot.loaded c.load_script.new.depot)
    (sym c.in-Some-script_file.ensures) c.load_script.ensures.loads

pub returns-in-Ok-run_script-clause-loads : goal.returns-in-Ok-run_script-clause-loads
returns-in-Ok-run_script-clause-loads g c =
    names_script (g.D.Depot.files c.args.depot.now) c.args.words.now c.in-Some-script_file.name.now (g.D.Depot.loaded c.args.depot.now) (g.D.Depot.loaded c.load_script.new.depot)
    (sym c.in-Some-script_file.ensures) c.load_script.ensures.loads

-- ---- what was written in part

pub returns-in-Some-replay_files-clause-begun : goal.returns-in-Some-replay_files-clause-begun
returns-in-Some-replay_files-clause-begun g c is =
    let part = (c.carry_out_check.ensures.write_fault is).1 in
    (true, record { text = part.0; is = inr (inr (inr (inl (record { file = c.in-Some-replay_files.file.now; trace = c.in-Some-replay_files.trace.now; command = sym c.in-Some-replay_files.ensures; checked = part.2 })))); some = part.1; fewer = part.3; written = part.4 })

pub returns-in-Some-coll_file-clause-begun : goal.returns-in-Some-coll_file-clause-begun
returns-in-Some-coll_file-clause-begun g c is =
    let part = (c.carry_out_rounds.ensures.write_fault is).1 in
    (true, record { text = part.0; is = inr (inr (inr (inr (inr (record { file = c.in-Some-coll_file.file.now; command = sym c.in-Some-coll_file.ensures; due = part.2 }))))); some = part.1; fewer = part.3; written = part.4 })

pub returns-in-Ok-run_script-clause-begun : goal.returns-in-Ok-run_script-clause-begun
returns-in-Ok-run_script-clause-begun g c is =
    let part = (c.write_text.ensures.write_fault is).1 in
    (c.in-Ok-run_script.ran.done, record { text = string_bytes c.in-Ok-run_script.ran.text; is = inl (record { file = c.in-Some-script_file.name.now; command = sym c.in-Some-script_file.ensures; bound = c.in-Ok.bound; read = c.in-Ok.ensures.ok; reports = c.in-Ok-run_script.ensures }); some = part.0; fewer = part.1; written = part.2 })
