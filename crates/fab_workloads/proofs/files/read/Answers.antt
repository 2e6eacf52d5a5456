use Rattle.std.proofs.Common.{ap, refl, sym, ◌∙◌, ◌≡◌}
use Rattle.fab_workloads.proofs.Progress.{progress_done, progress_refused, progress_taken}
use Rattle.fab_workloads.proofs.files.read.Goals as goal

pub returns-in_default : goal.returns-in_default
returns-in_default c =
    let e = c.in_default.ensures in
    rw (progress_done c.args.bytes.now c.loop-lines.lines c.loop-lines.reader c.loop-lines.invariant e.0)
    (rw (sym (c.count-in_default.ensures ∙ ap (λ l. l.0) e.1)) c.rounds_of.ensures)

pub returns-in-Some-2 : goal.returns-in-Some-2
returns-in-Some-2 c =
    let e = c.in-Some.ensures in
    progress_refused c.args.bytes.now c.loop-lines.lines c.loop-lines.reader c.loop-lines.invariant c.in-Some.number c.in-Some.line.now c.next.new.self.1 e.0 e.2 c.in-Some-2.why
    (sym c.in_ok-why.ensures.broken ∙ c.in-Some-2.is)

pub loop-lines-preserved : goal.loop-lines-preserved
loop-lines-preserved c =
    let e = c.in-Some.ensures in
    let none = c.in_default-2.is in
    progress_taken c.args.bytes.now c.loop-lines.lines c.loop-lines.reader c.loop-lines.invariant c.in-Some.number c.in-Some.line.now c.next.new.self.1 e.0 e.2
    c.next.new.self c.take.new.self e.1 (let z : c.next.new.self.1 ≡ c.next.new.self.1 = refl in z) (sym c.in_ok-why.ensures.broken ∙ none) (c.in_ok-why.ensures.taken none)
