use Rattle.std.proofs.Common.{◌≡◌, sym, ap, ◌∙◌}
use Rattle.std.specs.Prelude.{Err}
use Rattle.fab_script.specs.declared.refused.Refused.TheVariants.{Why as Because}
use Rattle.fab_script.proofs.GrammarLemmas.{progress_taken, progress_refused, progress_done}
use Rattle.fab_script.proofs.grammar.read.Goals as goal

pub loop-number-preserved : goal.loop-number-preserved
loop-number-preserved c =
    let p = c.loop-number.invariant in
    let e = c.in-Some.ensures in
    progress_taken c.args.bytes.now c.loop-number.lines c.next.new.self c.loop-number.reader c.take.new.self c.in-Some.number c.in-Some.line.now p e.0 e.1 e.2 (c.in-Ok.ensures p.before p.holds)

pub returns-in-Err-Why : goal.returns-in-Err-Why
returns-in-Err-Why c =
    let p = c.loop-number.invariant in
    let e = c.in-Some.ensures in
    let because : c.in-Err-Why.field-0 ≡ Because c.in-Err-Why.why = c.in-Err-Why.field-0-is in
    let answer = rw because at (c.in-Err-Why.ensures p.before p.holds) in
    let all = progress_refused c.args.bytes.now c.loop-number.lines c.next.new.self.1 c.loop-number.reader c.take.new.self c.in-Some.number c.in-Some.line.now c.in-Err-Why.why p e.0 e.2 answer in
    all ∙ ap (λ why. Err (c.in-Some.number, why)) (sym c.in-Err-Why.why-is)

pub returns : goal.returns
returns c =
    let p = c.loop-number.invariant in
    let e = c.in_default.ensures in
    rw (progress_done c.args.bytes.now c.loop-number.lines c.loop-number.reader p e.0)
    (rw (sym (c.count.ensures ∙ ap (λ l. l.0) e.1)) (c.script.ensures p.before p.holds))
