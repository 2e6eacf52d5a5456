use Rattle.std.proofs.Common.{◌≡◌, ◌++◌, sym, ap, subst, ◌∙◌}
use Rattle.std.proofs.lemmas.Result.{IfOk-weaker}
use Rattle.fab_grammar.specs.Grammar.{verdict}
use Rattle.fab_spell.specs.Print.{IsSame, printed}
use Rattle.fab_spell.proofs.Again.{reads_again}
use Rattle.fab_spell.proofs.writing.print.Goals as goal

pub returns-clause-again : goal.returns-clause-again
returns-clause-again c = λ bytes said.
    let script = c.args.script.now in
    let text : c.deref.result.now ≡ printed script = c.deref.ensures ∙ (c.in_ok-add_script.ensures ∙ ap (λ front. front ++ printed script) c.new-out.ensures.bytes) in
    IfOk-weaker c.copy.result (λ t. t ≡ c.deref.result.now) (λ t. IsSame script (verdict t)) (λ t is. subst (λ x. IsSame script (verdict x)) (sym (is ∙ text)) (reads_again bytes script said)) c.copy.ensures
