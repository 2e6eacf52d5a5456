-- The verb, the words after it, and the line's end.
use Rattle.std.proofs.Common.{◌≡◌, ◌++◌, ◌∷◌, [], string_bytes, ap, ◌∙◌, arith}
use Rattle.std.proofs.lemmas.Grind.{common_steps}
use Rattle.fab_grammar.specs.Verbs.{name_of}
use Rattle.fab_spell.specs.Spelling.{verb_for, args_for}
use Rattle.fab_model.proofs.Blanks.{line_done}
use Rattle.fab_spell.proofs.lines.add_line.Goals as goal

pub returns : goal.returns
returns c =
    let verb : c.name.result.now ≡ name_of (verb_for c.args.op.now) = c.name.ensures ∙ ap name_of c.verb_for.ensures in
    let end : string_bytes c.push.new.self ≡ string_bytes c.add_args.new.out ++ 10 ∷ [] = grind (arith, common_steps, c.in_ok-push.ensures) in
    line_done (string_bytes c.args.out.now) (string_bytes c.push_str.new.self) (string_bytes c.add_args.new.out) (string_bytes c.push.new.self) (name_of (verb_for c.args.op.now)) (args_for c.args.op.now)
    (c.in_ok-push_str.ensures.bytes ∙ ap (λ text. string_bytes c.args.out.now ++ text) verb) c.in_ok-add_args.ensures end
