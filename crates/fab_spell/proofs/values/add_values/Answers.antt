use Rattle.std.proofs.Common.{rules, ◌≡◌, ◌≤◌, ◌++◌, ◌/◌, [], ◌∷◌, length, take, drop, string_bytes, sym, ap, ◌∙◌, arith}
use Rattle.fab_base.specs.Elements.{element_size}
use Rattle.fab_model.specs.Target.{number_of}
use Rattle.fab_spell.specs.Elements.{value_word, value_words, values_word}
use Rattle.fab_spell.proofs.Commas.{after_separator, word_added}
use Rattle.fab_spell.proofs.Elements.{words_step}
use Rattle.fab_spell.proofs.values.add_values.Goals as goal

pub loop-rest-preserved : goal.loop-rest-preserved
loop-rest-preserved c =
    let num = c.args.num in
    let rest = c.loop-rest.rest.now in
    let out = string_bytes c.loop-rest.out in
    let begun = string_bytes c.push_str.new.self in
    let now = string_bytes c.add_value.new.out in
    let size = c.element_size-size.ensures.size in
    let enough : element_size num ≤ length rest = omega arith in
    let front : c.split_at.result.0.now ≡ take (element_size num) rest = c.split_at.ensures.front ∙ ap (λ n. take n rest) size in
    let back : c.split_at.result.1.now ≡ drop (element_size num) rest = c.split_at.ensures.back ∙ ap (λ n. drop n rest) size in
    let value : c.number_of.result ≡ number_of (take (element_size num) rest) = c.number_of.ensures.value ∙ ap number_of front in
    let words = value_words (length (drop (element_size num) rest) / element_size num) num (drop (element_size num) rest) in
    let is = ap (λ ws. out ++ after_separator c.loop-rest.separator.now ws) (sym (words_step num rest enough)) ∙ c.loop-rest.invariant.1 in
    let wrote : now ≡ begun ++ value_word num (number_of (take (element_size num) rest)) = c.in_ok-add_value.ensures ∙ ap (λ n. begun ++ value_word num n) value in
    let added = word_added (string_bytes c.args.out.now) out begun now (values_word num c.args.values.now) c.loop-rest.separator.now (value_word num (number_of (take (element_size num) rest))) words c.in_ok-push_str.ensures.bytes wrote is in
    (search rules, ap (λ bs. now ++ after_separator (44 ∷ []) (value_words (length bs / element_size num) num bs)) back ∙ added)
