use Rattle.std.proofs.Common.{◌≡◌, ◌∷◌, true, sym, ◌∙◌}
use Rattle.fab_words.specs.Rows.{is_text, words_of}
use Rattle.fab_script.proofs.ReaderLemmas.{line_answer}
use Rattle.fab_script.proofs.reader.Reader.take.Goals as goal

pub returns-in-None : goal.returns-in-None
returns-in-None c = λ before h.
    let word = c.in-Some.word.now in
    let text : is_text c.args.line.now ≡ true = sym c.if-not-all_text.ensures in
    let words : words_of c.args.line.now ≡ word ∷ c.next.new.self = sym c.of_line-words.ensures ∙ c.in-Some.ensures in
    line_answer before c.args.number c.args.line.now (word ∷ c.next.new.self) c.take_header.new.self c.take_header.result text words (c.take_header.ensures before h (sym h.header ∙ c.in-None.is))
