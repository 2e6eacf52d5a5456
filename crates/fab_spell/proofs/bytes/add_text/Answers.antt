-- A text passes the test of UTF-8, and other bytes do not.
use Rattle.std.proofs.Common.{◌≡◌, ℕ, true, false, List, ◌++◌, string_bytes, codes, ap, ◌∙◌, append_assoc}
use Rattle.std.specs.Str.{is_utf8}
use Rattle.fab_words.proofs.WordLemmas.{is_text_utf8, not_text_utf8}
use Rattle.fab_spell.specs.Spelling.{text_word}
use Rattle.fab_spell.proofs.bytes.add_text.Goals as goal

text_done : (from begun next text bytes : List ℕ) → begun ≡ from ++ codes "text:" → next ≡ begun ++ text → text ≡ bytes → is_utf8 bytes ≡ true → next ≡ from ++ text_word bytes
text_done from begun next text bytes first then same is =
    then ∙ ap (λ front. front ++ text) first ∙ append_assoc from (codes "text:") text ∙ ap (λ bytes. from ++ (codes "text:" ++ bytes)) same ∙ rw is

pub returns-in_ok-push_str-in-Ok-2 : goal.returns-in_ok-push_str-in-Ok-2
returns-in_ok-push_str-in-Ok-2 c =
    let cases = c.in-Ok.ensures.cases in
    text_done (string_bytes c.args.out.now) (string_bytes c.push_str.new.self) (string_bytes c.push_str-in-Ok.new.self) c.in-Ok.text.now c.args.bytes.now
    c.in_ok-push_str-in-Ok.ensures.bytes c.in_ok-push_str-in-Ok-2.ensures.bytes cases.0 (is_text_utf8 c.args.bytes.now cases.1)

pub returns-in-Err : goal.returns-in-Err
returns-in-Err c =
    let none : is_utf8 c.args.bytes.now ≡ false = not_text_utf8 c.args.bytes.now c.in-Err.ensures.cases.0 in
    rw none c.add_digits.ensures
