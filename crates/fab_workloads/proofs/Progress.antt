-- The lines that are left, read one after another.
use Rattle.std.proofs.Common.{List, None, Some, [], ap, arith, length, refl, sym, ℕ, ◌+◌, ◌∙◌, ◌∷◌, ◌≡◌}
use Rattle.std.specs.Prelude.{Err, Ok}
use Rattle.fab_base.specs.declared.status.Why.{Why}
use Rattle.fab_words.specs.Rows.{lines_of}
use Rattle.fab_workloads.specs.Grammar.{Before, nothing, read_lines, rounds_said, then_rounds, verdict, why_of, with_line}
use Rattle.fab_workloads.specs.Reading.{before_of}
use Rattle.fab_workloads.specs.declared.reader.Reader.{Reader}

-- The lines before are taken: what the lines that are left make of what the reader has is what all lines say.
pub record Progress (bytes : List ℕ) (left : ℕ × List (List ℕ)) (reader : Reader) : Type 0 where
  pub rest : read_lines nothing 1 (lines_of bytes) ≡ read_lines (before_of reader) (left.0 + 1) left.1
  pub count : length (lines_of bytes) ≡ left.0 + length left.1

pub progress_none : (bytes : List ℕ) (left : ℕ × List (List ℕ)) (reader : Reader) → left ≡ (0, lines_of bytes) → before_of reader ≡ nothing → Progress bytes left reader
progress_none bytes left reader e none = record {
  rest = ap (λ l. read_lines nothing (l.0 + 1) l.1) (sym e) ∙ ap (λ (before : Before). read_lines before (left.0 + 1) left.1) (sym none);
  count = omega (arith, ap (λ l. l.0) e, ap (λ l. length l.1) e);
}

line_taken : (before : Before) (number : ℕ) (line : List ℕ) (lines : List (List ℕ)) → why_of before line ≡ None → read_lines before number (line ∷ lines) ≡ read_lines (with_line before number line) (number + 1) lines
unfolding read_lines
line_taken before number line lines e = rw (e, read_lines) refl

line_refused : (before : Before) (number : ℕ) (line : List ℕ) (lines : List (List ℕ)) (why : Why) → why_of before line ≡ Some why → read_lines before number (line ∷ lines) ≡ Err (number, why)
unfolding read_lines
line_refused before number line lines why e = rw (e, read_lines) refl

no_line : (before : Before) (number : ℕ) → read_lines before number [] ≡ Ok before
unfolding read_lines
no_line before number = refl

-- a line that is taken, one that is refused, and the end
module _ (bytes : List ℕ) (left : ℕ × List (List ℕ)) (old : Reader) (p : Progress bytes left old) where
  module _ (number : ℕ) (line : List ℕ) (rest : List (List ℕ)) (n : number ≡ left.0 + 1) (lines : left.1 ≡ line ∷ rest) where
    here : read_lines nothing 1 (lines_of bytes) ≡ read_lines (before_of old) number (line ∷ rest)
    here = p.rest ∙ ap (λ k. read_lines (before_of old) k left.1) (sym n) ∙ ap (read_lines (before_of old) number) lines

    pub progress_taken : (next : ℕ × List (List ℕ)) (new : Reader) → next.0 ≡ left.0 + 1 → next.1 ≡ rest → why_of (before_of old) line ≡ None
        → before_of new ≡ with_line (before_of old) number line → Progress bytes next new
    progress_taken next new m same none is = record {
      rest = here ∙ line_taken (before_of old) number line rest none
          ∙ ap (λ (before : Before). read_lines before (number + 1) rest) (sym is)
          ∙ ap (λ k. read_lines (before_of new) k rest) (let e : number + 1 ≡ next.0 + 1 = omega (arith, n, m) in e)
          ∙ ap (read_lines (before_of new) (next.0 + 1)) (sym same);
      count = omega (arith, p.count, ap length lines, ap length same, m);
    }

    pub progress_refused : (why : Why) → why_of (before_of old) line ≡ Some why → verdict bytes ≡ Err (number, why)
    unfolding verdict
    progress_refused why broken = ap (then_rounds (length (lines_of bytes))) (here ∙ line_refused (before_of old) number line rest why broken)

  pub progress_done : left.1 ≡ [] → verdict bytes ≡ rounds_said left.0 (before_of old)
  unfolding verdict
  progress_done none =
      let all = p.rest ∙ ap (read_lines (before_of old) (left.0 + 1)) none ∙ no_line (before_of old) (left.0 + 1) in
      let count : length (lines_of bytes) ≡ left.0 = omega (arith, p.count, ap length none) in
      ap (then_rounds (length (lines_of bytes))) all ∙ ap (λ k. rounds_said k (before_of old)) count
