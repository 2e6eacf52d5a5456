-- The buffers of sends, as they are filled and taken.
use Rattle.std.proofs.Common.{◌≡◌, ℕ, Bool, true, false, cond, List, [], ◌∷◌, ◌++◌, Option, None, Some, length, refl, sym, ap, subst, ◌∙◌}
use Rattle.std.specs.Prelude.{slice_get}
use Rattle.std.specs.Option.{option_map}
use Rattle.fab_base.specs.declared.script.Line.{Line}
use Rattle.fab_base.specs.declared.script.LineOp.{LineOp}
use Rattle.fab_peer.specs.declared.lines.Filled.{Filled}
use Rattle.fab_peer.specs.Filled.{IsAt, IsFilled, sent, sent_at}
use Rattle.fab_peer.specs.Turns.{Told, next_op}

pub filled_more : (lines : List Line) (fs : List Filled) (f : Filled) → IsAt lines f.at f.buf → IsFilled lines fs → IsFilled lines (fs ++ f ∷ [])
filled_more lines [] f is all = (is, tt)
filled_more lines (x ∷ fs) f is all = (all.0, filled_more lines fs f is all.1)

pub filled_if : (b : Bool) (lines : List Line) (fs gs : List Filled) (f : Filled) → IsAt lines f.at f.buf → IsFilled lines fs → gs ≡ cond b (fs ++ f ∷ []) fs → IsFilled lines gs
filled_if true lines fs gs f is all e = subst (λ hs. IsFilled lines hs) (sym e) (filled_more lines fs f is all)
filled_if false lines fs gs f is all e = subst (λ hs. IsFilled lines hs) (sym e) all

by_op : (o : Option Line) → option_map (λ (line : Line). sent line.op) o ≡ option_map sent (option_map (λ (line : Line). line.op) o)
by_op None = refl
by_op (Some line) = refl

-- the buffer of the line that comes next has its bytes
pub next_sent : {Home : Type 0} (a : Told Home) (n : ℕ) (op : LineOp) (b : List ℕ) → IsAt a.lines n b → n ≡ length a.results → next_op a ≡ Some op → b ≡ sent op
next_sent a n op b is count next =
    is (sent op) (ap (λ m. sent_at a.lines m) count ∙ by_op (slice_get a.lines (length a.results)) ∙ ap (option_map sent) next)

-- and the line stays the next one
pub next_still : {Home : Type 0} (a : Told Home) (lines : List Line) (op : LineOp) → lines ≡ a.lines → next_op a ≡ Some op → next_op (record a { lines = lines }) ≡ Some op
next_still a lines op same next = ap (λ ls. option_map (λ (line : Line). line.op) (slice_get ls (length a.results))) same ∙ next
