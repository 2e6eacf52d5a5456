-- Multi-receives made and released, and the buffer of one.
use Rattle.std.proofs.Common.{◌≡◌, ℕ, ◌+◌, ◌-◌, ◌<◌, ◌≤◌, ◌⊎◌, inl, inr, Bool, false, List, [], ◌∷◌, ◌++◌, length, take, drop, map, min, count_by, Option, Some, None, refl, sym, ap, ap₂, ◌∙◌, arith, eqb, ltb, cond}
use Rattle.std.specs.Prelude.{zip, find, unwrap_or}
use Rattle.std.proofs.lemmas.Bool.{ne_eqb}
use Rattle.std.proofs.lemmas.Bool.Decides.{nat_tests}
use Rattle.std.proofs.lemmas.List.Folds.{find-append}
use Rattle.std.proofs.lemmas.List.Sums.{sum_by-cons}
use Rattle.fab_base.specs.declared.operations.Receive.{Receive}
use Rattle.fab_base.specs.declared.peers.LineResult.{LineResult}
use Rattle.fab_base.specs.declared.peers.LineResult.TheVariants.{Done, Refused, Waited, Index, Bytes, Count}
use Rattle.fab_base.specs.declared.script.Bound.{Bound}
use Rattle.fab_base.specs.declared.script.Line.{Line}
use Rattle.fab_base.specs.declared.script.LineOp.{LineOp}
use Rattle.fab_base.specs.declared.script.LineOp.TheVariants.{MRecv}
use Rattle.fab_base.proofs.Numbers.{min_within as either_within}
use Rattle.fab_model.specs.State.{State}
use Rattle.fab_model.specs.Peers.{Actor, is_multi_line, is_release, is_only_multi, multi_buf, first_some, released_buf}
use Rattle.fab_model.specs.Replay.{bind_line, bind_op}
use Rattle.fab_report.proofs.Blanks.{one_empty}
use Rattle.fab_replay.specs.Seen.{is_made}

-- ---- lines

-- the payload files make no multi-receive
multi_bound : (ctx : ℕ) (b : Bound) (number : ℕ) (op : LineOp) (outcome : LineResult) → is_multi_line ctx (record { number = number; op = bind_op b op }, outcome) ≡ is_multi_line ctx (record { number = number; op = op }, outcome)
multi_bound ctx b number op (Refused fault) = refl
multi_bound ctx b number op (Waited kept) = refl
multi_bound ctx b number op (Index index) = refl
multi_bound ctx b number op (Bytes bytes) = refl
multi_bound ctx b number op (Count ok err) = refl
multi_bound ctx b number (MRecv c source len least) Done = refl
multi_bound ctx b number _ Done = refl

count_step : {X : Type 0} (test : X → Bool) (x y : X) (xs ys : List X) → test x ≡ test y → count_by test xs ≡ count_by test ys → count_by test (x ∷ xs) ≡ count_by test (y ∷ ys)
count_step test x y xs ys here rest = sum_by-cons (λ z. cond (test z) 1 0) x xs ∙ ap₂ (λ (b : Bool) (n : ℕ). cond b 1 0 + n) here rest ∙ sym (sum_by-cons (λ z. cond (test z) 1 0) y ys)

counted_bound : (ctx : ℕ) (b : Bound) (lines : List Line) (results : List LineResult) → count_by (is_multi_line ctx) (zip (map (bind_line b) lines) results) ≡ count_by (is_multi_line ctx) (zip lines results)
counted_bound ctx b [] results = refl
counted_bound ctx b (line ∷ lines) [] = refl
counted_bound ctx b (line ∷ lines) (x ∷ results) = count_step (is_multi_line ctx) (bind_line b line, x) (line, x) (zip (map (bind_line b) lines) results) (zip lines results) (multi_bound ctx b line.number line.op x) (counted_bound ctx b lines results)

none_counted : (ctx : ℕ) (lines : List Line) (results : List LineResult) → (lines ≡ []) ⊎ (results ≡ []) → count_by (is_multi_line ctx) (zip lines results) ≡ 0
none_counted ctx [] results none = refl
none_counted ctx (line ∷ lines) [] none = refl
none_counted ctx (line ∷ lines) (x ∷ results) (inl none) = cc
none_counted ctx (line ∷ lines) (x ∷ results) (inr none) = cc

-- at the end of a loop over lines and results all are counted
pub all_counted : (ctx : ℕ) (lines : List Line) (results : List LineResult) (i made whole : ℕ) → i ≡ min (length lines) (length results) → made + count_by (is_multi_line ctx) (zip (drop i lines) (drop i results)) ≡ whole → made ≡ whole
all_counted ctx lines results i made whole end so_far =
    omega (arith, so_far, none_counted ctx (drop i lines) (drop i results) (one_empty lines results i (either_within (length lines) (length results) i end)))

pub only_is : (a : Actor) (b : Bound) (lines : List Line) (ctx made read : ℕ) (r : Bool) → map (bind_line b) lines ≡ a.lines → made ≡ count_by (is_multi_line ctx) (zip lines a.results)
    → read ≡ count_by (is_release ctx) (take a.state.cq.taken_out a.state.cq.written) → r ≡ eqb made (read + 1) → r ≡ is_only_multi a ctx
only_is a b lines ctx made read r is m n e =
    let counted : count_by (is_multi_line ctx) (zip a.lines a.results) ≡ made = ap (λ ls. count_by (is_multi_line ctx) (zip ls a.results)) (sym is) ∙ counted_bound ctx b lines a.results ∙ sym m in
    rw (counted, ← n) e

pub one_more_is : (made read : ℕ) → 0 < made → eqb (made - 1) read ≡ eqb made (read + 1)
one_more_is made read some = grind (arith, nat_tests)

pub none_is : (made read : ℕ) → made ≤ 0 → false ≡ eqb made (read + 1)
none_is made read none = sym (ne_eqb made (read + 1) (λ e. omega arith))

pub zero_below : (made : ℕ) → made ≤ 0 → ltb 0 made ≡ false
zero_below made none = grind (arith, nat_tests)

-- ---- the buffer

pub buf_posted : (s : State) (call : Option ℕ) (r : Receive) → find (is_made call) s.rx.posted ≡ Some r → multi_buf s call ≡ r.buf
buf_posted s call r e = let f : find (is_made call) (s.rx.posted ++ s.rx.closing) ≡ Some r = find-append (is_made call) s.rx.posted s.rx.closing ∙ rw e refl in rw (f, multi_buf) refl

pub buf_closing : (s : State) (call : Option ℕ) (r : Receive) → find (is_made call) s.rx.posted ≡ None → find (is_made call) s.rx.closing ≡ Some r → multi_buf s call ≡ r.buf
buf_closing s call r e g = let f : find (is_made call) (s.rx.posted ++ s.rx.closing) ≡ Some r = find-append (is_made call) s.rx.posted s.rx.closing ∙ rw (e, g) refl in rw (f, multi_buf) refl

pub buf_written : (s : State) (call : Option ℕ) (o : Option (List ℕ)) → find (is_made call) s.rx.posted ≡ None → find (is_made call) s.rx.closing ≡ None → first_some (released_buf call) s.cq.written ≡ o → multi_buf s call ≡ unwrap_or o []
buf_written s call o e g h = let f : find (is_made call) (s.rx.posted ++ s.rx.closing) ≡ None = find-append (is_made call) s.rx.posted s.rx.closing ∙ rw (e, g) refl in rw (f, multi_buf, h) refl
