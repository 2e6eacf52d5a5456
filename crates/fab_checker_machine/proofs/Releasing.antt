-- What is let go of a multi-receive, and when.
use Rattle.std.proofs.Common.{◌≡◌, ℕ, Bool, true, false, cond, List, [], ◌∷◌, Some, refl, ap, arith}
use Rattle.std.specs.Prelude.{find, nat_eq}
use Rattle.std.proofs.lemmas.Bool.Decides.{nat_tests}
use Rattle.fab_base.specs.declared.operations.Receive.{Receive}
use Rattle.fab_base.specs.declared.entries.Taken.TheVariants.{Success}
use Rattle.fab_base.specs.declared.entries.Entry.TheVariants.{Released}
use Rattle.fab_model.specs.State.{State, under_way, write, with_rx}
use Rattle.fab_model.specs.Matching.{remove_first}
use Rattle.fab_model.specs.Complete.{is_made_by, release_multi}

passes_step : {X : Type 0} (test : X → Bool) (x r : X) (xs : List X) (b : Bool) → test x ≡ b → cond b (Some x) (find test xs) ≡ Some r → (find test xs ≡ Some r → test r ≡ true) → test r ≡ true
passes_step test x r xs true t e more = let same : x ≡ r = cc in rw (← same) t
passes_step test x r xs false t e more = more e

-- what is found passes the test
pub found_passes : {X : Type 0} (test : X → Bool) (r : X) (xs : List X) → find test xs ≡ Some r → test r ≡ true
found_passes test r [] e = absurd (cc)
found_passes test r (x ∷ xs) e = passes_step test x r xs (test x) refl e (found_passes test r xs)

pub made_by : (call : ℕ) (r : Receive) (xs : List Receive) → find (is_made_by call) xs ≡ Some r → r.call ≡ call
made_by call r xs e = let t : nat_eq r.call call ≡ true = found_passes (is_made_by call) r xs e in grind (arith, nat_tests)

-- what is left of the closing receives, and the entry of the one that is let go
abbrev pub let_go_in : List Receive → Receive → State → State
let_go_in closing r s = write (Some r.call) (Success (Released r.ctx r.used r.buf)) (let rx = s.rx in with_rx (record rx { closing = closing }) s)

pub release_some : (s : State) (call : ℕ) (r : Receive) → find (is_made_by call) s.rx.closing ≡ Some r → under_way s.rx call ≡ false → release_multi call s ≡ let_go_in (remove_first (is_made_by call) s.rx.closing) r s
unfolding release_multi
release_some s call r some free = rw (some, free, release_multi) (ap (λ n. let_go_in (remove_first (is_made_by n) s.rx.closing) r s) (made_by call r s.rx.closing some))
