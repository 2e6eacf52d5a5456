-- A cancel takes the first receive of its context that may be cancelled, and writes its buffer.
use Rattle.std.proofs.Common.{◌≡◌, ◌==◌, ℕ, Bool, true, false, List, [], ◌∷◌, Option, Some, None, is_some, refl, sym, ap, subst, ◌∙◌}
use Rattle.std.specs.Prelude.{IfSome}
use Rattle.std.specs.Option.{option_map}
use Rattle.std.proofs.lemmas.Bool.{or_from, or_parts}
use Rattle.fabric.specs.Calls.{Cancel, do_call}
use Rattle.fabric.specs.Held.{Held, Seen}
use Rattle.fabric.specs.Late.{ReceivesLate}
use Rattle.fabric.specs.Matching.{remove_first}
use Rattle.fabric.specs.Receiving.{cancel, cancel_fault, cancellable, may_leave}
use Rattle.fabric.specs.State.{State}
use Rattle.fabric.specs.Words.{Done, ErrEntry, Failure, Receive, Success, Taken}
use Rattle.fabric_uses.specs.Uses.{IsCalm, first_unread, has_multi, posted_buf}
use Rattle.fabric_uses.proofs.Calm.{made}
use Rattle.fabric_uses.proofs.Coming.{at_last}
use Rattle.fabric_uses.proofs.Posting.{done}

fewer : (test : Receive → Bool) (posted : List Receive) → has_multi posted ≡ false → has_multi (remove_first test posted) ≡ false
fewer test [] none = refl
fewer test (r ∷ posted) none = (let parts = or_parts _ _ none in by (test r) parts.0 parts.1 (fewer test posted parts.1))
  where
    by : (b : Bool) → is_some r.least ≡ false → has_multi posted ≡ false → has_multi (remove_first test posted) ≡ false → has_multi (let l : List Receive = elim b [ true ↦ posted | false ↦ r ∷ remove_first test posted ] in l) ≡ false
    by true one others rest = others
    by false one others rest = or_from _ _ one rest

abbrev of_ctx : ℕ → Receive → Bool
of_ctx ctx = λ r. r.ctx == ctx

cancels : (s : State) (ctx : ℕ) (t : State) → do_call s (Cancel ctx) ≡ (Done, t) → t ≡ cancel s (of_ctx ctx)
unfolding do_call
cancels s ctx t e = done (cancel_fault s (of_ctx ctx)) s (cancel s (of_ctx ctx)) t e

still : (s : State) (ctx : ℕ) → has_multi s.rx.posted ≡ false → has_multi (cancel s (of_ctx ctx)).rx.posted ≡ false
unfolding cancel
still s ctx none = by (cancellable (of_ctx ctx) s.rx) refl
  where
    by : (o : Option Receive) → cancellable (of_ctx ctx) s.rx ≡ o → has_multi (cancel s (of_ctx ctx)).rx.posted ≡ false
    by None same = rw (same, cancel) none
    by (Some r) same = rw (same, cancel) (fewer (may_leave s.rx (of_ctx ctx)) s.rx.posted none)

abbrev buf_in : Taken → Option (List ℕ)
buf_in (Success entry) = None
buf_in (Failure error) = error.buf

cancel_next : (s : State) (ctx : ℕ) (error : ErrEntry) → first_unread s.cq ≡ None → first_unread (cancel s (of_ctx ctx)).cq ≡ Some (Failure error) → option_map (λ (r : Receive). r.buf) (cancellable (of_ctx ctx) s.rx) ≡ error.buf
unfolding cancel
cancel_next s ctx error none is = by (cancellable (of_ctx ctx) s.rx) refl
  where
    by : (o : Option Receive) → cancellable (of_ctx ctx) s.rx ≡ o → option_map (λ (r : Receive). r.buf) (cancellable (of_ctx ctx) s.rx) ≡ error.buf
    by None same = absurd (cc (none, rw (same, cancel) at is))
    by (Some r) same = rw same (sym (ap buf_in (at_last s.cq.written _ (λ w. w.entry) (Failure error) s.cq.taken_out none (rw (same, cancel) at is))))

pub cancelled_back : {Home : Type 0} (ctx : ℕ) (old mid : Seen Home) → ReceivesLate (Cancel ctx) old mid → (o : Option (List ℕ))
    → (has_multi mid.held.state.rx.posted ≡ false → IfSome o (λ buf. (error : ErrEntry) × (first_unread mid.held.state.cq ≡ Some (Failure error)) × (error.buf ≡ Some buf))) → IsCalm old → IfSome o (λ back. posted_buf ctx old ≡ Some back)
cancelled_back ctx old mid late None told calm = tt
cancelled_back ctx old mid late (Some buf) told calm =
    let (m, answered, rest) = made (Cancel ctx) old mid late calm.0 in
    let is = cancels old.held.state ctx m.state answered in
    let none = ap (λ (s : State). has_multi s.rx.posted) is ∙ still old.held.state ctx calm.0 in
    let same = rest none in
    let (error, next, back) = told (ap (λ (h : Held). has_multi h.state.rx.posted) same ∙ none) in
    let there : first_unread (cancel old.held.state (of_ctx ctx)).cq ≡ Some (Failure error) = subst (λ (s : State). first_unread s.cq ≡ Some (Failure error)) (ap (λ (h : Held). h.state) same ∙ is) next in
    cancel_next old.held.state ctx error calm.1 there ∙ back
