-- The first of what is stored is the oldest unread entry.
use Rattle.std.proofs.Common.{◌≡◌, ◌<◌, ◌-◌, ℕ, suc, zero, List, [], ◌∷◌, length, drop, get_or, slice_get, Option, Some, None, refl, sym, ◌∙◌, ap, arith, length-drop, Bor}
use Rattle.std.specs.Prelude.{IfSome, IfNone}
use Rattle.std.specs.Slice.{IsItemAt}
use Rattle.std.proofs.lemmas.List.{length-map}
use Rattle.std.proofs.lemmas.Option.{slice_get_past}
use Rattle.fab_base.specs.declared.entries.Taken.{Taken}
use Rattle.fab_base.specs.declared.operations.Written.{Written}
use Rattle.fab_model.specs.State.{Completions}
use Rattle.fab_model.specs.Peers.{unread}
use Rattle.fab_cq.specs.Queues.{entries_of, IsKept, IsNext}

entry_there : (ws : List Written) (n : ℕ) (entry : Taken) → n < length ws → entry ≡ get_or (drop n (entries_of ws)) 0 entry → (w : Written) × (slice_get ws n ≡ Some w) × (w.entry ≡ entry)
entry_there [] n entry lt first = absurd (omega (arith, lt))
entry_there (w ∷ ws) zero entry lt first = (w, refl, sym first)
entry_there (w ∷ ws) (suc n) entry lt first = entry_there ws n entry (omega (arith, lt)) first

module _ {entries : List Taken} {capacity limit : ℕ} {cq : Completions} (kept : IsKept entries capacity limit cq) where
  how_many : length entries ≡ length cq.written - cq.taken_out
  how_many = ap length kept.unread ∙ length-drop cq.taken_out (entries_of cq.written) ∙ ap (λ n. n - cq.taken_out) (length-map cq.written (λ w. w.entry))

  pub first_is_next : (entry : Taken) → 0 < length entries → entry ≡ get_or entries 0 entry → IsNext entry cq
  first_is_next entry lt first =
      entry_there cq.written cq.taken_out entry (omega (arith, lt, how_many)) (first ∙ ap (λ es. get_or es 0 entry) kept.unread)

  pub lent_is_next : (r : Option (Bor Taken)) → IsItemAt entries 0 r → IfSome r (λ entry. IsNext entry.now cq)
  lent_is_next None item = tt
  lent_is_next (Some entry) item = first_is_next entry.now item.3.0 item.1

  pub nothing_is_next : (r : Option (Bor Taken)) → IsItemAt entries 0 r → IfNone r (unread cq ≡ None)
  nothing_is_next None item = slice_get_past cq.written cq.taken_out (omega (arith, item.3, how_many))
  nothing_is_next (Some entry) item = tt
  -- ---- an unread entry by its place
