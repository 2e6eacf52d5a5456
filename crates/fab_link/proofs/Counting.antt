-- Counts that are told rise only by counting.
use Rattle.std.proofs.Common.{◌≡◌, ℕ, ◌<◌, ◌≤◌, ◌+◌, ◌-◌, ◌^◌, arith, inl, inr}
use native.Mathlib.Decide.{dec_le}
use Rattle.fab_base.specs.Counts.{Rose, counted}
use Rattle.fab_link.specs.Meaning.{Outgoing, Noticed}

-- a stored count that goes one further rose
pub Rose-counted : (n : ℕ) → n < 2 ^ 64 → Rose n (counted n)
Rose-counted n l = elim (dec_le (n + 2) (2 ^ 64)) [ Prim.yes h ↦ inl (omega arith) | Prim.no h ↦ inr (omega arith, omega arith) ]

-- a count that is told to be the same below its last value did not rise
not-Rose-same : (n : ℕ) → n + 1 < 2 ^ 64 → Rose n n → ⊥
not-Rose-same n l r = elim r [ inl h ↦ omega (arith, h) | inr h ↦ omega (arith, h.1, l) ]

-- nor did one that jumps back to its last value
not-Rose-back : (n : ℕ) → 2 ^ 64 ≤ n → Rose n (2 ^ 64 - 1) → ⊥
not-Rose-back n l r = elim r [ inl h ↦ omega (arith, h, l) | inr h ↦ omega (arith, h.0, l) ]

-- a count that begins at 0 and rose is not 0 any more
Rose-from_0 : (n : ℕ) → Rose 0 n → 0 < n
Rose-from_0 n r = elim r [ inl h ↦ h | inr h ↦ omega (arith, h.0, h.1) ]

-- a count of 0 did not rise
not-Rose-to_0 : (old new : ℕ) → new ≡ 0 → Rose old new → ⊥
not-Rose-to_0 old new e r = elim r [ inl h ↦ omega (arith, h, e) | inr h ↦ omega (arith, h.1, e) ]

-- a lane that was never seen full moves `full_at` at no call
not-full_at : (old new : Outgoing) → new.lane_full_seen ≡ 0 → new.pool_full_seen ≡ 0 → Noticed old new → new.full_at ≡ old.full_at
not-full_at old new lane pool n = elim n.full_at [
  | inl h ↦ h.2
  | inr h ↦ absurd (elim h.0 [
    | inl r ↦ not-Rose-to_0 old.lane_full_seen new.lane_full_seen lane r
    | inr r ↦ not-Rose-to_0 old.pool_full_seen new.pool_full_seen pool r
  ])
]
