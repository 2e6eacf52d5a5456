-- Chains of places through a vector of links. A node is a head, or a place counted from behind the heads.
--     Leads .. a xs b        from the node a the links lead through the places xs to the node b, and back
--     IsChain chains h xs    the chain with the head h has the places xs, in order
--     IsLinked chains x      the links round a place name it
--     Covers chains x        there is a link for this place
use Rattle.std.specs.Prelude.{◌≡◌, ◌<◌, ◌≤◌, ◌+◌, ◌^◌, ℕ, List, [], ◌∷◌, length, slice_index_or}
use Rattle.fab_match.specs.declared.chains.Link.{Link}
use Rattle.fab_match.specs.declared.chains.Chains.{Chains}

abbrev pub nowhere : Link
nowhere = record { next = 0; prev = 0 }

abbrev pub next_of : List Link → ℕ → ℕ
next_of links node = (slice_index_or links node nowhere).next

abbrev pub prev_of : List Link → ℕ → ℕ
prev_of links node = (slice_index_or links node nowhere).prev

module _ (heads len : ℕ) (next prev : ℕ → ℕ) where
  abbrev pub Leads : ℕ → List ℕ → ℕ → Type 0
  Leads a [] b = (next a ≡ b) × (prev b ≡ a)
  Leads a (x ∷ xs) b = (next a ≡ heads + x) × (prev (heads + x) ≡ a) × (heads + x < len) × Leads (heads + x) xs b

abbrev pub IsChain : Chains → ℕ → List ℕ → Type 0
IsChain chains h xs = (h < chains.heads) × (chains.heads ≤ length chains.links.items)
    × Leads chains.heads (length chains.links.items) (next_of chains.links.items) (prev_of chains.links.items) h xs h

abbrev pub IsLinked : Chains → ℕ → Type 0
IsLinked chains x = let node = chains.heads + x in let next = next_of chains.links.items in let prev = prev_of chains.links.items in
    (node < length chains.links.items) × (next node < length chains.links.items) × (prev node < length chains.links.items)
    × (next (prev node) ≡ node) × (prev (next node) ≡ node)

abbrev pub Covers : Chains → ℕ → Type 0
Covers chains x = (chains.heads + x < length chains.links.items) × (chains.heads + x < 2 ^ 32)
