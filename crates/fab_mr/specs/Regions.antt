-- The regions as a finite map (fi_mr(3), "fi_mr_reg": a key names one region; fi_rma(3): an address is an offset from its start).
--     region key access bytes      the region under this key, with these rights and bytes
--     region_at regions key        the region that the key names
--     reaches_past region at n     n bytes from the offset `at` on end behind the region's end
--     KeepsOthers key old new      every other key names what it named
use Rattle.std.specs.Prelude.{◌≡◌, ◌≢◌, ℕ, ◌+◌, Bool, List, length, map, Option, find, nat_lt}
use Rattle.fab_base.specs.declared.items.Access.{Access}
use Rattle.fab_model.specs.State.{Region}
use Rattle.fab_model.specs.Target.{is_keyed}
use Rattle.fab_mr.specs.declared.regions.Held.{Held}

abbrev pub region : ℕ → Access → List ℕ → Region
region key access bytes = record { key = key; access = access; bytes = bytes }

abbrev pub region_at : List Region → ℕ → Option Region
region_at regions key = find (is_keyed key) regions

abbrev pub reaches_past : Region → ℕ → ℕ → Bool
reaches_past region at n = nat_lt (length region.bytes) (at + n)

abbrev pub KeepsOthers : ℕ → List Region → List Region → Type 0
KeepsOthers key old new = (other : ℕ) → other ≢ key → region_at new other ≡ region_at old other

-- the regions that these entries hold
abbrev pub regions_of : List (ℕ × Held) → List Region
regions_of entries = map (λ e. region e.0 e.1.access e.1.buf) entries
