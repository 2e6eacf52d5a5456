-- In which bins the cards of a store stand.
--     loose_in card, loose_count cards     how many of these receives stand in no bin of a kind, tag and source
use Rattle.std.specs.Prelude.{◌≡◌, ◌+◌, ℕ, List, [], ◌∷◌, Option, Some, None, if◌then◌else◌}
use Rattle.fab_base.specs.declared.items.Want.{Want}
use Rattle.fab_base.specs.declared.items.Sign.{Sign}
use Rattle.fab_match.specs.declared.bucket.Card.{Card}
use Rattle.fab_match.specs.Bins.{exact_bin, open_bin, bin_of, is_loose}

-- each receive stands in the bin of what it wants
abbrev pub IsFiledByWant : ℕ → Card Want → Type 0
IsFiledByWant heads card = card.near ≡ bin_of heads card.item

-- each message stands in two bins of what it shows
abbrev pub IsFiledBySign : ℕ → Card Sign → Type 0
IsFiledBySign heads card = (card.near ≡ exact_bin heads card.item.tagged card.item.tag card.item.source) × (card.wide ≡ open_bin heads card.item.tagged card.item.tag)

abbrev pub loose_in : Option (Card Want) → ℕ
loose_in None = 0
loose_in (Some card) = if is_loose card.item then 1 else 0

abbrev pub loose_count : List (Card Want) → ℕ
loose_count [] = 0
loose_count (card ∷ cards) = loose_in (Some card) + loose_count cards
