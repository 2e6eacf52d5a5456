-- The two ways to say that lanes end with whole items.
use Rattle.std.proofs.Common.{◌≡◌, ℕ, Some, None, refl, subst}
use Rattle.std.specs.Prelude.{Option}
use Rattle.fab_base.specs.declared.frames.FrameHead.{FrameHead}
use Rattle.fab_link.specs.Frames.{IsLast}
use Rattle.fab_link.specs.Cut.{IsBetweenItems}
use Rattle.fab_link.specs.Meaning.{Outgoing, end_of}
use Rattle.lane_bench.specs.Between.{AreBetween}

between_by : (o : Option FrameHead) → ((h : FrameHead) → o ≡ Some h → IsLast h) → IsBetweenItems o
between_by None k = tt
between_by (Some h) k = k h refl

pub to_items : (outs : ℕ → Outgoing) → AreBetween outs → (d : ℕ) → IsBetweenItems (end_of (outs d))
to_items outs k d = between_by (end_of (outs d)) (k d)

pub to_heads : (outs : ℕ → Outgoing) → ((d : ℕ) → IsBetweenItems (end_of (outs d))) → AreBetween outs
to_heads outs k d h e = subst IsBetweenItems e (k d)
