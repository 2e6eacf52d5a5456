-- Lanes that end with whole items.
use Rattle.std.specs.Prelude.{◌≡◌, ℕ, Some}
use Rattle.fab_base.specs.declared.frames.FrameHead.{FrameHead}
use Rattle.fab_link.specs.Frames.{IsLast}
use Rattle.fab_link.specs.Meaning.{Outgoing, end_of}

-- the last frame of each lane, if any, is the last one of its item
abbrev pub AreBetween : (ℕ → Outgoing) → Type 0
AreBetween outs = (d : ℕ) (h : FrameHead) → end_of (outs d) ≡ Some h → IsLast h
