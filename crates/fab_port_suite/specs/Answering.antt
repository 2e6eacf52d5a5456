-- What a caller that answers sees of a port, and what it posts.
use Rattle.std.specs.Prelude.{◌≡◌, ℕ, Some, None}
use Rattle.fab_base.specs.declared.frames.Frame.{Frame}
use Rattle.fab_base.specs.declared.frames.FrameHead.{FrameHead}
use Rattle.fab_base.specs.declared.items.Ack.TheVariants.{Nothing}
use Rattle.fab_base.specs.declared.items.Kind.TheVariants.{Reply}
use Rattle.fab_base.specs.declared.items.Outcome.TheVariants.{Done}
use Rattle.fab_link.specs.Meaning.{Incoming}

-- a frame of this head lies lent
abbrev pub HasLent : Incoming → FrameHead → Type 0
HasLent i head = (f : Frame) × (i.lent ≡ Some f) × (f.head ≡ head)

-- the head of the one frame of a reply of no bytes
abbrev pub reply_head : ℕ → FrameHead
reply_head op = record {
  item = record { kind = Reply; op = op; tag = 0; imm = None; ack = Nothing; key = 0; at = 0; count = 0; atom = None; outcome = Done; total = 0 };
  from = 0;
  len = 0;
}
