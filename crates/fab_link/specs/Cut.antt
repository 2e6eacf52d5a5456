-- How an item is cut into frames.
--     frame_count bytes         how many frames so many bytes make
--     heads_from item from n    the heads of the next n frames of an item, from this byte on
--     cut_heads item            the heads of all its frames
--     frame_of bytes head       the frame of this head, out of the item's bytes
--     cut item                  the frames of an item
--     cut_all items             the frames of all items, one item after another
--     IsBetweenItems before     the lane ends with a whole item
--     IsItem item               the item has as many bytes as its head names
use Rattle.std.specs.Prelude.{◌≡◌, ℕ, zero, suc, ◌+◌, ◌-◌, ◌/◌, List, [], ◌∷◌, min, max, length, map, take, drop, Option, Some, None}
use Rattle.std.specs.List.{flat_map}
use Rattle.fab_base.specs.declared.limits.TheConstants.{FRAME_BYTES}
use Rattle.fab_base.specs.declared.frames.FrameHead.{FrameHead}
use Rattle.fab_base.specs.declared.frames.Frame.{Frame}
use Rattle.fab_base.specs.declared.items.Item.{Item}
use Rattle.fab_base.specs.declared.items.ItemHead.{ItemHead}
use Rattle.fab_link.specs.Frames.{frame, IsLast}

-- FRAME_BYTES make a frame, the rest another; no bytes make one frame
abbrev pub frame_count : ℕ → ℕ
frame_count bytes = max 1 ((bytes + (FRAME_BYTES - 1)) / FRAME_BYTES)

abbrev pub heads_from : ItemHead → ℕ → ℕ → List FrameHead
heads_from item from zero = []
heads_from item from (suc n) = record { item = item; from = from; len = min FRAME_BYTES (item.total - from) } ∷ heads_from item (from + FRAME_BYTES) n

-- the heads of the frames still to come, where the next one begins at this byte
abbrev pub heads_at : ItemHead → Option ℕ → List FrameHead
heads_at item None = []
heads_at item (Some from) = heads_from item from (frame_count (item.total - from))

abbrev pub cut_heads : ItemHead → List FrameHead
cut_heads item = heads_from item 0 (frame_count item.total)

abbrev pub frame_of : List ℕ → FrameHead → Frame
frame_of bytes head = frame head (take head.len (drop head.from bytes))

abbrev pub cut : Item → List Frame
cut item = map (frame_of item.bytes) (cut_heads item.head)

abbrev pub cut_all : List Item → List Frame
cut_all items = flat_map cut items

-- the lane ends with a whole item
abbrev pub IsBetweenItems : Option FrameHead → Type 0
IsBetweenItems None = Unit {0}
IsBetweenItems (Some head) = IsLast head

abbrev pub IsItem : Item → Type 0
IsItem item = item.head.total ≡ length item.bytes
