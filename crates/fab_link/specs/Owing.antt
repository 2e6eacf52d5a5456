-- Replies, and the items that owe one, as the frames of a lane tell them.
--     begins_reply head             the frame is the first one of a reply
--     ends_owing head               the frame is the last one of an item that owes a reply
--     replies op frames             how many replies to this operation begin with these frames
--     owing op frames               how many items of this operation that owe a reply end with these frames
--     IsOwed before posted taken    so many more replies to an operation are owed to a peer, by the frames posted to it and taken of it
use Rattle.std.specs.Prelude.{ℕ, ◌+◌, ◌≤◌, Bool, ◌&&◌, ◌==◌, List, count_by}
use Rattle.fab_base.specs.declared.frames.FrameHead.{FrameHead}
use Rattle.fab_base.specs.declared.frames.Frame.{Frame}
use Rattle.fab_base.specs.Replies.{is_reply, owes}
use Rattle.fab_link.specs.Joined.{is_last}

abbrev pub begins_reply : FrameHead → Bool
begins_reply head = (head.from == 0) && is_reply head.item.kind

abbrev pub ends_owing : FrameHead → Bool
ends_owing head = is_last head && owes head.item

abbrev pub replies : ℕ → List Frame → ℕ
replies op frames = count_by (λ f. begins_reply f.head && (f.head.item.op == op)) frames

abbrev pub owing : ℕ → List Frame → ℕ
owing op frames = count_by (λ f. ends_owing f.head && (f.head.item.op == op)) frames

-- At least n more replies to this operation are owed: the items of it that owe one and were taken whole, with those owed
-- before the two lists, are at least so many more than the replies that were begun.
abbrev pub IsOwed : (ℕ → ℕ) → List Frame → List Frame → ℕ → ℕ → Type 0
IsOwed before posted taken op n = replies op posted + n ≤ before op + owing op taken
