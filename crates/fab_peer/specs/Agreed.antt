-- All frames that a peer ever took and posted, against what it holds.
--     Agrees peers h taken posted      what was taken of each peer joins to the items that are whole and to the part that is begun; what was posted to each joins to the items transmitted, the first of those accepted, and to the part that is posted of the next one
use Rattle.std.specs.Prelude.{◌≡◌, ◌<◌, ℕ, List, length, Some, None, slice_get, slice_index}
use Rattle.fab_base.specs.declared.frames.Frame.{Frame}
use Rattle.fab_base.specs.declared.items.Item.{Item}
use Rattle.fab_link.specs.Frames.{IsLane}
use Rattle.fab_link.specs.Joined.{joined}
use Rattle.fab_model.specs.State.{accepted_for}
use Rattle.fab_face.specs.Held.{Held, begun_of}
use Rattle.fab_peer.specs.Turns.{posted_part}

pub record Agrees (peers : ℕ) (h : Held) (taken posted : ℕ → List Frame) : Type 0 where
  pub begun : (s : ℕ) → (joined (taken s)).unfinished ≡ begun_of h s
  pub tails : (s : ℕ) → length (joined (taken s)).whole ≡ slice_index h.state.rx.tails s
  pub items : (d i : ℕ) (item : Item) → slice_get (joined (posted d)).whole i ≡ Some item → slice_get (accepted_for h.state.tx d) i ≡ Some item
  pub sent : (d : ℕ) → length (joined (posted d)).whole ≡ slice_index h.state.tx.sent d
  pub part : (d : ℕ) → (joined (posted d)).unfinished ≡ posted_part h d
  -- what was posted is cut as items are
  pub cut : (d : ℕ) → d < peers → IsLane None (posted d)
