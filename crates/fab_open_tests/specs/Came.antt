-- What came to an endpoint whose frames are carried by hand.
--     came e s        the head of the last frame that came from a peer
--     Keeps old new   no frame came, and the peers are as many
--     IsNew n e       an endpoint of so many peers to which nothing came
--     IsNewOver n e   the same of one over a plain port
--     IsReady n p     such a port as it is made
--     message_head    a message without remote data, which asks for no answer
--     piece_head      a frame of it
use Rattle.std.specs.Prelude.{◌≡◌, ℕ, List, [], length, Option, Some, None}
use Rattle.fab_base.specs.declared.frames.Frame.{Frame}
use Rattle.fab_base.specs.declared.frames.FrameHead.{FrameHead}
use Rattle.fab_base.specs.declared.items.Ack.TheVariants.{Nothing}
use Rattle.fab_base.specs.declared.items.ItemHead.{ItemHead}
use Rattle.fab_base.specs.declared.items.Kind.{Kind}
use Rattle.fab_base.specs.declared.items.Outcome.TheVariants.{Done}
use Rattle.fab_link.specs.Frames.{last_head}
use Rattle.fab_link.specs.Meaning.{AreFresh}
use Rattle.fab_link.specs.Plain.{Plain, fresh_lane, in_of, lane_at, out_of}
use Rattle.fab_face.specs.Held.{Seen}
use Rattle.fab_ep.specs.Value.{Whole}

abbrev pub listed : Option (List Frame) → List Frame
listed None = []
listed (Some xs) = xs

abbrev pub came : {Home : Type 0} → Seen Home → ℕ → Option FrameHead
came e s = last_head (e.lanes.ins s).after (listed (e.lanes.in_list s))

abbrev pub Keeps : {Home : Type 0} → Seen Home → Seen Home → Type 0
Keeps old new = (new.lanes.peers ≡ old.lanes.peers) × ((s : ℕ) → came new s ≡ came old s)

abbrev pub IsNew : {Home : Type 0} → ℕ → Seen Home → Type 0
IsNew n e = (e.lanes.peers ≡ n) × ((s : ℕ) → came e s ≡ None)

abbrev pub IsNewOver : ℕ → Whole Plain → Type 0
IsNewOver n e = (length e.port.lanes ≡ n) × ((s : ℕ) → last_head (lane_at e.port s).in_after (lane_at e.port s).in_list ≡ None)

-- a plain port for so many peers as it is made
pub record IsReady (n : ℕ) (p : Plain) : Type 0 where
  pub peers : length p.lanes ≡ n
  pub lanes : (d : ℕ) → lane_at p d ≡ fresh_lane None None
  pub fresh : (d : ℕ) → AreFresh (out_of p d) (in_of p d)

-- ---- a message

abbrev pub message_head : Kind → ℕ → ℕ → ItemHead
message_head kind tag total = record {
  kind = kind;
  op = 0;
  tag = tag;
  imm = None;
  ack = Nothing;
  key = 0;
  at = 0;
  count = 0;
  atom = None;
  outcome = Done;
  total = total;
}

abbrev pub piece_head : ItemHead → ℕ → ℕ → FrameHead
piece_head item from len = record { item = item; from = from; len = len }
