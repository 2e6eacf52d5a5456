-- What a narrow port holds, in the words of ports.
--     greeting_head  the head of the one frame that it gives
--     out_of p d     the lane to peer d: the port's own, where d is the one peer
--     in_of p s      what came from peer s: from the one peer that frame
use Rattle.std.specs.Prelude.{◌≡◌, ℕ, zero, suc, List, [], ◌∷◌, map, Option, None, Some}
use Rattle.fab_base.specs.declared.frames.Frame.{Frame}
use Rattle.fab_base.specs.declared.frames.FrameHead.{FrameHead}
use Rattle.fab_base.specs.declared.items.Kind.TheVariants.{Msg}
use Rattle.fab_base.specs.declared.items.Ack.TheVariants.{Nothing}
use Rattle.fab_base.specs.declared.items.Outcome.TheVariants.{Done}
use Rattle.fab_link.specs.Frames.{frame}
use Rattle.fab_link.specs.Meaning.{Outgoing, Incoming}
use Rattle.fab_port_suite.specs.declared.narrow.NarrowPort.{NarrowPort}
use Rattle.fab_port_suite.specs.declared.narrow.Greeting.{Greeting}
use Rattle.fab_port_suite.specs.declared.narrow.Greeting.TheVariants.{Waiting, Lent, Taken}

abbrev pub out_of : NarrowPort → ℕ → Outgoing
out_of p zero = record {
  after = None;
  owed = None;
  frames = map (λ head. frame head []) p.heads.items;
  lane_full_seen = p.lane_full_seen;
  pool_full_seen = p.pool_full_seen;
  full_at = p.full_at;
}
out_of p (suc d) = record { after = None; owed = None; frames = []; lane_full_seen = 0; pool_full_seen = 0; full_at = 0 }

-- an empty message
abbrev pub greeting_head : FrameHead
greeting_head = record {
  item = record { kind = Msg; op = 0; tag = 0; imm = None; ack = Nothing; key = 0; at = 0; count = 0; atom = None; outcome = Done; total = 0 };
  from = 0;
  len = 0;
}

abbrev pub greeting : Frame
greeting = frame greeting_head []

abbrev pub taken_at : Greeting → List Frame
taken_at Waiting = []
taken_at Lent = []
taken_at Taken = greeting ∷ []

abbrev pub lent_at : Greeting → Option Frame
lent_at Waiting = None
lent_at Lent = Some greeting
lent_at Taken = None

abbrev pub in_of : NarrowPort → ℕ → Incoming
in_of p zero = record { after = None; taken = taken_at p.greeting; lent = lent_at p.greeting; empty_seen = p.empty_seen; empty_at = p.empty_at }
in_of p (suc s) = record { after = None; taken = []; lent = None; empty_seen = 0; empty_at = 0 }

-- no in lists are told
pub nothing_first : NarrowPort → ℕ → Unit {0}
nothing_first p s = tt

pub nothing_behind : (p q : NarrowPort) (s : ℕ) → p.greeting ≡ Taken → Unit {0}
nothing_behind p q s taken = tt
