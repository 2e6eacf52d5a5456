-- What the plain lists of a peer are in the machine.
--     cq_of           its completions
--     state_of s      the peer's machine
--     posting_of, seen_call      a call
use Rattle.std.specs.Prelude.{replicate}
use Rattle.fab_model.specs.State as machine
use Rattle.fab_model.specs.Receiving.{Posting}
use Rattle.fab_model.specs.Calls as calls
use Rattle.fab_checker_machine.specs.declared.calls.Call.{Call}
use Rattle.fab_checker_machine.specs.declared.calls.Call.TheVariants.{Transmit, Post, Look, TakeClaimed, DropClaimed, Cancel, Insert, Remove, Reg, Close, Put, Show, Count}
use Rattle.fab_checker_halves.specs.Seen.{rx_of, tx_of}
use Rattle.fab_checker_machine.specs.declared.state.Completions.{Completions}
use Rattle.fab_checker_machine.specs.declared.state.State.{State}
use Rattle.fab_checker_values.specs.Seen.{order_of}
use Rattle.fab_checker_machine.specs.declared.receiving.Posting as receiving

abbrev pub cq_of : Completions → machine.Completions
cq_of cq = record { written = cq.written.items; taken_out = cq.taken_out; size = cq.size }

abbrev pub state_of : State → machine.State
state_of s = record {
  caps = s.caps;
  selective = s.selective;
  most_tx = s.most_tx;
  most_rx = s.most_rx;
  most_message = s.most_message;
  av = s.av.items;
  regions = s.regions.items;
  rx = rx_of s.rx;
  tx = tx_of s.tx;
  cq = cq_of s.cq;
  counters = s.counters;
  calls = s.calls;
}

-- a receive's buffer is filled with zeros
abbrev pub posting_of : receiving.Posting → Posting
posting_of p = record { tagged = p.tagged; source = p.source; tag = p.tag; ignore = p.ignore; buf = replicate p.len 0; least = p.least; ctx = p.ctx }

abbrev pub seen_call : Call → calls.Call
seen_call (Transmit order) = calls.Transmit (order_of order)
seen_call (Post posting) = calls.Post (posting_of posting)
seen_call (Look how source tag ignore ctx) = calls.Look how source tag ignore ctx
seen_call (TakeClaimed len ctx) = calls.TakeClaimed (replicate len 0) ctx
seen_call (DropClaimed ctx) = calls.DropClaimed ctx
seen_call (Cancel ctx) = calls.Cancel ctx
seen_call (Insert name) = calls.Insert name
seen_call (Remove index) = calls.Remove index
seen_call (Reg key access bytes) = calls.Reg key access bytes
seen_call (Close key) = calls.Close key
seen_call (Put key at bytes) = calls.Put key at bytes
seen_call (Show key) = calls.Show key
seen_call (Count class) = calls.Count class
