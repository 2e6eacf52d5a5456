-- What a look for the next frame of a peer leaves of a port.
use Rattle.std.specs.Prelude.{◌≡◌, ◌≢◌, ℕ, ◌+◌, length, Option, None, IsSome, IfNone}
use Rattle.fab_base.specs.declared.frames.FrameRef.{FrameRef}
use Rattle.fab_link.specs.Meaning.{Fronted, Others}
use Rattle.fab_table.specs.Views.{part_at, in_at}
use Rattle.fab_table.specs.Plays.{Sat, SawPut}
use Rattle.fab_table.specs.Seats.{sat}
use Rattle.fab_ring.specs.declared.port.RingPort.{RingPort}
use Rattle.fab_ring.specs.Ports.{part_of, number_of, peers_of, table_of, out_of, in_of, moves_of}

-- A look at the table, at how many frames the peer s posted on its lane to this one, showed as many as were taken of s. By
-- this step of the table, and no other, the seat went from what it knew at p to what it knows at q.
pub record SawAllTaken (p q : RingPort) (s : ℕ) : Type 0 where
  -- what the seat knew and had in hand at the step: it is the seat of this port alone, which knew what p tells
  pub seat : Sat
  pub alone : length seat.0.parts ≡ 1
  pub knew : part_at seat.0 0 ≡ part_of p
  -- how many frames of the lane the step showed
  pub shown : ℕ
  pub step : SawPut seat shown (sat q.seat) 0 s
  pub all : shown ≡ length (in_at (part_of p) s).taken

-- what `front` left of the port p, of whose peer s it gave this answer
pub record Looked (p q : RingPort) (s : ℕ) (answer : Option FrameRef) : Type 0 where
  -- as of each port
  pub fronted : Fronted (in_of p s) (in_of q s) answer
  pub others : Others s (in_of p) (in_of q)
  pub outgoing : out_of q ≡ out_of p
  pub number : number_of q ≡ number_of p
  pub peers : peers_of q ≡ peers_of p
  pub home : table_of q ≡ table_of p
  pub moves : moves_of q ≡ moves_of p
  -- None comes only of such a look
  pub saw : IfNone answer (SawAllTaken p q s)
  -- and of the lane of the port to itself only where all that was posted was taken
  pub own : answer ≡ None → s ≡ number_of p → length (out_of p s).frames ≡ length (in_of p s).taken
  -- one look a call: None raises the count of empty lanes by just one, and a frame raises it not at all
  pub one_look : answer ≡ None → (in_of q s).empty_seen ≡ (in_of p s).empty_seen + 1
  pub no_look : answer ≢ None → (in_of q s).empty_seen ≡ (in_of p s).empty_seen
  -- where a frame lies lent already no step is made: the seat is as it was, with all that it knows and has in hand
  pub again : IsSome (in_of p s).lent → q.seat ≡ p.seat
  -- all that is known of the other lanes stays
  pub others_known : (e : ℕ) → e ≢ s → in_at (part_of q) e ≡ in_at (part_of p) e
  pub outgoing_known : (part_of q).outs ≡ (part_of p).outs
