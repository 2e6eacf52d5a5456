-- A seat that speaks for one peer alone.
use Rattle.std.specs.Prelude.{◌≡◌, ℕ, ◌<◌, length}
use Rattle.fab_table.specs.declared.lane_table.LaneTable.{LaneTable}
use Rattle.fab_table.specs.declared.lane_table.PeerSeat.{PeerSeat}
use Rattle.fab_table.specs.Views.{part_at}
use Rattle.fab_table.specs.Seats.{IsOf}

pub record IsAlone (f : LaneTable) (s : PeerSeat) (me : ℕ) : Type 0 where
  pub of : IsOf f s
  pub one : length s.seat.me.0.parts ≡ 1
  pub me_is : (part_at s.seat.me.0 0).me ≡ me
  pub peers : (part_at s.seat.me.0 0).peers ≡ f.peers
  pub room : (part_at s.seat.me.0 0).room ≡ f.room
  pub pool : (part_at s.seat.me.0 0).pool ≡ f.pool
  pub below : me < f.peers
  pub all_outs : length (part_at s.seat.me.0 0).outs ≡ f.peers
  pub all_ins : length (part_at s.seat.me.0 0).ins ≡ f.peers
