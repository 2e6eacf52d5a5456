-- How laps follow one another, whatever the schedule.
use Rattle.std.proofs.Common.{◌≡◌, ◌+◌, ℕ, zero, suc, Bool, List, arith}
use Rattle.fab_base.specs.declared.peers.Step.{Step}
use Rattle.fab_peer.specs.Turns.{Told, ReadOn}
use Rattle.fab_peer.specs.Laps.{Reads, Lap, Laps, InLaps}

module _ {Home : Type 0} where
  pub reads_of : (a b : Told Home) (any : Bool) → ReadOn a b any → Reads a b
  reads_of a b any r = record { acts = r.acts; are = r.reads; lives = r.lived.lives; lanes = r.lanes; size = r.size }

  lap_by : (fixed : Bool) (a b : Told Home) (s t : List Step) → Lap fixed a b → Lap fixed (record a { schedule = s }) (record b { schedule = t })
  lap_by fixed a b s t l = record {
    acts = l.acts;
    mid = l.mid;
    lines = l.lines;
    ported = l.ported;
    log = l.log;
    size = l.size;
    few = l.few;
    whole = l.whole;
    near = l.near;
    moved = l.moved;
    progressed = l.progressed;
    reads = (let r = l.reads in record { acts = r.acts; are = r.are; lives = r.lives; lanes = r.lanes; size = r.size });
  }

  laps_by : (fixed : Bool) (n : ℕ) (a b : Told Home) (s t : List Step) → Laps fixed n a b → Laps fixed n (record a { schedule = s }) (record b { schedule = t })
  laps_by fixed zero a b s t l = lap_by fixed a b s t l
  laps_by fixed (suc n) a b s t (mid, before, l) = (record mid { schedule = s }, laps_by fixed n a mid s s before, lap_by fixed mid b s t l)

  -- and one lap more
  pub laps_more : (fixed : Bool) (n : ℕ) (a b c : Told Home) → Laps fixed n a b → Lap fixed b c → Laps fixed (n + 1) a c
  laps_more fixed n a b c before l = let one : n + 1 ≡ suc n = omega arith in rw one (b, before, l)

  -- a turn that was made over another schedule
  pub in_laps_by : (fixed : Bool) (looks : ℕ) (a b : Told Home) (s t : List Step) → InLaps fixed looks a b → InLaps fixed looks (record a { schedule = s }) (record b { schedule = t })
  in_laps_by fixed looks a b s t i = record {
    start = i.start;
    reads = (let r = i.reads in record { acts = r.acts; are = r.are; lives = r.lives; lanes = r.lanes; size = r.size });
    more = i.more;
    most = i.most;
    one = i.one;
    laps = laps_by fixed i.more i.start b i.start.schedule t i.laps;
  }
