use Rattle.std.proofs.Common.{◌≡◌, ◌-◌, ◌≤◌, ◌+◌, ℕ, length}
use Rattle.fab_ep.specs.Value.{seen}
use Rattle.fab_peer.specs.Turns.{told}
use Rattle.fab_meeting.specs.Accounts.{answer_at}
use Rattle.fab_rounds.specs.Rounds.{between}
use Rattle.fab_rounds.specs.Words.{goes}
use Rattle.fab_rounds.specs.Staying.{account_in, IsSeated, IsLife}
use Rattle.fab_rounds.proofs.staying.live.Given as goal

abbrev pub invariant-loop-going : goal.invariant-loop-going
invariant-loop-going g l = record {
  within : l.made ≤ l.limit;
  seated : IsSeated l.meeting l.peer.seat;
  place : (account_in l.peer.seat).place ≡ (account_in l.fn.peer.seat).place;
  count : length (account_in l.peer.seat).said ≡ l.made;
  life : IsLife (between (told (seen g.P.Port) l.fn.peer.peer) l.fn.peer.moved l.fn.peer.failed) (between (told (seen g.P.Port) l.peer.peer) l.peer.moved l.peer.failed) (account_in l.peer.seat);
  now : (n : ℕ) → l.made ≡ n + 1 → goes (answer_at (account_in l.peer.seat) n) ≡ l.going;
}

abbrev pub decreases-loop-going : goal.decreases-loop-going
decreases-loop-going g l = l.limit - l.made
