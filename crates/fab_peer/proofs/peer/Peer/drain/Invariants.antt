use Rattle.std.proofs.Common.{◌≡◌, ◌++◌, ◌||◌, map, length}
use Rattle.fab_peer.specs.Turns.{step_of, is_some_event}
use Rattle.fab_peer.proofs.peer.Peer.drain.Given as goal

abbrev pub invariant-events : goal.invariant-events
invariant-events g l =
    let seen = g.E.Sees.seen in
    record {
      steps : l.self.schedule.items ++ map step_of (seen l.self.endpoint).log ≡ l.fn.self.schedule.items ++ map step_of (seen l.fn.self.endpoint).log;
      rest : record (seen l.self.endpoint) { log = (seen l.fn.self.endpoint).log } ≡ seen l.fn.self.endpoint;
      any : (l.any || is_some_event (seen l.self.endpoint).log) ≡ is_some_event (seen l.fn.self.endpoint).log;
      lines : l.self.lines ≡ l.fn.self.lines;
      results : l.self.results ≡ l.fn.self.results;
      kept : l.self.kept ≡ l.fn.self.kept;
    }

abbrev pub decreases-events : goal.decreases-events
decreases-events g l = length (g.E.Sees.seen l.self.endpoint).log
