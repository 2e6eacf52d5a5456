use Rattle.std.proofs.Common.{◌≡◌, ◌<◌, true, [], List}
use Rattle.std.specs.Prelude.{count_by}
use Rattle.fab_face.specs.Acts.{Act}
use Rattle.fab_peer.specs.Turns.{IsCounted, Lived, living_of, told, is_some_act, is_line}
use Rattle.fab_peer.proofs.peer.Peer.do_lines.Given as goal

abbrev pub invariant-loop-round : goal.invariant-loop-round
invariant-loop-round g l =
    let seen = g.E.Sees.seen in
    record {
      lived : (acts : List Act) × Lived (told seen l.fn.self) (told seen l.self) acts × (l.moved ≡ is_some_act acts) × (count_by is_line acts ≡ l.round);
      log : (seen l.self.endpoint).log ≡ [];
      size : (seen l.self.endpoint).log_size ≡ (seen l.fn.self.endpoint).log_size;
      counted : IsCounted (living_of (told seen l.self));
      lines : l.self.lines ≡ l.fn.self.lines;
      moved : 0 < l.round → l.moved ≡ true;
    }
