use Rattle.std.specs.List.{All}
use Rattle.ranks_heard.specs.Ranks.{IsShort}
use Rattle.ranks_heard.proofs.lines.Given as goal

abbrev pub invariant-loop-number : goal.invariant-loop-number
invariant-loop-number l = All IsShort l.lines.items
