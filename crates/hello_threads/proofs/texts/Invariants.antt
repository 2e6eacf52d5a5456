use Rattle.std.specs.List.{All}
use Rattle.hello_threads.specs.Stream.{IsShort}
use Rattle.hello_threads.proofs.texts.Given as goal

abbrev pub invariant-loop-number : goal.invariant-loop-number
invariant-loop-number l = All IsShort l.all.items
