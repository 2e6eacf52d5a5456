use Rattle.hello_threads.specs.Stream.{StreamKeeps}
use Rattle.hello_threads.proofs.stream.Stream.flow.Given as goal

abbrev pub invariant-turns : goal.invariant-turns
invariant-turns g l = StreamKeeps l.other l.texts (g.E.Sees.seen l.fn.endpoint) l.fn.self (g.E.Sees.seen l.endpoint) l.self
