use Rattle.hello_threads.proofs.stream.Stream.flow.Goals as goal

pub turns-init : goal.turns-init
turns-init g c = λ opening at. at

pub turns-preserved : goal.turns-preserved
turns-preserved g c = λ opening at. c.turn.ensures opening (c.turns.invariant opening at)

pub returns-then-is_flushed-clause-keeps : goal.returns-then-is_flushed-clause-keeps
returns-then-is_flushed-clause-keeps g c = c.turns.invariant

pub returns-in_err-turn-clause-keeps : goal.returns-in_err-turn-clause-keeps
returns-in_err-turn-clause-keeps g c = λ opening at. c.turn.ensures opening (c.turns.invariant opening at)
