use Rattle.std.proofs.Common.{◌≡◌, map, string_bytes}
use Rattle.fab_host.proofs.command.texts_of.Given as goal

abbrev pub invariant-loop-arg : goal.invariant-loop-arg
invariant-loop-arg l = l.words.items ≡ map string_bytes l.yielded
