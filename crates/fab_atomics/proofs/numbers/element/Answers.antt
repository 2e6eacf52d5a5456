use Rattle.std.proofs.Common.{◌-◌, bit_and}
use Rattle.fab_atomics.proofs.Spans.{and_span, or_span, xor_span}
use Rattle.fab_atomics.proofs.numbers.element.Goals as goal

pub returns-in-Bor-clause-fits : goal.returns-in-Bor-clause-fits
returns-in-Bor-clause-fits c = or_span c.args.num c.args.t c.args.b c.requires.old c.requires.operand

pub returns-in-Bxor-clause-fits : goal.returns-in-Bxor-clause-fits
returns-in-Bxor-clause-fits c = xor_span c.args.num c.args.t c.args.b c.requires.old c.requires.operand

pub returns-in-Mswap-clause-fits : goal.returns-in-Mswap-clause-fits
returns-in-Mswap-clause-fits c =
    let chosen = bit_and c.args.b c.args.c in
    let kept = bit_and c.args.t (c.ones.result - c.args.c) in
    or_span c.args.num chosen kept (and_span c.args.num c.args.b c.args.c c.requires.operand) (and_span c.args.num c.args.t (c.ones.result - c.args.c) c.requires.old)
