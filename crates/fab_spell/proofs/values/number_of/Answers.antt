use Rattle.std.proofs.Common.{◌-◌, arith, length}
use Rattle.fab_spell.proofs.LowFirst.{number_step, fits_step, room_step}
use Rattle.fab_spell.proofs.values.number_of.Goals as goal

pub overflow_mul-number : goal.overflow_mul-number
overflow_mul-number c = omega (arith, room_step (length c.args.bytes.now) c.loop-i.i c.loop-i.number 0 c.requires c.loop-i-test.true c.loop-i.auto.i c.loop-i.invariant.1 (omega arith))

pub overflow_add-number : goal.overflow_add-number
overflow_add-number c =
    omega (arith, room_step (length c.args.bytes.now) c.loop-i.i c.loop-i.number c.from.result c.requires c.loop-i-test.true c.loop-i.auto.i c.loop-i.invariant.1 (omega (arith, c.from.ensures, c.type_inv.bytes (c.loop-i.i - 1))))

pub loop-i-preserved : goal.loop-i-preserved
loop-i-preserved c = (
  number_step c.args.bytes.now c.loop-i.i c.loop-i.number c.from.result c.loop-i-test.true c.loop-i.auto.i c.loop-i.invariant.0 c.from.ensures,
  fits_step (length c.args.bytes.now) c.loop-i.i c.loop-i.number c.from.result c.loop-i-test.true c.loop-i.auto.i c.loop-i.invariant.1 (omega (arith, c.from.ensures, c.type_inv.bytes (c.loop-i.i - 1))),
)
