use Rattle.std.proofs.Common.{◌≤◌, ◌+◌, arith, ap, length, length-drop}
use Rattle.fab_outside.proofs.Pieces.{written_more, rest_after}
use Rattle.fab_outside.proofs.writing.write_all.Goals as goal

pub loop-rest-preserved : goal.loop-rest-preserved
loop-rest-preserved g c =
    let was = c.loop-rest.invariant in
    let bytes = c.args.bytes.now in
    let rest = c.loop-rest.rest.now in
    let k = c.in_ok-taken.taken in
    let within : k ≤ length rest = c.in_ok-taken.ensures.within in
    let long : was.0 + k ≤ length bytes = omega (arith, ap length was.2, length-drop was.0 bytes) in (
      was.0 + k,
      long,
      rest_after bytes rest was.0 k was.2 within,
      omega arith,
      written_more bytes rest was.0 k _ _ _ was.2 was.4 c.in_ok-taken.ensures.ok,
    )
