use Rattle.std.proofs.Common.{◌≡◌, ◌-◌, min, length, take, sym, ap, ◌∙◌, arith, length-take}
use Rattle.fab_rx.proofs.Pasting.{paste_is, paste_none}
use Rattle.fab_rx.proofs.filling.place.Goals as goal

pub returns-then-fit-gt0 : goal.returns-then-fit-gt0
returns-then-fit-gt0 c =
    let len = ap length c.as_slice.ensures in
    let fit : c.min-fit.result ≡ min (length c.args.bytes.now) (length c.args.buf.now - c.args.at) = omega arith in
    let taken : length (take c.min-fit.result c.args.bytes.now) ≡ c.min-fit.result = omega (arith, length-take c.min-fit.result c.args.bytes.now) in
    let written = rw taken at c.write_at.ensures in
    written ∙ sym (paste_is c.args.buf.now c.args.bytes.now c.args.at c.min-fit.result fit)

pub returns-else-fit-gt0 : goal.returns-else-fit-gt0
returns-else-fit-gt0 c =
    let len = ap length c.as_slice.ensures in
    sym (paste_none c.args.buf.now c.args.bytes.now c.args.at (omega arith))
