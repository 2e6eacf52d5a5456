use Rattle.std.proofs.Common.{refl, sym, ap, ◌∙◌, arith}
use Rattle.fab_model.specs.Sending.{is_busy, let_out}
use Rattle.fab_model.proofs.Letting.{none_goes}
use Rattle.fab_checker_halves.specs.Seen.{tx_of}
use Rattle.fab_checker_halves.proofs.LetOut.{lets_first}
use Rattle.fab_checker_halves.proofs.halves.Transmitting.let_out.Goals as goal

pub loop-held-init : goal.loop-held-init
loop-held-init c = let lt = c.if-to-len.false in let n = c.len.ensures in (refl, refl, omega (arith, lt, n))

pub loop-held-smaller : goal.loop-held-smaller
loop-held-smaller c =
    let f = lets_first c.args.to c.as_slice.result.now c.loop-held.held.items c.remove-first.new.self.items (tx_of c.loop-held.self) (tx_of c.go_out.new.self) c.remove-first.result c.as_slice.ensures.value c.loop-held.invariant.2 (c.loop-held-test.ensures.goes refl) c.remove-first.ensures.value c.remove-first.ensures.items c.in_ok-go_out.ensures in
    f.fewer

pub loop-held-preserved : goal.loop-held-preserved
loop-held-preserved c =
    let f = lets_first c.args.to c.as_slice.result.now c.loop-held.held.items c.remove-first.new.self.items (tx_of c.loop-held.self) (tx_of c.go_out.new.self) c.remove-first.result c.as_slice.ensures.value c.loop-held.invariant.2 (c.loop-held-test.ensures.goes refl) c.remove-first.ensures.value c.remove-first.ensures.items c.in_ok-go_out.ensures in
    (f.same ∙ c.loop-held.invariant.0, refl, f.within)

pub returns : goal.returns
returns c = c.hold.ensures ∙ sym (none_goes c.args.to c.loop-held.held.items (tx_of c.loop-held.self) (ap (let_out (is_busy (tx_of c.loop-held.self) c.args.to)) (sym (c.as_slice.ensures.value)) ∙ c.loop-held-test.ensures.none refl)) ∙ c.loop-held.invariant.0
