use Rattle.std.proofs.Common.{◌≡◌, ◌∙◌, sym, ap, subst}
use Rattle.fab_ep.specs.Value.{Whole}
use Rattle.fab_ring.specs.declared.port.RingPort.{RingPort}
use Rattle.fab_ring.specs.Gather.{GoesOn}
use Rattle.fab_domain_tests.proofs.Staying.{Succeeds, succeeds}
use Rattle.fab_domain_tests.proofs.crossing.crossed.Goals as goal

pub reseat-requires-clause-goes_on : goal.reseat-requires-clause-goes_on
reseat-requires-clause-goes_on g c =
    let given = c.unseat-zero.ensures in
    let looked = c.next-came.ensures in
    let same : c.unseat-zero.result.1 ≡ c.unseat-zero.result.0.port = given.port ∙ sym (ap (λ (e : Whole RingPort). e.port) given.endpoint) in
    let goes : GoesOn c.unseat-zero.result.1 c.in-Ok.zero_plain = c.in-Ok.ensures.goes_on.0 in
    let s = subst (λ (p : RingPort). Succeeds p c.next-came.new.port) same (succeeds c.unseat-zero.result.1 c.in-Ok.zero_plain c.next-came.new.port goes looked.same.0 looked.same.1 looked.outs looked.ins) in
    record { fresh = s.fresh; number = s.number; peers = s.peers; out_after = s.out_after; in_after = s.in_after }
