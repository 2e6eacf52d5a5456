use Rattle.std.proofs.Common.{◌≡◌, length, sym, ap, ◌∙◌, arith}
use Rattle.fab_ring.specs.Ports.{part_of}
use Rattle.fab_ring.proofs.Releasing.{releasing_step, releasing_end}
use Rattle.fab_ring.proofs.port.RingPort.release.Goals as goal

pub loop-src-preserved : goal.loop-src-preserved
loop-src-preserved c = let i = c.loop-src.invariant in let q = c.loop-src.self in
    let all : length (part_of q).ins ≡ c.peers-peers.result = q.fits.all_ins ∙ ap (λ z. z.peers) i.port.0 ∙ sym (c.peers-peers.ensures ∙ ap (λ z. z.peers) c.deref.ensures) in record {
      port = (c.release_one.ensures.port.0 ∙ i.port.0, c.release_one.ensures.port.1 ∙ i.port.1);
      part = releasing_step c.loop-src.src (part_of c.args.self.now) (part_of q) (part_of c.release_one.new.self) i.part (let t = c.loop-src-test.true in omega arith) c.release_one.ensures.none c.release_one.ensures.some;
    }

pub returns-clause-part : goal.returns-clause-part
returns-clause-part c = let i = c.loop-src.invariant in let q = c.loop-src.self in
    let all : length (part_of q).ins ≡ c.peers-peers.result = q.fits.all_ins ∙ ap (λ z. z.peers) i.port.0 ∙ sym (c.peers-peers.ensures ∙ ap (λ z. z.peers) c.deref.ensures) in
    releasing_end c.loop-src.src (part_of c.args.self.now) (part_of q) i.part (let t = c.loop-src-test.false in omega arith)
