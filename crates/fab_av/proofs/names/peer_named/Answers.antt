use Rattle.std.proofs.Common.{Some, codes, decimal, None, drop, ap, sym, ◌∙◌, arith}
use Rattle.std.proofs.lemmas.Bool.Decides.{Decides-eqb}
use Rattle.std.proofs.lemmas.Slice.Eq.{strip_prefix_is}
use Rattle.fab_av.proofs.Naming.{peer_named-none, peer_named-then_some}
use Rattle.fab_av.proofs.names.peer_named.Goals as goal

pub returns-in_err-digits-clause-named : goal.returns-in_err-digits-clause-named
returns-in_err-digits-clause-named c =
    let other = strip_prefix_is Decides-eqb c.as_bytes.result.now (codes "shm://") None c.in_err-digits.ensures.cases in
    rw c.from_residual.ensures (sym (peer_named-none c.args.peers c.args.name.now (λ k h e. other (decimal k) (c.as_bytes.ensures.value ∙ sym e))))

pub returns-in_err-peer-clause-named : goal.returns-in_err-peer-clause-named
returns-in_err-peer-clause-named c =
    let split = strip_prefix_is Decides-eqb c.as_bytes.result.now (codes "shm://") (Some c.in_ok-digits.digits) c.in_ok-digits.ensures.cases in
    rw c.from_residual-in_err-peer.ensures (sym (peer_named-none c.args.peers c.args.name.now (λ k h e.
    c.in_err-peer.ensures k (omega arith) (ap (drop 6) (e ∙ (sym c.as_bytes.ensures.value ∙ split))))))

pub returns-clause-named : goal.returns-clause-named
returns-clause-named c =
    let split = strip_prefix_is Decides-eqb c.as_bytes.result.now (codes "shm://") (Some c.in_ok-digits.digits) c.in_ok-digits.ensures.cases in
    c.then_some.ensures ∙ peer_named-then_some c.args.peers c.in_ok-peer.peer c.args.name.now (omega arith) (omega (arith, rw c.in_ok-peer.was at c.number.type_inv)) (rw c.in_ok-peer.ensures (sym (sym c.as_bytes.ensures.value ∙ split)))
