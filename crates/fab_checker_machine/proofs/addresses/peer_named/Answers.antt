use Rattle.std.proofs.Common.{ℕ, Bool, ◌<◌, ◌++◌, sym, ◌∙◌, List, arith}
use Rattle.std.specs.Prelude.{codes, decimal, bytes_eq}
use Rattle.fab_checker_machine.proofs.Numbers.{none_more, found_below}
use Rattle.fab_checker_machine.proofs.addresses.peer_named.Goals as goal

abbrev is_named : List ℕ → ℕ → Bool
is_named name k = bytes_eq (codes "shm://" ++ decimal k) name

pub returns-then-branch : goal.returns-then-branch
returns-then-branch c =
    let lt : c.loop-peer.peer < c.args.peers = omega arith in
    sym (found_below (is_named c.args.name.now) c.args.peers c.loop-peer.peer c.loop-peer.invariant (sym c.in_ok-has_name.ensures ∙ c.if-branch.true) lt)

pub loop-peer-preserved : goal.loop-peer-preserved
loop-peer-preserved c = none_more (is_named c.args.name.now) c.loop-peer.peer c.loop-peer.invariant (sym c.in_ok-has_name.ensures ∙ c.if-branch.false)
