use Rattle.std.proofs.Common.{◌≡◌, ◌<◌, ◌∙◌, ℕ, length, slice_index_or, slice_set, sym, ap, subst, arith, refl}
use Rattle.fab_base.proofs.Options.{on_err}
use Rattle.fab_model.specs.Peers.{is_calm}
use Rattle.fab_finish.specs.Joined.{actors}
use Rattle.fab_finish.specs.Rests.{AreCancelled}
use Rattle.fab_finish.specs.Wanting.{Leaves}
use Rattle.fab_finish.proofs.Joining.{got}
use Rattle.fab_finish.proofs.Ending.{rest_calm, end_facts, end_goes_on, cancelled_none, cancelled_more, rest_after, done_after}
use Rattle.fab_finish.proofs.Wanting.{ended_grows, grows_same, grows_then, leaves_after, leaves_same, stays_all}
use Rattle.fab_finish.proofs.finish.cancel_all.Goals as goal

pub cancel_posted-requires : goal.cancel_posted-requires
cancel_posted-requires g c =
    let now = c.loop-number.peers in
    let n = c.loop-number.number in
    let below : n < length now = omega (arith, c.loop-number-test.true, c.loop-number.auto.peers) in
    let same = c.loop-number.invariant.cancelled.after n (λ l. omega (arith, l)) in
    let q = c.requires.quiet n (slice_index_or now n c.index-peers-number.result) (sym same ∙ got now n c.index-peers-number.result below) in
    record { quiet = q }

pub loop-number-init : goal.loop-number-init
loop-number-init g c = record { ends = λ conf lists reached. reached; facts_are = refl; grows = grows_same c.args.peers.now c.args.peers.now refl; cancelled = cancelled_none c.args.peers.now }

pub loop-number-preserved : goal.loop-number-preserved
loop-number-preserved g c =
    let old = c.args.peers.now in
    let now = c.loop-number.peers in
    let n = c.loop-number.number in
    let inv = c.loop-number.invariant in
    let below : n < length now = omega (arith, c.loop-number-test.true, c.loop-number.auto.peers) in
    let a = slice_index_or now n c.index-peers-number.result in
    let b = c.cancel_posted.new.self in
    let is_a = got now n c.index-peers-number.result below in
    let e = c.in_ok-cancel_posted.ensures in
    let calm = ap is_calm inv.facts_are ∙ rest_calm (actors old) c.requires.rest c.requires.done in
    record {
      ends = λ conf lists reached. end_goes_on now n a b is_a e.ended calm conf lists (inv.ends conf lists reached);
      grows = grows_then old now (slice_set now n b) inv.grows (ended_grows now n a b is_a c.cancel_posted.result c.cancel_posted.ensures.ended c.cancel_posted.ensures.stays);
      facts_are = end_facts now n a b is_a e.ended ∙ inv.facts_are;
      cancelled = cancelled_more old now n a b inv.cancelled is_a (record { facts_are = e.ended.facts_are; tx = e.ended.tx; coming = e.ended.coming; read = e.read; none = e.none });
    }

pub returns-clause-rest : goal.returns-clause-rest
returns-clause-rest g c =
    rest_after c.args.peers.now c.loop-number.peers c.loop-number.number c.loop-number-test.false c.loop-number.invariant.cancelled c.loop-number.invariant.facts_are c.requires.rest c.requires.done

pub returns-clause-done : goal.returns-clause-done
returns-clause-done g c =
    done_after c.args.peers.now c.loop-number.peers c.loop-number.number c.loop-number-test.false c.loop-number.invariant.cancelled c.loop-number.invariant.facts_are c.requires.rest c.requires.done

pub returns-clause-cancelled : goal.returns-clause-cancelled
returns-clause-cancelled g c =
    let all : c.loop-number.number ≡ length c.args.peers.now = omega (arith, c.loop-number-test.false, c.loop-number.auto.number-end) in
    subst (λ (n : ℕ). AreCancelled n c.args.peers.now c.loop-number.peers) all c.loop-number.invariant.cancelled

pub returns-in_err-cancel_posted-clause-grows : goal.returns-in_err-cancel_posted-clause-grows
returns-in_err-cancel_posted-clause-grows g c =
    let now = c.loop-number.peers in
    let n = c.loop-number.number in
    let below : n < length now = omega (arith, c.loop-number-test.true, c.loop-number.auto.peers) in
    let a = slice_index_or now n c.index-peers-number.result in
    let b = c.cancel_posted.new.self in
    grows_then c.args.peers.now now (slice_set now n b) c.loop-number.invariant.grows
    (ended_grows now n a b (got now n c.index-peers-number.result below) c.cancel_posted.result c.cancel_posted.ensures.ended c.cancel_posted.ensures.stays)

pub returns-in_err-cancel_posted-clause-leaves : goal.returns-in_err-cancel_posted-clause-leaves
returns-in_err-cancel_posted-clause-leaves g c =
    let now = c.loop-number.peers in
    let n = c.loop-number.number in
    let below : n < length now = omega (arith, c.loop-number-test.true, c.loop-number.auto.peers) in
    let a = slice_index_or now n c.index-peers-number.result in
    let b = c.cancel_posted.new.self in
    on_err c.from_residual.result (Leaves c.args.peers.now (slice_set now n b))
    (leaves_after c.args.peers.now now (slice_set now n b) c.loop-number.invariant.ends (leaves_same now (slice_set now n b) (stays_all now n a b (got now n c.index-peers-number.result below) c.in_err-cancel_posted.ensures.stays)))
