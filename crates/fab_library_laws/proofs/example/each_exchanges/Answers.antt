use Rattle.std.proofs.Common.{◌<◌, length, length-set, ◌∙◌, arith, refl}
use Rattle.fab_library_laws.proofs.Leaving.{none_exchanged, one_exchanged, same_after, same_at_first, zeros_exchanged}
use Rattle.fab_library_laws.proofs.example.each_exchanges.Goals as goal

pub loop-me-init : goal.loop-me-init
loop-me-init c = record { count = refl; exchanged = none_exchanged c.args.endpoints.now.items; same = same_at_first c.args.endpoints.now.items }

pub loop-me-preserved : goal.loop-me-preserved
loop-me-preserved c =
    let test = c.loop-me-test.true in
    let end = c.len-me-end.ensures in
    let long = c.args.endpoints.now.ok.0 in
    let count = c.loop-me.invariant.count in
    let within : c.loop-me.me < length c.loop-me.endpoints.items = omega (arith, test, end, long, count) in
    let its = zeros_exchanged _ c.exchange.new.endpoint c.loop-me.me _ _ c.in_ok-room.ensures c.in_ok-bytes.ensures c.exchange.ensures.some_recorded in
    record {
      count = length-set c.loop-me.endpoints.items c.loop-me.me c.exchange.new.endpoint ∙ c.loop-me.invariant.count;
      exchanged = one_exchanged c.args.endpoints.now.items c.loop-me.endpoints.items c.loop-me.me _ c.exchange.new.endpoint within c.index_mut.ensures.value c.loop-me.invariant.same its c.loop-me.invariant.exchanged;
      same = same_after c.args.endpoints.now.items c.loop-me.endpoints.items c.loop-me.me _ c.exchange.new.endpoint within c.index_mut.ensures.value c.loop-me.invariant.same;
    }
