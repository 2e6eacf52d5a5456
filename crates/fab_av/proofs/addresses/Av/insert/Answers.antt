use Rattle.std.proofs.Common.{◌≡◌, ◌++◌, ◌∷◌, [], ◌<◌, take, length, get_or, map, sym, ◌∙◌, refl, arith, append_assoc}
use Rattle.std.proofs.lemmas.Grind.{common_steps}
use Rattle.std.proofs.lemmas.List.{take_more, map-append, get_or_default}
use Rattle.fab_base.specs.declared.peers.LineResult.TheVariants.{Index}
use Rattle.fab_av.specs.Addresses.{Addresses, index_named}
use Rattle.fab_av.proofs.Machines.{inserting-more}
use Rattle.fab_av.proofs.Reporting.{told-more, all-more}
use Rattle.fab_av.proofs.addresses.Av.insert.Goals as goal

pub loop-name-preserved : goal.loop-name-preserved
loop-name-preserved c =
    let loop = c.loop-name in
    let one = c.insert_one-index in
    let names = c.args.names.now in
    let i = loop.name-index in
    let within : i < length names = omega arith in
    let named : get_or names i [] ≡ c.as_str.result.now = get_or_default names i [] c.name-item.result within ∙ sym (c.as_str.ensures ∙ c.name-item.is) in
    let old : Addresses = record { peers = loop.self-inside.peers; indices = loop.self-inside.by_index.items } in
    let new : Addresses = record { peers = loop.self-inside.peers; indices = one.new.by_index.items } in
    let pushed : c.push.new.self.items ≡ loop.indices.items ++ one.result ∷ [] = rw c.unwrap.ensures at c.push.ensures.items in
    let index : one.result ≡ index_named new (get_or names i []) = rw named one.ensures.index in
    record {
      table = grind (arith, common_steps);
      peers = loop.invariant.peers;
      grown = grind (arith, common_steps);
      room = grind (arith, common_steps);
      listed = grind (arith, common_steps);
      spare = grind (arith, common_steps);
      machine = λ s has.
          let mid = record s { av = loop.self-inside.by_index.items } in
          let step = one.ensures.machine mid (record { peers = has.peers ∙ sym loop.invariant.peers; indices = refl }) in
          rw (pushed, map-append Index loop.indices.items (one.result ∷ []))
          (inserting-more s mid _ names i (map Index loop.indices.items) (Index one.result) within (loop.invariant.machine s has) (rw named step));
      inserted = grind (arith, common_steps);
      extended = (loop.invariant.extended.0 ++ one.ensures.extended.0, rw (one.ensures.extended.1, loop.invariant.extended.1, append_assoc) refl);
      told = rw (pushed, take_more names i [] within)
          (told-more old new (take i names) loop.indices.items (get_or names i []) one.result refl one.ensures.extended one.ensures.table.limit
          loop.invariant.all loop.invariant.told index);
      all = rw (take_more names i [] within)
          (all-more old new (take i names) (get_or names i []) refl one.ensures.extended one.ensures.table.limit loop.invariant.all
          (λ room is. rw (← index) (one.ensures.all room (rw named at is))));
      few = grind (arith, common_steps);
    }
