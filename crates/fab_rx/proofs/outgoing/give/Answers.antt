use Rattle.std.proofs.Common.{◌∙◌, set, Some, arith, rules}
use Rattle.fab_rx.specs.Stored.{redirected}
use Rattle.fab_rx.proofs.Parting.{source_within, begun_there, turns_to}
use Rattle.fab_rx.proofs.outgoing.give.Goals as goal

pub take_begun-requires : goal.take_begun-requires
take_begun-requires c = let within = source_within c.args.parcels.now c.args.coming.now.items c.args.id c.in-Some.parcel c.in-Some.ensures.value c.in-None.is c.requires.partly in omega arith

pub unreachable-requires-in_default-take_begun : goal.unreachable-requires-in_default-take_begun
unreachable-requires-in_default-take_begun c = begun_there c.args.parcels.now c.args.coming.now.items c.args.id c.in-Some.parcel c.in-Some.ensures.value c.in-None.is c.requires.partly (search rules)

pub returns-in-Some-take_begun-clause-coming : goal.returns-in-Some-take_begun-clause-coming
returns-in-Some-take_begun-clause-coming c =
    let now = c.put_begun.ensures ∙ (λ i. set (c.take_begun.ensures.rest i) c.in-Some.parcel.source (Some (c.redirected.ensures i))) in
    turns_to c.args.parcels.now c.args.coming.now.items c.args.id c.in-Some.parcel c.in-Some.ensures.value c.in-None.is c.requires.partly (redirected c.args.buf c.args.ctx) c.in-Some-take_begun.begun _ c.in-Some-take_begun.ensures.value now
