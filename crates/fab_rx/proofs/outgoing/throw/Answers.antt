use Rattle.std.proofs.Common.{◌∙◌, set, Some, sym, ap, arith, rules}
use Rattle.fab_base.proofs.Options.{not_some}
use Rattle.fab_rx.specs.declared.results.Seen.{Seen}
use Rattle.fab_rx.specs.Stored.{thrown_on}
use Rattle.fab_rx.proofs.Parting.{source_within, begun_there, turns_to}
use Rattle.fab_rx.proofs.outgoing.throw.Goals as goal

pub take_begun-requires : goal.take_begun-requires
take_begun-requires c =
    let none = not_some c.in-Some.parcel.bytes (ap (λ (s : Seen). s.whole) (sym c.seen-seen.ensures) ∙ c.if-seen.false) in
    let within = source_within c.args.parcels.now c.args.coming.now.items c.args.id c.in-Some.parcel c.in-Some.ensures.value none c.requires.partly in
    let same = ap (λ (s : Seen). s.source) c.seen-seen.ensures in
    omega arith

pub unreachable-requires-in_default-take_begun : goal.unreachable-requires-in_default-take_begun
unreachable-requires-in_default-take_begun c =
    let none = not_some c.in-Some.parcel.bytes (ap (λ (s : Seen). s.whole) (sym c.seen-seen.ensures) ∙ c.if-seen.false) in
    begun_there c.args.parcels.now c.args.coming.now.items c.args.id c.in-Some.parcel c.in-Some.ensures.value none c.requires.partly (rw (← ap (λ (s : Seen). s.source) c.seen-seen.ensures) (search rules))

pub returns-clause-coming : goal.returns-clause-coming
returns-clause-coming c =
    let none = not_some c.in-Some.parcel.bytes (ap (λ (s : Seen). s.whole) (sym c.seen-seen.ensures) ∙ c.if-seen.false) in
    let same = ap (λ (s : Seen). s.source) c.seen-seen.ensures in
    let now = c.put_begun.ensures ∙ (λ i. set (c.take_begun.ensures.rest i) c.seen-seen.result.source (Some (c.thrown.ensures i))) in
    turns_to c.args.parcels.now c.args.coming.now.items c.args.id c.in-Some.parcel c.in-Some.ensures.value none c.requires.partly thrown_on c.in-Some-take_begun.begun _ (rw (← same) c.in-Some-take_begun.ensures.value) (rw (← same) now)
