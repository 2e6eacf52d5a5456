use Rattle.std.proofs.Common.{◌≤◌, ◌+◌, ◌<◌, length, length-set, subst, sym}
use Rattle.std.specs.Prelude.{IsSomeAnd}
use Rattle.fab_rx.specs.Arriving.{Arriving, begun_of}
use Rattle.fab_rx.proofs.Moving.{multi_grown}
use Rattle.fab_rx.proofs.Growing.{claims_grown, item_there, grows_by, more_there}
use Rattle.fab_rx.proofs.inbox.Inbox.fill.Goals as goal

pub invariant_of-self : goal.invariant_of-self
invariant_of-self g c =
    let source = c.args.source in
    let within : source < length c.self.inside.past.begun = subst (λ (v : Arriving). source < length v.begun) (sym c.self.view_is) c.requires.source in
    let there = item_there (λ item. length item.bytes + length c.args.bytes.now ≤ item.head.total) (begun_of c.self.inside.past source)
    (subst (λ (v : Arriving). IsSomeAnd (begun_of v source) (λ item. length item.bytes + length c.args.bytes.now ≤ item.head.total)) (sym c.self.view_is) c.requires.fits) in
    let grew = more_there c.args.bytes.now source _ _ c.fill.ensures in
    rw c.note.ensures (record {
      kept = grows_by _ _ _ _ _ _ _ c.self.invariant.kept source within there.0 there.1 grew.0 (sym grew.1) grew.2 c.args.bytes.now _ grew.3 grew.4.coming grew.4.id;
      numbers = c.self.invariant.numbers;
      shared = multi_grown _ _ _ _ _ _ _ c.self.invariant.kept _ c.self.invariant.shared source within grew.0 (sym grew.1) grew.2 c.args.bytes.now _ grew.3 (λ way. grew.4.home _ _ _ way) grew.4.part;
      closable = rw (grew.3, length-set) c.self.invariant.closable;
      ids = c.self.invariant.ids;
      sharing = c.self.invariant.sharing;
      aside = claims_grown _ _ _ _ _ _ _ c.self.invariant.kept source within there.0 there.1 grew.0 (sym grew.1) _ _ c.self.invariant.aside grew.2 c.args.bytes.now _ grew.3 grew.4.id;
    })
