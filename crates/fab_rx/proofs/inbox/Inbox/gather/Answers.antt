use Rattle.std.proofs.Common.{◌≡◌, ◌<◌, None, length, length-set, refl, subst, sym}
use Rattle.fab_rx.specs.Arriving.{Arriving, begun_of}
use Rattle.fab_rx.proofs.Keeping.{gathers}
use Rattle.fab_rx.proofs.Claiming.{claims_arrived}
use Rattle.fab_rx.proofs.Moving.{multi_gather}
use Rattle.fab_rx.proofs.Numbering.{numbers_gather}
use Rattle.fab_rx.proofs.inbox.Inbox.gather.Goals as goal

pub invariant_of-self-2 : goal.invariant_of-self-2
invariant_of-self-2 g c =
    let source = c.args.source in
    let within : source < length c.self.inside.past.begun = subst (λ (v : Arriving). source < length v.begun) (sym c.self.view_is) c.requires.source in
    let nothing : begun_of c.self.inside.past source ≡ None = subst (λ (v : Arriving). begun_of v source ≡ None) (sym c.self.view_is) c.requires.nothing in
    rw (c.put_begun.ensures, c.note.ensures) (record {
      kept = gathers _ _ _ _ _ _ _ c.self.invariant.kept source c.args.head.now within nothing c.in_ok-bytes.bytes c.requires.other c.in_ok-bytes.ensures.items c.in_ok-bytes.ensures.capacity;
      numbers = numbers_gather c.self.inside.past c.self.invariant.numbers source c.args.head.now c.requires.other;
      shared = multi_gather _ _ _ _ _ _ _ c.self.invariant.kept _ c.self.invariant.shared source c.args.head.now within nothing _ c.in_ok-bytes.bytes refl c.requires.other;
      closable = rw length-set c.self.invariant.closable;
      ids = c.self.invariant.ids;
      sharing = c.self.invariant.sharing;
      aside = claims_arrived _ _ _ _ _ _ _ c.self.invariant.kept _ _ c.self.invariant.aside source c.args.head.now within nothing _;
    })
