use Rattle.std.proofs.Common.{◌≡◌, ℕ, ◌+◌, ◌<◌, ◌≤◌, ◌∙◌, List, None, Some, Option, get_or, length, length-set, vec_capacity, refl, subst, sym, ap, arith}
use Rattle.std.specs.Prelude.{OnSome}
use Rattle.fab_model.specs.Arrivals.{taker}
use Rattle.fab_rx.specs.declared.stored.Parcel.{Parcel}
use Rattle.fab_rx.specs.Stored.{parcel_without}
use Rattle.fab_rx.specs.Arriving.{Arriving, begun_of}
use Rattle.fab_rx.proofs.Claiming.{claims_kept, claims_widened}
use Rattle.fab_rx.proofs.Moving.{multi_keep}
use Rattle.fab_rx.proofs.Numbering.{numbers_keep}
use Rattle.fab_rx.proofs.Keeping.{at_same, fresh_message, keeps, widened}
use Rattle.fab_rx.proofs.Tables.{undone}
use Rattle.fab_rx.proofs.inbox.Inbox.keep.Goals as goal

pub add_unexpected-requires : goal.add_unexpected-requires
add_unexpected-requires g c =
    let source = c.args.source in
    let within : source < length c.self.inside.past.begun = subst (λ (v : Arriving). source < length v.begun) (sym c.self.view_is) c.requires.source in
    let nothing : begun_of c.self.inside.past source ≡ None = subst (λ (v : Arriving). begun_of v source ≡ None) (sym c.self.view_is) c.requires.nothing in
    record { new = fresh_message _ _ _ _ _ _ _ c.self.invariant.kept source c.args.head.now within nothing c.requires.message c.put-id.result c.make_room.new.self c.make_room.ensures.same c.put-id.ensures.empty }

pub invariant_of-self-in_err-make_room : goal.invariant_of-self-in_err-make_room
invariant_of-self-in_err-make_room g c =
    (record {
      kept = widened _ _ _ _ _ _ _ c.self.invariant.kept c.make_room.new.self c.make_room.ensures.same;
      numbers = c.self.invariant.numbers;
      shared = c.self.invariant.shared;
      closable = c.self.invariant.closable;
      ids = c.self.invariant.ids;
      sharing = c.self.invariant.sharing;
      aside = claims_widened _ _ _ _ _ _ c.self.invariant.aside c.make_room.new.self _ c.make_room.ensures.same c.make_room.ensures.more c.self.invariant.aside.reserved;
    })

pub invariant_of-self-in_err-reserve : goal.invariant_of-self-in_err-reserve
invariant_of-self-in_err-reserve g c =
    let reserved = c.self.invariant.aside.reserved in
    (record {
      kept = widened _ _ _ _ _ _ _ c.self.invariant.kept c.make_room.new.self c.make_room.ensures.same;
      numbers = c.self.invariant.numbers;
      shared = c.self.invariant.shared;
      closable = c.self.invariant.closable;
      ids = c.self.invariant.ids;
      sharing = c.self.invariant.sharing;
      aside = rw c.reserve.ensures.items (claims_widened _ _ _ _ _ _ c.self.invariant.aside c.make_room.new.self _ c.make_room.ensures.same c.make_room.ensures.more (omega (arith, reserved, c.reserve.ensures.capacity)));
    })

pub invariant_of-self-in-Err : goal.invariant_of-self-in-Err
invariant_of-self-in-Err g c =
    let wider = c.make_room.new.self in
    let id = c.put-id.result in
    let p = parcel_without c.args.source c.args.head.now in
    let cells = undone wider c.put-id.new.self c.take.new.self id p c.put-id.ensures.empty c.put-id.ensures.cells c.take.ensures.cells in
    let same = λ (k : ℕ). ap (λ (cs : List (Option Parcel)). get_or cs k None) cells ∙ c.make_room.ensures.same k in
    let there = c.take.ensures.value ∙ at_same wider c.put-id.new.self id (Some p) c.put-id.ensures.cells c.put-id.ensures.within in
    let one : c.take.new.self.spare ≡ c.put-id.new.self.spare + 1 = subst (λ (o : Option Parcel). OnSome o (c.take.new.self.spare ≡ c.put-id.new.self.spare + 1)) there c.take.ensures.spare in
    let long = ap length cells in
    let more = c.make_room.ensures.more in
    let fewer = c.put-id.ensures.spare in
    let reserved = c.self.invariant.aside.reserved in
    rw (c.in-Err.ensures.err, c.add_unexpected.ensures.posted, c.add_unexpected.ensures.room) (record {
      kept = widened _ _ _ _ _ _ _ c.self.invariant.kept c.take.new.self same;
      numbers = c.self.invariant.numbers;
      shared = c.self.invariant.shared;
      closable = c.self.invariant.closable;
      ids = c.self.invariant.ids;
      sharing = c.self.invariant.sharing;
      aside = rw c.reserve.ensures.items (claims_widened _ _ _ _ _ _ c.self.invariant.aside c.take.new.self _ same (omega (arith, one, long, more, fewer)) (omega (arith, reserved, c.reserve.ensures.capacity)));
    })

pub invariant_of-self-2 : goal.invariant_of-self-2
invariant_of-self-2 g c =
    let filed = c.self.invariant.aside.filed in
    let more = c.make_room.ensures.more in
    let ok = c.in_ok-reserve.ensures.ok in
    let fits : length (g.M.Matcher.unexpected c.self.inside.matcher) + length c.self.inside.claims.items + 1 ≤ vec_capacity c.reserve.new.self = omega arith in
    let source = c.args.source in
    let within : source < length c.self.inside.past.begun = subst (λ (v : Arriving). source < length v.begun) (sym c.self.view_is) c.requires.source in
    let nothing : begun_of c.self.inside.past source ≡ None = subst (λ (v : Arriving). begun_of v source ≡ None) (sym c.self.view_is) c.requires.nothing in
    let untaken : taker source c.args.head.now c.self.inside.past.rx ≡ None = subst (λ (v : Arriving). taker source c.args.head.now v.rx ≡ None) (sym c.self.view_is) c.requires.untaken in
    rw (c.put_begun.ensures, c.note.ensures, c.in_default.ensures.ok, c.add_unexpected.ensures.posted, c.add_unexpected.ensures.room)
    (record {
      kept =
          keeps _ _ _ _ _ _ _ c.self.invariant.kept source c.args.head.now within nothing c.requires.message c.put-id.result c.make_room.new.self c.make_room.ensures.same c.put-id.ensures.empty c.sign_of.result c.in_ok-bytes.bytes _
          c.sign_of.ensures.exact untaken c.in_ok-bytes.ensures.items c.in_ok-bytes.ensures.capacity c.put-id.ensures.within c.put-id.ensures.cells;
      shared = multi_keep _ _ _ _ _ _ _ c.self.invariant.kept _ c.self.invariant.shared source c.args.head.now within nothing _ c.put-id.result c.in_ok-bytes.bytes refl c.requires.message untaken;
      closable = rw length-set c.self.invariant.closable;
      ids = c.self.invariant.ids;
      sharing = c.self.invariant.sharing;
      numbers = numbers_keep c.self.inside.past c.self.invariant.numbers source c.args.head.now c.requires.message untaken;
      aside = rw c.reserve.ensures.items
          (claims_kept _ _ _ _ _ _ _ c.self.invariant.kept _ _ c.self.invariant.aside source c.args.head.now within nothing c.requires.message c.put-id.result c.make_room.new.self c.make_room.ensures.same c.put-id.ensures.empty c.make_room.ensures.more c.sign_of.result _ _ _ _ c.put-id.ensures.cells c.put-id.ensures.spare fits);
    })
