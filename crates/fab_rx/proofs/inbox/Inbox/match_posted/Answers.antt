use Rattle.std.proofs.Common.{◌≡◌, ℕ, ◌<◌, ◌∙◌, false, Option, Some, None, vec_capacity, arith, length, length-set, refl, subst, sym, ap, rules}
use Rattle.std.specs.Prelude.{is_some}
use Rattle.fab_model.specs.Arrivals.{taker}
use Rattle.fab_match.proofs.Pairs.{without-first}
use Rattle.fab_match.specs.Signs.{fits}
use Rattle.fab_rx.specs.Arriving.{Arriving, begun_of}
use Rattle.fab_rx.proofs.Tables.{same_ids}
use Rattle.fab_rx.proofs.Claiming.{claims_arrived}
use Rattle.fab_rx.proofs.Numbering.{numbers_seat}
use Rattle.fab_rx.proofs.Keeping.{seated, seat_taken, seat_missed, seat_there, taken_single}
use Rattle.fab_rx.proofs.Moving.{home_single, multi_seat, taken_home}
use Rattle.fab_rx.proofs.Taking.{alone_at, kept_off, kept_on, multi_off, multi_on, numbers_off, numbers_on, room_to_close, usable_taken}
use Rattle.fab_model.specs.Matching.{remove_first}
use Rattle.fab_match.specs.Matcher.{has_id, without}
use Rattle.fab_rx.specs.Table.{at}
use Rattle.fab_rx.specs.Sharing.{kept_or, left_by}
use Rattle.fab_rx.specs.Whole.{IsInbox}
use Rattle.fab_rx.proofs.inbox.Inbox.match_posted.Goals as goal

pub returns-in_default-clause-taken : goal.returns-in_default-clause-taken
returns-in_default-clause-taken g c =
    let source = c.args.source in
    let within : source < length c.self.inside.past.begun = subst (λ (v : Arriving). source < length v.begun) (sym c.self.view_is) c.requires.source in
    let nothing : begun_of c.self.inside.past source ≡ None = subst (λ (v : Arriving). begun_of v source ≡ None) (sym c.self.view_is) c.requires.nothing in
    sym (ap is_some (ap (λ (v : Arriving). taker source c.args.head.now v.rx) (sym c.self.view_is) ∙ seat_missed _ _ _ _ _ _ _ c.self.invariant.kept source c.args.head.now within nothing c.requires.message c.sign_of.result c.sign_of.ensures.fits (search rules)))

pub unreachable-requires : goal.unreachable-requires
unreachable-requires g c =
    let source = c.args.source in
    let within : source < length c.self.inside.past.begun = subst (λ (v : Arriving). source < length v.begun) (sym c.self.view_is) c.requires.source in
    let nothing : begun_of c.self.inside.past source ≡ None = subst (λ (v : Arriving). begun_of v source ≡ None) (sym c.self.view_is) c.requires.nothing in
    seat_there _ _ _ _ _ _ _ c.self.invariant.kept source c.args.head.now within nothing c.requires.message c.sign_of.result c.sign_of.ensures.fits c.in-Some.id (sym c.in-Some.ensures.first) (search rules)

pub give_room-requires-clause-usable : goal.give_room-requires-clause-usable
give_room-requires-clause-usable g c =
    let source = c.args.source in
    let within : source < length c.self.inside.past.begun = subst (λ (v : Arriving). source < length v.begun) (sym c.self.view_is) c.requires.source in
    let nothing : begun_of c.self.inside.past source ≡ None = subst (λ (v : Arriving). begun_of v source ≡ None) (sym c.self.view_is) c.requires.nothing in
    let e = sym c.in-Some.ensures.first in
    usable_taken _ _ _ _ _ _ _ c.self.invariant.kept source c.args.head.now within nothing c.requires.message c.sign_of.result c.sign_of.ensures.fits c.in-Some.id e

pub give_room-requires-clause-room : goal.give_room-requires-clause-room
give_room-requires-clause-room g c =
    let source = c.args.source in
    let within : source < length c.self.inside.past.begun = subst (λ (v : Arriving). source < length v.begun) (sym c.self.view_is) c.requires.source in
    let nothing : begun_of c.self.inside.past source ≡ None = subst (λ (v : Arriving). begun_of v source ≡ None) (sym c.self.view_is) c.requires.nothing in
    let e = sym c.in-Some.ensures.first in
    let less = room_to_close _ _ _ _ _ _ _ c.self.invariant.kept _ c.self.invariant.shared source within nothing in
    let closable = c.self.invariant.closable in
    λ left. omega arith

pub invariant_of-self-in-Some-multi_at : goal.invariant_of-self-in-Some-multi_at
invariant_of-self-in-Some-multi_at g c = by_left (left_by c.args.head.now.total (at c.self.inside.seats c.in-Some.id)) refl
  where
    by_left : (o : Option ℕ) → left_by c.args.head.now.total (at c.self.inside.seats c.in-Some.id) ≡ o
        → IsInbox (g.M.Matcher.posted c.give_room.new.matcher) (g.M.Matcher.unexpected c.give_room.new.matcher) (g.M.Matcher.room c.give_room.new.matcher) c.give_room.new.seats c.self.inside.parcels c.put_begun.new.coming.items c.self.inside.claims.items (vec_capacity c.self.inside.claims) c.give_room.new.closing.items (vec_capacity c.give_room.new.closing) c.self.inside.shares c.note.new.self
    -- it stays posted
    by_left None stay =
        let source = c.args.source in
        let within : source < length c.self.inside.past.begun = subst (λ (v : Arriving). source < length v.begun) (sym c.self.view_is) c.requires.source in
        let nothing : begun_of c.self.inside.past source ≡ None = subst (λ (v : Arriving). begun_of v source ≡ None) (sym c.self.view_is) c.requires.nothing in
        let e = sym c.in-Some.ensures.first in
        let ps = g.M.Matcher.posted c.self.inside.matcher in
        let posted = c.give_room.ensures.posted ∙ ap (λ x. kept_or x ps (without c.in-Some.id ps)) stay in
        rw (c.put_begun.ensures, c.new.ensures, c.note.ensures, c.give_room.ensures.unexpected, c.give_room.ensures.most, posted) (record {
          kept = kept_on _ _ _ _ _ _ _ c.self.invariant.kept _ c.self.invariant.shared source c.args.head.now within nothing c.requires.message c.sign_of.result c.sign_of.ensures.fits c.in-Some.id e c.in-Some-multi_at.multi (search rules) c.give_room.new.seats c.give_room.ensures.cells c.give_room.ensures.spare c.in_ok-bytes.bytes c.in_ok-bytes.ensures.items c.in_ok-bytes.ensures.capacity stay;
          numbers = numbers_on _ _ _ _ _ _ _ c.self.invariant.kept _ c.self.invariant.shared source c.args.head.now within nothing c.requires.message c.sign_of.result c.sign_of.ensures.fits c.in-Some.id e c.in-Some-multi_at.multi (search rules) c.give_room.new.seats c.give_room.ensures.cells c.give_room.ensures.spare c.in_ok-bytes.bytes c.in_ok-bytes.ensures.items c.in_ok-bytes.ensures.capacity stay c.self.invariant.numbers;
          shared = rw (c.give_room.ensures.open stay) (multi_on _ _ _ _ _ _ _ c.self.invariant.kept _ c.self.invariant.shared source c.args.head.now within nothing c.requires.message c.sign_of.result c.sign_of.ensures.fits c.in-Some.id e c.in-Some-multi_at.multi (search rules) c.give_room.new.seats c.give_room.ensures.cells c.give_room.ensures.spare c.in_ok-bytes.bytes c.in_ok-bytes.ensures.items c.in_ok-bytes.ensures.capacity stay);
          closable = rw (length-set, c.give_room.ensures.closable) c.self.invariant.closable;
          ids = same_ids c.self.inside.seats c.give_room.new.seats _ _ c.give_room.ensures.cells c.self.invariant.ids;
          sharing = c.self.invariant.sharing;
          aside = claims_arrived _ _ _ _ _ _ _ c.self.invariant.kept _ _ c.self.invariant.aside source c.args.head.now within nothing _;
        })
    -- it closes
    by_left (Some ctx) stay =
        let source = c.args.source in
        let within : source < length c.self.inside.past.begun = subst (λ (v : Arriving). source < length v.begun) (sym c.self.view_is) c.requires.source in
        let nothing : begun_of c.self.inside.past source ≡ None = subst (λ (v : Arriving). begun_of v source ≡ None) (sym c.self.view_is) c.requires.nothing in
        let e = sym c.in-Some.ensures.first in
        let ps = g.M.Matcher.posted c.self.inside.matcher in
        let posted = c.give_room.ensures.posted ∙ ap (λ x. kept_or x ps (without c.in-Some.id ps)) stay in
        let rest : without c.in-Some.id ps ≡ remove_first (λ p. fits p.1 c.sign_of.result) ps = without-first (λ want. fits want c.sign_of.result) c.in-Some.id ps c.in-Some.ensures.distinct e in
        let gone : has_id c.in-Some.id (without c.in-Some.id ps) ≡ false = rw posted at (c.give_room.ensures.gone (ap is_some stay)) in
        rw (c.put_begun.ensures, c.new.ensures, c.note.ensures, c.give_room.ensures.unexpected, c.give_room.ensures.most, posted) (record {
          kept = kept_off _ _ _ _ _ _ _ c.self.invariant.kept _ c.self.invariant.shared source c.args.head.now within nothing c.requires.message c.sign_of.result c.sign_of.ensures.fits c.in-Some.id e c.in-Some-multi_at.multi (search rules) c.give_room.new.seats c.give_room.ensures.cells c.give_room.ensures.spare c.in_ok-bytes.bytes c.in_ok-bytes.ensures.items c.in_ok-bytes.ensures.capacity ctx stay _ refl rest gone;
          numbers = numbers_off _ _ _ _ _ _ _ c.self.invariant.kept _ c.self.invariant.shared source c.args.head.now within nothing c.requires.message c.sign_of.result c.sign_of.ensures.fits c.in-Some.id e c.in-Some-multi_at.multi (search rules) c.give_room.new.seats c.give_room.ensures.cells c.give_room.ensures.spare c.in_ok-bytes.bytes c.in_ok-bytes.ensures.items c.in_ok-bytes.ensures.capacity ctx stay _ refl rest gone c.self.invariant.numbers;
          shared = rw (c.give_room.ensures.closing ctx stay) (multi_off _ _ _ _ _ _ _ c.self.invariant.kept _ c.self.invariant.shared source c.args.head.now within nothing c.requires.message c.sign_of.result c.sign_of.ensures.fits c.in-Some.id e c.in-Some-multi_at.multi (search rules) c.give_room.new.seats c.give_room.ensures.cells c.give_room.ensures.spare c.in_ok-bytes.bytes c.in_ok-bytes.ensures.items c.in_ok-bytes.ensures.capacity ctx stay _ refl rest gone);
          closable = rw (length-set, c.give_room.ensures.closable) c.self.invariant.closable;
          ids = same_ids c.self.inside.seats c.give_room.new.seats _ _ c.give_room.ensures.cells c.self.invariant.ids;
          sharing = c.self.invariant.sharing;
          aside = claims_arrived _ _ _ _ _ _ _ c.self.invariant.kept _ _ c.self.invariant.aside source c.args.head.now within nothing _;
        })

pub returns-in-Some-multi_at-clause-taken : goal.returns-in-Some-multi_at-clause-taken
returns-in-Some-multi_at-clause-taken g c =
    let source = c.args.source in
    let within : source < length c.self.inside.past.begun = subst (λ (v : Arriving). source < length v.begun) (sym c.self.view_is) c.requires.source in
    let nothing : begun_of c.self.inside.past source ≡ None = subst (λ (v : Arriving). begun_of v source ≡ None) (sym c.self.view_is) c.requires.nothing in
    let e = sym c.in-Some.ensures.first in
    let t = seat_taken _ _ _ _ _ _ _ c.self.invariant.kept source c.args.head.now within nothing c.requires.message c.sign_of.result c.sign_of.ensures.fits c.in-Some.id e in
    sym (ap is_some (ap (λ (v : Arriving). taker source c.args.head.now v.rx) (sym c.self.view_is) ∙ t.found))

pub invariant_of-self-2 : goal.invariant_of-self-2
invariant_of-self-2 g c =
    let source = c.args.source in
    let within : source < length c.self.inside.past.begun = subst (λ (v : Arriving). source < length v.begun) (sym c.self.view_is) c.requires.source in
    let nothing : begun_of c.self.inside.past source ≡ None = subst (λ (v : Arriving). begun_of v source ≡ None) (sym c.self.view_is) c.requires.nothing in
    let e = sym c.in-Some.ensures.first in
    let rest = c.remove_posted.ensures.rest ∙ without-first (λ want. fits want c.sign_of.result) c.in-Some.id (g.M.Matcher.posted c.self.inside.matcher) c.in-Some.ensures.distinct e in
    let t = seat_taken _ _ _ _ _ _ _ c.self.invariant.kept source c.args.head.now within nothing c.requires.message c.sign_of.result c.sign_of.ensures.fits c.in-Some.id e in
    let there = sym c.in-Some-take.ensures.value in
    let alone = alone_at c.self.inside.seats c.in-Some.id c.in-Some-take.field-0 there (search rules) in
    let single = taken_single _ _ _ _ _ _ _ c.self.invariant.kept source c.args.head.now within nothing c.requires.message c.sign_of.result c.sign_of.ensures.fits c.in-Some.id e c.in-Some-take.field-0 there alone in
    let t2 = taken_home _ _ _ _ _ _ _ c.self.invariant.kept _ c.self.invariant.shared source c.args.head.now within nothing c.requires.message c.sign_of.result c.sign_of.ensures.fits c.in-Some.id e in
    let single2 = home_single _ _ _ _ _ _ _ c.self.invariant.kept _ c.self.invariant.shared source c.args.head.now within nothing c.requires.message c.sign_of.result c.sign_of.ensures.fits c.in-Some.id e c.in-Some-take.field-0 there alone in
    rw (c.put_begun-2.ensures, c.new-2.ensures, c.note-2.ensures, c.remove_posted.ensures.unexpected, c.remove_posted.ensures.room) (record {
      kept =
          seated _ _ _ _ _ _ _ c.self.invariant.kept source c.args.head.now within nothing c.requires.message c.sign_of.result c.sign_of.ensures.fits c.in-Some.id c.in-Some-take.field-0 _ _ alone e rest c.remove_posted.ensures.gone
          there c.take.ensures.cells c.in-Some-take.ensures.spare;
      numbers = numbers_seat c.self.inside.past c.self.invariant.numbers source c.args.head.now c.requires.message t.member t.found single;
      shared = multi_seat _ _ _ _ _ _ _ c.self.invariant.kept _ c.self.invariant.shared source c.args.head.now within nothing c.requires.message c.sign_of.result c.sign_of.ensures.fits c.in-Some.id e c.in-Some-take.field-0 there alone single2 _ c.remove_posted.ensures.rest rest _ c.take.ensures.cells c.in-Some-take.ensures.spare _ refl;
      closable = rw length-set c.self.invariant.closable;
      ids = same_ids c.self.inside.seats c.take.new.self _ _ c.take.ensures.cells c.self.invariant.ids;
      sharing = c.self.invariant.sharing;
      aside = claims_arrived _ _ _ _ _ _ _ c.self.invariant.kept _ _ c.self.invariant.aside source c.args.head.now within nothing _;
    })

pub returns-clause-taken : goal.returns-clause-taken
returns-clause-taken g c =
    let source = c.args.source in
    let within : source < length c.self.inside.past.begun = subst (λ (v : Arriving). source < length v.begun) (sym c.self.view_is) c.requires.source in
    let nothing : begun_of c.self.inside.past source ≡ None = subst (λ (v : Arriving). begun_of v source ≡ None) (sym c.self.view_is) c.requires.nothing in
    let t = seat_taken _ _ _ _ _ _ _ c.self.invariant.kept source c.args.head.now within nothing c.requires.message c.sign_of.result c.sign_of.ensures.fits c.in-Some.id (sym c.in-Some.ensures.first) in
    sym (ap is_some (ap (λ (v : Arriving). taker source c.args.head.now v.rx) (sym c.self.view_is) ∙ t.found))
