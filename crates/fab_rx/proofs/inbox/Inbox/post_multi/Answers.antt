use Rattle.std.proofs.Common.{◌≡◌, Some, None, ◌∷◌, ◌+◌, ◌<◌, ◌≤◌, ◌∙◌, length, subst, sym, refl, arith, rules}
use Rattle.std.specs.Prelude.{unwrap_or}
use Rattle.fab_rx.specs.Arriving.{Arriving, multi_by}
use Rattle.fab_rx.specs.Table.{at}
use Rattle.fab_rx.specs.Stored.{IsFit, waiting_of}
use Rattle.fab_rx.proofs.Closing.{seat_free}
use Rattle.fab_rx.proofs.Known.{posted_count}
use Rattle.fab_rx.proofs.Numbering.{numbers_joined}
use Rattle.fab_rx.proofs.Keeping.{at_same}
use Rattle.fab_rx.proofs.Tables.{same_ids}
use Rattle.fab_rx.proofs.Posting.{fresh_seat, joins, same_buf}
use Rattle.fab_rx.proofs.Sharing.{multi_opened}
use Rattle.fab_rx.proofs.inbox.Inbox.post_multi.Goals as goal

pub put-id-requires-clause-room : goal.put-id-requires-clause-room
put-id-requires-clause-room g c =
    let less : length c.self.inside.past.rx.posted < c.self.inside.past.most = subst (λ (v : Arriving). length v.rx.posted < v.most) (sym c.self.view_is) c.requires.room in
    seat_free _ _ _ _ _ _ _ c.self.invariant.kept _ c.self.invariant.shared less

pub add_posted-requires-clause-new : goal.add_posted-requires-clause-new
add_posted-requires-clause-new g c = fresh_seat _ _ _ _ _ _ _ c.self.invariant.kept c.put-id.result c.put-id.ensures.empty

pub add_posted-requires-clause-not_full : goal.add_posted-requires-clause-not_full
add_posted-requires-clause-not_full g c =
    let less : length c.self.inside.past.rx.posted < c.self.inside.past.most = subst (λ (v : Arriving). length v.rx.posted < v.most) (sym c.self.view_is) c.requires.room in
    let same = posted_count _ _ _ _ _ _ _ c.self.invariant.kept in
    let most = c.self.invariant.kept.most in
    omega arith

pub invariant_of-self : goal.invariant_of-self
invariant_of-self g c =
    let less : length c.self.inside.past.rx.posted < c.self.inside.past.most = subst (λ (v : Arriving). length v.rx.posted < v.most) (sym c.self.view_is) c.requires.room in
    let later = subst (λ (v : Arriving). v.next ≤ unwrap_or (g.C.Caller.call c.args.about.now) 0) (sym c.self.view_is) c.requires.later in
    let r = multi_by (g.C.Caller.call c.args.about.now) c.args.want c.args.buf c.args.least c.args.ctx in
    let fit : IsFit r = record { single = λ alone. absurd (cc); within = omega arith; small = λ some. c.requires.small } in
    let new = fresh_seat _ _ _ _ _ _ _ c.self.invariant.kept c.put-id.result c.put-id.ensures.empty in
    let w = c.in-Some.waiting.now in
    let both : Some w ≡ Some (waiting_of r) = c.in-Some.ensures ∙ at_same c.self.inside.seats c.put-id.new.self c.put-id.result _ c.put-id.ensures.cells c.put-id.ensures.within in
    let same : w.seat.buf ≡ c.args.buf = same_buf w (waiting_of r) both in
    rw (c.note.ensures, same, c.add_posted.ensures.posted, c.add_posted.ensures.unexpected, c.add_posted.ensures.room) (record {
      kept = joins _ _ _ _ _ _ _ c.self.invariant.kept c.put-id.result c.put-id.ensures.empty r fit less c.put-id.new.self c.put-id.ensures.within c.put-id.ensures.cells (r.call + 1) ((c.put-id.result, r.call) ∷ c.self.inside.past.multis);
      numbers = numbers_joined c.self.inside.past c.self.invariant.numbers r later;
      shared = multi_opened _ _ _ _ _ _ _ _ _ _ c.self.invariant.shared c.put-id.result c.args.want c.put-id.ensures.empty r c.put-id.new.self c.put-id.ensures.cells c.put-id.ensures.spare new c.args.least refl later c.self.invariant.numbers;
      closable = c.self.invariant.closable;
      ids = same_ids c.self.inside.seats c.put-id.new.self _ _ c.put-id.ensures.cells c.self.invariant.ids;
      sharing = λ none. absurd (cc);
      aside = c.self.invariant.aside;
    })

pub unreachable-requires : goal.unreachable-requires
unreachable-requires g c =
    let now = at_same c.self.inside.seats c.put-id.new.self c.put-id.result _ c.put-id.ensures.cells c.put-id.ensures.within in
    let none : at c.put-id.new.self c.put-id.result ≡ None = search rules in
    absurd (let no = sym none ∙ now in cc)
