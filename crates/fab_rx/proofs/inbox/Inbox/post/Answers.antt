use Rattle.std.proofs.Common.{◌≡◌, ◌+◌, ◌<◌, ◌≤◌, ◌∙◌, None, length, subst, sym, refl, arith, rules}
use Rattle.std.specs.Prelude.{find, unwrap_or}
use Rattle.fab_rx.proofs.Numbering.{numbers_given, numbers_join}
use Rattle.fab_base.specs.declared.operations.Coming.TheVariants.{Into}
use Rattle.fab_model.specs.Matching.{takes}
use Rattle.fab_match.specs.Signs.{fits}
use Rattle.fab_match.proofs.Pairs.{without-first}
use Rattle.fab_rx.specs.Arriving.{Arriving, receive_by}
use Rattle.fab_rx.specs.Stored.{IsFit, redirected}
use Rattle.fab_rx.proofs.Finding.{first_found, found_here, found_partly, is_there, none_found}
use Rattle.fab_rx.proofs.Parting.{posting_is, redirected_turns, unexpected_claims, unexpected_kept}
use Rattle.fab_rx.proofs.Tables.{same_ids}
use Rattle.fab_rx.proofs.Posting.{fresh_seat, joins}
use Rattle.fab_rx.proofs.Known.{posted_count}
use Rattle.fab_rx.proofs.Closing.{seat_free}
use Rattle.fab_rx.proofs.Sharing.{multi_join, multi_moved}
use Rattle.fab_rx.proofs.Parting.{length_turned}
use Rattle.fab_rx.proofs.inbox.Inbox.post.Goals as goal

pub put-id-requires-clause-room : goal.put-id-requires-clause-room
put-id-requires-clause-room g c =
    let want = c.args.want in
    let none : find (takes want) c.self.inside.past.rx.unexpected ≡ None = none_found _ _ _ _ _ _ _ c.self.invariant.kept want (search rules) in
    let less : find (takes want) c.self.inside.past.rx.unexpected ≡ None → length c.self.inside.past.rx.posted < c.self.inside.past.most =
    subst (λ (v : Arriving). find (takes want) v.rx.unexpected ≡ None → length v.rx.posted < v.most) (sym c.self.view_is) c.requires.room in
    seat_free _ _ _ _ _ _ _ c.self.invariant.kept _ c.self.invariant.shared (less none)

pub add_posted-requires-clause-new : goal.add_posted-requires-clause-new
add_posted-requires-clause-new g c = fresh_seat _ _ _ _ _ _ _ c.self.invariant.kept c.put-id.result c.put-id.ensures.empty

pub invariant_of-self : goal.invariant_of-self
invariant_of-self g c =
    let none : find (takes c.args.want) c.self.inside.past.rx.unexpected ≡ None = none_found _ _ _ _ _ _ _ c.self.invariant.kept c.args.want (search rules) in
    let less : find (takes c.args.want) c.self.inside.past.rx.unexpected ≡ None → length c.self.inside.past.rx.posted < c.self.inside.past.most =
    subst (λ (v : Arriving). find (takes c.args.want) v.rx.unexpected ≡ None → length v.rx.posted < v.most) (sym c.self.view_is) c.requires.room in
    let later = subst (λ (v : Arriving). v.next ≤ unwrap_or (g.C.Caller.call c.args.about.now) 0) (sym c.self.view_is) c.requires.later in
    let r = receive_by (g.C.Caller.call c.args.about.now) c.args.want c.args.buf c.args.ctx in
    let fit : IsFit r = record { single = λ alone. refl; within = omega arith; small = λ some. absurd (cc) } in
    let new = fresh_seat _ _ _ _ _ _ _ c.self.invariant.kept c.put-id.result c.put-id.ensures.empty in
    rw (c.note.ensures, c.add_posted.ensures.posted, c.add_posted.ensures.unexpected, c.add_posted.ensures.room, none) (record {
      kept = joins _ _ _ _ _ _ _ c.self.invariant.kept c.put-id.result c.put-id.ensures.empty r fit (less none) c.put-id.new.self c.put-id.ensures.within c.put-id.ensures.cells (r.call + 1) c.self.inside.past.multis;
      numbers = rw none at (numbers_join c.self.inside.past c.self.invariant.numbers r later none);
      shared = multi_join _ _ _ _ _ _ _ _ _ _ c.self.invariant.shared c.put-id.result c.args.want c.put-id.ensures.empty r c.put-id.new.self c.put-id.ensures.cells c.put-id.ensures.spare new refl later;
      closable = c.self.invariant.closable;
      ids = same_ids c.self.inside.seats c.put-id.new.self _ _ c.put-id.ensures.cells c.self.invariant.ids;
      sharing = c.self.invariant.sharing;
      aside = c.self.invariant.aside;
    })

pub add_posted-requires-clause-not_full : goal.add_posted-requires-clause-not_full
add_posted-requires-clause-not_full g c =
    let want = c.args.want in
    let none : find (takes want) c.self.inside.past.rx.unexpected ≡ None = none_found _ _ _ _ _ _ _ c.self.invariant.kept want (search rules) in
    let less : find (takes want) c.self.inside.past.rx.unexpected ≡ None → length c.self.inside.past.rx.posted < c.self.inside.past.most =
    subst (λ (v : Arriving). find (takes want) v.rx.unexpected ≡ None → length v.rx.posted < v.most) (sym c.self.view_is) c.requires.room in
    let below = less none in
    let same = posted_count _ _ _ _ _ _ _ c.self.invariant.kept in
    let most = c.self.invariant.kept.most in
    omega arith

pub returns-in_default-clause-outcome : goal.returns-in_default-clause-outcome
returns-in_default-clause-outcome g c =
    let none : find (takes c.args.want) c.self.inside.past.rx.unexpected ≡ None = none_found _ _ _ _ _ _ _ c.self.invariant.kept c.args.want (search rules) in
    rw (← c.self.view_is, none) refl

pub give-requires-clause-there : goal.give-requires-clause-there
give-requires-clause-there g c = is_there _ _ (found_here _ _ _ _ _ _ _ c.self.invariant.kept c.args.want c.in-Some.id (sym c.in-Some.ensures.first))

pub give-requires-clause-partly : goal.give-requires-clause-partly
give-requires-clause-partly g c = found_partly _ _ _ _ _ _ _ c.self.invariant.kept c.args.want c.in-Some.id (sym c.in-Some.ensures.first)

pub invariant_of-self-2 : goal.invariant_of-self-2
invariant_of-self-2 g c =
    let r = receive_by (g.C.Caller.call c.args.about.now) c.args.want c.args.buf c.args.ctx in
    let rest = c.remove_unexpected.ensures.rest ∙ without-first (λ sign. fits c.args.want sign) c.in-Some.id (g.M.Matcher.unexpected c.self.inside.matcher) c.in-Some.ensures.distinct (sym c.in-Some.ensures.first) in
    let later = subst (λ (v : Arriving). v.next ≤ unwrap_or (g.C.Caller.call c.args.about.now) 0) (sym c.self.view_is) c.requires.later in
    let t = first_found _ _ _ _ _ _ _ c.self.invariant.kept c.args.want c.in-Some.id (sym c.in-Some.ensures.first) in
    let here = found_here _ _ _ _ _ _ _ c.self.invariant.kept c.args.want c.in-Some.id (sym c.in-Some.ensures.first) in
    let long = c.self.invariant.kept.comings ∙ sym c.self.invariant.kept.peers in
    let turns = redirected_turns c.self.inside.parcels c.give.new.parcels c.in-Some.id r c.args.buf c.args.ctx (record { least = refl; used = refl }) refl in
    rw (c.note.ensures, posting_is c.self.inside.past r t.member t.found, c.remove_unexpected.ensures.posted, c.remove_unexpected.ensures.room) (record {
      kept =
          unexpected_kept _ _ _ _ _ _ _ c.self.invariant.kept _ _ c.self.invariant.aside c.in-Some.id c.give.new.parcels c.give.ensures.cells c.give.ensures.spare (redirected c.args.buf c.args.ctx) (Into r 0) turns _ c.give.ensures.coming (r.call + 1) c.args.want (sym c.in-Some.ensures.first) _ rest c.remove_unexpected.ensures.gone;
      numbers = numbers_given c.self.inside.past c.self.invariant.numbers t.member r later;
      shared = multi_moved _ _ _ _ _ _ _ _ _ _ c.self.invariant.shared c.in-Some.id t.member (found_partly _ _ _ _ _ _ _ c.self.invariant.kept c.args.want c.in-Some.id (sym c.in-Some.ensures.first) t.member here) long (redirected c.args.buf c.args.ctx) (Into r 0) (λ b k. (r, refl, refl, c.self.invariant.shared.fresh r.call later)) (r.call + 1) (omega arith) _ (c.give.ensures.coming t.member here);
      closable = rw (c.give.ensures.coming t.member here, length_turned _ _ _ _) c.self.invariant.closable;
      ids = c.self.invariant.ids;
      sharing = c.self.invariant.sharing;
      aside =
          unexpected_claims _ _ _ _ _ _ _ c.self.invariant.kept _ _ c.self.invariant.aside c.in-Some.id c.give.new.parcels c.give.ensures.cells c.give.ensures.spare (redirected c.args.buf c.args.ctx) (Into r 0) turns _ c.give.ensures.coming (r.call + 1) c.args.want (sym c.in-Some.ensures.first) _ rest c.remove_unexpected.ensures.gone;
    })

pub returns-clause-outcome : goal.returns-clause-outcome
returns-clause-outcome g c =
    let r = receive_by (g.C.Caller.call c.args.about.now) c.args.want c.args.buf c.args.ctx in
    let t = first_found _ _ _ _ _ _ _ c.self.invariant.kept c.args.want c.in-Some.id (sym c.in-Some.ensures.first) in
    rw (← c.self.view_is, t.found) (c.give.ensures.outcome t.member r (found_here _ _ _ _ _ _ _ c.self.invariant.kept c.args.want c.in-Some.id (sym c.in-Some.ensures.first)) (record { least = refl; used = refl }) refl)
