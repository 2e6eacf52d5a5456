use Rattle.std.proofs.Common.{◌≡◌, ◌==◌, ◌+◌, ◌≤◌, true, false, None, Some, sym, subst, refl, rules, ◌∙◌, arith}
use Rattle.std.specs.Prelude.{find, is_some, unwrap_or}
use Rattle.fab_base.specs.declared.operations.Coming.TheVariants.{Into}
use Rattle.fab_match.specs.Matcher.{first_id}
use Rattle.fab_rx.specs.Arriving.{Arriving, receive_by}
use Rattle.fab_rx.specs.Claims.{any_tagged, claim_under}
use Rattle.fab_rx.specs.Stored.{redirected}
use Rattle.fab_rx.proofs.Finding.{claim_found, claim_here, claim_partly, is_there, none_claimed}
use Rattle.fab_rx.proofs.Sharing.{multi_moved}
use Rattle.fab_rx.proofs.Parting.{length_turned}
use Rattle.fab_rx.proofs.Numbering.{numbers_given}
use Rattle.fab_rx.proofs.Parting.{claimed_claims, claimed_kept, redirected_turns, taking_is}
use Rattle.fab_rx.proofs.inbox.Inbox.take.Goals as goal

pub unreachable-requires : goal.unreachable-requires
unreachable-requires g c =
    let none : find (λ k. k.0 == c.args.ctx) c.self.inside.past.rx.claimed ≡ None = none_claimed _ _ _ _ _ _ c.self.invariant.aside c.args.ctx (search rules) in
    let there : is_some (claim_under c.args.ctx c.self.inside.past.rx) ≡ true = subst (λ (v : Arriving). is_some (claim_under c.args.ctx v.rx) ≡ true) (sym c.self.view_is) c.requires.claimed in
    let no : false ≡ true = rw none at there in
    absurd (cc)

pub give-requires-clause-there : goal.give-requires-clause-there
give-requires-clause-there g c =
    let e : first_id (λ other. other == c.args.ctx) c.self.inside.claims.items ≡ Some c.in-Some.id = search rules in
    is_there _ _ (claim_here _ _ _ _ _ _ c.self.invariant.aside c.args.ctx c.in-Some.id e)

pub give-requires-clause-partly : goal.give-requires-clause-partly
give-requires-clause-partly g c =
    let e : first_id (λ other. other == c.args.ctx) c.self.inside.claims.items ≡ Some c.in-Some.id = search rules in
    claim_partly _ _ _ _ _ _ c.self.invariant.aside c.args.ctx c.in-Some.id e

pub invariant_of-self : goal.invariant_of-self
invariant_of-self g c =
    let v = c.self.inside.past in
    let r = receive_by (g.C.Caller.call c.args.about.now) any_tagged c.args.buf c.args.ctx in
    let later = subst (λ (v : Arriving). v.next ≤ unwrap_or (g.C.Caller.call c.args.about.now) 0) (sym c.self.view_is) c.requires.later in
    let e : first_id (λ other. other == c.args.ctx) c.self.inside.claims.items ≡ Some c.in-Some.id = search rules in
    let t = claim_found _ _ _ _ _ _ c.self.invariant.aside c.args.ctx c.in-Some.id e in
    let here = claim_here _ _ _ _ _ _ c.self.invariant.aside c.args.ctx c.in-Some.id e in
    let long = c.self.invariant.kept.comings ∙ sym c.self.invariant.kept.peers in
    let turns = redirected_turns c.self.inside.parcels c.give.new.parcels c.in-Some.id r c.args.buf c.args.ctx (record { least = refl; used = refl }) refl in
    rw (c.note.ensures, taking_is v r t.member t.found, c.give_up.ensures.capacity) (record {
      kept = claimed_kept _ _ _ _ _ _ _ c.self.invariant.kept _ _ c.self.invariant.aside c.in-Some.id c.give.new.parcels c.give.ensures.cells c.give.ensures.spare (redirected c.args.buf c.args.ctx) (Into r 0) turns _ c.give.ensures.coming (r.call + 1) c.args.ctx e _ c.give_up.ensures.rest;
      numbers = numbers_given v c.self.invariant.numbers t.member.1 r later;
      shared = multi_moved _ _ _ _ _ _ _ _ _ _ c.self.invariant.shared c.in-Some.id t.member.1 (claim_partly _ _ _ _ _ _ c.self.invariant.aside c.args.ctx c.in-Some.id e t.member.1 here) long (redirected c.args.buf c.args.ctx) (Into r 0) (λ b k. (r, refl, refl, c.self.invariant.shared.fresh r.call later)) (r.call + 1) (omega arith) _ (c.give.ensures.coming t.member.1 here);
      closable = rw (c.give.ensures.coming t.member.1 here, length_turned _ _ _ _) c.self.invariant.closable;
      ids = c.self.invariant.ids;
      sharing = c.self.invariant.sharing;
      aside = claimed_claims _ _ _ _ _ _ _ c.self.invariant.kept _ _ c.self.invariant.aside c.in-Some.id c.give.new.parcels c.give.ensures.cells c.give.ensures.spare (redirected c.args.buf c.args.ctx) (Into r 0) turns _ c.give.ensures.coming (r.call + 1) c.args.ctx e _ c.give_up.ensures.rest;
    })

pub returns-clause-outcome : goal.returns-clause-outcome
returns-clause-outcome g c =
    let r = receive_by (g.C.Caller.call c.args.about.now) any_tagged c.args.buf c.args.ctx in
    let e : first_id (λ other. other == c.args.ctx) c.self.inside.claims.items ≡ Some c.in-Some.id = search rules in
    let t = claim_found _ _ _ _ _ _ c.self.invariant.aside c.args.ctx c.in-Some.id e in
    rw (← c.self.view_is, t.found) (c.give.ensures.outcome t.member.1 r (claim_here _ _ _ _ _ _ c.self.invariant.aside c.args.ctx c.in-Some.id e) (record { least = refl; used = refl }) refl)
