use Rattle.std.proofs.Common.{◌≡◌, ◌==◌, None, Some, ap, refl, rules, ◌∙◌, arith, sym}
use Rattle.std.specs.Prelude.{find}
use Rattle.fab_base.specs.declared.operations.Coming.TheVariants.{Throw}
use Rattle.fab_match.specs.Matcher.{first_id}
use Rattle.fab_rx.specs.Stored.{thrown_on}
use Rattle.fab_rx.proofs.Finding.{claim_found, claim_here, claim_partly, is_there, none_claimed}
use Rattle.fab_rx.proofs.Sharing.{multi_moved}
use Rattle.fab_rx.proofs.Parting.{length_turned}
use Rattle.fab_rx.proofs.Numbering.{numbers_thrown}
use Rattle.fab_rx.proofs.Parting.{claimed_claims, claimed_kept, dropping_is, thrown_turns}
use Rattle.fab_rx.proofs.inbox.Inbox.drop_claimed.Goals as goal

pub returns-in_default-clause-new : goal.returns-in_default-clause-new
returns-in_default-clause-new g c =
    let none : find (λ k. k.0 == c.args.ctx) c.self.inside.past.rx.claimed ≡ None = none_claimed _ _ _ _ _ _ c.self.invariant.aside c.args.ctx (search rules) in
    rw (← c.self.view_is, none) refl

pub returns-in_default-clause-seen : goal.returns-in_default-clause-seen
returns-in_default-clause-seen g c =
    let none : find (λ k. k.0 == c.args.ctx) c.self.inside.past.rx.claimed ≡ None = none_claimed _ _ _ _ _ _ c.self.invariant.aside c.args.ctx (search rules) in
    rw (← c.self.view_is, none) refl

pub throw-requires-clause-there : goal.throw-requires-clause-there
throw-requires-clause-there g c =
    let e : first_id (λ other. other == c.args.ctx) c.self.inside.claims.items ≡ Some c.in-Some.id = search rules in
    is_there _ _ (claim_here _ _ _ _ _ _ c.self.invariant.aside c.args.ctx c.in-Some.id e)

pub throw-requires-clause-partly : goal.throw-requires-clause-partly
throw-requires-clause-partly g c =
    let e : first_id (λ other. other == c.args.ctx) c.self.inside.claims.items ≡ Some c.in-Some.id = search rules in
    claim_partly _ _ _ _ _ _ c.self.invariant.aside c.args.ctx c.in-Some.id e

pub invariant_of-self-2 : goal.invariant_of-self-2
invariant_of-self-2 g c =
    let v = c.self.inside.past in
    let e : first_id (λ other. other == c.args.ctx) c.self.inside.claims.items ≡ Some c.in-Some.id = search rules in
    let t = claim_found _ _ _ _ _ _ c.self.invariant.aside c.args.ctx c.in-Some.id e in
    let here = claim_here _ _ _ _ _ _ c.self.invariant.aside c.args.ctx c.in-Some.id e in
    let long = c.self.invariant.kept.comings ∙ sym c.self.invariant.kept.peers in
    let turns = thrown_turns c.self.inside.parcels c.throw.new.parcels c.in-Some.id in
    rw (c.note.ensures, dropping_is v c.args.ctx t.member t.found, c.give_up.ensures.capacity) (record {
      kept = claimed_kept _ _ _ _ _ _ _ c.self.invariant.kept _ _ c.self.invariant.aside c.in-Some.id c.throw.new.parcels c.throw.ensures.cells c.throw.ensures.spare thrown_on Throw turns _ c.throw.ensures.coming v.next c.args.ctx e _ c.give_up.ensures.rest;
      numbers = numbers_thrown v c.self.invariant.numbers t.member.1;
      shared = multi_moved _ _ _ _ _ _ _ _ _ _ c.self.invariant.shared c.in-Some.id t.member.1 (claim_partly _ _ _ _ _ _ c.self.invariant.aside c.args.ctx c.in-Some.id e t.member.1 here) long thrown_on Throw (λ b k. refl) v.next (omega arith) _ (c.throw.ensures.coming t.member.1 here);
      closable = rw (c.throw.ensures.coming t.member.1 here, length_turned _ _ _ _) c.self.invariant.closable;
      ids = c.self.invariant.ids;
      sharing = c.self.invariant.sharing;
      aside = claimed_claims _ _ _ _ _ _ _ c.self.invariant.kept _ _ c.self.invariant.aside c.in-Some.id c.throw.new.parcels c.throw.ensures.cells c.throw.ensures.spare thrown_on Throw turns _ c.throw.ensures.coming v.next c.args.ctx e _ c.give_up.ensures.rest;
    })

pub returns-clause-seen : goal.returns-clause-seen
returns-clause-seen g c =
    let e : first_id (λ other. other == c.args.ctx) c.self.inside.claims.items ≡ Some c.in-Some.id = search rules in
    let t = claim_found _ _ _ _ _ _ c.self.invariant.aside c.args.ctx c.in-Some.id e in
    rw (← c.self.view_is, t.found) (ap Some (c.throw.ensures.outcome t.member.1 (claim_here _ _ _ _ _ _ c.self.invariant.aside c.args.ctx c.in-Some.id e)))
