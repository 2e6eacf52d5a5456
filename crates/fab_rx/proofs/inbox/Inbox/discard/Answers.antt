use Rattle.std.proofs.Common.{◌≡◌, ◌∙◌, None, Some, sym, ap, refl, rules, arith}
use Rattle.std.specs.Prelude.{find}
use Rattle.fab_base.specs.declared.operations.Coming.TheVariants.{Throw}
use Rattle.fab_model.specs.Matching.{takes}
use Rattle.fab_match.specs.Signs.{fits}
use Rattle.fab_match.proofs.Pairs.{without-first}
use Rattle.fab_rx.specs.Stored.{thrown_on}
use Rattle.fab_rx.proofs.Finding.{first_found, found_here, found_partly, is_there, none_found}
use Rattle.fab_rx.proofs.Sharing.{multi_moved}
use Rattle.fab_rx.proofs.Parting.{length_turned}
use Rattle.fab_rx.proofs.Numbering.{numbers_thrown}
use Rattle.fab_rx.proofs.Parting.{discarding_is, thrown_turns, unexpected_claims, unexpected_kept}
use Rattle.fab_rx.proofs.inbox.Inbox.discard.Goals as goal

pub returns-in_default-clause-new : goal.returns-in_default-clause-new
returns-in_default-clause-new g c =
    let none : find (takes c.args.want.now) c.self.inside.past.rx.unexpected ≡ None = none_found _ _ _ _ _ _ _ c.self.invariant.kept c.args.want.now (search rules) in
    rw (← c.self.view_is, none) refl

pub returns-in_default-clause-seen : goal.returns-in_default-clause-seen
returns-in_default-clause-seen g c =
    let none : find (takes c.args.want.now) c.self.inside.past.rx.unexpected ≡ None = none_found _ _ _ _ _ _ _ c.self.invariant.kept c.args.want.now (search rules) in
    rw (← c.self.view_is, none) refl

pub throw-requires-clause-there : goal.throw-requires-clause-there
throw-requires-clause-there g c = is_there _ _ (found_here _ _ _ _ _ _ _ c.self.invariant.kept c.args.want.now c.in-Some.id (sym c.in-Some.ensures.first))

pub throw-requires-clause-partly : goal.throw-requires-clause-partly
throw-requires-clause-partly g c = found_partly _ _ _ _ _ _ _ c.self.invariant.kept c.args.want.now c.in-Some.id (sym c.in-Some.ensures.first)

pub invariant_of-self-2 : goal.invariant_of-self-2
invariant_of-self-2 g c =
    let v = c.self.inside.past in
    let rest = c.remove_unexpected.ensures.rest ∙ without-first (λ sign. fits c.args.want.now sign) c.in-Some.id (g.M.Matcher.unexpected c.self.inside.matcher) c.in-Some.ensures.distinct (sym c.in-Some.ensures.first) in
    let t = first_found _ _ _ _ _ _ _ c.self.invariant.kept c.args.want.now c.in-Some.id (sym c.in-Some.ensures.first) in
    let here = found_here _ _ _ _ _ _ _ c.self.invariant.kept c.args.want.now c.in-Some.id (sym c.in-Some.ensures.first) in
    let long = c.self.invariant.kept.comings ∙ sym c.self.invariant.kept.peers in
    let turns = thrown_turns c.self.inside.parcels c.throw.new.parcels c.in-Some.id in
    rw (c.note.ensures, discarding_is v c.args.want.now t.member t.found, c.remove_unexpected.ensures.posted, c.remove_unexpected.ensures.room) (record {
      kept =
          unexpected_kept _ _ _ _ _ _ _ c.self.invariant.kept _ _ c.self.invariant.aside c.in-Some.id c.throw.new.parcels c.throw.ensures.cells c.throw.ensures.spare thrown_on Throw turns _ c.throw.ensures.coming v.next c.args.want.now (sym c.in-Some.ensures.first) _ rest c.remove_unexpected.ensures.gone;
      numbers = numbers_thrown v c.self.invariant.numbers t.member;
      shared = multi_moved _ _ _ _ _ _ _ _ _ _ c.self.invariant.shared c.in-Some.id t.member (found_partly _ _ _ _ _ _ _ c.self.invariant.kept c.args.want.now c.in-Some.id (sym c.in-Some.ensures.first) t.member here) long thrown_on Throw (λ b k. refl) v.next (omega arith) _ (c.throw.ensures.coming t.member here);
      closable = rw (c.throw.ensures.coming t.member here, length_turned _ _ _ _) c.self.invariant.closable;
      ids = c.self.invariant.ids;
      sharing = c.self.invariant.sharing;
      aside =
          unexpected_claims _ _ _ _ _ _ _ c.self.invariant.kept _ _ c.self.invariant.aside c.in-Some.id c.throw.new.parcels c.throw.ensures.cells c.throw.ensures.spare thrown_on Throw turns _ c.throw.ensures.coming v.next c.args.want.now (sym c.in-Some.ensures.first) _ rest c.remove_unexpected.ensures.gone;
    })

pub returns-clause-seen : goal.returns-clause-seen
returns-clause-seen g c =
    let t = first_found _ _ _ _ _ _ _ c.self.invariant.kept c.args.want.now c.in-Some.id (sym c.in-Some.ensures.first) in
    rw (← c.self.view_is, t.found) (ap Some (c.throw.ensures.outcome t.member (found_here _ _ _ _ _ _ _ c.self.invariant.kept c.args.want.now c.in-Some.id (sym c.in-Some.ensures.first))))
