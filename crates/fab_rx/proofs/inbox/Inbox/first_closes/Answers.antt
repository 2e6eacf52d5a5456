use Rattle.std.proofs.Common.{◌≡◌, ◌∙◌, ◌<◌, true, false, List, None, Option, Some, length, sym, ap, subst, rules}
use Rattle.std.specs.Prelude.{is_some}
use Rattle.fab_base.proofs.Options.{some_there as there_is}
use Rattle.fab_base.specs.Kinds.{is_message}
use Rattle.fab_match.specs.Matcher.{first_id}
use Rattle.fab_match.specs.Signs.{fits}
use Rattle.fab_rx.specs.declared.stored.Begun.{Begun}
use Rattle.fab_rx.specs.Table.{at}
use Rattle.fab_rx.specs.Sharing.{is_closed, multi_at}
use Rattle.fab_rx.specs.Arriving.{Arriving, begun_of}
use Rattle.fab_rx.proofs.Keeping.{seat_missed}
use Rattle.fab_rx.proofs.Shutting.{first_kept, first_multi, first_other, first_single, first_usable}
use Rattle.fab_rx.proofs.inbox.Inbox.first_closes.Goals as goal

pub returns-then-not-is_message : goal.returns-then-not-is_message
returns-then-not-is_message g c =
    let source = c.args.source in
    let within : source < length c.self.inside.past.begun = subst (λ (v : Arriving). source < length v.begun) (sym c.self.view_is) c.requires.source in
    let nothing : begun_of c.self.inside.past source ≡ None = subst (λ (v : Arriving). begun_of v source ≡ None) (sym c.self.view_is) c.requires.nothing in
    let other : is_message c.args.head.now.kind ≡ false = search rules in
    rw (← c.self.view_is) (sym (first_other _ _ _ _ _ _ _ c.self.invariant.kept _ c.self.invariant.shared source c.args.head.now within nothing other))

pub returns-in_default : goal.returns-in_default
returns-in_default g c =
    let source = c.args.source in
    let within : source < length c.self.inside.past.begun = subst (λ (v : Arriving). source < length v.begun) (sym c.self.view_is) c.requires.source in
    let nothing : begun_of c.self.inside.past source ≡ None = subst (λ (v : Arriving). begun_of v source ≡ None) (sym c.self.view_is) c.requires.nothing in
    let message : is_message c.args.head.now.kind ≡ true = search rules in
    let untaken = seat_missed _ _ _ _ _ _ _ c.self.invariant.kept source c.args.head.now within nothing message c.sign_of.result c.sign_of.ensures.fits (search rules) in
    rw (← c.self.view_is) (sym (first_kept _ _ _ _ _ _ _ c.self.invariant.kept _ c.self.invariant.shared source c.args.head.now within nothing message untaken))

pub returns-then-is_none : goal.returns-then-is_none
returns-then-is_none g c =
    let source = c.args.source in
    let within : source < length c.self.inside.past.begun = subst (λ (v : Arriving). source < length v.begun) (sym c.self.view_is) c.requires.source in
    let nothing : begun_of c.self.inside.past source ≡ None = subst (λ (v : Arriving). begun_of v source ≡ None) (sym c.self.view_is) c.requires.nothing in
    let message : is_message c.args.head.now.kind ≡ true = search rules in
    let e : first_id (λ want. fits want c.sign_of.result) (g.M.Matcher.posted c.self.inside.matcher) ≡ Some c.in-Some.id = sym c.in-Some.ensures.first in
    let alone : multi_at c.self.inside.seats c.in-Some.id ≡ None = search rules in
    rw (← c.self.view_is) (sym (first_single _ _ _ _ _ _ _ c.self.invariant.kept _ c.self.invariant.shared source c.args.head.now within nothing message c.sign_of.result c.sign_of.ensures.fits c.in-Some.id e alone))

pub closes-requires : goal.closes-requires
closes-requires g c =
    let source = c.args.source in
    let within : source < length c.self.inside.past.begun = subst (λ (v : Arriving). source < length v.begun) (sym c.self.view_is) c.requires.source in
    let nothing : begun_of c.self.inside.past source ≡ None = subst (λ (v : Arriving). begun_of v source ≡ None) (sym c.self.view_is) c.requires.nothing in
    let message : is_message c.args.head.now.kind ≡ true = search rules in
    let e : first_id (λ want. fits want c.sign_of.result) (g.M.Matcher.posted c.self.inside.matcher) ≡ Some c.in-Some.id = sym c.in-Some.ensures.first in
    record { usable = first_usable _ _ _ _ _ _ _ c.self.invariant.kept _ c.self.invariant.shared source c.args.head.now within nothing message c.sign_of.result c.sign_of.ensures.fits c.in-Some.id e }

pub returns : goal.returns
returns g c =
    let source = c.args.source in
    let within : source < length c.self.inside.past.begun = subst (λ (v : Arriving). source < length v.begun) (sym c.self.view_is) c.requires.source in
    let nothing : begun_of c.self.inside.past source ≡ None = subst (λ (v : Arriving). begun_of v source ≡ None) (sym c.self.view_is) c.requires.nothing in
    let message : is_message c.args.head.now.kind ≡ true = search rules in
    let e : first_id (λ want. fits want c.sign_of.result) (g.M.Matcher.posted c.self.inside.matcher) ≡ Some c.in-Some.id = sym c.in-Some.ensures.first in
    let some : is_some (multi_at c.self.inside.seats c.in-Some.id) ≡ true = search rules in
    let q = there_is (multi_at c.self.inside.seats c.in-Some.id) some in
    let told = first_multi _ _ _ _ _ _ _ c.self.invariant.kept _ c.self.invariant.shared source c.args.head.now within nothing message c.sign_of.result c.sign_of.ensures.fits c.in-Some.id e q.0 q.1 in
    rw (← c.self.view_is) (c.closes.ensures ∙ ap (λ (xs : List (Option Begun)). is_closed xs c.in-Some.id c.args.head.now.total (at c.self.inside.seats c.in-Some.id)) c.as_slice.ensures.value ∙ told)
