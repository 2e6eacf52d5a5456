use Rattle.std.proofs.Common.{◌≡◌, ◌∙◌, ◌&&◌, ◌<◌, true, false, not, List, None, Option, Some, length, set, sym, ap, subst, rules, get_or}
use Rattle.std.specs.List.{list_any}
use Rattle.fab_match.specs.Matcher.{has_id}
use Rattle.fab_rx.specs.declared.stored.Begun.{Begun}
use Rattle.fab_rx.specs.Arriving.{Arriving}
use Rattle.fab_rx.specs.Homes.{is_fed_by, part_in}
use Rattle.fab_rx.proofs.Ending.{last_told, none_told}
use Rattle.fab_rx.proofs.inbox.Inbox.closes.Goals as goal

pub returns-in_default : goal.returns-in_default
returns-in_default g c =
    let within : c.args.source < length c.self.inside.past.begun = subst (λ (v : Arriving). c.args.source < length v.begun) (sym c.self.view_is) c.requires in
    let none : part_in (get_or c.as_slice.result.now c.args.source None) ≡ None = search rules in
    let is = ap (λ (xs : List (Option Begun)). part_in (get_or xs c.args.source None)) (sym c.as_slice.ensures.value) ∙ none in
    rw (← c.self.view_is) (sym (none_told _ _ _ _ _ _ _ c.self.invariant.kept _ c.self.invariant.shared c.args.source within is))

pub returns-then-not-is_fed_besides : goal.returns-then-not-is_fed_besides
returns-then-not-is_fed_besides g c =
    let within : c.args.source < length c.self.inside.past.begun = subst (λ (v : Arriving). c.args.source < length v.begun) (sym c.self.view_is) c.requires in
    let some : part_in (get_or c.as_slice.result.now c.args.source None) ≡ Some c.in-Some.id = search rules in
    let is = ap (λ (xs : List (Option Begun)). part_in (get_or xs c.args.source None)) (sym c.as_slice.ensures.value) ∙ some in
    let no : c.is_fed_besides.result ≡ false = search rules in
    let unfed = ap (λ (xs : List (Option Begun)). list_any (is_fed_by c.in-Some.id) (set xs c.args.source None)) (sym c.as_slice-2.ensures.value) ∙ sym c.is_fed_besides.ensures ∙ no in
    let told = last_told _ _ _ _ _ _ _ c.self.invariant.kept _ c.self.invariant.shared c.args.source within c.in-Some.id is in
    rw (← c.self.view_is) (c.is_closing.ensures ∙ ap (has_id c.in-Some.id) c.as_slice-then-not-is_fed_besides.ensures.value ∙ sym (ap (λ b. not b && has_id c.in-Some.id c.self.inside.closing.items) unfed) ∙ told)

pub returns-else-not-is_fed_besides : goal.returns-else-not-is_fed_besides
returns-else-not-is_fed_besides g c =
    let within : c.args.source < length c.self.inside.past.begun = subst (λ (v : Arriving). c.args.source < length v.begun) (sym c.self.view_is) c.requires in
    let some : part_in (get_or c.as_slice.result.now c.args.source None) ≡ Some c.in-Some.id = search rules in
    let is = ap (λ (xs : List (Option Begun)). part_in (get_or xs c.args.source None)) (sym c.as_slice.ensures.value) ∙ some in
    let yes : c.is_fed_besides.result ≡ true = search rules in
    let fed = ap (λ (xs : List (Option Begun)). list_any (is_fed_by c.in-Some.id) (set xs c.args.source None)) (sym c.as_slice-2.ensures.value) ∙ sym c.is_fed_besides.ensures ∙ yes in
    let told = last_told _ _ _ _ _ _ _ c.self.invariant.kept _ c.self.invariant.shared c.args.source within c.in-Some.id is in
    rw (← c.self.view_is) (ap not yes ∙ sym (ap (λ b. not b && has_id c.in-Some.id c.self.inside.closing.items) fed) ∙ told)
