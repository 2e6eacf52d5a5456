use Rattle.std.proofs.Common.{◌≡◌, ◌∙◌, ◌||◌, ℕ, true, false, List, None, Some, sym, ap, rules}
use Rattle.std.specs.Prelude.{is_some}
use Rattle.fab_match.specs.Matcher.{has_id}
use Rattle.fab_rx.specs.Table.{at}
use Rattle.fab_rx.specs.Sharing.{multi_in}
use Rattle.fab_rx.proofs.Lent.{lent, none_open, none_stands}
use Rattle.fab_rx.proofs.inbox.Inbox.buffer_of.Goals as goal

pub returns-then-not-stands-clause-none : goal.returns-then-not-stands-clause-none
returns-then-not-stands-clause-none g c =
    let no : c.stands.result ≡ false = search rules in
    let slice = ap (λ (xs : List (ℕ × ℕ)). has_id c.args.id (g.M.Matcher.posted c.self.inside.matcher) || has_id c.args.id xs) (sym c.as_slice.ensures.value) in
    rw (← c.self.view_is) (none_stands _ _ _ _ _ _ _ c.self.invariant.kept _ c.self.invariant.shared c.args.id (slice ∙ sym c.stands.ensures ∙ no))

pub returns-in_default-clause-none : goal.returns-in_default-clause-none
returns-in_default-clause-none g c =
    let none : at c.self.inside.seats c.args.id ≡ None = search rules in
    rw (← c.self.view_is) (none_open _ _ _ _ _ _ _ c.self.invariant.kept _ c.self.invariant.shared c.args.id (ap multi_in none))

pub returns-then-is_none-clause-none : goal.returns-then-is_none-clause-none
returns-then-is_none-clause-none g c =
    let here : at c.self.inside.seats c.args.id ≡ Some c.in-Some.waiting.now = search rules in
    let alone : c.in-Some.waiting.now.multi ≡ None = search rules in
    rw (← c.self.view_is) (none_open _ _ _ _ _ _ _ c.self.invariant.kept _ c.self.invariant.shared c.args.id (ap multi_in here ∙ alone))

pub returns-clause-some : goal.returns-clause-some
returns-clause-some g c =
    let yes : c.stands.result ≡ true = search rules in
    let slice = ap (λ (xs : List (ℕ × ℕ)). has_id c.args.id (g.M.Matcher.posted c.self.inside.matcher) || has_id c.args.id xs) (sym c.as_slice.ensures.value) in
    let here : at c.self.inside.seats c.args.id ≡ Some c.in-Some.waiting.now = search rules in
    let shared : is_some c.in-Some.waiting.now.multi ≡ true = search rules in
    let is : c.as_slice-2.result.now ≡ c.in-Some.waiting.now.seat.buf = search rules in
    rw (← c.self.view_is, is) (lent _ _ _ _ _ _ _ c.self.invariant.kept _ c.self.invariant.shared c.args.id c.in-Some.waiting.now here shared (slice ∙ sym c.stands.ensures ∙ yes))
