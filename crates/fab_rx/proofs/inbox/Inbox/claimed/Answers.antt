use Rattle.std.proofs.Common.{◌≡◌, ◌==◌, ◌∙◌, None, Some, ap, refl, rules}
use Rattle.std.specs.Prelude.{find}
use Rattle.fab_match.specs.Matcher.{first_id}
use Rattle.fab_rx.proofs.Finding.{none_claimed, claim_there, claim_seen}
use Rattle.fab_rx.proofs.inbox.Inbox.claimed.Goals as goal

pub returns-in_default : goal.returns-in_default
returns-in_default g c =
    let none : find (λ k. k.0 == c.args.ctx) c.self.inside.past.rx.claimed ≡ None = none_claimed _ _ _ _ _ _ c.self.invariant.aside c.args.ctx (search rules) in
    rw (← c.self.view_is, none) refl

pub unreachable-requires : goal.unreachable-requires
unreachable-requires g c = let e : first_id (λ other. other == c.args.ctx) c.self.inside.claims.items ≡ Some c.in-Some.id = search rules in claim_there _ _ _ _ _ _ c.self.invariant.aside c.args.ctx c.in-Some.id e (search rules)

pub returns : goal.returns
returns g c =
    let e : first_id (λ other. other == c.args.ctx) c.self.inside.claims.items ≡ Some c.in-Some.id = search rules in
    rw (← c.self.view_is) (ap Some c.seen.ensures ∙ claim_seen _ _ _ _ _ _ c.self.invariant.aside c.args.ctx c.in-Some.id e c.in-Some-get.parcel.now (search rules))
