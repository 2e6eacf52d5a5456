use Rattle.std.proofs.Common.{◌≡◌, ◌∙◌, not, nat_lt, true, false, sym, ap, arith}
use Rattle.std.proofs.lemmas.Bool.Decides.{nat_tests}
use Rattle.fab_core.specs.Parts.{Parts}
use Rattle.fab_core.proofs.Judging.{first_of_three, none_is, none_of_three, second_of_three, some_is, third_of_three}
use Rattle.fab_core.proofs.parts.Core.claimed_fault.Goals as goal

pub returns-then-not-may_receive : goal.returns-then-not-may_receive
returns-then-not-may_receive g c = first_of_three _ _ _ (ap not (sym c.may_receive.ensures ∙ c.if-not-may_receive.true))

pub returns-then-bytes-self : goal.returns-then-bytes-self
returns-then-bytes-self g c =
    let most : c.self.inside.most_message ≡ c.args.self.now.most_message = ap (λ (p : Parts). p.most_message) c.self.view_is in
    let long : nat_lt c.args.self.now.most_message c.args.bytes ≡ true = let lt = c.if-bytes-self.true in grind (arith, nat_tests) in
    second_of_three _ _ _ (ap not (sym c.may_receive.ensures ∙ c.if-not-may_receive.false)) long

pub returns-then-not-has_claim : goal.returns-then-not-has_claim
returns-then-not-has_claim g c =
    let most : c.self.inside.most_message ≡ c.args.self.now.most_message = ap (λ (p : Parts). p.most_message) c.self.view_is in
    let short : nat_lt c.args.self.now.most_message c.args.bytes ≡ false = let le = c.if-bytes-self.false in grind (arith, nat_tests) in
    third_of_three _ _ _ (ap not (sym c.may_receive.ensures ∙ c.if-not-may_receive.false)) short (none_is _ (sym c.has_claim.ensures ∙ c.if-not-has_claim.true))

pub returns : goal.returns
returns g c =
    let most : c.self.inside.most_message ≡ c.args.self.now.most_message = ap (λ (p : Parts). p.most_message) c.self.view_is in
    let short : nat_lt c.args.self.now.most_message c.args.bytes ≡ false = let le = c.if-bytes-self.false in grind (arith, nat_tests) in
    none_of_three _ _ _ (ap not (sym c.may_receive.ensures ∙ c.if-not-may_receive.false)) short (some_is _ (sym c.has_claim.ensures ∙ c.if-not-has_claim.false))
