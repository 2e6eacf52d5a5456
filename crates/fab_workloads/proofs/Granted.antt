-- A wish for a number of peers is granted.
use Rattle.std.proofs.Common.{Bool, None, Option, Some, ap, ap₂, arith, false, true, ℕ, ◌∙◌, ◌≡◌, ◌≤◌, ◌||◌}
use Rattle.std.proofs.lemmas.Bool.Decides.{nat_tests}
use Rattle.std.specs.Prelude.{nat_lt, ◌==◌}
use Rattle.fab_base.specs.declared.caps.Api.TheVariants.{One}
use Rattle.fab_base.specs.declared.caps.Info.{Info}
use Rattle.fab_base.specs.declared.limits.Size.TheVariants.{Peers}
use Rattle.fab_model.specs.Negotiation.{grant, grant_of, granted_info, is_refused, wish_is_refused}
use Rattle.fab_workloads.specs.Script.{hints_for}

module _ (peers : ℕ) (least : 1 ≤ peers) (most : peers ≤ 32) where
  within : wish_is_refused One Peers (Some peers) ≡ false
  within =
      let some : (peers == 0) ≡ false = grind (arith, nat_tests, least) in
      let low : nat_lt peers 1 ≡ false = grind (arith, nat_tests, least) in
      let high : nat_lt 32 peers ≡ false = grind (arith, nat_tests, most) in
      ap (λ (b : Bool). let wished : Option ℕ = elim b [ true ↦ None | false ↦ Some peers ] in elim wished [ None ↦ false | Some n ↦ nat_lt n 1 || nat_lt 32 n ]) some
      ∙ ap₂ (λ (a b : Bool). a || b) low high

  not_refused : is_refused One (hints_for peers) ≡ false
  not_refused = ap (λ (b : Bool). b || false || false || false || false || false || false || false || false) within

  pub peers_granted : grant One (Some (hints_for peers)) ≡ Some (granted_info One (hints_for peers))
  unfolding grant grant_of
  peers_granted = ap (λ (b : Bool). let granted : Option Info = elim b [ true ↦ None | false ↦ Some (granted_info One (hints_for peers)) ] in granted) not_refused
