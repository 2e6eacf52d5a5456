-- What is granted is opened: its numbers are those of the offer.
use Rattle.std.proofs.Common.{◌≡◌, ◌≤◌, ℕ, Bool, true, false, Option, Some, None, refl, subst}
use Rattle.std.proofs.lemmas.Bool.{and_from, le-leb}
use Rattle.fab_base.specs.Offer.{limits_of}
use Rattle.fab_base.specs.declared.caps.Api.{Api}
use Rattle.fab_base.specs.declared.caps.Hints.{Hints}
use Rattle.fab_base.specs.declared.caps.Info.{Info}
use Rattle.fab_base.specs.declared.limits.Limits.{Limits}
use Rattle.fab_base.specs.declared.limits.Size.TheVariants.{Peers, Lane, Pool, Tx, Rx, Cq, Log, Inject}
use Rattle.fab_base.proofs.Numbers.{same_number as same}
use Rattle.fab_face.specs.Ports.{is_granted, within}
use Rattle.fab_info.proofs.Granting.{IsWithin-granted}
use Rattle.fab_model.specs.Negotiation.{grant, grant_of, granted_info, is_refused}

is_within : (l : Limits) (n : ℕ) → (l.least ≤ n) × (n ≤ l.greatest) → within l n ≡ true
is_within l n (least, greatest) = and_from _ _ (le-leb l.least n least) (le-leb n l.greatest greatest)

of_offer : (api : Api) (h : Hints) → is_refused api h ≡ false → is_granted (granted_info api h) (granted_info api h).peers ≡ true
of_offer api h fine =
    let i = granted_info api h in
    let fits = IsWithin-granted api h fine in
    and_from _ _ (and_from _ _ (and_from _ _ (and_from _ _ (and_from _ _ (and_from _ _ (and_from _ _ (and_from _ _ (and_from _ _
    (same i.peers) (is_within (limits_of api Peers) i.peers (fits Peers))) (is_within (limits_of api Lane) i.lane (fits Lane)))
    (is_within (limits_of api Pool) i.pool (fits Pool))) (is_within (limits_of api Tx) i.tx (fits Tx))) (is_within (limits_of api Rx) i.rx (fits Rx)))
    (is_within (limits_of api Cq) i.cq (fits Cq))) (is_within (limits_of api Log) i.log (fits Log))) (is_within (limits_of api Inject) i.inject (fits Inject)))
    (same i.message)

pub opens : (api : Api) (h : Hints) (info : Info) → grant api (Some h) ≡ Some info → is_granted info info.peers ≡ true
unfolding grant grant_of
opens api h info is = go (is_refused api h) refl is
  where
    go : (b : Bool) → is_refused api h ≡ b → elim b [ true ↦ None | false ↦ Some (granted_info api h) ] ≡ Some info → is_granted info info.peers ≡ true
    go true e none = absurd (cc)
    go false e some = let same : granted_info api h ≡ info = cc in subst (λ (i : Info). is_granted i i.peers ≡ true) same (of_offer api h e)
