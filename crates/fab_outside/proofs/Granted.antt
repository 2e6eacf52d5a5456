-- The sizes of a script that is bound are within the limits of the offer.
use Rattle.std.proofs.Common.{◌≡◌, ◌<◌, ◌≤◌, ℕ, List, Bool, true, false, Option, Some, None, refl, sym, subst, arith}
use Rattle.std.specs.Prelude.{Result, Ok, Err, IfOk, IsErrAnd, MatchResult}
use Rattle.std.specs.Result.{result_ok}
use Rattle.fab_base.specs.Offer.{most_peers}
use Rattle.fab_base.specs.declared.caps.Api.{Api}
use Rattle.fab_base.specs.declared.caps.Api.TheVariants.{One, Two}
use Rattle.fab_base.specs.declared.caps.Hints.{Hints}
use Rattle.fab_base.specs.declared.caps.Info.{Info}
use Rattle.fab_base.specs.declared.limits.Size.{Size}
use Rattle.fab_base.specs.declared.limits.Size.TheVariants.{Peers, Lane, Pool, Tx}
use Rattle.fab_base.specs.declared.script.Bound.{Bound}
use Rattle.fab_base.specs.declared.script.Script.{Script}
use Rattle.fab_grammar.specs.Grammar.{verdict, script_of}
use Rattle.fab_model.specs.Negotiation.{is_refused, granted_info, grant_of, grant, no_hints}
use Rattle.fab_info.specs.Negotiation.{IsWithin, number}
use Rattle.fab_info.proofs.Granting.{IsWithin-granted}
use Rattle.fab_script.specs.Bound.{IsSound}

granted_within : (api : Api) (refused : Bool) (h : Hints) (info : Info) → is_refused api h ≡ refused → elim refused as (λ _. Option Info) [ true ↦ None | false ↦ Some (granted_info api h) ] ≡ Some info
    → (size : Size) → IsWithin api size (number info size)
granted_within api true h info is e = cc
granted_within api false h info is e =
    let same : granted_info api h ≡ info = cc in
    subst (λ i. (size : Size) → IsWithin api size (number i size)) same (IsWithin-granted api h is)

all_within : (api : Api) (hints : Option Hints) (info : Info) → grant api hints ≡ Some info → (size : Size) → IsWithin api size (number info size)
unfolding grant grant_of
all_within api None info e = granted_within api (is_refused api no_hints) no_hints info refl e
all_within api (Some h) info e = granted_within api (is_refused api h) h info refl e

most_is : (api : Api) → most_peers api ≤ 64
most_is One = omega arith
most_is Two = omega arith

few_peers : (api : Api) (hints : Option Hints) (info : Info) → grant api hints ≡ Some info → (0 < info.peers) × (info.peers ≤ 64)
few_peers api hints info e =
    let size = all_within api hints info e Peers in
    let least : 1 ≤ info.peers = size.0 in
    let most : info.peers ≤ most_peers api = size.1 in
    (omega (arith, least), omega (arith, most, most_is api))

pub peers_within : (b : Bound) → IsSound b → (0 < b.script.conf.peers) × (b.script.conf.peers ≤ 64)
peers_within b sound = subst (λ n. (0 < n) × (n ≤ 64)) (sym sound.peers) (few_peers _ b.script.conf.hints b.script.conf.info sound.granted)

pub lane_within : (b : Bound) → IsSound b → (0 < b.script.conf.info.lane) × (b.script.conf.info.lane ≤ 1024)
lane_within b sound =
    let size = all_within _ b.script.conf.hints b.script.conf.info sound.granted Lane in
    let least : 1 ≤ b.script.conf.info.lane = size.0 in
    let most : b.script.conf.info.lane ≤ 1024 = size.1 in
    (omega (arith, least), most)

pub pool_within : (b : Bound) → IsSound b → (0 < b.script.conf.info.pool) × (b.script.conf.info.pool ≤ 1024)
pool_within b sound =
    let size = all_within _ b.script.conf.hints b.script.conf.info sound.granted Pool in
    let least : 1 ≤ b.script.conf.info.pool = size.0 in
    let most : b.script.conf.info.pool ≤ 1024 = size.1 in
    (omega (arith, least), most)

pub tx_within : (b : Bound) → IsSound b → 1 ≤ b.script.conf.info.tx
tx_within b sound = (all_within _ b.script.conf.hints b.script.conf.info sound.granted Tx).0

ok_of : {A E : Type 0} (r : Result A E) (x : A) → result_ok r ≡ Some x → r ≡ Ok x
ok_of (Ok a) x e = cc
ok_of (Err f) x e = cc

pub said : (text : List ℕ) (script : Script) → script_of text ≡ Some script → verdict text ≡ Ok script
unfolding script_of
said text script e = ok_of (verdict text) script e

-- what holds of every value holds of that which a `map_err` hands on
pub handed_on : {A E F : Type 0} (P Q : A → Type 0) (G : E → F → Type 0) → ((x : A) → P x → Q x) → (r : Result A E) (s : Result A F)
    → MatchResult r (λ x. s ≡ Ok x) (λ e. IsErrAnd s (G e)) → IfOk r P → IfOk s Q
handed_on P Q G gives (Ok x) s is p = subst (λ t. IfOk t Q) (sym is) (gives x p)
handed_on P Q G gives (Err e) (Ok x) is p = absurd is
handed_on P Q G gives (Err e) (Err f) is p = tt
