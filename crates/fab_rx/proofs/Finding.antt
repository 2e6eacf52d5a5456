-- The message that is found: the first unexpected one that a want takes, and the one that is claimed under a context.
use Rattle.std.proofs.Common.{◌≡◌, ℕ, ◌==◌, List, Option, Some, None, get_or, refl, sym, ap, subst, ◌∙◌}
use Rattle.std.specs.Prelude.{find, is_some, IsSome}
use Rattle.std.specs.Option.{option_map}
use Rattle.fab_base.specs.declared.items.Want.{Want}
use Rattle.fab_base.specs.declared.items.Sign.{Sign}
use Rattle.fab_base.specs.declared.operations.Arrival.{Arrival}
use Rattle.fab_model.specs.Matching.{takes}
use Rattle.fab_match.specs.Signs.{fits}
use Rattle.fab_match.specs.Matcher.{first_id}
use Rattle.fab_rx.specs.declared.results.Seen.{Seen}
use Rattle.fab_rx.specs.declared.stored.Waiting.{Waiting}
use Rattle.fab_rx.specs.declared.stored.Parcel.{Parcel}
use Rattle.fab_rx.specs.declared.stored.Begun.{Begun}
use Rattle.fab_rx.specs.Table.{Cells, at}
use Rattle.fab_rx.specs.Arriving.{Arriving}
use Rattle.fab_rx.specs.Claims.{seen}
use Rattle.fab_rx.specs.Stored.{AreClaimed, IsClaim, IsKept, IsKeptAs, Lies, parcel_of, seen_of}
use Rattle.fab_rx.proofs.Tying.{IsTaken, missed, taken}
use Rattle.fab_rx.proofs.Keeping.{lies_agrees}

-- what stands under an id is one message
same_parcel : (parcels : Cells Parcel) (id : ℕ) (p q : Parcel) → at parcels id ≡ Some p → at parcels id ≡ Some q → p ≡ q
same_parcel parcels id p q is there = let both : Some p ≡ Some q = sym is ∙ there in cc

-- its bytes are being gathered, whatever else is known of it
partly_as : (parcels : Cells Parcel) (coming : List (Option Begun)) (id : ℕ) (a b : Arrival) → at parcels id ≡ Some (parcel_of a) → at parcels id ≡ Some (parcel_of b) → (a.bytes ≡ None → IsKeptAs id (get_or coming a.source None)) → b.bytes ≡ None → IsKeptAs id (get_or coming b.source None)
partly_as parcels coming id a b here there partly none =
    let same = same_parcel parcels id (parcel_of a) (parcel_of b) here there in
    subst (λ (s : ℕ). IsKeptAs id (get_or coming s None)) (ap (λ (p : Parcel). p.source) same) (partly (ap (λ (p : Parcel). p.bytes) same ∙ none))

pub is_there : {X : Type 0} (o : Option X) (x : X) → o ≡ Some x → IsSome o
is_there o x e = rw e refl

seen_as : (a : Arrival) (p : Parcel) → p ≡ parcel_of a → seen_of p ≡ seen a
seen_as a p is = rw is refl

-- ---- an unexpected one

module _ (ps : List (ℕ × Want)) (us : List (ℕ × Sign)) (room : ℕ) (seats : Cells Waiting) (parcels : Cells Parcel) (coming : List (Option Begun)) (v : Arriving) (kept : IsKept ps us room seats parcels coming v) (want : Want) where
  pub none_found : first_id (λ sign. fits want sign) us ≡ None → find (takes want) v.rx.unexpected ≡ None
  none_found e = missed (Lies parcels coming) (λ sign. fits want sign) (takes want) (lies_agrees want parcels coming) us v.rx.unexpected kept.messages e

  module _ (id : ℕ) (e : first_id (λ sign. fits want sign) us ≡ Some id) where
    pub first_found : IsTaken (Lies parcels coming) (λ sign. fits want sign) (takes want) (lies_agrees want parcels coming) id us v.rx.unexpected
    first_found = taken (Lies parcels coming) (λ sign. fits want sign) (takes want) (lies_agrees want parcels coming) id us v.rx.unexpected kept.messages e

    pub found_here : at parcels id ≡ Some (parcel_of first_found.member)
    found_here = ap (at parcels) (sym first_found.is) ∙ first_found.tie.parcel

    pub found_partly : (a : Arrival) → at parcels id ≡ Some (parcel_of a) → a.bytes ≡ None → IsKeptAs id (get_or coming a.source None)
    found_partly a there = partly_as parcels coming id first_found.member a found_here there
        (λ none. subst (λ (k : ℕ). IsKeptAs k (get_or coming first_found.member.source None)) first_found.is (first_found.tie.partly none))

    pub message_there : at parcels id ≡ None → ⊥
    message_there none = let no : Some (parcel_of first_found.member) ≡ None = sym found_here ∙ none in cc

    pub found_seen : (p : Parcel) → Some p ≡ at parcels id → Some (seen_of p) ≡ option_map seen (find (takes want) v.rx.unexpected)
    found_seen p there = rw first_found.found (ap (λ (s : Seen). Some s) (seen_as first_found.member p (same_parcel parcels id p (parcel_of first_found.member) (sym there) found_here)))

    pub found_is : (p : Parcel) → Some p ≡ at parcels id → Some (is_some p.bytes) ≡ option_map (λ (a : Arrival). is_some a.bytes) (find (takes want) v.rx.unexpected)
    found_is p there = rw (first_found.found, same_parcel parcels id p (parcel_of first_found.member) (sym there) found_here) refl

-- ---- a claimed one

pub claim_agrees : (parcels : Cells Parcel) (coming : List (Option Begun)) (ctx : ℕ) (p : ℕ × ℕ) (k : ℕ × Arrival) → IsClaim parcels coming p k → (p.1 == ctx) ≡ (k.0 == ctx)
claim_agrees parcels coming ctx p k is = ap (λ n. n == ctx) is.ctx

module _ (us : List (ℕ × Sign)) (parcels : Cells Parcel) (coming : List (Option Begun)) (cs : List (ℕ × ℕ)) (capacity : ℕ) (claimed : List (ℕ × Arrival)) (aside : AreClaimed us parcels coming cs capacity claimed) (ctx : ℕ) where
  pub none_claimed : first_id (λ other. other == ctx) cs ≡ None → find (λ k. k.0 == ctx) claimed ≡ None
  none_claimed e = missed (IsClaim parcels coming) (λ other. other == ctx) (λ k. k.0 == ctx) (claim_agrees parcels coming ctx) cs claimed aside.messages e

  module _ (id : ℕ) (e : first_id (λ other. other == ctx) cs ≡ Some id) where
    pub claim_found : IsTaken (IsClaim parcels coming) (λ other. other == ctx) (λ k. k.0 == ctx) (claim_agrees parcels coming ctx) id cs claimed
    claim_found = taken (IsClaim parcels coming) (λ other. other == ctx) (λ k. k.0 == ctx) (claim_agrees parcels coming ctx) id cs claimed aside.messages e

    pub claim_here : at parcels id ≡ Some (parcel_of claim_found.member.1)
    claim_here = ap (at parcels) (sym claim_found.is) ∙ claim_found.tie.lies.parcel

    pub claim_partly : (a : Arrival) → at parcels id ≡ Some (parcel_of a) → a.bytes ≡ None → IsKeptAs id (get_or coming a.source None)
    claim_partly a there = partly_as parcels coming id claim_found.member.1 a claim_here there
        (λ none. subst (λ (k : ℕ). IsKeptAs k (get_or coming claim_found.member.1.source None)) claim_found.is (claim_found.tie.lies.partly none))

    pub claim_there : at parcels id ≡ None → ⊥
    claim_there none = let no : Some (parcel_of claim_found.member.1) ≡ None = sym claim_here ∙ none in cc

    pub claim_seen : (p : Parcel) → Some p ≡ at parcels id → Some (seen_of p) ≡ option_map seen (option_map (λ k. k.1) (find (λ k. k.0 == ctx) claimed))
    claim_seen p there = rw claim_found.found (ap (λ (s : Seen). Some s) (seen_as claim_found.member.1 p (same_parcel parcels id p (parcel_of claim_found.member.1) (sym there) claim_here)))
