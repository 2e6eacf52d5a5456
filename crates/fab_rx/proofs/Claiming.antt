-- What is stored of the claimed messages stays true as items arrive.
use Rattle.std.proofs.Common.{◌≡◌, ◌≢◌, ℕ, ◌+◌, ◌<◌, ◌≤◌, Bool, true, false, List, [], ◌∷◌, ◌++◌, length, Option, None, set, refl, sym, ap, subst, ◌∙◌, arith, length-append, length-set}
use Rattle.fab_base.specs.declared.items.ItemHead.{ItemHead}
use Rattle.fab_base.specs.declared.items.Want.{Want}
use Rattle.fab_base.specs.declared.items.Sign.{Sign}
use Rattle.fab_base.specs.declared.operations.Arrival.{Arrival}
use Rattle.fab_base.specs.Kinds.{is_message}
use Rattle.fab_model.specs.State.{Receiving}
use Rattle.fab_model.specs.Arrivals.{heading_message, heading_other}
use Rattle.fab_rx.specs.declared.stored.Waiting.{Waiting}
use Rattle.fab_rx.specs.declared.stored.Parcel.{Parcel}
use Rattle.fab_rx.specs.declared.stored.Begun.{Begun}
use Rattle.fab_rx.specs.Table.{Cells, at}
use Rattle.fab_rx.specs.Arriving.{Arriving, arriving, begun_of, headed}
use Rattle.fab_rx.specs.Stored.{AreClaimed, IsClaim, IsKept}
use Rattle.fab_rx.proofs.Apart.{apart_push}
use Rattle.fab_rx.proofs.Tying.{retied, tied_fresh}
use Rattle.fab_rx.proofs.Keeping.{at_other, lies_at, lies_still, other_ids}

-- nothing is claimed where nothing has arrived
pub claims_begin : (us : List (ℕ × Sign)) (parcels : Cells Parcel) (coming : List (Option Begun)) (capacity : ℕ) → us ≡ [] → parcels ≡ record { cells = []; spare = 0 } → AreClaimed us parcels coming [] capacity []
claims_begin us parcels coming capacity none empty = rw (none, empty) (record { messages = tt; apart = tt; filed = refl; reserved = omega arith })

claimed_headed : (b : Bool) (source : ℕ) (head : ItemHead) (rx : Receiving) → (headed b source head rx).claimed ≡ rx.claimed
unfolding heading_message heading_other
claimed_headed true source head rx = refl
claimed_headed false source head rx = refl

module _ (us : List (ℕ × Sign)) (parcels : Cells Parcel) (coming : List (Option Begun)) (cs : List (ℕ × ℕ)) (capacity : ℕ) (claimed : List (ℕ × Arrival)) (aside : AreClaimed us parcels coming cs capacity claimed) where
  -- more empty ids change nothing
  pub claims_widened : (wider : Cells Parcel) (most : ℕ) → ((k : ℕ) → at wider k ≡ at parcels k) → length wider.cells + parcels.spare ≡ length parcels.cells + wider.spare → length us + length cs ≤ most → AreClaimed us wider coming cs most claimed
  claims_widened wider most wide more fits = record {
    messages = retied (IsClaim parcels coming) (IsClaim wider coming) cs claimed (λ p k l. record { ctx = l.ctx; sign = l.sign; lies = lies_at parcels wider coming _ k.1 (wide p.0) l.lies }) aside.messages;
    apart = aside.apart;
    filed = let filed = aside.filed in omega arith;
    reserved = fits;
  }

module _ (ps : List (ℕ × Want)) (us : List (ℕ × Sign)) (room : ℕ) (seats : Cells Waiting) (parcels : Cells Parcel) (coming : List (Option Begun)) (v : Arriving) (kept : IsKept ps us room seats parcels coming v) (cs : List (ℕ × ℕ)) (capacity : ℕ) (aside : AreClaimed us parcels coming cs capacity v.rx.claimed)
    (source : ℕ) (head : ItemHead) (within : source < length v.begun) (nothing : begun_of v source ≡ None) where
  as_arrived : (xs : List (ℕ × Sign)) (others : Cells Parcel) (now : List (Option Begun)) (most : ℕ) → AreClaimed xs others now cs most v.rx.claimed → AreClaimed xs others now cs most (arriving source head v).rx.claimed
  as_arrived xs others now most is = subst (λ (cl : List (ℕ × Arrival)). AreClaimed xs others now cs most cl) (sym (claimed_headed (is_message head.kind) source head v.rx)) is

  -- an item that is not kept
  pub claims_arrived : (b : Option Begun) → AreClaimed us parcels (set coming source b) cs capacity (arriving source head v).rx.claimed
  claims_arrived b = as_arrived us parcels (set coming source b) capacity (record {
    messages = retied (IsClaim parcels coming) (IsClaim parcels (set coming source b)) cs v.rx.claimed
        (λ p k l. record { ctx = l.ctx; sign = l.sign; lies = lies_still ps us room seats parcels coming v kept source head within nothing b _ k.1 l.lies }) aside.messages;
    apart = aside.apart;
    filed = aside.filed;
    reserved = aside.reserved;
  })

  -- a message that is kept
  pub claims_kept : is_message head.kind ≡ true → (id : ℕ) (wider : Cells Parcel) → ((k : ℕ) → at wider k ≡ at parcels k) → at wider id ≡ None → length wider.cells + parcels.spare ≡ length parcels.cells + wider.spare
      → (sign : Sign) (b : Option Begun) (others : Cells Parcel) (x : Option Parcel) (most : ℕ) → others.cells ≡ set wider.cells id x → others.spare + 1 ≡ wider.spare → length us + length cs + 1 ≤ most
      → AreClaimed (us ++ (id, sign) ∷ []) others (set coming source b) cs most (arriving source head v).rx.claimed
  claims_kept message id wider wide empty more sign b others x most is fewer fits =
      let differs : (p : ℕ × Sign) (a : Arrival) → _ → p.0 ≢ id = other_ids ps us room seats parcels coming v kept source head within nothing message id wider wide empty in
      let same : (k : ℕ) → k ≢ id → at others k ≡ at parcels k = λ k other. at_other wider others id x is k other ∙ wide k in
      let long : length others.cells ≡ length wider.cells = ap length is ∙ length-set wider.cells id x in
      let longer = length-append us ((id, sign) ∷ []) in
      let filed = aside.filed in
      as_arrived (us ++ (id, sign) ∷ []) others (set coming source b) most (record {
        messages = retied (IsClaim parcels coming) (IsClaim others (set coming source b)) cs v.rx.claimed
            (λ p k l. record { ctx = l.ctx; sign = l.sign; lies = lies_at parcels others (set coming source b) _ k.1 (same p.0 (differs _ k.1 l.lies)) (lies_still ps us room seats parcels coming v kept source head within nothing b _ k.1 l.lies) })
            aside.messages;
        apart = apart_push us cs (id, sign) (tied_fresh (IsClaim parcels coming) id cs v.rx.claimed (λ p k l. differs _ k.1 l.lies) aside.messages) aside.apart;
        filed = omega arith;
        reserved = omega arith;
      })
