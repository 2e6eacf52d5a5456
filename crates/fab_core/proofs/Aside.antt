-- After a look, a receive of a claimed message, or a drop, the parts still belong together, and a reply that is due has room.
use Rattle.std.proofs.Common.{◌≡◌, ℕ, ◌+◌, ◌<◌, ◌&&◌, ◌==◌, true, false, List, length, Option, Some, None, refl, sym, ap, ◌∙◌, subst, arith}
use Rattle.std.specs.Prelude.{find, is_some, IfSome, slice_index}
use Rattle.std.specs.Option.{option_map}
use Rattle.fab_base.specs.declared.entries.PeekHow.{PeekHow}
use Rattle.fab_base.specs.declared.entries.PeekHow.TheVariants.{Peek, Claim, Discard}
use Rattle.fab_base.specs.declared.items.Want.{Want}
use Rattle.fab_base.specs.declared.operations.Arrival.{Arrival}
use Rattle.fab_base.specs.declared.operations.Receive.{Receive}
use Rattle.fab_base.specs.Kinds.{at_match}
use Rattle.fab_model.specs.Matching.{takes}
use Rattle.fab_model.specs.State.{coming_from}
use Rattle.fab_rx.specs.Arriving.{Arriving, IsArriving, begun_of}
use Rattle.fab_rx.specs.Claims.{claim_under, claiming_first, discarding, dropping, seen, taking}
use Rattle.fab_rx.specs.Results.{completed, posted_as}
use Rattle.fab_rx.specs.declared.results.Completed.{Completed}
use Rattle.fab_rx.specs.declared.results.Posted.{Posted}
use Rattle.fab_rx.specs.declared.results.Posted.TheVariants.{Whole}
use Rattle.fab_rx.specs.declared.results.Seen.{Seen}
use Rattle.fab_tx.specs.Transit.{IsTransit, Transit}
use Rattle.fab_core.specs.Parts.{IsFitting, IsTogether, Parts}
use Rattle.fab_settling.specs.Ends.{booked}
use Rattle.fab_settling.specs.Looks.{is_due_now, looked, parted, parted_by}
use Rattle.fab_core.specs.Looks.{claim_receive}
use Rattle.fab_core.proofs.Departing.{Leaves, discard_leaves, drop_leaves, left_room, left_together, owed_claimed, take_leaves}
use Rattle.fab_core.proofs.Handed.{posted_whole}
use Rattle.fab_core.proofs.Together.{most_booked, together_called, together_with}

pub most_looked : (how : PeekHow) (want : Want) (ctx : ℕ) (v : Arriving) → (looked how want ctx v).most ≡ v.most
most_looked Peek want ctx v = refl
most_looked Claim want ctx v = refl
most_looked Discard want ctx v = refl

pub begun_looked : (how : PeekHow) (want : Want) (ctx : ℕ) (v : Arriving) → (looked how want ctx v).begun ≡ v.begun
begun_looked Peek want ctx v = refl
begun_looked Claim want ctx v = refl
begun_looked Discard want ctx v = refl

pub most_parted : (m : Option Seen) (v : Transit) → (parted m v).most ≡ v.most
most_parted None v = refl
most_parted (Some m) v = most_booked (is_due_now m) m.source m.head v

pub most_parted_by : (how : PeekHow) (m : Option Seen) (v : Transit) → (parted_by how m v).most ≡ v.most
most_parted_by Peek m v = refl
most_parted_by Claim m v = refl
most_parted_by Discard m v = most_parted m v

-- the reply to the message has room
abbrev pub HasRoom : Transit → Seen → Type 0
HasRoom v m = is_due_now m ≡ true → (m.source < length v.tx.sent) × (0 < slice_index v.rooms m.source)

module _ (p : Parts) (ok : IsTogether p) (rx : IsArriving p.rx) (tx : IsTransit p.tx) where
  -- ---- looks

  module _ (want : Want) where
    pub look_room : (met : Option Seen) → met ≡ option_map seen (find (takes want) p.rx.rx.unexpected) → IfSome met (HasRoom p.tx)
    look_room met is = subst (λ (m : Option Seen). IfSome m (HasRoom p.tx)) (sym is) (by (find (takes want) p.rx.rx.unexpected) refl)
      where
        by : (o : Option Arrival) → find (takes want) p.rx.rx.unexpected ≡ o → IfSome (option_map seen o) (HasRoom p.tx)
        by None e = tt
        by (Some a) e = left_room p ok tx.rooms (discarding want p.rx) a (discard_leaves p.rx rx want a e)

    pub look_together : (how : PeekHow) (ctx : ℕ) (q : Parts) → q.cq.size ≡ p.cq.size → q.av ≡ p.av → q.rx ≡ looked how want ctx p.rx → q.calls ≡ p.calls + 1
        → q.tx ≡ parted_by how (option_map seen (find (takes want) p.rx.rx.unexpected)) p.tx → IsTogether q
    look_together Peek ctx q size av rx' calls tx' = together_called p q ok size (ap (λ (v : Transit). length v.tx.sent) tx') av rx' calls (ap (λ (v : Transit). v.rooms) tx')
    look_together Claim ctx q size av rx' calls tx' = together_with p q ok size (ap (λ (v : Transit). length v.tx.sent) tx') av (ap (λ (v : Arriving). length v.begun) rx') (rw (rx', calls) (let e = ok.earlier in omega (arith, e)))
        (λ s. rw rx' (fits (find (takes want) p.rx.rx.unexpected) refl s)) (λ s. rw (rx', tx') (let o = owed_claimed p.rx s want ctx (find (takes want) p.rx.rx.unexpected) refl in let e = ok.rooms s in omega (arith, o, e)))
      where
        fits : (o : Option Arrival) → find (takes want) p.rx.rx.unexpected ≡ o → (s : ℕ) → IsFitting (coming_from (claiming_first want ctx p.rx).rx s) (begun_of p.rx s)
        fits None e s = rw e (ok.fitting s)
        fits (Some a) e s = rw e (ok.fitting s)
    look_together Discard ctx q size av rx' calls tx' = by (find (takes want) p.rx.rx.unexpected) refl
      where
        by : (o : Option Arrival) → find (takes want) p.rx.rx.unexpected ≡ o → IsTogether q
        by None e =
            let same : discarding want p.rx ≡ p.rx = rw e refl in
            let kept : parted (option_map seen (find (takes want) p.rx.rx.unexpected)) p.tx ≡ p.tx = rw e refl in
            together_called p q ok size (ap (λ (v : Transit). length v.tx.sent) (tx' ∙ kept)) av (rx' ∙ same) calls (ap (λ (v : Transit). v.rooms) (tx' ∙ kept))
        by (Some a) e =
            let parts : parted (option_map seen (find (takes want) p.rx.rx.unexpected)) p.tx ≡ booked (is_due_now (seen a)) a.source a.head p.tx = rw e refl in
            left_together p ok tx.rooms (discarding want p.rx) a (discard_leaves p.rx rx want a e) q size av rx' (rw calls (let e = ok.earlier in omega (arith, e))) (tx' ∙ parts)

  -- ---- drops

  module _ (ctx : ℕ) where
    pub drop_room : (met : Option Seen) → met ≡ option_map seen (claim_under ctx p.rx.rx) → IfSome met (HasRoom p.tx)
    drop_room met is = subst (λ (m : Option Seen). IfSome m (HasRoom p.tx)) (sym is) (by (find (λ k. k.0 == ctx) p.rx.rx.claimed) refl)
      where
        by : (o : Option (ℕ × Arrival)) → find (λ k. k.0 == ctx) p.rx.rx.claimed ≡ o → IfSome (option_map seen (option_map (λ k. k.1) o)) (HasRoom p.tx)
        by None e = tt
        by (Some k) e = left_room p ok tx.rooms (dropping ctx p.rx) k.1 (drop_leaves p.rx rx ctx k e)

    pub drop_together : (q : Parts) → q.cq.size ≡ p.cq.size → q.av ≡ p.av → q.rx ≡ dropping ctx p.rx → q.calls ≡ p.calls + 1 → q.tx ≡ parted (option_map seen (claim_under ctx p.rx.rx)) p.tx → IsTogether q
    drop_together q size av rx' calls tx' = by (find (λ k. k.0 == ctx) p.rx.rx.claimed) refl
      where
        by : (o : Option (ℕ × Arrival)) → find (λ k. k.0 == ctx) p.rx.rx.claimed ≡ o → IsTogether q
        by None e =
            let same : dropping ctx p.rx ≡ p.rx = rw e refl in
            let kept : parted (option_map seen (claim_under ctx p.rx.rx)) p.tx ≡ p.tx = rw e refl in
            together_called p q ok size (ap (λ (v : Transit). length v.tx.sent) (tx' ∙ kept)) av (rx' ∙ same) calls (ap (λ (v : Transit). v.rooms) (tx' ∙ kept))
        by (Some k) e =
            let parts : parted (option_map seen (claim_under ctx p.rx.rx)) p.tx ≡ booked (is_due_now (seen k.1)) k.1.source k.1.head p.tx = rw e refl in
            left_together p ok tx.rooms (dropping ctx p.rx) k.1 (drop_leaves p.rx rx ctx k e) q size av rx' (rw calls (let e = ok.earlier in omega (arith, e))) (tx' ∙ parts)

    -- ---- receives

    module _ (buf : List ℕ) (there : is_some (claim_under ctx p.rx.rx) ≡ true) where
      abbrev r : Receive
      r = claim_receive buf ctx p

      standing : (k : ℕ × Arrival) × (find (λ k. k.0 == ctx) p.rx.rx.claimed ≡ Some k)
      standing = by (find (λ k. k.0 == ctx) p.rx.rx.claimed) refl
        where
          by : (o : Option (ℕ × Arrival)) → find (λ k. k.0 == ctx) p.rx.rx.claimed ≡ o → (k : ℕ × Arrival) × (find (λ k. k.0 == ctx) p.rx.rx.claimed ≡ Some k)
          by None e = absurd (let no : false ≡ true = rw e at there in cc)
          by (Some k) e = (k, e)

      leaves : Leaves p.rx (taking r p.rx) standing.0.1
      leaves = take_leaves p.rx rx r standing.0 standing.1

      same_claim : (a : Arrival) → claim_under ctx p.rx.rx ≡ Some a → a ≡ standing.0.1
      same_claim a found = (let both : Some standing.0.1 ≡ Some a = rw standing.1 at found in let equal : standing.0.1 ≡ a = cc in sym equal)

      due_is : (a : Arrival) (bytes : List ℕ) → a.bytes ≡ Some bytes → is_due_now (seen a) ≡ at_match a.head.ack
      due_is a bytes some = ap (λ (o : Option (List ℕ)). is_some o && at_match a.head.ack) some

      module _ (x : Completed) (out : posted_as (claim_receive buf ctx p) (claim_under ctx p.rx.rx) ≡ Whole x) where
        whole : (a : Arrival) × (bytes : List ℕ) × (claim_under ctx p.rx.rx ≡ Some a) × (a.bytes ≡ Some bytes) × (x ≡ completed r 0 a.source a.head bytes)
        whole = posted_whole r (claim_under ctx p.rx.rx) x out

        leaves_whole : Leaves p.rx (taking r p.rx) whole.0
        leaves_whole = subst (λ (a : Arrival). Leaves p.rx (taking r p.rx) a) (sym (same_claim whole.0 whole.2)) leaves

        pub take_room : at_match x.head.ack ≡ true → (x.source < length p.tx.tx.sent) × (0 < slice_index p.tx.rooms x.source)
        take_room due = subst (λ (y : Completed). at_match y.head.ack ≡ true → (y.source < length p.tx.tx.sent) × (0 < slice_index p.tx.rooms y.source)) (sym whole.4)
            (λ now. left_room p ok tx.rooms (taking r p.rx) whole.0 leaves_whole (due_is whole.0 whole.1 whole.3 ∙ now)) due

        pub take_together : (q : Parts) → q.cq.size ≡ p.cq.size → q.av ≡ p.av → q.rx ≡ taking r p.rx → q.calls ≡ p.calls + 1 → q.tx ≡ booked (at_match x.head.ack) x.source x.head p.tx → IsTogether q
        take_together q size av rx' calls tx' = left_together p ok tx.rooms (taking r p.rx) whole.0 leaves_whole q size av rx' (rw calls (omega arith))
            (tx' ∙ ap (λ (y : Completed). booked (at_match y.head.ack) y.source y.head p.tx) whole.4 ∙ ap (λ b. booked b whole.0.source whole.0.head p.tx) (sym (due_is whole.0 whole.1 whole.3)))

      -- the rest still comes
      pub take_going : (o : Posted) → o ≡ posted_as (claim_receive buf ctx p) (claim_under ctx p.rx.rx) → ((x : Completed) → o ≡ Whole x → ⊥)
          → (q : Parts) → q.cq.size ≡ p.cq.size → q.av ≡ p.av → q.rx ≡ taking r p.rx → q.calls ≡ p.calls + 1 → q.tx ≡ p.tx → IsTogether q
      take_going o out not_whole q size av rx' calls tx' = by standing.0.1.bytes refl
        where
          by : (b : Option (List ℕ)) → standing.0.1.bytes ≡ b → IsTogether q
          by None none = left_together p ok tx.rooms (taking r p.rx) standing.0.1 leaves q size av rx' (rw calls (omega arith)) (tx' ∙ sym (ap (λ (o : Option (List ℕ)). booked (is_some o && at_match standing.0.1.head.ack) standing.0.1.source standing.0.1.head p.tx) none))
          by (Some bytes) some = absurd (not_whole (completed r 0 standing.0.1.source standing.0.1.head bytes) (out ∙ rw (standing.1, some) refl))
