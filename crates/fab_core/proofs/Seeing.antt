-- What looks make of the parts is what the machine makes of its state: looks, receives of claimed messages, drops.
use Rattle.std.proofs.Common.{◌≡◌, ℕ, ◌+◌, ◌==◌, Bool, true, false, List, Option, Some, None, refl}
use Rattle.std.specs.Prelude.{find}
use Rattle.fab_base.specs.declared.entries.PeekHow.{PeekHow}
use Rattle.fab_base.specs.declared.entries.PeekHow.TheVariants.{Peek, Claim, Discard}
use Rattle.fab_base.specs.declared.items.Want.{Want}
use Rattle.fab_base.specs.declared.operations.Arrival.{Arrival}
use Rattle.fab_base.specs.declared.operations.Receive.{Receive}
use Rattle.fab_base.specs.Kinds.{at_match}
use Rattle.fab_model.specs.Matching.{takes}
use Rattle.fab_model.specs.Receiving.{drop_arrival, drop_claimed, give, look, take_claimed, without_claim, without_first}
use Rattle.fab_model.specs.State.{writing}
use Rattle.fab_face.specs.Machine.{StayNext}
use Rattle.fab_face.specs.declared.looking.Look.{Look}
use Rattle.fab_rx.specs.Arriving.{Arriving, with_receiving}
use Rattle.fab_rx.specs.Claims.{claim_under, seen}
use Rattle.fab_rx.specs.declared.results.Seen.{Seen}
use Rattle.fab_tx.specs.Transit.{Transit}
use Rattle.fab_core.specs.Parts.{Parts, held_of, state_of}
use Rattle.fab_core.specs.Doing.{called, with_arriving}
use Rattle.fab_settling.specs.Looks.{parted, told}
use Rattle.fab_core.specs.Looks.{claim_by, claim_receive, dropped_by, looked_by, met_by, taken_by}
use Rattle.fab_core.proofs.Doing.{book_is, received_is}
use Rattle.fab_core.proofs.Next.{GoesOn, booked_next, booked_places}

module _ (p : Parts) (want : Want) (ctx : ℕ) where
  -- the parts once the message is told of, with this of the receive half
  abbrev told_of : PeekHow → Arrival → Arriving → Parts
  told_of how a rx = called (record p { rx = rx; cq = writing (Some p.calls) (told how ctx (Some (seen a))) p.cq })

  look_by : (how : PeekHow) (o : Option Arrival) → find (takes want) p.rx.rx.unexpected ≡ o → look how want ctx (state_of p) ≡ state_of (looked_by how want ctx p)
  unfolding look drop_arrival
  look_by Peek None e = rw (e, look) refl
  look_by Claim None e = rw (e, look) refl
  look_by Discard None e = rw (e, look) refl
  look_by Peek (Some a) e = rw (e, look) refl
  look_by Claim (Some a) e = rw (e, look) refl
  look_by Discard (Some a) e = by a.bytes refl
    where
      by : (b : Option (List ℕ)) → a.bytes ≡ b → look Discard want ctx (state_of p) ≡ state_of (looked_by Discard want ctx p)
      by None none = rw (e, none, look, drop_arrival) refl
      by (Some bytes) some = rw (e, some, look, drop_arrival) (book_is (at_match a.head.ack) a.source a.head (told_of Discard (record a { bytes = Some bytes }) (with_receiving (without_first want p.rx.rx) p.rx)))

  pub look_is : (how : PeekHow) → look how want ctx (state_of p) ≡ state_of (looked_by how want ctx p)
  look_is how = look_by how (find (takes want) p.rx.rx.unexpected) refl

module _ (p : Parts) (ctx : ℕ) (k : ℕ × Arrival) (found : find (λ k. k.0 == ctx) p.rx.rx.claimed ≡ Some k) where
  drop_by : (b : Option (List ℕ)) → k.1.bytes ≡ b → drop_claimed (state_of p) ctx ≡ state_of (dropped_by ctx p)
  unfolding drop_claimed drop_arrival
  drop_by None none = rw (found, none, drop_claimed, drop_arrival) refl
  drop_by (Some bytes) some = rw (found, some, drop_claimed, drop_arrival)
      (book_is (at_match k.1.head.ack) k.1.source k.1.head (called (record p { rx = with_receiving (without_claim ctx p.rx.rx) p.rx; cq = writing (Some p.calls) (told Discard ctx (Some (seen k.1))) p.cq })))

  pub drop_is : drop_claimed (state_of p) ctx ≡ state_of (dropped_by ctx p)
  drop_is = drop_by k.1.bytes refl

  module _ (buf : List ℕ) where
    abbrev r : Receive
    r = claim_receive buf ctx p

    take_by : (b : Option (List ℕ)) → k.1.bytes ≡ b → take_claimed (state_of p) buf ctx ≡ state_of (taken_by buf ctx p)
    unfolding take_claimed give
    take_by None none = rw (found, none, take_claimed, give) refl
    take_by (Some bytes) some = rw (found, some, take_claimed, give)
        (received_is r refl k.1.source k.1.head bytes (at_match k.1.head.ack) (called (with_arriving (record { rx = without_claim ctx p.rx.rx; begun = p.rx.begun; most = p.rx.most; next = r.call + 1; multis = p.rx.multis }) p)))

    pub take_is : take_claimed (state_of p) buf ctx ≡ state_of (taken_by buf ctx p)
    take_is = take_by k.1.bytes refl

-- ---- what is held besides, and what is next for each peer

parted_places : (m : Option Seen) (v : Transit) → (parted m v).places ≡ v.places
parted_places None v = refl
parted_places (Some m) v = booked_places _ m.source m.head v

parted_next : (m : Option Seen) (v : Transit) → GoesOn v.tx (parted m v).tx
parted_next None v = λ d item is. is
parted_next (Some m) v = booked_next _ m.source m.head v

module _ (p : Parts) where
  pub held_looked : (l : Look) (want : Want) → record (held_of p) { state = state_of (looked_by l.how want l.ctx p) } ≡ held_of (looked_by l.how want l.ctx p)
  held_looked l want = by l.how
    where
      by : (how : PeekHow) → record (held_of p) { state = state_of (looked_by how want l.ctx p) } ≡ held_of (looked_by how want l.ctx p)
      by Peek = refl
      by Claim = refl
      by Discard = rw (parted_places (met_by want p) p.tx) refl

  pub looked_next : (how : PeekHow) (want : Want) (ctx : ℕ) → StayNext (state_of p) (state_of (looked_by how want ctx p))
  looked_next Peek want ctx = λ d item is. is
  looked_next Claim want ctx = λ d item is. is
  looked_next Discard want ctx = parted_next (met_by want p) p.tx

  pub held_dropped : (ctx : ℕ) → record (held_of p) { state = state_of (dropped_by ctx p) } ≡ held_of (dropped_by ctx p)
  held_dropped ctx = rw (parted_places (claim_by ctx p) p.tx) refl

  pub dropped_next : (ctx : ℕ) → StayNext (state_of p) (state_of (dropped_by ctx p))
  dropped_next ctx = parted_next (claim_by ctx p) p.tx

  module _ (buf : List ℕ) (ctx : ℕ) where
    taken_held : (o : Option Arrival) → claim_under ctx p.rx.rx ≡ o → record (held_of p) { state = state_of (taken_by buf ctx p) } ≡ held_of (taken_by buf ctx p)
    taken_held None e = rw e refl
    taken_held (Some a) e = by a.bytes refl
      where
        due : (bytes : List ℕ) → a.bytes ≡ Some bytes → (b : Bool) → at_match a.head.ack ≡ b → record (held_of p) { state = state_of (taken_by buf ctx p) } ≡ held_of (taken_by buf ctx p)
        due bytes some true is = rw (e, some, is) refl
        due bytes some false is = rw (e, some, is) refl

        by : (b : Option (List ℕ)) → a.bytes ≡ b → record (held_of p) { state = state_of (taken_by buf ctx p) } ≡ held_of (taken_by buf ctx p)
        by None none = rw (e, none) refl
        by (Some bytes) some = due bytes some (at_match a.head.ack) refl

    pub held_taken : record (held_of p) { state = state_of (taken_by buf ctx p) } ≡ held_of (taken_by buf ctx p)
    held_taken = taken_held (claim_under ctx p.rx.rx) refl

    next_taken : (o : Option Arrival) → claim_under ctx p.rx.rx ≡ o → StayNext (state_of p) (state_of (taken_by buf ctx p))
    next_taken None e = rw e (λ d x is. is)
    next_taken (Some a) e = by a.bytes refl
      where
        by : (b : Option (List ℕ)) → a.bytes ≡ b → StayNext (state_of p) (state_of (taken_by buf ctx p))
        by None none = rw (e, none) (λ d x is. is)
        by (Some bytes) some = rw (e, some) (booked_next _ a.source a.head p.tx)

    pub taken_next : StayNext (state_of p) (state_of (taken_by buf ctx p))
    taken_next = next_taken (claim_under ctx p.rx.rx) refl
