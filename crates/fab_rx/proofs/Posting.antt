-- What is stored stays true as receives are posted.
use Rattle.std.proofs.Common.{◌≡◌, ◌≢◌, ℕ, ◌<◌, false, List, [], ◌∷◌, ◌++◌, length, Option, Some, None, set, refl, sym, ap, ◌∙◌, arith, length-append}
use Rattle.fab_base.specs.declared.items.Want.{Want}
use Rattle.fab_base.specs.declared.items.Sign.{Sign}
use Rattle.fab_base.specs.declared.operations.Receive.{Receive}
use Rattle.fab_match.specs.Matcher.{has_id}
use Rattle.fab_rx.specs.declared.stored.Waiting.{Waiting}
use Rattle.fab_rx.specs.declared.stored.Parcel.{Parcel}
use Rattle.fab_rx.specs.declared.stored.Begun.{Begun}
use Rattle.fab_rx.specs.Table.{Cells, at}
use Rattle.fab_rx.specs.Arriving.{Arriving}
use Rattle.fab_model.specs.Receiving.{joining_posted}
use Rattle.fab_rx.specs.Stored.{IsFit, IsKept, Sits, waiting_of}
use Rattle.fab_rx.proofs.Tying.{tied_length, tied_push, retied, tied_fresh}
use Rattle.fab_rx.proofs.Keeping.{apart, at_other, at_same, sits_at}

-- a receive is posted
abbrev pub joined_by : Receive → ℕ → List (ℕ × ℕ) → Arriving → Arriving
joined_by r next multis v = record { rx = joining_posted r v.rx; begun = v.begun; most = v.most; next = next; multis = multis }

module _ (ps : List (ℕ × Want)) (us : List (ℕ × Sign)) (room : ℕ) (seats : Cells Waiting) (parcels : Cells Parcel) (coming : List (Option Begun)) (v : Arriving) (kept : IsKept ps us room seats parcels coming v) (id : ℕ) (empty : at seats id ≡ None) where
  pub other_seats : (p : ℕ × Want) (r : Receive) → Sits seats p r → p.0 ≢ id
  other_seats p r s = apart seats id p.0 None empty (λ none. let no : Some (waiting_of r) ≡ None = sym s.seat ∙ none in cc)

  pub fresh_seat : has_id id ps ≡ false
  fresh_seat = tied_fresh (Sits seats) id ps v.rx.posted other_seats kept.receives

  module _ (r : Receive) (fit : IsFit r) (less : length v.rx.posted < v.most) (others : Cells Waiting) (within : id < length seats.cells) (is : others.cells ≡ set seats.cells id (Some (waiting_of r))) where
    pub joins : (next : ℕ) (multis : List (ℕ × ℕ)) → IsKept (ps ++ (id, r.want) ∷ []) us room others parcels coming (joined_by r next multis v)
    joins next multis = record {
      receives =
          tied_push (Sits others) ps v.rx.posted (id, r.want) r
          (retied (Sits seats) (Sits others) ps v.rx.posted (λ p q s. sits_at seats others p q (at_other seats others id (Some (waiting_of r)) is p.0 (other_seats p q s)) s) kept.receives)
          (record { want = refl; seat = at_same seats others id (Some (waiting_of r)) is within; fit = fit });
      messages = kept.messages;
      ways = kept.ways;
      few = let same = tied_length (Sits seats) ps v.rx.posted kept.receives in let long = length-append ps ((id, r.want) ∷ []) in omega arith;
      most = kept.most;
      peers = kept.peers;
      comings = kept.comings;
      heads = kept.heads;
      tails = kept.tails;
      under_way = kept.under_way;
    }

-- the buffer of a receive that is found is its own
pub same_buf : (w u : Waiting) → Some w ≡ Some u → w.seat.buf ≡ u.seat.buf
same_buf w u found = let same : w ≡ u = cc in ap (λ (x : Waiting). x.seat.buf) same
