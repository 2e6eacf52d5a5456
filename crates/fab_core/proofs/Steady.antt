-- What holds of the parts is what holds of an endpoint between its calls.
use Rattle.std.proofs.Common.{◌≡◌, ◌⊎◌, inl, inr, ℕ, ◌+◌, ◌-◌, ◌<◌, ◌≤◌, length, Option, Some, None, refl, sym, ap, ◌∙◌, arith}
use Rattle.std.specs.Prelude.{IsSomeAnd, slice_index}
use Rattle.fab_base.specs.declared.items.Item.{Item}
use Rattle.fab_base.specs.declared.operations.Arrival.{Arrival}
use Rattle.std.proofs.lemmas.List.Elements.{All-weaker}
use Rattle.fab_face.specs.Owed.{PartlyIn as PartlyFor}
use Rattle.fab_rx.specs.Arriving.{Arriving, IsArriving, PartlyIn, begun_of, count_begun as count_in}
use Rattle.fab_rx.proofs.Growing.{item_there}
use Rattle.fab_tx.specs.Transit.{IsTransit}
use Rattle.fab_face.specs.Held.{count_begun, next_item, IsOutAt}
use Rattle.fab_face.specs.Machine.{IsSteady}
use Rattle.fab_core.specs.Parts.{IsTogether, Parts, held_of}

same_count : (o : Option Item) → count_in o ≡ count_begun o
same_count None = refl
same_count (Some item) = refl

out_at : (p : Parts) (d : ℕ) → (slice_index p.tx.places d ≡ 0) ⊎ IsSomeAnd (next_item (held_of p).state d) (λ item. slice_index p.tx.places d < item.head.total) → IsOutAt (held_of p) d
out_at p d (inl nothing) = inl nothing
out_at p d (inr some) = inr (item_there (λ item. slice_index p.tx.places d < item.head.total) (next_item (held_of p).state d) some)

coming : (v : Arriving) (a : Arrival) → PartlyIn v a → PartlyFor v.rx v.begun a
coming v a is none = let i = is none in record { way = i.way; item = i.item; begun_is = i.begun; head = i.head }

pub steady : (p : Parts) → IsTogether p → IsArriving p.rx → IsTransit p.tx → p.cq.taken_out ≤ length p.cq.written → length p.cq.written - p.cq.taken_out ≤ p.cq.size → IsSteady (held_of p)
steady p ok rx tx read room =
    let peers = ok.peers in
    let places = tx.places in
    record {
      cq = ok.size;
      read = read;
      room = room;
      begun = peers ∙ sym places;
      heads = rx.heads ∙ peers ∙ sym places;
      tails = rx.tails ∙ peers ∙ sym places;
      coming = rx.coming ∙ peers ∙ sym places;
      sent = sym places;
      accepted = tx.accepted ∙ sym places;
      held = tx.held ∙ sym places;
      fenced = tx.fenced;
      under_way = λ s lt. rx.under_way s (omega (arith, lt, peers, places)) ∙ ap (λ n. slice_index p.rx.rx.tails s + n) (same_count (begun_of p.rx s));
      items = tx.items;
      out = λ d. out_at p d (tx.placed d);
      addressed = λ i t is. (let lt = ok.addressed i t is in omega (arith, lt, places));
      used = tx.used;
      receives = rx.room;
      partly = record {
        unexpected = All-weaker (PartlyIn p.rx) (PartlyFor p.rx.rx p.rx.begun) (λ a. coming p.rx a) p.rx.rx.unexpected rx.partly;
        claimed = All-weaker (λ (c : ℕ × Arrival). PartlyIn p.rx c.1) (λ (c : ℕ × Arrival). PartlyFor p.rx.rx p.rx.begun c.1) (λ c. coming p.rx c.1) p.rx.rx.claimed rx.aside;
      };
    }
