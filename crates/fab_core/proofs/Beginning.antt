-- An item arrives, or want of memory keeps it away.
use Rattle.std.proofs.Common.{◌≡◌, ℕ, ◌<◌, true, false, length, Some, None, sym, ap, ◌∙◌}
use Rattle.std.specs.Prelude.{OnOk, OnErr, Result, Ok, Err, is_err}
use Rattle.fab_base.specs.declared.faults.NoMemory.{NoMemory}
use Rattle.fab_base.specs.declared.items.ItemHead.{ItemHead}
use Rattle.fab_rx.specs.Arriving.{Arriving, IsArriving, arriving, begun_of, bare}
use Rattle.fab_tx.specs.Transit.{Transit, with_room}
use Rattle.fab_rma.specs.Serving.{Serving}
use Rattle.fab_core.specs.Parts.{IsTogether, Parts}
use Rattle.fab_settling.specs.Orders.{asks}
use Rattle.fab_core.specs.Doing.{with_arriving, with_transit}
use Rattle.fab_core.proofs.Together.{together_arrived, together_roomed}
use Rattle.fab_core.specs.Requests.{IsAwaited, IsServing}
use Rattle.fab_core.proofs.Serves.{serving_set}

module _ (p : Parts) (ok : IsTogether p) (rx : IsArriving p.rx) (source : ℕ) (head : ItemHead) (within : source < length p.rx.begun) (nothing : begun_of p.rx source ≡ None)
    (r : Result (Unit {0}) NoMemory) (v : Arriving) (done : OnOk r (v ≡ arriving source head p.rx)) (same : OnErr r (v ≡ p.rx)) where
  pub most_same : p.rx.most ≡ v.most
  most_same = by r done same
    where
      by : (r : Result (Unit {0}) NoMemory) → OnOk r (v ≡ arriving source head p.rx) → OnErr r (v ≡ p.rx) → p.rx.most ≡ v.most
      by (Ok u) done same = sym (ap (λ (v : Arriving). v.most) done)
      by (Err why) done same = sym (ap (λ (v : Arriving). v.most) same)

  pub arrives_plain : asks head ≡ false → IsTogether (with_arriving v p)
  arrives_plain silent = by r done same
    where
      by : (r : Result (Unit {0}) NoMemory) → OnOk r (v ≡ arriving source head p.rx) → OnErr r (v ≡ p.rx) → IsTogether (with_arriving v p)
      by (Ok u) done same = rw done (together_arrived p ok rx source head within nothing silent)
      by (Err why) done same = rw same ok

  -- what is begun then
  pub arrives_served : (t : Serving) → IsServing p.rx.begun t → IsAwaited t source (bare head) → IsServing v.begun t
  arrives_served t serving awaited = by r done same
    where
      by : (r : Result (Unit {0}) NoMemory) → OnOk r (v ≡ arriving source head p.rx) → OnErr r (v ≡ p.rx) → IsServing v.begun t
      by (Ok u) done same = rw done (serving_set p.rx.begun t serving source (Some (bare head)) awaited)
      by (Err why) done same = rw same serving

  pub arrives_roomed : (tx : Transit) → tx ≡ with_room source p.tx → is_err r ≡ false → asks head ≡ true → length p.tx.rooms ≡ length p.tx.tx.sent → (most_tx most_rx : ℕ) → most_tx ≡ p.tx.most → most_rx ≡ p.rx.most
      → (t : Serving) → IsServing p.rx.begun t → IsAwaited t source (bare head) → (most_tx ≡ tx.most) × (most_rx ≡ v.most) × IsTogether (with_transit tx (with_arriving v p)) × IsServing v.begun t
  arrives_roomed tx is well loud count most_tx most_rx same_tx same_rx t serving awaited = (
    same_tx ∙ sym (ap (λ (t : Transit). t.most) is),
    same_rx ∙ most_same,
    rw (is, came r well done) (together_roomed p ok rx source head within nothing loud count),
    arrives_served t serving awaited,
  )
    where
      came : (r : Result (Unit {0}) NoMemory) → is_err r ≡ false → OnOk r (v ≡ arriving source head p.rx) → v ≡ arriving source head p.rx
      came (Ok u) well done = done
      came (Err why) well done = absurd (cc)
