-- What acts made of a peer agrees with the frames among them; and what a peer takes of a sender, being among what this posted, is of what it accepted.
use Rattle.std.proofs.Common.{◌≡◌, ◌<◌, ◌≤◌, ◌+◌, ℕ, List, [], ◌++◌, length, drop, None, refl, sym, ap, ◌∙◌, subst, arith, inl}
use Rattle.std.specs.Prelude.{slice_get, slice_index}
use mathlib.Core.List.{IsPrefix}
use Rattle.fab_base.specs.declared.frames.Frame.{Frame}
use Rattle.fab_base.specs.declared.items.Item.{Item}
use Rattle.fab_link.specs.Joined.{AreFirst}
use Rattle.fab_model.specs.State.{accepted_for}
use Rattle.fab_model.specs.Views.{View}
use Rattle.fab_face.specs.Held.{Held, begun_of, next_item, AreItems, IsOut, IsPlaced}
use Rattle.fab_face.specs.Acts.{Act, taken_of, posted_to}
use Rattle.fab_peer.specs.Turns.{joined_from, posted_part, part_at, Joins, Transmits}
use Rattle.fab_peer.specs.Agreed.{Agrees}
use Rattle.fab_peer.proofs.Agreeing.{posted_first, shown_of}
use Rattle.fab_merging.specs.Law.{IsFresh}
use Rattle.fab_merging.proofs.Holding.{HoldsBy, cut_by, joins_by, transmits_by}

-- ---- from the opening on

module _ (n : ℕ) (acts : List Act) (o l : Held) (fresh : IsFresh o) (holds : HoldsBy o acts l) (items : AreItems l) where
  no_part : (d : ℕ) → posted_part o d ≡ None
  no_part d = ap (λ k. part_at k (next_item o.state d)) (fresh.places d)

  starts_out : IsOut o
  starts_out d = inl (fresh.places d)

  joins : Joins o l (λ s. taken_of s acts)
  joins = joins_by acts o l holds

  transmits : Transmits o l (λ d. posted_to d acts)
  transmits = (transmits_by acts o l holds items starts_out).0

  placed : (d : ℕ) → IsPlaced None (slice_index o.places d) (next_item o.state d)
  placed d = subst (λ k. IsPlaced None k (next_item o.state d)) (sym (fresh.places d)) tt

  -- after some acts from the opening, a peer holds what their frames say
  pub agrees_by : Agrees n l (λ s. taken_of s acts) (λ d. posted_to d acts)
  agrees_by = record {
    begun = λ s. ap (λ u. (joined_from u (taken_of s acts)).unfinished) (sym (fresh.begun s)) ∙ sym (joins.begun s);
    tails = λ s. (let same = ap (λ u. length (joined_from u (taken_of s acts)).whole) (fresh.begun s) in omega (arith, joins.tails s, fresh.tails s, same));
    items = λ d i item e. (
        let none : slice_index o.state.tx.sent d + i ≡ i = omega (arith, fresh.sent d) in
        ap (slice_get (accepted_for l.state.tx d)) (sym none) ∙ transmits.items d i item (ap (λ u. slice_get (joined_from u (posted_to d acts)).whole i) (no_part d) ∙ e));
    sent = λ d. (let same = ap (λ u. length (joined_from u (posted_to d acts)).whole) (no_part d) in omega (arith, transmits.sent d, fresh.sent d, same));
    part = λ d. ap (λ u. (joined_from u (posted_to d acts)).unfinished) (sym (no_part d)) ∙ sym (transmits.part d);
    cut = λ d below. cut_by acts o l holds items starts_out d None (placed d);
  }

-- ---- of a receiver and a sender

-- what a view shows of one sender of these frames
abbrev pub ShowsOf : View Item → Held → ℕ → List Frame → Type 0
ShowsOf v h s more =
    AreFirst (joined_from (begun_of h s) more) (drop (slice_index h.state.rx.tails s) (v.ready s))
    × (slice_index h.state.rx.tails s + length (joined_from (begun_of h s) more).whole ≤ v.sent s)

module _ (n p s : ℕ) (v : View Item) (h : Held) (taken posted : ℕ → List Frame) (agrees : Agrees n h taken posted) (more : List Frame) where
  -- of a sender that is there
  pub shows_sender : (k : Held) (came went : ℕ → List Frame) → Agrees n k came went → p < n → v.ready s ≡ accepted_for k.state.tx p → v.sent s ≡ slice_index k.state.tx.sent p
      → IsPrefix (taken s ++ more) (went p) → ShowsOf v h s more
  shows_sender k came went agrees_k below ready sent front =
      let r = shown_of (accepted_for k.state.tx p) (slice_index k.state.tx.sent p) (went p) (taken s) more front.0 (begun_of h s) (slice_index h.state.rx.tails s)
      (agrees_k.cut p below) (posted_first n k came went p agrees_k) (agrees_k.sent p) front.1 (agrees.begun s) (agrees.tails s) in (
        subst (λ items. AreFirst (joined_from (begun_of h s) more) (drop (slice_index h.state.rx.tails s) items)) (sym ready) r.0,
        subst (λ m. slice_index h.state.rx.tails s + length (joined_from (begun_of h s) more).whole ≤ m) (sym sent) r.1,
      )

  -- of none
  pub shows_nobody : v.ready s ≡ [] → IsPrefix (taken s ++ more) [] → ShowsOf v h s more
  shows_nobody ready front =
      let r = shown_of [] 0 [] (taken s) more front.0 (begun_of h s) (slice_index h.state.rx.tails s) tt ([], refl, tt) refl front.1 (agrees.begun s) (agrees.tails s) in (
        subst (λ items. AreFirst (joined_from (begun_of h s) more) (drop (slice_index h.state.rx.tails s) items)) (sym ready) r.0,
        (let le = r.1 in omega (arith, le)),
      )
