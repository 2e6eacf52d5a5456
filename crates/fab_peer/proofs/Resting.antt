-- Peers over ports that are never full, with nothing in their lanes: where nothing can be moved, everything accepted is transmitted and whole.
use Rattle.std.proofs.Common.{◌≡◌, ◌≤◌, ◌+◌, ℕ, zero, suc, List, [], ◌∷◌, length, drop, Option, Some, None, refl, sym, ap, ◌∙◌, arith}
use Rattle.std.specs.Prelude.{slice_get, slice_index}
use Rattle.std.specs.Option.{option_map}
use Rattle.fab_base.specs.declared.frames.Frame.{Frame}
use Rattle.fab_base.specs.declared.items.Item.{Item}
use Rattle.fab_model.specs.State.{accepted_for}
use Rattle.fab_face.specs.Held.{Held, begun_of, next_frame, next_item, piece}
use Rattle.fab_peer.specs.Turns.{Joins, Transmits, joined_from, part_at, posted_part}
use Rattle.fab_link.specs.Joined.{IsBegun}
use Rattle.std.proofs.lemmas.List.{take-append-drop}

-- nothing waits: all that was accepted is transmitted
none_next : (h : Held) (d : ℕ) → next_frame h d ≡ None → length (accepted_for h.state.tx d) ≤ slice_index h.state.tx.sent d
none_next h d none = by_item (next_item h.state d) refl none
  where
    past : {X : Type 0} (xs : List X) (k : ℕ) → slice_get xs k ≡ None → length xs ≤ k
    past [] k e = omega arith
    past (x ∷ xs) zero e = absurd (cc)
    past (x ∷ xs) (suc k) e = let l = past xs k e in omega (arith, l)

    by_item : (o : Option Item) → next_item h.state d ≡ o → option_map (λ item. piece item (slice_index h.places d)) o ≡ None → length (accepted_for h.state.tx d) ≤ slice_index h.state.tx.sent d
    by_item None there e = past (accepted_for h.state.tx d) (slice_index h.state.tx.sent d) there
    by_item (Some item) there e = absurd (cc)

-- where each member is found at its place in the other list, this is no shorter
no_longer : {X : Type 0} (xs ys : List X) → ((i : ℕ) (x : X) → slice_get xs i ≡ Some x → slice_get ys i ≡ Some x) → length xs ≤ length ys
no_longer [] ys all = omega arith
no_longer (x ∷ xs) [] all = absurd (let e = all 0 x refl in cc)
no_longer (x ∷ xs) (y ∷ ys) all = let l = no_longer xs ys (λ i z e. all (suc i) z e) in omega (arith, l)

-- From the opening on: what the receiver took of the sender is all that this posted, and nothing waits there. Then everything accepted is transmitted, and whole at the receiver.
pub all_arrived : (first last : Held) (fresh now : Held) (p q : ℕ) (posted taken : ℕ → List Frame) → Transmits first last posted → Joins fresh now taken
    → posted_part first p ≡ None → slice_index first.state.tx.sent p ≡ 0 → begun_of fresh q ≡ None → slice_index fresh.state.rx.tails q ≡ 0
    → taken q ≡ posted p → next_frame last p ≡ None
    → (slice_index last.state.tx.sent p ≡ length (accepted_for last.state.tx p)) × (slice_index now.state.rx.tails q ≡ length (accepted_for last.state.tx p)) × (begun_of now q ≡ posted_part last p)
all_arrived first last fresh now p q posted taken t j part sent begun tails same none =
    let w = (joined_from None (posted p)).whole in
    let sent_w : slice_index last.state.tx.sent p ≡ length w = (let x = t.sent p in let y = ap (λ u. length (joined_from u (posted p)).whole) part in omega (arith, x, y, sent)) in
    let tails_w : slice_index now.state.rx.tails q ≡ length w =
    (let x = j.tails q in let y = ap (λ u. length (joined_from u (taken q)).whole) begun in let z = ap (λ fs. length (joined_from None fs).whole) same in omega (arith, x, y, z, tails)) in
    let items : (i : ℕ) (item : Item) → slice_get w i ≡ Some item → slice_get (accepted_for last.state.tx p) i ≡ Some item =
    λ i item e. (let at = t.items p i item (ap (λ u. slice_get (joined_from u (posted p)).whole i) part ∙ e) in
    let z : slice_index first.state.tx.sent p + i ≡ i = omega (arith, sent) in ap (slice_get (accepted_for last.state.tx p)) (sym z) ∙ at) in
    let short = no_longer w (accepted_for last.state.tx p) items in
    let long = none_next last p none in (
      omega (arith, sent_w, short, long),
      omega (arith, sent_w, tails_w, short, long),
      j.begun q ∙ ap (λ u. (joined_from u (taken q)).unfinished) begun ∙ ap (λ fs. (joined_from None fs).unfinished) same ∙ ap (λ u. (joined_from u (posted p)).unfinished) (sym part) ∙ sym (t.part p),
    )

-- ---- what a sender shows at any of its moments

begun_part : (n : ℕ) (next : Option Item) (rest : List Item) → ((item : Item) → next ≡ Some item → (later : List Item) × (rest ≡ item ∷ later)) → IsBegun (part_at n next) rest
begun_part zero next rest there = tt
begun_part (suc k) None rest there = tt
begun_part (suc k) (Some item) rest there = let l = there item refl in (item, l.0, l.1, refl, (drop (suc k) item.bytes, take-append-drop (suc k) item.bytes))
