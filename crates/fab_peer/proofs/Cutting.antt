-- The frames that a peer posts continue their lanes by cutting.
use Rattle.std.proofs.Common.{◌≡◌, ◌<◌, ◌≤◌, ◌+◌, inl, inr, ℕ, Bool, true, false, ◌==◌, List, [], ◌∷◌, ◌++◌, length, Option, Some, None, refl, sym, ap, ◌∙◌, subst, arith, get_or-set_same, get_or-set_other}
use Rattle.std.specs.Prelude.{slice_get, slice_index}
use Rattle.std.specs.Option.{option_map}
use Rattle.std.proofs.lemmas.Bool.{eqb-true, eqb-false}
use Rattle.fab_base.specs.declared.frames.Frame.{Frame}
use Rattle.fab_base.specs.declared.frames.FrameHead.{FrameHead}
use Rattle.fab_base.specs.declared.items.Item.{Item}
use Rattle.fab_link.specs.Frames.{IsLane, MayCome}
use Rattle.fab_link.specs.Joined.{is_last}
use Rattle.fab_model.specs.State.{accepted_for}
use Rattle.fab_model.specs.Views.{IsPrefixOf}
use Rattle.fab_model.proofs.Parts.{prefix_get}
use Rattle.fab_model.proofs.Passes.{draw_passes}
use Rattle.fab_model.specs.Arrivals.{do_draw}
use Rattle.fab_model.proofs.Unchanged.{sent_raised}
use Rattle.fab_face.specs.Held.{Held, next_frame, next_item, piece, IsOut, AreItems, IsPlaced}
use Rattle.fab_face.specs.Acts.{Act, Did, Took, Posted, Drew, Had, Departs, only, posted_by, posted_to}
use Rattle.fab_face.proofs.Tied.{placed_continues, piece_filled, placed_last, placed_more}
pub use Rattle.fab_face.proofs.Going.{placed_next}
use Rattle.fab_peer.specs.Turns.{Living, actor_in, Lives, LivesBy}
use Rattle.fab_peer.proofs.Sending.{Keeps, keeps_passes, did_passes, had_passes, passes_at, keeps_took, next_kept, sent_ready, transmits_one, lives_ready}

-- what was posted to the peer ends where its next item goes on
abbrev pub IsPlacedAt : Option FrameHead → Held → ℕ → Type 0
IsPlacedAt end h d = IsPlaced end (slice_index h.places d) (next_item h.state d)

module _ (h k : Held) (d : ℕ) (end : Option FrameHead) (ready : IsPrefixOf (accepted_for h.state.tx d) (accepted_for k.state.tx d)) (sent : slice_index k.state.tx.sent d ≡ slice_index h.state.tx.sent d) (place : slice_index k.places d ≡ slice_index h.places d) where
  placed_kept : IsPlacedAt end h d → IsPlacedAt end k d
  placed_kept placed =
      subst (λ n. IsPlaced end n (next_item k.state d)) (sym place) (placed_next end (slice_index h.places d) (next_item h.state d) (next_item k.state d) (next_kept h k d ready sent place) placed)

pub placed_keeps : (h k : Held) (d : ℕ) (end : Option FrameHead) → Keeps h k → IsPlacedAt end h d → IsPlacedAt end k d
placed_keeps h k d end keeps placed = placed_kept h k d end (keeps.ready d) (ap (λ xs. slice_index xs d) keeps.sent) (ap (λ xs. slice_index xs d) keeps.places) placed

-- no more than all of the next item is posted
pub place_within : (h : Held) (d : ℕ) (item : Item) → IsOut h → next_item h.state d ≡ Some item → slice_index h.places d ≤ item.head.total
place_within h d item out next = elim (out d) [
  | inl none ↦ omega (arith, none)
  | inr (other, has, under) ↦ (let is : Some item ≡ Some other = sym next ∙ has in let same : item ≡ other = cc in let total = ap (λ (x : Item). x.head.total) same in omega (arith, under, total))
]

module _ (h t : Held) (dest : ℕ) (end : Option FrameHead) (item : Item) (in_places : dest < length h.places) (next : next_item h.state dest ≡ Some item) (items : AreItems h) (out : IsOut h) (placed : IsPlacedAt end h dest) where
  place : ℕ
  place = slice_index h.places dest

  comes : MayCome end (piece item (slice_index h.places dest))
  comes = (
    placed_continues end (slice_index h.places dest) item (subst (λ (x : Option Item). IsPlaced end (slice_index h.places dest) x) next placed) (items dest _ item next).1,
    piece_filled (slice_index h.places dest) item (items dest _ item next).0 (place_within h dest item out next),
  )

  placed_after : (last : Bool) → is_last (piece item (slice_index h.places dest)).head ≡ last → Departs last h dest (slice_index h.places dest + (piece item (slice_index h.places dest)).head.len) t
      → IsPlacedAt (Some (piece item (slice_index h.places dest)).head) t dest
  placed_after true last (room, is) =
      let zero_is : slice_index t.places dest ≡ 0 = ap (λ (x : Held). slice_index x.places dest) is ∙ get_or-set_same h.places dest 0 0 in_places in
      subst (λ n. IsPlaced (Some (piece item (slice_index h.places dest)).head) n (next_item t.state dest)) (sym zero_is) (placed_last item (slice_index h.places dest) last)
  placed_after false more is =
      let place_is : slice_index t.places dest ≡ slice_index h.places dest + (piece item (slice_index h.places dest)).head.len = ap (λ (x : Held). slice_index x.places dest) is ∙ get_or-set_same h.places dest _ 0 in_places in
      let next_is : next_item t.state dest ≡ Some item = ap (λ (x : Held). next_item x.state dest) is ∙ next in
      subst (λ n. IsPlaced (Some (piece item (slice_index h.places dest)).head) n (next_item t.state dest)) (sym place_is)
      (subst (λ (x : Option Item). IsPlaced (Some (piece item (slice_index h.places dest)).head) (slice_index h.places dest + (piece item (slice_index h.places dest)).head.len) x) (sym next_is)
      (placed_more item (slice_index h.places dest) more (place_within h dest item out next)))

-- the frame posted may come, and the next one behind it
pub cut_posted : (h t : Held) (dest : ℕ) (f : Frame) (end : Option FrameHead) → dest < length h.places → next_frame h dest ≡ Some f → Departs (is_last f.head) h dest (f.head.from + f.head.len) t → AreItems h → IsOut h → IsPlacedAt end h dest
    → MayCome end f × IsPlacedAt (Some f.head) t dest
cut_posted h t dest f end in_places next departs items out placed = by_item (next_item h.state dest) refl next
  where
    by_item : (o : Option Item) → next_item h.state dest ≡ o → option_map (λ item. piece item (slice_index h.places dest)) o ≡ Some f → MayCome end f × IsPlacedAt (Some f.head) t dest
    by_item None there e = absurd (cc)
    by_item (Some item) there e =
        let is : piece item (slice_index h.places dest) ≡ f = cc in
        subst (λ (x : Frame). MayCome end x × IsPlacedAt (Some x.head) t dest) is (
          comes h t dest end item in_places there items out placed,
          placed_after h t dest end item in_places there items out placed (is_last (piece item (slice_index h.places dest)).head) refl (subst (λ (x : Frame). Departs (is_last x.head) h dest (x.head.from + x.head.len) t) (sym is) departs),
        )

-- what was posted to another peer stays
pub cut_other : (h t : Held) (dest d place : ℕ) (end : Option FrameHead) (last : Bool) → (dest == d) ≡ false → Departs last h dest place t → IsPlacedAt end h d → IsPlacedAt end t d
cut_other h t dest d place end true e (room, is) placed =
    placed_kept h t d end (subst (λ (x : Held). IsPrefixOf (accepted_for h.state.tx d) (accepted_for x.state.tx d)) (sym is) (sent_ready h.state dest d))
    (ap (λ (x : Held). slice_index x.state.tx.sent d) is ∙ ap (λ xs. slice_index xs d) (sent_raised h.state dest) ∙ get_or-set_other h.state.tx.sent dest d (slice_index h.state.tx.sent dest + 1) 0 (λ same. eqb-false dest d e (sym same)))
    (ap (λ (x : Held). slice_index x.places d) is ∙ get_or-set_other h.places dest d 0 0 (λ same. eqb-false dest d e (sym same))) placed
cut_other h t dest d place end false e is placed =
    placed_kept h t d end ([], append_none (accepted_for h.state.tx d) ∙ ap (λ (x : Held). accepted_for x.state.tx d) (sym is)) (ap (λ (x : Held). slice_index x.state.tx.sent d) is)
    (ap (λ (x : Held). slice_index x.places d) is ∙ get_or-set_other h.places dest d place 0 (λ same. eqb-false dest d e (sym same))) placed
  where
    append_none : {X : Type 0} (xs : List X) → xs ++ [] ≡ xs
    append_none [] = refl
    append_none (x ∷ xs) = ap (λ ys. x ∷ ys) (append_none xs)

-- one act, and what is posted behind it
one_cut : (act : Act) (p q : Living) → Lives p act q → AreItems p.held → IsOut p.held → (d : ℕ) (end : Option FrameHead) (rest : List Frame) → IsPlacedAt end p.held d → ((e : Option FrameHead) → IsPlacedAt e q.held d → IsLane e rest)
    → IsLane end (posted_by d act ++ rest)
one_cut Did p q (did, same) items out d end rest placed more = more end (placed_keeps p.held q.held d end (keeps_passes p.held q.held (did_passes (actor_in p) (actor_in q) did) same.0) placed)
one_cut Had p q (had, same) items out d end rest placed more = more end (placed_keeps p.held q.held d end (keeps_passes p.held q.held (had_passes (actor_in p) (actor_in q) had) same.0) placed)
one_cut Drew p q ((due, room, is), same) items out d end rest placed more =
    more end (placed_keeps p.held q.held d end (keeps_passes p.held q.held (passes_at p.held.state (do_draw p.held.state) q.held.state (ap (λ (x : Held). x.state) is) (draw_passes p.held.state)) (ap (λ (x : Held). x.places) is)) placed)
one_cut (Took source f) p q ((in_begun, in_tails, comes, ends), same) items out d end rest placed more = more end (placed_keeps p.held q.held d end (keeps_took p.held q.held source f _ (is_last f.head) ends) placed)
one_cut (Posted dest f) p q ((in_places, in_sent, next, departs), same) items out d end rest placed more = by_peer (dest == d) refl
  where
    by_peer : (b : Bool) → (dest == d) ≡ b → IsLane end (only b f ++ rest)
    by_peer true e =
        let here : dest ≡ d = eqb-true dest d e in
        let cut = cut_posted p.held q.held dest f end in_places next departs items out (subst (λ k. IsPlacedAt end p.held k) (sym here) placed) in
        (cut.0, more (Some f.head) (subst (λ k. IsPlacedAt (Some f.head) q.held k) here cut.1))
    by_peer false e = more end (cut_other p.held q.held dest d (f.head.from + f.head.len) end (is_last f.head) e departs placed)

pub cut_by : (acts : List Act) (p q : Living) → LivesBy p acts q → AreItems q.held → IsOut p.held → (d : ℕ) (end : Option FrameHead) → IsPlaced end (slice_index p.held.places d) (next_item p.held.state d) → IsLane end (posted_to d acts)
cut_by [] p q is items out d end placed = tt
cut_by (act ∷ acts) p q (mid, one, rest) items out d end placed =
    let whole : AreItems p.held = λ d i item e. (let r = lives_ready (act ∷ acts) p q (mid, one, rest) d in
    items d i item (ap (λ zs. slice_get zs i) (sym r.1) ∙ prefix_get (accepted_for p.held.state.tx d) r.0 i item e)) in
    let first = transmits_one act p mid one whole out in
    one_cut act p mid one whole out d end (posted_to d acts) placed (λ e at. cut_by acts mid q rest items first.1 d e at)
