-- What acts make of what a peer holds, whatever its own acts are.
--     Holds h act k        the act makes k of h: a frame or a draw as the endpoint does, and the peer's own act leaves what is unfinished
--     HoldsBy h acts k     the acts do, one after another
--     idle h               a script's peer without lines, which does frames and draws as any does
use Rattle.std.proofs.Common.{◌≡◌, ◌+◌, ℕ, Bool, true, false, ◌==◌, List, [], ◌∷◌, ◌++◌, Option, Some, None, refl, sym, ap, ◌∙◌, subst}
use Rattle.std.specs.Prelude.{slice_get, slice_index}
use Rattle.std.proofs.lemmas.Bool.{eqb-true}
use Rattle.fab_base.specs.declared.frames.Frame.{Frame}
use Rattle.fab_base.specs.declared.frames.FrameHead.{FrameHead}
use Rattle.fab_link.specs.Frames.{IsLane}
use Rattle.fab_link.specs.Joined.{is_last}
use Rattle.fab_model.specs.State.{accepted_for}
use Rattle.fab_model.specs.Arrivals.{do_draw}
use Rattle.fab_model.specs.Views.{IsPrefixOf}
use Rattle.fab_model.proofs.Views.{prefix_self, prefix_prefix}
use Rattle.fab_model.proofs.Parts.{prefix_get}
use Rattle.fab_model.proofs.Passes.{Passes, draw_passes}
use Rattle.fab_face.specs.Held.{Held, next_item, AreItems, IsOut, IsPlaced}
use Rattle.fab_face.specs.Acts.{Act, Did, Took, Posted, Drew, Had, Goes, only, posted_by, posted_to, taken_by, taken_of}
use Rattle.fab_peer.specs.Turns.{Living, Joins, SameParts, Transmits}
use Rattle.fab_peer.proofs.Cutting.{IsPlacedAt, placed_keeps, cut_posted, cut_other}
use Rattle.fab_peer.proofs.Sending.{keeps_passes, keeps_took, passes_at, transmits_none, transmits_then}
use Rattle.fab_peer.proofs.Sending as sending
use Rattle.fab_peer.proofs.Showing.{joins_same, joins_then}
use Rattle.fab_peer.proofs.Showing as showing
use Rattle.fab_merging.specs.Pasts.{Trail}

abbrev pub Holds : Held → Act → Held → Type 0
Holds h Did k = Passes h.state k.state × SameParts h k
Holds h Had k = Passes h.state k.state × SameParts h k
Holds h (Took source f) k = Goes None h (Took source f) k
Holds h (Posted dest f) k = Goes None h (Posted dest f) k
Holds h Drew k = Goes None h Drew k

abbrev pub HoldsBy : Held → List Act → Held → Type 0
HoldsBy = Trail Holds

abbrev pub idle : Held → Living
idle h = record { held = h; lines = []; results = []; kept = [] }

-- ---- what the frames taken join to

joins_one : (act : Act) (h k : Held) → Holds h act k → Joins h k (λ s. taken_by s act)
joins_one Did h k (passes, same) = joins_same h k same.1 passes.tails
joins_one Had h k (passes, same) = joins_same h k same.1 passes.tails
joins_one Drew h k goes = showing.joins_one Drew (idle h) (idle k) (goes, refl)
joins_one (Posted dest f) h k goes = showing.joins_one (Posted dest f) (idle h) (idle k) (goes, refl)
joins_one (Took source f) h k goes = showing.joins_one (Took source f) (idle h) (idle k) (goes, refl)

pub joins_by : (acts : List Act) (h k : Held) → HoldsBy h acts k → Joins h k (λ s. taken_of s acts)
joins_by [] h k is = joins_same h k (ap (λ (x : Held). x.begun) (sym is)) (ap (λ (x : Held). x.state.rx.tails) (sym is))
joins_by (act ∷ acts) h k (mid, one, rest) = joins_then h mid k (λ s. taken_by s act) (λ s. taken_of s acts) (joins_one act h mid one) (joins_by acts mid k rest)

-- ---- what those posted join to: the items that were accepted, in order

one_ready : (act : Act) (h k : Held) → Holds h act k → (d : ℕ) → IsPrefixOf (accepted_for h.state.tx d) (accepted_for k.state.tx d)
one_ready Did h k (passes, same) d = passes.ready d
one_ready Had h k (passes, same) d = passes.ready d
one_ready Drew h k goes d = sending.lives_ready (Drew ∷ []) (idle h) (idle k) (idle k, (goes, refl), refl) d
one_ready (Took source f) h k goes d = sending.lives_ready (Took source f ∷ []) (idle h) (idle k) (idle k, (goes, refl), refl) d
one_ready (Posted dest f) h k goes d = sending.lives_ready (Posted dest f ∷ []) (idle h) (idle k) (idle k, (goes, refl), refl) d

pub holds_ready : (acts : List Act) (h k : Held) → HoldsBy h acts k → (d : ℕ) → IsPrefixOf (accepted_for h.state.tx d) (accepted_for k.state.tx d)
holds_ready [] h k is d = prefix_self _ _ (ap (λ (x : Held). accepted_for x.state.tx d) is)
holds_ready (act ∷ acts) h k (mid, one, rest) d = prefix_prefix _ _ _ (one_ready act h mid one d) (holds_ready acts mid k rest d)

-- fewer items make sense where more do
pub items_before : (acts : List Act) (h k : Held) → HoldsBy h acts k → AreItems k → AreItems h
items_before acts h k holds items d i item e =
    let r = holds_ready acts h k holds d in
    items d i item (ap (λ zs. slice_get zs i) (sym r.1) ∙ prefix_get (accepted_for h.state.tx d) r.0 i item e)

transmits_one : (act : Act) (h k : Held) → Holds h act k → AreItems h → IsOut h → Transmits h k (λ d. posted_by d act) × IsOut k
transmits_one Did h k (passes, same) items out = transmits_none h k (keeps_passes h k passes same.0) out
transmits_one Had h k (passes, same) items out = transmits_none h k (keeps_passes h k passes same.0) out
transmits_one Drew h k goes items out = sending.transmits_one Drew (idle h) (idle k) (goes, refl) items out
transmits_one (Took source f) h k goes items out = sending.transmits_one (Took source f) (idle h) (idle k) (goes, refl) items out
transmits_one (Posted dest f) h k goes items out = sending.transmits_one (Posted dest f) (idle h) (idle k) (goes, refl) items out

pub transmits_by : (acts : List Act) (h k : Held) → HoldsBy h acts k → AreItems k → IsOut h → Transmits h k (λ d. posted_to d acts) × IsOut k
transmits_by [] h k is items out = subst (λ (x : Held). Transmits h x (λ d. []) × IsOut x) is (transmits_none h h (record { ready = λ d. prefix_self _ _ refl; sent = refl; places = refl }) out)
transmits_by (act ∷ acts) h k (mid, one, rest) items out =
    let first = transmits_one act h mid one (items_before (act ∷ acts) h k (mid, one, rest) items) out in
    let later = transmits_by acts mid k rest items first.1 in
    (transmits_then h mid k (λ d. posted_by d act) (λ d. posted_to d acts) (holds_ready acts mid k rest) first.0 later.0, later.1)

-- ---- those posted continue their lanes by cutting

-- one act, and what is posted behind it
one_cut : (act : Act) (h k : Held) → Holds h act k → AreItems h → IsOut h → (d : ℕ) (end : Option FrameHead) (rest : List Frame) → IsPlacedAt end h d → ((e : Option FrameHead) → IsPlacedAt e k d → IsLane e rest) → IsLane end (posted_by d act ++ rest)
one_cut Did h k (passes, same) items out d end rest placed more = more end (placed_keeps h k d end (keeps_passes h k passes same.0) placed)
one_cut Had h k (passes, same) items out d end rest placed more = more end (placed_keeps h k d end (keeps_passes h k passes same.0) placed)
one_cut Drew h k (due, room, is) items out d end rest placed more =
    more end (placed_keeps h k d end (keeps_passes h k (passes_at h.state (do_draw h.state) k.state (ap (λ (x : Held). x.state) is) (draw_passes h.state)) (ap (λ (x : Held). x.places) is)) placed)
one_cut (Took source f) h k (in_begun, in_tails, came, ends) items out d end rest placed more = more end (placed_keeps h k d end (keeps_took h k source f _ (is_last f.head) ends) placed)
one_cut (Posted dest f) h k (in_places, in_sent, next, departs) items out d end rest placed more = by_peer (dest == d) refl
  where
    by_peer : (b : Bool) → (dest == d) ≡ b → IsLane end (only b f ++ rest)
    by_peer true e =
        let here : dest ≡ d = eqb-true dest d e in
        let cut = cut_posted h k dest f end in_places next departs items out (subst (λ q. IsPlacedAt end h q) (sym here) placed) in
        (cut.0, more (Some f.head) (subst (λ q. IsPlacedAt (Some f.head) k q) here cut.1))
    by_peer false e = more end (cut_other h k dest d (f.head.from + f.head.len) end (is_last f.head) e departs placed)

pub cut_by : (acts : List Act) (h k : Held) → HoldsBy h acts k → AreItems k → IsOut h → (d : ℕ) (end : Option FrameHead) → IsPlaced end (slice_index h.places d) (next_item h.state d) → IsLane end (posted_to d acts)
cut_by [] h k is items out d end placed = tt
cut_by (act ∷ acts) h k (mid, one, rest) items out d end placed =
    let whole : AreItems h = items_before (act ∷ acts) h k (mid, one, rest) items in
    let first = transmits_one act h mid one whole out in
    one_cut act h mid one whole out d end (posted_to d acts) placed (λ e at. cut_by acts mid k rest items first.1 d e at)
