-- A message of two frames: the first is taken before the second is posted.
use Rattle.std.proofs.Common.{◌≡◌, ℕ, zero, suc, false, List, [], ◌∷◌, replicate, slice_get, Some, None, refl, sym, subst, arith, eqb, ne_eqb}
use Rattle.std.specs.Prelude.{unwrap_or}
use Rattle.std.proofs.lemmas.List.{length-replicate}
use mathlib.Core.List.{IsPrefix}
use Rattle.fab_base.specs.declared.frames.Frame.{Frame}
use Rattle.fab_base.specs.declared.items.Item.{Item}
use Rattle.fab_base.specs.declared.items.ItemHead.{ItemHead}
use Rattle.fab_base.specs.declared.items.Kind.TheVariants.{TagMsg}
use Rattle.fab_base.specs.declared.items.Ack.TheVariants.{Nothing}
use Rattle.fab_base.specs.declared.items.Outcome.TheVariants.{Done}
use Rattle.fab_base.specs.declared.peers.Level.{Level}
use Rattle.fab_base.specs.declared.peers.Step.TheVariants.{Do, Head, Tail, Sent}
use Rattle.fab_base.specs.declared.script.Bound.{Bound}
use Rattle.fab_base.specs.declared.script.BytesWord.TheVariants.{Zero}
use Rattle.fab_base.specs.declared.script.LineOp.{LineOp}
use Rattle.fab_link.specs.declared.moves.Move.TheVariants.{Post, Take}
use Rattle.fab_link.specs.Cut.{IsItem}
use Rattle.fab_link.specs.Frames.{IsSound}
use Rattle.fab_link.specs.Joined.{grown}
use Rattle.fab_model.specs.Machine.{machine}
use Rattle.fab_model.specs.Orders.{Reached}
use Rattle.fab_model.specs.Arrivals.{do_head, do_tail}
use Rattle.fab_model.specs.Sending.{do_sent}
use Rattle.fab_model.specs.Peers.{Actor, fabric, do_next, with_state}
use Rattle.fab_model.specs.Replay.{newly, lines_of}
use Rattle.fab_model.specs.Views.{rule}
use Rattle.fab_model.proofs.Scripts.{script_of, line}
use Rattle.fab_face.specs.Held.{AreItems, piece}
use Rattle.fab_face.specs.Acts.{Act, Did, Took, Posted, taken_of, posted_to}
use Rattle.fab_peer.specs.Turns.{Living, LivesBy}
use Rattle.fab_merging.specs.Pasts.{Past, begun, ActedBy, Acted}
use Rattle.fab_merging.specs.Law.{AreTold, IsFresh, ins_at, outs_at}
use Rattle.fab_merging.proofs.Opening.{start_fresh}
use Rattle.fab_merging.proofs.Reaching.{threads_reach}
use Rattle.fab_merging.proofs.rows.Hello.{resting}
use Rattle.fab_merging.proofs.Lists.{no_items}

abbrev script : Bound
script = script_of ((line 4 (LineOp.TRecv 1 None 7 0 8192) ∷ []) ∷ (line 6 (LineOp.TSend 2 0 7 (Zero 5000) None Level.Transmit false false) ∷ []) ∷ [])

abbrev head : ItemHead
head = record { kind = TagMsg; op = 0; tag = 7; imm = None; ack = Nothing; key = 0; at = 0; count = 0; atom = None; outcome = Done; total = 5000 }

abbrev item : Item
item = record { head = head; bytes = replicate 5000 0 }

abbrev first : Frame
first = piece item 0

abbrev last : Frame
last = piece item 4096

-- ---- the receiver

abbrev a0 : Actor
a0 = newly script.script.conf (lines_of script 0)

abbrev b1 : Actor
b1 = unwrap_or (do_next a0) a0

abbrev b2 : Actor
b2 = with_state b1 (do_head b1.state 1 head)

abbrev half : Item
half = grown None first

abbrev whole : Item
whole = grown (Some half) last

abbrev b3 : Actor
b3 = with_state b2 (do_tail b2.state 1 head whole.bytes)

abbrev half_taken : Living
half_taken = record { held = record { state = b2.state; places = 0 ∷ 0 ∷ []; begun = None ∷ Some half ∷ []; multis = [] }; lines = b2.lines; results = b2.results; kept = b2.kept }

abbrev receives : List Act
receives = Did ∷ Took 1 first ∷ Took 1 last ∷ []

receiver : LivesBy (resting a0) receives (resting b3)
unfolding machine
receiver = (
  resting b1,
  (refl, (refl, refl)),
  (
    half_taken,
    ((omega arith, omega arith, (refl, refl, refl), refl), refl),
    (resting b3, ((omega arith, omega arith, (half, refl, refl), (refl, refl, refl)), refl), refl),
  ),
)

abbrev x0 : Past
x0 = record { living = resting b3; steps = Do ∷ Head 1 ∷ Tail 1 ∷ []; moves = Some (Take 1 1 ∷ Take 1 2 ∷ []); outs = λ d. posted_to d receives; ins = λ s. taken_of s receives }

acted0 : ActedBy (begun (resting a0)) x0 receives
acted0 = record { lives = receiver; steps = refl; moves = (Take 1 1 ∷ Take 1 2 ∷ [], refl, refl); outs = λ d. refl; ins = λ s. refl }

-- ---- the sender

abbrev a1 : Actor
a1 = newly script.script.conf (lines_of script 1)

abbrev c1 : Actor
c1 = unwrap_or (do_next a1) a1

abbrev c2 : Actor
c2 = with_state c1 (do_sent c1.state 0)

abbrev half_posted : Living
half_posted = record { held = record { state = c1.state; places = 4096 ∷ 0 ∷ []; begun = None ∷ None ∷ []; multis = [] }; lines = c1.lines; results = c1.results; kept = c1.kept }

abbrev sends : List Act
sends = Did ∷ Posted 0 first ∷ Posted 0 last ∷ []

sender : LivesBy (resting a1) sends (resting c2)
unfolding machine
sender = (
  resting c1,
  (refl, (refl, refl)),
  (
    half_posted,
    ((omega arith, omega arith, refl, refl), refl),
    (resting c2, ((omega arith, omega arith, refl, (refl, refl)), refl), refl),
  ),
)

abbrev x1 : Past
x1 = record { living = resting c2; steps = Do ∷ Sent 0 ∷ []; moves = Some (Post 0 1 ∷ Post 0 2 ∷ []); outs = λ d. posted_to d sends; ins = λ s. taken_of s sends }

acted1 : ActedBy (begun (resting a1)) x1 sends
acted1 = record { lives = sender; steps = refl; moves = (Post 0 1 ∷ Post 0 2 ∷ [], refl, refl); outs = λ d. refl; ins = λ s. refl }

-- ---- both

items0 : AreItems (x0.living).held
unfolding machine
items0 zero i x e = absurd (no_items _ i x refl e)
items0 (suc zero) i x e = absurd (no_items _ i x refl e)
items0 (suc (suc d)) i x e = absurd (no_items _ i x refl e)

sound : (x : Item) → item ≡ x → IsItem x × IsSound x.head
sound x is = subst (λ z. IsItem z × IsSound z.head) is (sym (length-replicate {A = ℕ} 5000 0), refl)

items1 : AreItems (x1.living).held
unfolding machine
items1 zero zero x e = sound x (cc (e))
items1 zero (suc i) x e = absurd (cc (e))
items1 (suc zero) i x e = absurd (no_items _ i x refl e)
items1 (suc (suc d)) i x e = absurd (no_items _ i x refl e)

abbrev opening : List Living
opening = resting a0 ∷ resting a1 ∷ []

abbrev pasts : List Past
pasts = x0 ∷ x1 ∷ []

fresh_at : (p : ℕ) (o : Living) → slice_get opening p ≡ Some o → IsFresh o.held
unfolding machine
fresh_at zero o e = let is : resting a0 ≡ o = cc (e) in subst (λ (z : Living). IsFresh z.held) is (start_fresh script.script.conf)
fresh_at (suc zero) o e = let is : resting a1 ≡ o = cc (e) in subst (λ (z : Living). IsFresh z.held) is (start_fresh script.script.conf)
fresh_at (suc (suc p)) o e = absurd (cc (e))

acted_at : (p : ℕ) (o : Living) (x : Past) → slice_get opening p ≡ Some o → slice_get pasts p ≡ Some x → Acted (begun o) x
acted_at zero o x e f = let i : resting a0 ≡ o = cc (e) in let j : x0 ≡ x = cc (f) in subst (λ z. Acted (begun o) z) j (subst (λ z. Acted (begun z) x0) i (receives, acted0))
acted_at (suc zero) o x e f = let i : resting a1 ≡ o = cc (e) in let j : x1 ≡ x = cc (f) in subst (λ z. Acted (begun o) z) j (subst (λ z. Acted (begun z) x1) i (sends, acted1))
acted_at (suc (suc p)) o x e f = absurd (cc (e))

items_at : (p : ℕ) (x : Past) → slice_get pasts p ≡ Some x → AreItems x.living.held
items_at zero x e = let is : x0 ≡ x = cc (e) in subst (λ (z : Past). AreItems z.living.held) is items0
items_at (suc zero) x e = let is : x1 ≡ x = cc (e) in subst (λ (z : Past). AreItems z.living.held) is items1
items_at (suc (suc p)) x e = absurd (cc (e))

lane : (d s : ℕ) → IsPrefix (ins_at pasts d s) (outs_at pasts s d)
lane zero zero = (_, refl)
lane zero (suc zero) = ([], refl)
lane zero (suc (suc s)) = let e : eqb 1 (suc (suc s)) ≡ false = ne_eqb 1 (suc (suc s)) (λ x. omega (arith, x)) in rw e ([], refl)
lane (suc zero) s = (_, refl)
lane (suc (suc d)) s = (_, refl)

told : AreTold opening pasts
told = record { count = refl; fresh = fresh_at; acted = acted_at; items = items_at; merge = refl; lanes = λ s d. lane d s }

-- the arrival stands with the first frame, and the item is whole only once it is transmitted
pub reached : Reached (rule fabric) (a0 ∷ a1 ∷ []) ((Do ∷ Head 1 ∷ Tail 1 ∷ []) ∷ (Do ∷ Sent 0 ∷ []) ∷ []) (b3 ∷ c2 ∷ [])
reached = threads_reach opening pasts told
