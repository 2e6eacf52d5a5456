-- One tagged message between two peers: the one posts its receive and waits, the other sends.
use Rattle.std.proofs.Common.{◌≡◌, ℕ, zero, suc, false, List, [], ◌∷◌, slice_get, Some, None, refl, subst, arith, eqb, ne_eqb}
use Rattle.std.specs.Prelude.{codes, unwrap_or}
use mathlib.Core.List.{IsPrefix}
use Rattle.fab_base.specs.declared.frames.Frame.{Frame}
use Rattle.fab_base.specs.declared.items.Item.{Item}
use Rattle.fab_base.specs.declared.items.ItemHead.{ItemHead}
use Rattle.fab_base.specs.declared.items.Kind.TheVariants.{TagMsg}
use Rattle.fab_base.specs.declared.items.Ack.TheVariants.{Nothing}
use Rattle.fab_base.specs.declared.items.Outcome.TheVariants.{Done}
use Rattle.fab_base.specs.declared.peers.Level.{Level}
use Rattle.fab_base.specs.declared.peers.Step.TheVariants.{Do, Head, Tail, Sent, Read}
use Rattle.fab_base.specs.declared.script.Bound.{Bound}
use Rattle.fab_base.specs.declared.script.BytesWord.TheVariants.{Text}
use Rattle.fab_base.specs.declared.script.LineOp.{LineOp}
use Rattle.fab_link.specs.declared.moves.Move.TheVariants.{Post, Take}
use Rattle.fab_link.specs.Frames.{frame, IsSound}
use Rattle.fab_link.specs.Cut.{IsItem}
use Rattle.fab_model.specs.Machine.{machine}
use Rattle.fab_model.specs.Orders.{Reached}
use Rattle.fab_model.specs.Arrivals.{do_head, do_tail}
use Rattle.fab_model.specs.Sending.{do_sent}
use Rattle.fab_model.specs.Peers.{Actor, fabric, do_next, read_next, with_state}
use Rattle.fab_model.specs.Replay.{newly, lines_of}
use Rattle.fab_model.specs.Views.{rule}
use Rattle.fab_model.proofs.Scripts.{script_of, line}
use Rattle.fab_face.specs.Held.{AreItems}
use Rattle.fab_face.specs.Acts.{Act, Did, Took, Posted, Had, taken_of, posted_to}
use Rattle.fab_peer.specs.Turns.{Living, LivesBy}
use Rattle.fab_merging.specs.Pasts.{Past, begun, ActedBy, Acted}
use Rattle.fab_merging.specs.Law.{AreTold, IsFresh, ins_at, outs_at}
use Rattle.fab_merging.proofs.Lists.{no_items}
use Rattle.fab_merging.proofs.Opening.{start_fresh}
use Rattle.fab_merging.proofs.Reaching.{threads_reach}

abbrev script : Bound
script = script_of (
    (line 4 (LineOp.TRecv 1 None 7 0 16)
    ∷ line 5 (LineOp.Wait (Some 1)) ∷ [])
    ∷ (line 7 (LineOp.TSend 2 0 7 (Text (codes "hello")) None Level.Transmit false false) ∷ [])
    ∷ []
    )

abbrev head : ItemHead
head = record { kind = TagMsg; op = 0; tag = 7; imm = None; ack = Nothing; key = 0; at = 0; count = 0; atom = None; outcome = Done; total = 5 }

abbrev one : Frame
one = frame (record { item = head; from = 0; len = 5 }) (codes "hello")

-- a peer between whose items nothing is under way
abbrev pub resting : Actor → Living
resting a = record { held = record { state = a.state; places = 0 ∷ 0 ∷ []; begun = None ∷ None ∷ []; multis = [] }; lines = a.lines; results = a.results; kept = a.kept }

-- ---- the receiver

abbrev a0 : Actor
a0 = newly script.script.conf (lines_of script 0)

abbrev b1 : Actor
b1 = unwrap_or (do_next a0) a0

abbrev b2 : Actor
b2 = with_state b1 (do_tail (do_head b1.state 1 head) 1 head (codes "hello"))

abbrev b3 : Actor
b3 = unwrap_or (read_next b2) b2

abbrev b4 : Actor
b4 = unwrap_or (do_next b3) b3

abbrev receives : List Act
receives = Did ∷ Took 1 one ∷ Had ∷ Did ∷ []

receiver : LivesBy (resting a0) receives (resting b4)
unfolding machine
receiver = (
  resting b1,
  (refl, (refl, refl)),
  (
    resting b2,
    ((omega arith, omega arith, (refl, refl, refl), (refl, refl, refl)), refl),
    (
      resting b3,
      (refl, (refl, refl)),
      (resting b4, (refl, (refl, refl)), refl),
    ),
  ),
)

abbrev x0 : Past
x0 = record { living = resting b4; steps = Do ∷ Head 1 ∷ Tail 1 ∷ Read ∷ Do ∷ []; moves = Some (Take 1 1 ∷ []); outs = λ d. posted_to d receives; ins = λ s. taken_of s receives }

acted0 : ActedBy (begun (resting a0)) x0 receives
acted0 = record { lives = receiver; steps = refl; moves = (Take 1 1 ∷ [], refl, refl); outs = λ d. refl; ins = λ s. refl }

-- ---- the sender

abbrev a1 : Actor
a1 = newly script.script.conf (lines_of script 1)

abbrev c1 : Actor
c1 = unwrap_or (do_next a1) a1

abbrev c2 : Actor
c2 = with_state c1 (do_sent c1.state 0)

abbrev c3 : Actor
c3 = unwrap_or (read_next c2) c2

abbrev sends : List Act
sends = Did ∷ Posted 0 one ∷ Had ∷ []

sender : LivesBy (resting a1) sends (resting c3)
unfolding machine
sender = (
  resting c1,
  (refl, (refl, refl)),
  (
    resting c2,
    ((omega arith, omega arith, refl, (refl, refl)), refl),
    (resting c3, (refl, (refl, refl)), refl),
  ),
)

abbrev x1 : Past
x1 = record { living = resting c3; steps = Do ∷ Sent 0 ∷ Read ∷ []; moves = Some (Post 0 1 ∷ []); outs = λ d. posted_to d sends; ins = λ s. taken_of s sends }

acted1 : ActedBy (begun (resting a1)) x1 sends
acted1 = record { lives = sender; steps = refl; moves = (Post 0 1 ∷ [], refl, refl); outs = λ d. refl; ins = λ s. refl }

-- ---- both

items0 : AreItems (x0.living).held
unfolding machine
items0 zero i item e = absurd (no_items _ i item refl e)
items0 (suc zero) i item e = absurd (no_items _ i item refl e)
items0 (suc (suc d)) i item e = absurd (no_items _ i item refl e)

the_item : Item
the_item = record { head = head; bytes = codes "hello" }

sound : (item : Item) → the_item ≡ item → IsItem item × IsSound item.head
unfolding the_item
sound item is = subst (λ x. IsItem x × IsSound x.head) is (refl, refl)

items1 : AreItems (x1.living).held
unfolding machine the_item
items1 zero zero item e = sound item (cc (e))
items1 zero (suc i) item e = absurd (cc (e))
items1 (suc zero) i item e = absurd (no_items _ i item refl e)
items1 (suc (suc d)) i item e = absurd (no_items _ i item refl e)

abbrev opening : List Living
opening = resting a0 ∷ resting a1 ∷ []

abbrev pasts : List Past
pasts = x0 ∷ x1 ∷ []

fresh0 : IsFresh (resting a0).held
unfolding machine
fresh0 = start_fresh script.script.conf

fresh1 : IsFresh (resting a1).held
unfolding machine
fresh1 = start_fresh script.script.conf

fresh_at : (p : ℕ) (o : Living) → slice_get opening p ≡ Some o → IsFresh o.held
fresh_at zero o e = let is : resting a0 ≡ o = cc (e) in subst (λ (z : Living). IsFresh z.held) is fresh0
fresh_at (suc zero) o e = let is : resting a1 ≡ o = cc (e) in subst (λ (z : Living). IsFresh z.held) is fresh1
fresh_at (suc (suc p)) o e = absurd (cc (e))

acted_at : (p : ℕ) (o : Living) (x : Past) → slice_get opening p ≡ Some o → slice_get pasts p ≡ Some x → Acted (begun o) x
acted_at zero o x e f = let i : resting a0 ≡ o = cc (e) in let j : x0 ≡ x = cc (f) in subst (λ z. Acted (begun o) z) j (subst (λ z. Acted (begun z) x0) i (receives, acted0))
acted_at (suc zero) o x e f = let i : resting a1 ≡ o = cc (e) in let j : x1 ≡ x = cc (f) in subst (λ z. Acted (begun o) z) j (subst (λ z. Acted (begun z) x1) i (sends, acted1))
acted_at (suc (suc p)) o x e f = absurd (cc (e))

items_at : (p : ℕ) (x : Past) → slice_get pasts p ≡ Some x → AreItems x.living.held
items_at zero x e = let is : x0 ≡ x = cc (e) in subst (λ (z : Past). AreItems z.living.held) is items0
items_at (suc zero) x e = let is : x1 ≡ x = cc (e) in subst (λ (z : Past). AreItems z.living.held) is items1
items_at (suc (suc p)) x e = absurd (cc (e))

lane : (d s : ℕ) → IsPrefix (ins_at pasts d s) (outs_at pasts s d)
lane zero zero = (_, refl)
lane zero (suc zero) = ([], refl)
lane zero (suc (suc s)) = let e : eqb 1 (suc (suc s)) ≡ false = ne_eqb 1 (suc (suc s)) (λ x. omega (arith, x)) in rw e ([], refl)
lane (suc zero) s = (_, refl)
lane (suc (suc d)) s = (_, refl)

told : AreTold opening pasts
told = record { count = refl; fresh = fresh_at; acted = acted_at; items = items_at; merge = refl; lanes = λ s d. lane d s }

-- some order of turns took these steps, from the start of the lines to these peers
pub reached : Reached (rule fabric) (a0 ∷ a1 ∷ []) ((Do ∷ Head 1 ∷ Tail 1 ∷ Read ∷ Do ∷ []) ∷ (Do ∷ Sent 0 ∷ Read ∷ []) ∷ []) (b4 ∷ c3 ∷ [])
reached = threads_reach opening pasts told
