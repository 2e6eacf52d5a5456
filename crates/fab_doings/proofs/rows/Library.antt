-- One tagged message between two endpoints used as a library: the one passes a buffer of its own, the other sends a byte; no line says so.
use Rattle.std.proofs.Common.{◌≡◌, ℕ, zero, suc, true, false, List, [], ◌∷◌, slice_get, Some, None, refl, subst, arith, eqb, ne_eqb}
use Rattle.std.specs.Prelude.{codes}
use mathlib.Core.List.{IsPrefix}
use Rattle.fab_base.specs.declared.entries.Entry.TheVariants.{Received, Sent}
use Rattle.fab_base.specs.declared.entries.Taken.TheVariants.{Success}
use Rattle.fab_base.specs.declared.frames.Frame.{Frame}
use Rattle.fab_base.specs.declared.items.Item.{Item}
use Rattle.fab_base.specs.declared.items.ItemHead.{ItemHead}
use Rattle.fab_base.specs.declared.items.Kind.TheVariants.{TagMsg}
use Rattle.fab_base.specs.declared.items.Ack.TheVariants.{Nothing}
use Rattle.fab_base.specs.declared.items.Outcome.TheVariants.{Done}
use Rattle.fab_base.specs.declared.operations.Written.{Written}
use Rattle.fab_base.specs.declared.peers.Level.{Level}
use Rattle.fab_base.specs.declared.peers.LineResult.TheVariants.{Done as Accepted}
use Rattle.fab_base.specs.declared.script.Bound.{Bound}
use Rattle.fab_link.specs.declared.moves.Move.TheVariants.{Post as Out, Take as In}
use Rattle.fab_link.specs.Frames.{frame, IsSound}
use Rattle.fab_link.specs.Cut.{IsItem}
use Rattle.fab_model.specs.Machine.{machine}
use Rattle.fab_model.specs.Arrivals.{do_head, do_tail}
use Rattle.fab_model.specs.Calls.{Call, Post, do_call, message}
use Rattle.fab_model.specs.Peers.{reading}
use Rattle.fab_model.specs.Replay.{fresh}
use Rattle.fab_model.specs.Sending.{do_sent}
use Rattle.fab_model.specs.State.{State}
use Rattle.fab_model.proofs.Scripts.{script_of}
use Rattle.fab_face.specs.Held.{AreItems}
use Rattle.fab_laws.proofs.Scripts.{script_opening}
use Rattle.fab_face.specs.Acts.{posted_to, taken_of}
use Rattle.fab_merging.specs.Law.{IsFresh, ins_at, outs_at}
use Rattle.fab_merging.specs.Pasts.{begun}
use Rattle.fab_merging.proofs.Lists.{no_items}
use Rattle.fab_merging.proofs.Opening.{start_fresh}
use Rattle.fab_doings.specs.Doings.{Calls, Did, Doing, DoesBy, Had, Living, Posted, Took, acts_of}
use Rattle.fab_doings.specs.Law.{AreTold, IsRun, Kept, KeptBy, Past}
use Rattle.fab_doings.proofs.Obeying.{program_obeys}

-- two peers without lines
abbrev bound : Bound
bound = script_of ([] ∷ [] ∷ [])

abbrev start : State
start = fresh bound.script.conf

abbrev receive : Call
receive = Post (record { tagged = true; source = Some 1; tag = 5; ignore = 0; buf = 9 ∷ 9 ∷ 9 ∷ []; least = None; ctx = 1 })

abbrev send : Call
send = message TagMsg (Some 3) 0 5 (codes "x") None Level.Transmit false false

abbrev head : ItemHead
head = record { kind = TagMsg; op = 0; tag = 5; imm = None; ack = Nothing; key = 0; at = 0; count = 0; atom = None; outcome = Done; total = 1 }

abbrev one : Frame
one = frame (record { item = head; from = 0; len = 1 }) (codes "x")

-- between items, with the states after its deeds
abbrev resting : State → List State → Living
resting s past = record { held = record { state = s; places = 0 ∷ 0 ∷ []; begun = None ∷ None ∷ []; multis = [] }; past = past }

-- ---- the receiver

abbrev s1 : State
s1 = (do_call start receive).1

abbrev s2 : State
s2 = do_head s1 1 head

abbrev s3 : State
s3 = do_tail s2 1 head (codes "x")

abbrev s4 : State
s4 = reading s3

abbrev receives : List Doing
receives = Did (Calls receive Accepted) ∷ Took 1 one ∷ Had (Success (Received 1 1 (Some 5) None 1 (120 ∷ 9 ∷ 9 ∷ []))) ∷ []

receiver : DoesBy (resting start []) receives (resting s4 (s1 ∷ s2 ∷ s3 ∷ s4 ∷ []))
unfolding machine
receiver = (
  resting s1 (s1 ∷ []),
  ((refl, refl), (refl, refl)),
  (
    resting s3 (s1 ∷ s2 ∷ s3 ∷ []),
    ((omega arith, omega arith, (refl, refl, refl), (refl, refl, refl)), refl),
    (resting s4 (s1 ∷ s2 ∷ s3 ∷ s4 ∷ []), ((_, refl, refl, refl, refl), (refl, refl)), refl),
  ),
)

abbrev x0 : Past
x0 = record { living = resting s4 (s1 ∷ s2 ∷ s3 ∷ s4 ∷ []); steps = receives; moves = Some (In 1 1 ∷ []); outs = λ d. posted_to d (acts_of receives); ins = λ s. taken_of s (acts_of receives) }

kept0 : KeptBy (begun (resting start [])) x0 receives
kept0 = record { lives = receiver; doings = refl; moves = (In 1 1 ∷ [], refl, refl); outs = λ d. refl; ins = λ s. refl }

-- ---- the sender

abbrev t1 : State
t1 = (do_call start send).1

abbrev t2 : State
t2 = do_sent t1 0

abbrev t3 : State
t3 = reading t2

abbrev sends : List Doing
sends = Did (Calls send Accepted) ∷ Posted 0 one ∷ Had (Success (Sent 3 true (codes "x"))) ∷ []

sender : DoesBy (resting start []) sends (resting t3 (t1 ∷ t2 ∷ t3 ∷ []))
unfolding machine
sender = (
  resting t1 (t1 ∷ []),
  ((refl, refl), (refl, refl)),
  (
    resting t2 (t1 ∷ t2 ∷ []),
    ((omega arith, omega arith, refl, (refl, refl)), refl),
    (resting t3 (t1 ∷ t2 ∷ t3 ∷ []), ((_, refl, refl, refl, refl), (refl, refl)), refl),
  ),
)

abbrev x1 : Past
x1 = record { living = resting t3 (t1 ∷ t2 ∷ t3 ∷ []); steps = sends; moves = Some (Out 0 1 ∷ []); outs = λ d. posted_to d (acts_of sends); ins = λ s. taken_of s (acts_of sends) }

kept1 : KeptBy (begun (resting start [])) x1 sends
kept1 = record { lives = sender; doings = refl; moves = (Out 0 1 ∷ [], refl, refl); outs = λ d. refl; ins = λ s. refl }

-- ---- both

items0 : AreItems (x0.living).held
unfolding machine
items0 zero i item e = absurd (no_items _ i item refl e)
items0 (suc zero) i item e = absurd (no_items _ i item refl e)
items0 (suc (suc d)) i item e = absurd (no_items _ i item refl e)

the_item : Item
the_item = record { head = head; bytes = codes "x" }

sound : (item : Item) → the_item ≡ item → IsItem item × IsSound item.head
unfolding the_item
sound item is = subst (λ x. IsItem x × IsSound x.head) is (refl, refl)

items1 : AreItems (x1.living).held
unfolding machine the_item
items1 zero zero item e = sound item (cc (e))
items1 zero (suc i) item e = absurd (cc (e))
items1 (suc zero) i item e = absurd (no_items _ i item refl e)
items1 (suc (suc d)) i item e = absurd (no_items _ i item refl e)

abbrev opening : List Living
opening = resting start [] ∷ resting start [] ∷ []

abbrev pasts : List Past
pasts = x0 ∷ x1 ∷ []

fresh_start : IsFresh (resting start []).held
unfolding machine
fresh_start = start_fresh bound.script.conf

fresh_at : (p : ℕ) (o : Living) → slice_get opening p ≡ Some o → IsFresh o.held
fresh_at zero o e = let is : resting start [] ≡ o = cc (e) in subst (λ (z : Living). IsFresh z.held) is fresh_start
fresh_at (suc zero) o e = let is : resting start [] ≡ o = cc (e) in subst (λ (z : Living). IsFresh z.held) is fresh_start
fresh_at (suc (suc p)) o e = absurd (cc (e))

kept_at : (p : ℕ) (o : Living) (x : Past) → slice_get opening p ≡ Some o → slice_get pasts p ≡ Some x → Kept (begun o) x
kept_at zero o x e f = let i : resting start [] ≡ o = cc (e) in let j : x0 ≡ x = cc (f) in subst (λ z. Kept (begun o) z) j (subst (λ z. Kept (begun z) x0) i (receives, kept0))
kept_at (suc zero) o x e f = let i : resting start [] ≡ o = cc (e) in let j : x1 ≡ x = cc (f) in subst (λ z. Kept (begun o) z) j (subst (λ z. Kept (begun z) x1) i (sends, kept1))
kept_at (suc (suc p)) o x e f = absurd (cc (e))

items_at : (p : ℕ) (x : Past) → slice_get pasts p ≡ Some x → AreItems x.living.held
items_at zero x e = let is : x0 ≡ x = cc (e) in subst (λ (z : Past). AreItems z.living.held) is items0
items_at (suc zero) x e = let is : x1 ≡ x = cc (e) in subst (λ (z : Past). AreItems z.living.held) is items1
items_at (suc (suc p)) x e = absurd (cc (e))

lane : (d s : ℕ) → IsPrefix (ins_at pasts d s) (outs_at pasts s d)
lane zero zero = (_, refl)
lane zero (suc zero) = ([], refl)
lane zero (suc (suc s)) = let e : eqb 1 (suc (suc s)) ≡ false = ne_eqb 1 (suc (suc s)) (λ x. omega (arith, x)) in rw e ([], refl)
lane (suc zero) s = (_, refl)
lane (suc (suc d)) s = (_, refl)

told : AreTold opening pasts
told = record { count = refl; fresh = fresh_at; acted = kept_at; items = items_at; merge = refl; lanes = λ s d. lane d s }

-- so all laws hold of the two
pub obeyed : IsRun (script_opening bound) opening pasts
unfolding script_opening machine
obeyed = program_obeys (script_opening bound) opening pasts refl told

-- and the receiver's entry has the byte, in front of what its buffer held
entry_row : x0.living.held.state.cq.written ≡ (let w : Written = record { call = Some 0; entry = Success (Received 1 1 (Some 5) None 1 (120 ∷ 9 ∷ 9 ∷ [])) } in w ∷ [])
unfolding machine
entry_row = refl
