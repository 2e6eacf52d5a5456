-- What a thread does with its endpoint is deeds of the program's machine, wherever the frames that it takes are shown.
use Rattle.std.proofs.Common.{◌≡◌, ◌<◌, ◌≤◌, ◌+◌, ℕ, Bool, true, false, not, ◌==◌, List, [], ◌∷◌, ◌++◌, length, drop, Some, refl, sym, ap, ◌∙◌, subst, arith, append-nil, append_assoc}
use Rattle.std.specs.Prelude.{slice_get, slice_index}
use Rattle.std.proofs.lemmas.Bool.{eq-eqb, lt-ltb}
use Rattle.fab_base.specs.declared.frames.Frame.{Frame}
use Rattle.fab_base.specs.declared.items.Item.{Item}
use Rattle.fab_base.specs.declared.items.ItemHead.{ItemHead}
use Rattle.fab_link.specs.Joined.{is_last, grown, AreFirst}
use Rattle.fab_model.specs.State.{State, fits, accepted_for}
use Rattle.fab_model.specs.Receiving.{draw_due}
use Rattle.fab_model.specs.Sending.{do_sent}
use Rattle.fab_model.specs.Arrivals.{do_head, do_draw, do_tail}
use Rattle.fab_model.specs.Views.{View, Walk}
use Rattle.fab_model.proofs.Parts.{some_gives}
use Rattle.fab_model.specs.Peers.{reading, unread}
use Rattle.fab_base.specs.declared.operations.Written.{Written}
use Rattle.fab_base.specs.declared.peers.LineResult.{LineResult}
use Rattle.fab_laws.proofs.Programs.{where_gives}
use Rattle.fab_laws.proofs.Recorded.{lift}
use Rattle.fab_face.specs.Held.{Held, begun_of, next_frame}
use Rattle.fab_face.specs.Acts.{Comes, Ends, Departs, headed, is_first, only}
use Rattle.fab_peer.specs.Turns.{Shows, joined_from}
use Rattle.fab_peer.proofs.Showing.{headed_tails, get_drop, whole_item, and_true, is_waiting}
use Rattle.fab_face.specs.Acts as face
use Rattle.fab_doings.specs.Doings.{Grew, Own, Owns, Calls, Writes, act_of, deed_of, Did, Does, Doing, Drew, Had, Living, Posted, Took, deeds_by, peer_in}
use Rattle.fab_laws.specs.Recorded.{Recorded, recorded}
use Rattle.fab_laws.specs.Programs.{deed, head_deed, tail_deed, sent_deed, draw_deed, read_deed, peer, Deed, Draw, Head, Peer, Tail, program}

-- ---- what is shown

-- what is shown of a source when one frame of it is taken: the item that the frame is of, and that it is transmitted where this is its last frame
module _ (v : View Item) (h : Held) (source : ℕ) (f : Frame) (shows : Shows v h (λ s. face.taken_of s (face.Took source f ∷ []))) where
  taken_is : face.taken_of source (face.Took source f ∷ []) ≡ f ∷ []
  taken_is = let same : (source == source) ≡ true = eq-eqb source source refl in rw same refl

  first : AreFirst (joined_from (begun_of h source) (f ∷ [])) (drop (slice_index h.state.rx.tails source) (v.ready source))
  first = subst (λ fs. AreFirst (joined_from (begun_of h source) fs) (drop (slice_index h.state.rx.tails source) (v.ready source))) taken_is (shows.items source)

  pub whole_of : is_last f.head ≡ true → (slice_get (v.ready source) (slice_index h.state.rx.tails source) ≡ Some (grown (begun_of h source) f)) × (slice_index h.state.rx.tails source < v.sent source)
  whole_of last = whole_item v h source f [] last first (subst (λ fs. slice_index h.state.rx.tails source + length (joined_from (begun_of h source) fs).whole ≤ v.sent source) taken_is (shows.sent source))

  pub item_of : (b : Bool) → is_last f.head ≡ b → (item : Item) × (slice_get (v.ready source) (slice_index h.state.rx.tails source) ≡ Some item) × (item.head ≡ f.head.item)
  item_of true last = (grown (begun_of h source) f, (whole_of last).0, refl)
  item_of false more =
      let one : joined_from (begun_of h source) (f ∷ []) ≡ record { whole = []; unfinished = Some (grown (begun_of h source) f) } = rw more refl in
      let begun = subst (λ g. AreFirst g (drop (slice_index h.state.rx.tails source) (v.ready source))) one first in
      let next = begun.2 in
      (next.0, get_drop (v.ready source) (slice_index h.state.rx.tails source) next.0 next.1 (begun.1 ∙ next.2), sym next.3)

-- ---- steps

-- the states are the same
state_is : (s t : State) → t ≡ s → Some (peer s) ≡ Some (peer t)
state_is s t e = ap (λ u. Some (peer u)) (sym e)

-- nothing was done
still : (a b : Recorded) → b.state ≡ a.state → b.past ≡ a.past ++ [] → a ≡ b
still a b same past = λ i. record { state = sym same i; past = sym (past ∙ append-nil a.past) i }

pub walk_append : (v : View Item) (a b c : Recorded) (xs ys : List Deed) → Walk recorded v a xs b → Walk recorded v b ys c → Walk recorded v a (xs ++ ys) c
walk_append v a b c [] ys first then = subst (λ x. Walk recorded v x ys c) (sym first) then
walk_append v a b c (x ∷ xs) ys (next, one, rest) then = (next, one, walk_append v next b c xs ys rest then)

head_walk : (v : View Item) (a : Peer) (source : ℕ) (head : ItemHead) (item : Item) → slice_get (v.ready source) (slice_index a.state.rx.tails source) ≡ Some item → item.head ≡ head
    → slice_index a.state.rx.heads source ≡ slice_index a.state.rx.tails source → draw_due a.state.rx ≡ false
    → program.step v a (Head source) ≡ Some (peer (do_head a.state source head))
unfolding program deed head_deed
head_walk v a source head item found is even calm =
    some_gives (slice_get (v.ready source) (slice_index a.state.rx.heads source)) _ item _ (ap (λ n. slice_get (v.ready source) n) even ∙ found)
    (where_gives _ _ _ (and_true _ _ (eq-eqb _ _ even) (ap not calm)) (ap (λ x. peer (do_head a.state source x)) is))

tail_walk : (v : View Item) (a : Peer) (source : ℕ) (item : Item) → slice_get (v.ready source) (slice_index a.state.rx.tails source) ≡ Some item → slice_index a.state.rx.tails source < v.sent source
    → slice_index a.state.rx.heads source ≡ slice_index a.state.rx.tails source + 1 → fits (do_tail a.state source item.head item.bytes).cq ≡ true
    → program.step v a (Tail source) ≡ Some (peer (do_tail a.state source item.head item.bytes))
unfolding program deed tail_deed
tail_walk v a source item found sent one room =
    some_gives (slice_get (v.ready source) (slice_index a.state.rx.tails source)) _ item _ found
    (where_gives _ _ _ (and_true _ _ (and_true _ _ (eq-eqb _ _ one) (lt-ltb _ _ sent)) room) refl)

sent_walk : (v : View Item) (a : Peer) (t : ℕ) → slice_index a.state.tx.sent t < length (accepted_for a.state.tx t) → fits (do_sent a.state t).cq ≡ true
    → program.step v a (Deed.Sent t) ≡ Some (peer (do_sent a.state t))
unfolding program deed sent_deed
sent_walk v a t less room = where_gives _ _ _ (and_true _ _ (lt-ltb _ _ less) room) refl

draw_walk : (v : View Item) (a : Peer) → draw_due a.state.rx ≡ true → fits (do_draw a.state).cq ≡ true → program.step v a Draw ≡ Some (peer (do_draw a.state))
unfolding program deed draw_deed
draw_walk v a due room = where_gives _ _ _ (and_true _ _ due room) refl

did_walk : (v : View Item) (own : Own) (a b : Peer) → Owns own a.state b.state → program.step v a (deed_of own) ≡ Some b
unfolding program deed
did_walk v (Calls call answer) a b e = ap (λ (r : LineResult × State). Some (peer r.1)) e
did_walk v (Writes counters) a b e = ap (λ s. Some (peer s)) (sym e)

had_walk : (v : View Item) (a b : Peer) (w : Written) → unread a.state.cq ≡ Some w → b.state ≡ reading a.state → program.step v a Deed.Read ≡ Some b
unfolding program deed read_deed
had_walk v a b w has e = some_gives (unread a.state.cq) _ w b has (ap (λ s. Some (peer s)) (sym e))

posted_walk : (v : View Item) (p q : Living) (dest : ℕ) (f : Frame) (last : Bool) → next_frame p.held dest ≡ Some f → Departs last p.held dest (f.head.from + f.head.len) q.held → Grew p q (only last q.held.state)
    → Walk recorded v (peer_in p) (only last (Deed.Sent dest)) (peer_in q)
posted_walk v p q dest f true next (room, is) grew =
    (peer_in q, lift v (peer_in p) (peer_in q) (Deed.Sent dest) (sent_walk v (peer p.held.state) dest (is_waiting p.held dest f next) room ∙ state_is (do_sent p.held.state dest) q.held.state (ap (λ (x : Held). x.state) is)) grew, refl)
posted_walk v p q dest f false next is grew = still (peer_in p) (peer_in q) (ap (λ (x : Held). x.state) is) grew

took_walk : (v : View Item) (p q : Living) (source : ℕ) (f : Frame) → Does p (Took source f) q → Shows v p.held (λ s. face.taken_of s (face.Took source f ∷ []))
    → Walk recorded v (peer_in p) (only (is_first f) (Head source) ++ only (is_last f.head) (Tail source)) (peer_in q)
took_walk v p q source f ((in_begun, in_tails, comes, ends), grew) shows =
    walk_append v (peer_in p) half (peer_in q) (only (is_first f) (Head source)) (only (is_last f.head) (Tail source)) (by_first (is_first f) refl comes) (by_last (is_last f.head) refl ends)
  where
    half : Recorded
    half = record { state = headed (is_first f) p.held.state source f.head.item; past = p.past ++ only (is_first f) (headed (is_first f) p.held.state source f.head.item) }

    by_first : (b : Bool) → is_first f ≡ b → Comes b p.held source f.head.item → Walk recorded v (peer_in p) (only b (Head source)) (record { state = headed (is_first f) p.held.state source f.head.item; past = p.past ++ only (is_first f) (headed (is_first f) p.held.state source f.head.item) })
    by_first true is (none, even, calm) =
        let item = item_of v p.held source f shows (is_last f.head) refl in
        let next : Recorded = record { state = do_head p.held.state source f.head.item; past = p.past ++ do_head p.held.state source f.head.item ∷ [] } in
        (next, lift v (peer_in p) next (Head source) (head_walk v (peer p.held.state) source f.head.item item.0 item.1 item.2 even calm) refl, rw is refl)
    by_first false is from = rw is (still (peer_in p) (record { state = p.held.state; past = p.past ++ [] }) refl refl)

    by_last : (b : Bool) → is_last f.head ≡ b → Ends b p.held (headed (is_first f) p.held.state source f.head.item) source (grown (begun_of p.held source) f) q.held
        → Walk recorded v (record { state = headed (is_first f) p.held.state source f.head.item; past = p.past ++ only (is_first f) (headed (is_first f) p.held.state source f.head.item) }) (only b (Tail source)) (peer_in q)
    by_last true last (one, room, is) =
        let item = grown (begun_of p.held source) f in
        let h : State = headed (is_first f) p.held.state source f.head.item in
        let whole = whole_of v p.held source f shows last in
        let t : slice_index (headed (is_first f) p.held.state source f.head.item).rx.tails source ≡ slice_index p.held.state.rx.tails source = ap (λ xs. slice_index xs source) (headed_tails (is_first f) p.held.state source f.head.item) in
        let more : q.past ≡ (p.past ++ only (is_first f) h) ++ q.held.state ∷ [] = grew ∙ ap (λ (b : Bool). p.past ++ (only (is_first f) h ++ only b q.held.state)) last ∙ sym (append_assoc p.past (only (is_first f) h) (q.held.state ∷ [])) in (
          peer_in q,
          lift v (record { state = h; past = p.past ++ only (is_first f) h }) (peer_in q) (Tail source)
              (tail_walk v (peer h) source item (ap (λ n. slice_get (v.ready source) n) t ∙ whole.0) (omega (arith, t, whole.1)) one room
              ∙ state_is (do_tail h source item.head item.bytes) q.held.state (ap (λ (x : Held). x.state) is)) more,
          refl,
        )
    by_last false last is =
        let h : State = headed (is_first f) p.held.state source f.head.item in
        still (record { state = h; past = p.past ++ only (is_first f) h }) (peer_in q) (ap (λ (x : Held). x.state) is)
        (grew ∙ ap (λ (b : Bool). p.past ++ (only (is_first f) h ++ only b q.held.state)) last ∙ sym (append_assoc p.past (only (is_first f) h) []))

-- wherever the frame that it takes is shown, a doing is deeds of the machine
pub walk_one : (v : View Item) (p q : Living) (x : Doing) → Does p x q → Shows v p.held (λ s. face.taken_of s (act_of x ∷ [])) → Walk recorded v (peer_in p) (deeds_by x) (peer_in q)
walk_one v p q (Did own) ((did, grew), parts) shows = (peer_in q, lift v (peer_in p) (peer_in q) (deed_of own) (did_walk v own (peer p.held.state) (peer q.held.state) did) grew, refl)
walk_one v p q (Had entry) ((w, first, same, is, grew), parts) shows = (peer_in q, lift v (peer_in p) (peer_in q) Deed.Read (had_walk v (peer p.held.state) (peer q.held.state) w first is) grew, refl)
walk_one v p q Drew ((due, room, is), grew) shows =
    (peer_in q, lift v (peer_in p) (peer_in q) Draw (draw_walk v (peer p.held.state) due room ∙ state_is (do_draw p.held.state) q.held.state (ap (λ (x : Held). x.state) is)) grew, refl)
walk_one v p q (Posted dest f) ((in_places, in_sent, next, departs), grew) shows = posted_walk v p q dest f (is_last f.head) next departs grew
walk_one v p q (Took source f) does shows = took_walk v p q source f does shows
