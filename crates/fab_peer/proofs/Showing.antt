-- What frames join to, and that a peer's acts are steps of the machine wherever their frames are shown.
use Rattle.std.proofs.Common.{◌≡◌, ◌<◌, ◌≤◌, ◌+◌, ℕ, zero, suc, Bool, true, false, not, ◌==◌, List, [], ◌∷◌, ◌++◌, length, length-append, drop, Option, Some, None, refl, sym, ap, ◌∙◌, subst, arith, append-nil, append_assoc, get_or-set_same, get_or-set_other}
use Rattle.std.specs.Prelude.{slice_get, slice_index, slice_index_or, fold}
use Rattle.std.specs.Option.{option_map}
use Rattle.std.proofs.lemmas.Bool.{eq-eqb, eqb-true, eqb-false, lt-ltb}
use Rattle.std.proofs.lemmas.Grind.{fold-append}
use Rattle.std.proofs.lemmas.Option.{slice_get_within}
use Rattle.std.proofs.Math.Seq.{drop-append_seam}
pub use Rattle.std.proofs.lemmas.Bool.{and_from as and_true}
use Rattle.fab_base.specs.declared.frames.Frame.{Frame}
use Rattle.fab_base.specs.declared.items.Item.{Item}
use Rattle.fab_base.specs.declared.items.ItemHead.{ItemHead}
use Rattle.fab_base.specs.declared.peers.Step.{Step}
use Rattle.fab_base.specs.declared.peers.Step.TheVariants.{Do, Head, Tail, Draw, Read as ReadStep, Sent as SentStep}
pub use Rattle.fab_base.proofs.Lists.{drop_get as get_drop}
use Rattle.fab_link.specs.Joined.{is_last, grown, with_frame, Gathered, AreFirst, IsBegun}
use Rattle.fab_model.specs.State.{State, fits, accepted_for, raise}
use Rattle.fab_model.specs.Receiving.{draw_due}
use Rattle.fab_model.specs.Sending.{do_sent}
use Rattle.fab_model.specs.Arrivals.{do_head, do_draw, do_tail, made_whole}
use Rattle.fab_model.specs.Peers.{Actor, fabric, step, do_next, read_next, with_state, head_step, tail_step, sent_step, draw_step}
use Rattle.fab_model.specs.Views.{View, Walk}
use Rattle.fab_model.proofs.Grows.{step_is}
use Rattle.fab_model.proofs.Parts.{some_gives, if_gives}
use Rattle.fab_model.proofs.Passes.{head_passes, tail_passes, sent_passes, draw_passes}
use Rattle.fab_face.specs.Held.{Held, begun_of, next_frame, next_item, piece}
use Rattle.fab_face.specs.Acts.{Act, Did, Took, Posted, Drew, Had, Comes, Ends, Departs, headed, is_first, only, steps_by, steps_of, taken_by, taken_of}
use Rattle.fab_peer.specs.Turns.{Living, actor_in, Lives, LivesBy, Shows, Joins, joined_from}

-- ---- joining

-- what was whole before comes first
fold_whole : (fs : List Frame) (w : List Item) (u : Option Item)
    → fold with_frame (record { whole = w; unfinished = u }) fs ≡ record { whole = w ++ (joined_from u fs).whole; unfinished = (joined_from u fs).unfinished }
fold_whole [] w u = λ i. record { whole = sym (append-nil w) i; unfinished = u }
fold_whole (f ∷ fs) w u = by_last (λ ws x. fold_whole fs ws x) (is_last f.head) refl
  where
    by_last : ((ws : List Item) (x : Option Item) → fold with_frame (record { whole = ws; unfinished = x }) fs ≡ record { whole = ws ++ (joined_from x fs).whole; unfinished = (joined_from x fs).unfinished }) → (b : Bool) → is_last f.head ≡ b
        → fold with_frame (with_frame (record { whole = w; unfinished = u }) f) fs
        ≡ record { whole = w ++ (fold with_frame (with_frame (record { whole = []; unfinished = u }) f) fs).whole; unfinished = (fold with_frame (with_frame (record { whole = []; unfinished = u }) f) fs).unfinished }
    by_last more true is =
        let one = more (grown u f ∷ []) None in
        let two = more (w ++ grown u f ∷ []) None in
        rw is (two ∙ (λ i. record {
          whole = (append_assoc w (grown u f ∷ []) (joined_from None fs).whole ∙ ap (λ (g : Gathered). w ++ g.whole) (sym one)) i;
          unfinished = (ap (λ (g : Gathered). g.unfinished) (sym one)) i;
        }))
    by_last more false is = rw is (more w (Some (grown u f)))

pub joined_append : (u : Option Item) (xs ys : List Frame)
    → joined_from u (xs ++ ys) ≡ record { whole = (joined_from u xs).whole ++ (joined_from (joined_from u xs).unfinished ys).whole; unfinished = (joined_from (joined_from u xs).unfinished ys).unfinished }
joined_append u xs ys = fold-append with_frame (record { whole = []; unfinished = u }) xs ys ∙ fold_whole ys (joined_from u xs).whole (joined_from u xs).unfinished

pub joins_then : (h m k : Held) (xs ys : ℕ → List Frame) → Joins h m xs → Joins m k ys → Joins h k (λ s. xs s ++ ys s)
joins_then h m k xs ys a b = record {
  begun = λ s. b.begun s ∙ ap (λ u. (joined_from u (ys s)).unfinished) (a.begun s) ∙ sym (ap (λ (g : Gathered). g.unfinished) (joined_append (begun_of h s) (xs s) (ys s)));
  tails = λ s. (
      let whole = ap (λ (g : Gathered). length g.whole) (joined_append (begun_of h s) (xs s) (ys s)) in
      let count = length-append (joined_from (begun_of h s) (xs s)).whole (joined_from (joined_from (begun_of h s) (xs s)).unfinished (ys s)).whole in
      let start = ap (λ u. length (joined_from u (ys s)).whole) (a.begun s) in
      omega (arith, a.tails s, b.tails s, whole, count, start));
}

-- acts that take nothing
pub joins_same : (h k : Held) → k.begun ≡ h.begun → k.state.rx.tails ≡ h.state.rx.tails → Joins h k (λ s. [])
joins_same h k begun tails = record {
  begun = λ s. ap (λ xs. slice_index_or xs s None) begun;
  tails = λ s. (let t = ap (λ xs. slice_index xs s) tails in omega (arith, t));
}

nothing_seen : View Item
nothing_seen = record { ready = λ s. []; sent = λ s. 0; calm = false }

did_tails : (a b : Actor) → do_next a ≡ Some b → b.state.rx.tails ≡ a.state.rx.tails
unfolding fabric step
did_tails a b e = (step_is nothing_seen a b Do e).2.tails

had_tails : (a b : Actor) → read_next a ≡ Some b → b.state.rx.tails ≡ a.state.rx.tails
unfolding fabric step
had_tails a b e = (step_is nothing_seen a b ReadStep e).1.tails

pub headed_tails : (first : Bool) (s : State) (source : ℕ) (head : ItemHead) → (headed first s source head).rx.tails ≡ s.rx.tails
headed_tails true s source head = (head_passes s source head).tails
headed_tails false s source head = refl

tail_tails : (s : State) (source : ℕ) (head : ItemHead) (bytes : List ℕ) → (do_tail s source head bytes).rx.tails ≡ raise s.rx.tails source
unfolding made_whole
tail_tails s source head bytes = (tail_passes s source head bytes).tails

-- one frame taken
joins_took : (h t : Held) (source : ℕ) (f : Frame) → source < length h.begun → source < length h.state.rx.tails
    → Ends (is_last f.head) h (headed (is_first f) h.state source f.head.item) source (grown (begun_of h source) f) t → Joins h t (λ s. only (source == s) f)
joins_took h t source f in_begun in_tails ends = by_last (is_last f.head) refl ends
  where
    by_last : (b : Bool) → is_last f.head ≡ b → Ends b h (headed (is_first f) h.state source f.head.item) source (grown (begun_of h source) f) t → Joins h t (λ s. only (source == s) f)
    by_last true last (one, room, is) = record {
      begun = λ s. begun_at s (source == s) refl;
      tails = λ s. tails_at s (source == s) refl;
    }
      where
        tails_are : t.state.rx.tails ≡ raise h.state.rx.tails source
        tails_are = ap (λ (x : Held). x.state.rx.tails) is ∙ tail_tails (headed (is_first f) h.state source f.head.item) source (grown (begun_of h source) f).head (grown (begun_of h source) f).bytes ∙ ap (λ xs. raise xs source) (headed_tails (is_first f) h.state source f.head.item)

        begun_at : (s : ℕ) (b : Bool) → (source == s) ≡ b → begun_of t s ≡ (joined_from (begun_of h s) (only b f)).unfinished
        begun_at s true e =
            let same : source ≡ s = eqb-true source s e in
            subst (λ k. begun_of t k ≡ (joined_from (begun_of h k) (f ∷ [])).unfinished) same (rw last (ap (λ (x : Held). begun_of x source) is ∙ get_or-set_same h.begun source None None in_begun))
        begun_at s false e = ap (λ (x : Held). begun_of x s) is ∙ get_or-set_other h.begun source s None None (λ same. eqb-false source s e (sym same))

        tails_at : (s : ℕ) (b : Bool) → (source == s) ≡ b → slice_index t.state.rx.tails s ≡ slice_index h.state.rx.tails s + length (joined_from (begun_of h s) (only b f)).whole
        tails_at s true e =
            let same : source ≡ s = eqb-true source s e in
            subst (λ k. slice_index t.state.rx.tails k ≡ slice_index h.state.rx.tails k + length (joined_from (begun_of h k) (f ∷ [])).whole) same
            (rw last (ap (λ xs. slice_index xs source) tails_are ∙ get_or-set_same h.state.rx.tails source (slice_index h.state.rx.tails source + 1) 0 in_tails))
        tails_at s false e = let t_is = ap (λ xs. slice_index xs s) tails_are in let other = get_or-set_other h.state.rx.tails source s (slice_index h.state.rx.tails source + 1) 0 (λ same. eqb-false source s e (sym same)) in omega (arith, t_is, other)
    by_last false last is = record {
      begun = λ s. begun_at s (source == s) refl;
      tails = λ s. tails_at s (source == s) refl;
    }
      where
        tails_are : t.state.rx.tails ≡ h.state.rx.tails
        tails_are = ap (λ (x : Held). x.state.rx.tails) is ∙ headed_tails (is_first f) h.state source f.head.item

        begun_at : (s : ℕ) (b : Bool) → (source == s) ≡ b → begun_of t s ≡ (joined_from (begun_of h s) (only b f)).unfinished
        begun_at s true e =
            let same : source ≡ s = eqb-true source s e in
            subst (λ k. begun_of t k ≡ (joined_from (begun_of h k) (f ∷ [])).unfinished) same
            (rw last (ap (λ (x : Held). begun_of x source) is ∙ get_or-set_same h.begun source (Some (grown (begun_of h source) f)) None in_begun))
        begun_at s false e = ap (λ (x : Held). begun_of x s) is ∙ get_or-set_other h.begun source s (Some (grown (begun_of h source) f)) None (λ same. eqb-false source s e (sym same))

        tails_at : (s : ℕ) (b : Bool) → (source == s) ≡ b → slice_index t.state.rx.tails s ≡ slice_index h.state.rx.tails s + length (joined_from (begun_of h s) (only b f)).whole
        tails_at s true e = rw last (let t_is = ap (λ xs. slice_index xs s) tails_are in omega (arith, t_is))
        tails_at s false e = let t_is = ap (λ xs. slice_index xs s) tails_are in omega (arith, t_is)

joins_posted : (h t : Held) (last : Bool) (dest place : ℕ) → Departs last h dest place t → Joins h t (λ s. [])
joins_posted h t true dest place (room, is) = joins_same h t (ap (λ (x : Held). x.begun) is) (ap (λ (x : Held). x.state.rx.tails) is ∙ (sent_passes h.state dest).tails)
joins_posted h t false dest place is = joins_same h t (ap (λ (x : Held). x.begun) is) (ap (λ (x : Held). x.state.rx.tails) is)

pub joins_one : (act : Act) (p q : Living) → Lives p act q → Joins p.held q.held (λ s. taken_by s act)
joins_one Did p q (did, same) = joins_same p.held q.held same.1 (did_tails (actor_in p) (actor_in q) did)
joins_one Had p q (had, same) = joins_same p.held q.held same.1 (had_tails (actor_in p) (actor_in q) had)
joins_one Drew p q ((due, room, is), rest) = joins_same p.held q.held (ap (λ (x : Held). x.begun) is) (ap (λ (x : Held). x.state.rx.tails) is ∙ (draw_passes p.held.state).tails)
joins_one (Posted dest f) p q ((in_places, in_sent, next, departs), rest) = joins_posted p.held q.held (is_last f.head) dest (f.head.from + f.head.len) departs
joins_one (Took source f) p q ((in_begun, in_tails, comes, ends), rest) = joins_took p.held q.held source f in_begun in_tails ends

pub joins_by : (acts : List Act) (p q : Living) → LivesBy p acts q → Joins p.held q.held (λ s. taken_of s acts)
joins_by [] p q is = joins_same p.held q.held (ap (λ (x : Living). x.held.begun) (sym is)) (ap (λ (x : Living). x.held.state.rx.tails) (sym is))
joins_by (act ∷ acts) p q (mid, one, rest) = joins_then p.held mid.held q.held (λ s. taken_by s act) (λ s. taken_of s acts) (joins_one act p mid one) (joins_by acts mid q rest)

-- ---- what is shown

pub drop_nil : {X : Type 0} (n : ℕ) → drop {A = X} n [] ≡ []
drop_nil zero = refl
drop_nil (suc n) = refl

drop_plus : {X : Type 0} (k n : ℕ) (xs : List X) → drop (k + n) xs ≡ drop n (drop k xs)
drop_plus zero n xs = let e : 0 + n ≡ n = omega arith in rw e refl
drop_plus (suc k) n [] = let e : suc k + n ≡ suc (k + n) = omega arith in rw e (sym (drop_nil n))
drop_plus (suc k) n (x ∷ xs) = let e : suc k + n ≡ suc (k + n) = omega arith in rw e (drop_plus k n xs)

-- what is shown from the start is shown later on
pub shows_after : (v : View Item) (h m : Held) (xs ys : ℕ → List Frame) → Joins h m xs → Shows v h (λ s. xs s ++ ys s) → Shows v m ys
shows_after v h m xs ys joins shows = record {
  items = λ s. (
      let u = begun_of h s in
      let one = joined_from u (xs s) in
      let two = joined_from one.unfinished (ys s) in
      let k = slice_index h.state.rx.tails s in
      let first : AreFirst (record { whole = one.whole ++ two.whole; unfinished = two.unfinished }) (drop k (v.ready s)) = subst (λ (g : Gathered). AreFirst g (drop k (v.ready s))) (joined_append u (xs s) (ys s)) (shows.items s) in
      let left : drop (slice_index m.state.rx.tails s) (v.ready s) ≡ two.whole ++ first.0 =
      ap (λ n. drop n (v.ready s)) (joins.tails s) ∙ drop_plus k (length one.whole) (v.ready s) ∙ ap (drop (length one.whole)) (first.1 ∙ append_assoc one.whole two.whole first.0)
      ∙ drop-append_seam one.whole (two.whole ++ first.0) in
      subst (λ (b : Option Item). AreFirst (joined_from b (ys s)) (drop (slice_index m.state.rx.tails s) (v.ready s))) (sym (joins.begun s)) (first.0, left, first.2));
  sent = λ s. (
      let whole = ap (λ (g : Gathered). length g.whole) (joined_append (begun_of h s) (xs s) (ys s)) in
      let count = length-append (joined_from (begun_of h s) (xs s)).whole (joined_from (joined_from (begun_of h s) (xs s)).unfinished (ys s)).whole in
      let start = ap (λ u. length (joined_from u (ys s)).whole) (joins.begun s) in
      let sent = shows.sent s in
      omega (arith, joins.tails s, whole, count, start, sent));
}

-- the item that a last frame makes whole is the next one that its sender accepted, and it is transmitted
pub whole_item : (v : View Item) (h : Held) (source : ℕ) (f : Frame) (ys : List Frame) → is_last f.head ≡ true → AreFirst (joined_from (begun_of h source) (f ∷ ys)) (drop (slice_index h.state.rx.tails source) (v.ready source))
    → slice_index h.state.rx.tails source + length (joined_from (begun_of h source) (f ∷ ys)).whole ≤ v.sent source
    → (slice_get (v.ready source) (slice_index h.state.rx.tails source) ≡ Some (grown (begun_of h source) f)) × (slice_index h.state.rx.tails source < v.sent source)
whole_item v h source f ys last items sent =
    let g = grown (begun_of h source) f in
    let is : joined_from (begun_of h source) (f ∷ ys) ≡ record { whole = (g ∷ []) ++ (joined_from None ys).whole; unfinished = (joined_from None ys).unfinished } = rw last (fold_whole ys (g ∷ []) None) in
    let first = subst (λ (x : Gathered). AreFirst x (drop (slice_index h.state.rx.tails source) (v.ready source))) is items in
    let count = ap (λ (x : Gathered). length x.whole) is in
    let one = length-append (g ∷ []) (joined_from None ys).whole in
    (get_drop (v.ready source) (slice_index h.state.rx.tails source) g ((joined_from None ys).whole ++ first.0) first.1, omega (arith, sent, count, one))

-- the frames that are shown of the source itself
at_source : (v : View Item) (h : Held) (source : ℕ) (f : Frame) (acts : List Act) → Shows v h (λ s. taken_by s (Took source f) ++ taken_of s acts)
    → AreFirst (joined_from (begun_of h source) (f ∷ taken_of source acts)) (drop (slice_index h.state.rx.tails source) (v.ready source))
    × (slice_index h.state.rx.tails source + length (joined_from (begun_of h source) (f ∷ taken_of source acts)).whole ≤ v.sent source)
at_source v h source f acts shows =
    let same : (source == source) ≡ true = eq-eqb source source refl in
    let is : only (source == source) f ++ taken_of source acts ≡ f ∷ taken_of source acts = rw same refl in (
      subst (λ fs. AreFirst (joined_from (begun_of h source) fs) (drop (slice_index h.state.rx.tails source) (v.ready source))) is (shows.items source),
      subst (λ fs. slice_index h.state.rx.tails source + length (joined_from (begun_of h source) fs).whole ≤ v.sent source) is (shows.sent source),
    )

-- what a frame that is not the last one of its item leaves
pub begun_after : (h t : Held) (source : ℕ) (f : Frame) → source < length h.begun → is_last f.head ≡ false
    → Ends (is_last f.head) h (headed (is_first f) h.state source f.head.item) source (grown (begun_of h source) f) t
    → (begun_of t source ≡ Some (grown (begun_of h source) f)) × (t.state ≡ headed (is_first f) h.state source f.head.item)
begun_after h t source f in_begun last ends =
    let is = rw last at ends in
    (ap (λ (x : Held). begun_of x source) is ∙ get_or-set_same h.begun source (Some (grown (begun_of h source) f)) None in_begun, ap (λ (x : Held). x.state) is)

-- an item that is begun is the next one that its sender accepted
begun_item : (v : View Item) (acts : List Act) (p q : Living) (source : ℕ) (g : Item) → LivesBy p acts q → Shows v p.held (λ s. taken_of s acts) → begun_of p.held source ≡ Some g
    → (item : Item) × (slice_get (v.ready source) (slice_index p.held.state.rx.tails source) ≡ Some item) × (item.head ≡ g.head)
begun_item v [] p q source g lives shows begun =
    let first = shows.items source in
    let next = subst (λ (u : Option Item). IsBegun u first.0) begun first.2 in
    (next.0, get_drop (v.ready source) (slice_index p.held.state.rx.tails source) next.0 next.1 (first.1 ∙ next.2), sym next.3)
begun_item v (act ∷ acts) p q source g (mid, one, rest) shows begun = by_act (λ x shown has. begun_item v acts mid q source x rest shown has) act one shows
  where
    -- an act that takes nothing of the source
    through : ((x : Item) → Shows v mid.held (λ s. taken_of s acts) → begun_of mid.held source ≡ Some x → (item : Item) × (slice_get (v.ready source) (slice_index mid.held.state.rx.tails source) ≡ Some item) × (item.head ≡ x.head)) → (x : Act) → Lives p x mid → Shows v p.held (λ s. taken_by s x ++ taken_of s acts) → taken_by source x ≡ []
        → (item : Item) × (slice_get (v.ready source) (slice_index p.held.state.rx.tails source) ≡ Some item) × (item.head ≡ g.head)
    through more x lives shown none =
        let j = joins_one x p mid lives in
        let b : begun_of mid.held source ≡ Some g = j.begun source ∙ ap (λ fs. (joined_from (begun_of p.held source) fs).unfinished) none ∙ begun in
        let t : slice_index mid.held.state.rx.tails source ≡ slice_index p.held.state.rx.tails source =
        (let at_mid = j.tails source in let w = ap (λ fs. length (joined_from (begun_of p.held source) fs).whole) none in omega (arith, at_mid, w)) in
        let found = more g (shows_after v p.held mid.held (λ s. taken_by s x) (λ s. taken_of s acts) j shown) b in
        (found.0, ap (λ n. slice_get (v.ready source) n) (sym t) ∙ found.1, found.2)

    -- a frame of the source
    of_source : ((x : Item) → Shows v mid.held (λ s. taken_of s acts) → begun_of mid.held source ≡ Some x → (item : Item) × (slice_get (v.ready source) (slice_index mid.held.state.rx.tails source) ≡ Some item) × (item.head ≡ x.head)) → (f : Frame) → Lives p (Took source f) mid → Shows v p.held (λ s. taken_by s (Took source f) ++ taken_of s acts)
        → (item : Item) × (slice_get (v.ready source) (slice_index p.held.state.rx.tails source) ≡ Some item) × (item.head ≡ g.head)
    of_source more f ((in_begun, in_tails, comes, ends), same) shown = by_last (is_last f.head) refl
      where
        head_is : (b : Bool) → Comes b p.held source f.head.item → f.head.item ≡ g.head
        head_is true (none, even, calm) = (let no_way : None ≡ Some g = sym none ∙ begun in absurd (cc))
        head_is false (item, has, head) = (let is : Some item ≡ Some g = sym has ∙ begun in let it : item ≡ g = cc in sym head ∙ ap (λ (x : Item). x.head) it)

        by_last : (b : Bool) → is_last f.head ≡ b → (item : Item) × (slice_get (v.ready source) (slice_index p.held.state.rx.tails source) ≡ Some item) × (item.head ≡ g.head)
        by_last true last =
            let here = at_source v p.held source f acts shown in
            (grown (begun_of p.held source) f, (whole_item v p.held source f (taken_of source acts) last here.0 here.1).0, head_is (is_first f) comes)
        by_last false last =
            let after = begun_after p.held mid.held source f in_begun last ends in
            let t : mid.held.state.rx.tails ≡ p.held.state.rx.tails = ap (λ (x : State). x.rx.tails) after.1 ∙ headed_tails (is_first f) p.held.state source f.head.item in
            let j = joins_one (Took source f) p mid ((in_begun, in_tails, comes, ends), same) in
            let found = more (grown (begun_of p.held source) f) (shows_after v p.held mid.held (λ s. taken_by s (Took source f)) (λ s. taken_of s acts) j shown) after.0 in
            (found.0, ap (λ xs. slice_get (v.ready source) (slice_index xs source)) (sym t) ∙ found.1, found.2 ∙ head_is (is_first f) comes)

    by_act : ((x : Item) → Shows v mid.held (λ s. taken_of s acts) → begun_of mid.held source ≡ Some x → (item : Item) × (slice_get (v.ready source) (slice_index mid.held.state.rx.tails source) ≡ Some item) × (item.head ≡ x.head)) → (x : Act) → Lives p x mid → Shows v p.held (λ s. taken_by s x ++ taken_of s acts) → (item : Item) × (slice_get (v.ready source) (slice_index p.held.state.rx.tails source) ≡ Some item) × (item.head ≡ g.head)
    by_act more Did lives shown = through more Did lives shown refl
    by_act more Had lives shown = through more Had lives shown refl
    by_act more Drew lives shown = through more Drew lives shown refl
    by_act more (Posted dest f) lives shown = through more (Posted dest f) lives shown refl
    by_act more (Took s f) lives shown = by_peer (s == source) refl
      where
        by_peer : (b : Bool) → (s == source) ≡ b → (item : Item) × (slice_get (v.ready source) (slice_index p.held.state.rx.tails source) ≡ Some item) × (item.head ≡ g.head)
        by_peer true e =
            let same : s ≡ source = eqb-true s source e in
            of_source more f (subst (λ k. Lives p (Took k f) mid) same lives) (subst (λ k. Shows v p.held (λ s. taken_by s (Took k f) ++ taken_of s acts)) same shown)
        by_peer false e = through more (Took s f) lives shown (rw e refl)

-- ---- steps

-- the peer after a move
actor_is : (p q : Living) (s : State) → q ≡ record p { held = q.held } → q.held.state ≡ s → with_state (actor_in p) s ≡ actor_in q
actor_is p q s rest is = λ i. record { state = sym is i; lines = ap (λ (x : Living). x.lines) (sym rest) i; results = ap (λ (x : Living). x.results) (sym rest) i; kept = ap (λ (x : Living). x.kept) (sym rest) i }

pub walk_append : (v : View Item) (a b c : Actor) (xs ys : List Step) → Walk fabric v a xs b → Walk fabric v b ys c → Walk fabric v a (xs ++ ys) c
walk_append v a b c [] ys first then = subst (λ x. Walk fabric v x ys c) (sym first) then
walk_append v a b c (x ∷ xs) ys (next, one, rest) then = (next, one, walk_append v next b c xs ys rest then)

head_walk : (v : View Item) (a : Actor) (source : ℕ) (head : ItemHead) (item : Item) → slice_get (v.ready source) (slice_index a.state.rx.tails source) ≡ Some item → item.head ≡ head
    → slice_index a.state.rx.heads source ≡ slice_index a.state.rx.tails source → draw_due a.state.rx ≡ false
    → fabric.step v a (Head source) ≡ Some (with_state a (do_head a.state source head))
unfolding fabric step head_step
head_walk v a source head item found is even calm =
    some_gives (slice_get (v.ready source) (slice_index a.state.rx.heads source)) _ item _ (ap (λ n. slice_get (v.ready source) n) even ∙ found)
    (if_gives _ _ _ (and_true _ _ (eq-eqb _ _ even) (ap not calm)) (ap (λ x. with_state a (do_head a.state source x)) is))

tail_walk : (v : View Item) (a : Actor) (source : ℕ) (item : Item) → slice_get (v.ready source) (slice_index a.state.rx.tails source) ≡ Some item → slice_index a.state.rx.tails source < v.sent source
    → slice_index a.state.rx.heads source ≡ slice_index a.state.rx.tails source + 1 → fits (do_tail a.state source item.head item.bytes).cq ≡ true
    → fabric.step v a (Tail source) ≡ Some (with_state a (do_tail a.state source item.head item.bytes))
unfolding fabric step tail_step
tail_walk v a source item found sent one room =
    some_gives (slice_get (v.ready source) (slice_index a.state.rx.tails source)) _ item _ found
    (if_gives _ _ _ (and_true _ _ (and_true _ _ (eq-eqb _ _ one) (lt-ltb _ _ sent)) room) refl)

sent_walk : (v : View Item) (a : Actor) (t : ℕ) → slice_index a.state.tx.sent t < length (accepted_for a.state.tx t) → fits (do_sent a.state t).cq ≡ true
    → fabric.step v a (SentStep t) ≡ Some (with_state a (do_sent a.state t))
unfolding fabric step sent_step
sent_walk v a t less room = if_gives _ _ _ (and_true _ _ (lt-ltb _ _ less) room) refl

draw_walk : (v : View Item) (a : Actor) → draw_due a.state.rx ≡ true → fits (do_draw a.state).cq ≡ true → fabric.step v a Draw ≡ Some (with_state a (do_draw a.state))
unfolding fabric step draw_step
draw_walk v a due room = if_gives _ _ _ (and_true _ _ due room) refl

did_walk : (v : View Item) (a b : Actor) → do_next a ≡ Some b → fabric.step v a Do ≡ Some b
unfolding fabric step
did_walk v a b e = e

pub had_walk : (v : View Item) (a b : Actor) → read_next a ≡ Some b → fabric.step v a ReadStep ≡ Some b
unfolding fabric step
had_walk v a b e = e

-- a frame that may go next is of an item that is not transmitted
pub is_waiting : (h : Held) (dest : ℕ) (f : Frame) → next_frame h dest ≡ Some f → slice_index h.state.tx.sent dest < length (accepted_for h.state.tx dest)
is_waiting h dest f next = by_item (next_item h.state dest) refl next
  where
    by_item : (o : Option Item) → next_item h.state dest ≡ o → option_map (λ item. piece item (slice_index h.places dest)) o ≡ Some f → slice_index h.state.tx.sent dest < length (accepted_for h.state.tx dest)
    by_item None there e = absurd (cc)
    by_item (Some item) there e = slice_get_within (accepted_for h.state.tx dest) (slice_index h.state.tx.sent dest) item there

posted_walk : (v : View Item) (p q : Living) (dest : ℕ) (f : Frame) (last : Bool) → next_frame p.held dest ≡ Some f → Departs last p.held dest (f.head.from + f.head.len) q.held → q ≡ record p { held = q.held }
    → Walk fabric v (actor_in p) (only last (SentStep dest)) (actor_in q)
posted_walk v p q dest f true next (room, is) rest =
    (actor_in q, sent_walk v (actor_in p) dest (is_waiting p.held dest f next) room ∙ ap Some (actor_is p q (do_sent p.held.state dest) rest (ap (λ (x : Held). x.state) is)), refl)
posted_walk v p q dest f false next is rest = actor_is p q p.held.state rest (ap (λ (x : Held). x.state) is)

took_walk : (v : View Item) (p mid q : Living) (source : ℕ) (f : Frame) (acts : List Act) → Lives p (Took source f) mid → LivesBy mid acts q → Shows v p.held (λ s. taken_by s (Took source f) ++ taken_of s acts)
    → Walk fabric v (actor_in p) (only (is_first f) (Head source) ++ only (is_last f.head) (Tail source)) (actor_in mid)
took_walk v p mid q source f acts ((in_begun, in_tails, comes, ends), same) rest shown =
    walk_append v (actor_in p) (with_state (actor_in p) s1) (actor_in mid) (only (is_first f) (Head source)) (only (is_last f.head) (Tail source)) (by_first (is_first f) refl comes) (by_last (is_last f.head) refl ends)
  where
    s1 : State
    s1 = headed (is_first f) p.held.state source f.head.item

    here : AreFirst (joined_from (begun_of p.held source) (f ∷ taken_of source acts)) (drop (slice_index p.held.state.rx.tails source) (v.ready source))
        × (slice_index p.held.state.rx.tails source + length (joined_from (begun_of p.held source) (f ∷ taken_of source acts)).whole ≤ v.sent source)
    here = at_source v p.held source f acts shown

    -- the item of the frame
    item_is : (b : Bool) → is_last f.head ≡ b → (item : Item) × (slice_get (v.ready source) (slice_index p.held.state.rx.tails source) ≡ Some item) × (item.head ≡ f.head.item)
    item_is true last = (grown (begun_of p.held source) f, (whole_item v p.held source f (taken_of source acts) last here.0 here.1).0, refl)
    item_is false last =
        let after = begun_after p.held mid.held source f in_begun last ends in
        let t : mid.held.state.rx.tails ≡ p.held.state.rx.tails = ap (λ (x : State). x.rx.tails) after.1 ∙ headed_tails (is_first f) p.held.state source f.head.item in
        let j = joins_one (Took source f) p mid ((in_begun, in_tails, comes, ends), same) in
        let found = begun_item v acts mid q source (grown (begun_of p.held source) f) rest (shows_after v p.held mid.held (λ s. taken_by s (Took source f)) (λ s. taken_of s acts) j shown) after.0 in
        (found.0, ap (λ xs. slice_get (v.ready source) (slice_index xs source)) (sym t) ∙ found.1, found.2)

    by_first : (b : Bool) → is_first f ≡ b → Comes b p.held source f.head.item → Walk fabric v (actor_in p) (only b (Head source)) (with_state (actor_in p) (headed (is_first f) p.held.state source f.head.item))
    by_first true is (none, even, calm) =
        let item = item_is (is_last f.head) refl in
        (_, head_walk v (actor_in p) source f.head.item item.0 item.1 item.2 even calm, rw is refl)
    by_first false is from = rw is refl

    by_last : (b : Bool) → is_last f.head ≡ b → Ends b p.held (headed (is_first f) p.held.state source f.head.item) source (grown (begun_of p.held source) f) mid.held
        → Walk fabric v (with_state (actor_in p) (headed (is_first f) p.held.state source f.head.item)) (only b (Tail source)) (actor_in mid)
    by_last true last (one, room, is) =
        let item = grown (begun_of p.held source) f in
        let whole = whole_item v p.held source f (taken_of source acts) last here.0 here.1 in
        let t : slice_index (headed (is_first f) p.held.state source f.head.item).rx.tails source ≡ slice_index p.held.state.rx.tails source = ap (λ xs. slice_index xs source) (headed_tails (is_first f) p.held.state source f.head.item) in (
          actor_in mid,
          tail_walk v (with_state (actor_in p) (headed (is_first f) p.held.state source f.head.item)) source item (ap (λ n. slice_get (v.ready source) n) t ∙ whole.0) (omega (arith, t, whole.1)) one room
              ∙ ap Some (actor_is p mid _ same (ap (λ (x : Held). x.state) is)),
          refl,
        )
    by_last false last is = actor_is p mid _ same (ap (λ (x : Held). x.state) is)

one_walk : (v : View Item) (act : Act) (acts : List Act) (p mid q : Living) → Lives p act mid → LivesBy mid acts q → Shows v p.held (λ s. taken_by s act ++ taken_of s acts) → Walk fabric v (actor_in p) (steps_by act) (actor_in mid)
one_walk v Did acts p mid q (did, parts) rest shown = (actor_in mid, did_walk v (actor_in p) (actor_in mid) did, refl)
one_walk v Had acts p mid q (had, parts) rest shown = (actor_in mid, had_walk v (actor_in p) (actor_in mid) had, refl)
one_walk v Drew acts p mid q ((due, room, is), same) rest shown =
    (actor_in mid, draw_walk v (actor_in p) due room ∙ ap Some (actor_is p mid (do_draw p.held.state) same (ap (λ (x : Held). x.state) is)), refl)
one_walk v (Posted dest f) acts p mid q ((in_places, in_sent, next, departs), same) rest shown = posted_walk v p mid dest f (is_last f.head) next departs same
one_walk v (Took source f) acts p mid q lives rest shown = took_walk v p mid q source f acts lives rest shown

-- wherever the frames taken are shown, the acts are steps of the machine
pub walk_shown : (v : View Item) (acts : List Act) (p q : Living) → LivesBy p acts q → Shows v p.held (λ s. taken_of s acts) → Walk fabric v (actor_in p) (steps_of acts) (actor_in q)
walk_shown v [] p q is shows = ap actor_in is
walk_shown v (act ∷ acts) p q (mid, one, rest) shows =
    walk_append v (actor_in p) (actor_in mid) (actor_in q) (steps_by act) (steps_of acts) (one_walk v act acts p mid q one rest shows)
    (walk_shown v acts mid q rest (shows_after v p.held mid.held (λ s. taken_by s act) (λ s. taken_of s acts) (joins_one act p mid one) shows))
