-- What the frames posted join to: the items that were accepted, in order.
use Rattle.std.proofs.Common.{◌≡◌, ◌≢◌, ◌<◌, ◌≤◌, ◌+◌, ◌-◌, ◌⊎◌, inl, inr, min, ℕ, zero, suc, Bool, true, false, ◌==◌, List, [], ◌∷◌, ◌++◌, length, length-append, take, Option, Some, None, refl, sym, ap, ◌∙◌, subst, arith, get_or-set_same, get_or-set_other}
use Rattle.std.specs.Prelude.{slice_get, slice_index, slice_set}
use Rattle.std.specs.Option.{option_map}
use Rattle.std.proofs.Math.Seq.{take-add}
use Rattle.std.proofs.lemmas.Bool.{eqb-true, eqb-false}
use Rattle.fab_base.specs.declared.frames.Frame.{Frame}
use Rattle.fab_base.specs.declared.items.Item.{Item}
use Rattle.fab_base.specs.declared.items.ItemHead.{ItemHead}
use Rattle.fab_base.specs.declared.peers.Step.TheVariants.{Do, Read as ReadStep}
use Rattle.fab_link.specs.Cut.{IsItem}
use Rattle.fab_link.specs.Joined.{is_last, grown, bytes_of, Gathered}
use Rattle.fab_model.specs.State.{State, accepted_for, raise}
use Rattle.fab_model.specs.Sending.{do_sent, transmitting}
use Rattle.fab_model.specs.Arrivals.{do_draw, do_tail}
use Rattle.fab_model.specs.Peers.{Actor, fabric, step, do_next, read_next}
use Rattle.fab_model.specs.Views.{View, IsPrefixOf}
use Rattle.fab_model.proofs.Views.{prefix_self, prefix_prefix}
use Rattle.fab_model.proofs.Grows.{step_is}
use Rattle.fab_model.proofs.Parts.{prefix_get}
use Rattle.fab_model.proofs.Passes.{Passes, head_passes, tail_passes, sent_passes, draw_passes}
pub use Rattle.fab_model.proofs.Unchanged.{sent_raised}
use Rattle.fab_face.specs.Held.{Held, next_frame, next_item, piece, IsOut, IsOutAt, AreItems}
use Rattle.fab_face.specs.Acts.{Act, Did, Took, Posted, Drew, Had, Ends, Departs, headed, is_first, only, posted_by, posted_to}
use Rattle.fab_peer.specs.Turns.{Living, actor_in, Lives, LivesBy, Transmits, joined_from, part_at, posted_part}
use Rattle.fab_peer.proofs.Showing.{joined_append}

-- ---- what other acts leave

-- what is accepted only grows, and nothing is posted or transmitted
pub record Keeps (h k : Held) : Type 0 where
  pub ready : (d : ℕ) → IsPrefixOf (accepted_for h.state.tx d) (accepted_for k.state.tx d)
  pub sent : k.state.tx.sent ≡ h.state.tx.sent
  pub places : k.places ≡ h.places

nothing_seen : View Item
nothing_seen = record { ready = λ s. []; sent = λ s. 0; calm = false }

pub keeps_passes : (h k : Held) → Passes h.state k.state → k.places ≡ h.places → Keeps h k
keeps_passes h k passes places = record { ready = passes.ready; sent = passes.sent; places = places }

pub did_passes : (a b : Actor) → do_next a ≡ Some b → Passes a.state b.state
unfolding fabric step
did_passes a b e = (step_is nothing_seen a b Do e).2

pub had_passes : (a b : Actor) → read_next a ≡ Some b → Passes a.state b.state
unfolding fabric step
had_passes a b e = (step_is nothing_seen a b ReadStep e).1

pub passes_at : (s u w : State) → w ≡ u → Passes s u → Passes s w
passes_at s u w is passes = subst (λ (x : State). Passes s x) (sym is) passes

headed_ready : (first : Bool) (s : State) (source : ℕ) (head : ItemHead) (d : ℕ) → IsPrefixOf (accepted_for s.tx d) (accepted_for (headed first s source head).tx d)
headed_ready true s source head d = (head_passes s source head).ready d
headed_ready false s source head d = prefix_self _ _ refl

headed_sent : (first : Bool) (s : State) (source : ℕ) (head : ItemHead) → (headed first s source head).tx.sent ≡ s.tx.sent
headed_sent true s source head = (head_passes s source head).sent
headed_sent false s source head = refl

pub keeps_took : (h t : Held) (source : ℕ) (f : Frame) (item : Item) (last : Bool) → Ends last h (headed (is_first f) h.state source f.head.item) source item t → Keeps h t
keeps_took h t source f item true (one, room, is) =
    let s = headed (is_first f) h.state source f.head.item in
    let passes = tail_passes s source item.head item.bytes in
    let state : t.state ≡ do_tail s source item.head item.bytes = ap (λ (x : Held). x.state) is in
    record {
      ready = λ d. subst (λ (x : State). IsPrefixOf (accepted_for h.state.tx d) (accepted_for x.tx d)) (sym state) (prefix_prefix _ _ _ (headed_ready (is_first f) h.state source f.head.item d) (passes.ready d));
      sent = ap (λ (x : State). x.tx.sent) state ∙ passes.sent ∙ headed_sent (is_first f) h.state source f.head.item;
      places = ap (λ (x : Held). x.places) is;
    }
keeps_took h t source f item false is = record {
  ready = λ d. subst (λ (x : Held). IsPrefixOf (accepted_for h.state.tx d) (accepted_for x.state.tx d)) (sym is) (headed_ready (is_first f) h.state source f.head.item d);
  sent = ap (λ (x : Held). x.state.tx.sent) is ∙ headed_sent (is_first f) h.state source f.head.item;
  places = ap (λ (x : Held). x.places) is;
}

-- ---- lists

pub get_append : {X : Type 0} (xs ys : List X) (i : ℕ) (x : X) → slice_get (xs ++ ys) i ≡ Some x → (slice_get xs i ≡ Some x) ⊎ ((j : ℕ) × (i ≡ length xs + j) × (slice_get ys j ≡ Some x))
get_append [] ys i x e = inr (i, omega arith, e)
get_append (z ∷ xs) ys zero x e = inl e
get_append (z ∷ xs) ys (suc i) x e = elim (get_append xs ys i x e) [ inl l ↦ inl l | inr (j, at, r) ↦ inr (j, omega (arith, at), r) ]

take_nil : (m : ℕ) → take {A = ℕ} m [] ≡ []
take_nil zero = refl
take_nil (suc m) = refl

take_all : (n : ℕ) (xs : List ℕ) → n ≡ length xs → take n xs ≡ xs
take_all n [] e = take_nil n
take_all zero (x ∷ xs) e = absurd (omega (arith, e))
take_all (suc n) (x ∷ xs) e = ap (λ ys. x ∷ ys) (take_all n xs (omega (arith, e)))

-- ---- parts

part_bytes : (n : ℕ) (item : Item) → bytes_of (part_at n (Some item)) ≡ take n item.bytes
part_bytes zero item = refl
part_bytes (suc k) item = refl

part_some : (n : ℕ) (item : Item) → 0 < n → part_at n (Some item) ≡ Some (record { head = item.head; bytes = take n item.bytes })
part_some zero item some = absurd (omega (arith, some))
part_some (suc k) item some = refl

-- a piece grows the part by its bytes
grown_part : (n : ℕ) (item : Item) → grown (part_at n (Some item)) (piece item n) ≡ record { head = item.head; bytes = take (n + (piece item n).head.len) item.bytes }
grown_part n item = λ i. record { head = item.head; bytes = (ap (λ bs. bs ++ (piece item n).bytes) (part_bytes n item) ∙ sym (take-add n (min 4096 (item.head.total - n)) item.bytes)) i }

-- ---- one act

module _ (h k : Held) (d : ℕ) (ready : IsPrefixOf (accepted_for h.state.tx d) (accepted_for k.state.tx d)) (sent : slice_index k.state.tx.sent d ≡ slice_index h.state.tx.sent d) (place : slice_index k.places d ≡ slice_index h.places d) where
  pub next_kept : (item : Item) → next_item h.state d ≡ Some item → next_item k.state d ≡ Some item
  next_kept item next = ap (λ n. slice_get (accepted_for k.state.tx d) n) sent ∙ ap (λ xs. slice_get xs (slice_index h.state.tx.sent d)) (sym ready.1) ∙ prefix_get (accepted_for h.state.tx d) ready.0 (slice_index h.state.tx.sent d) item next

  out_kept : IsOutAt h d → IsOutAt k d
  out_kept (inl none) = inl (place ∙ none)
  out_kept (inr (item, next, less)) = inr (item, next_kept item next, omega (arith, less, place))

  part_kept : IsOutAt h d → posted_part k d ≡ posted_part h d
  part_kept (inl none) = ap (λ n. part_at n (next_item k.state d)) (place ∙ none) ∙ sym (ap (λ n. part_at n (next_item h.state d)) none)
  part_kept (inr (item, next, less)) = ap (λ n. part_at n (next_item k.state d)) place ∙ ap (part_at (slice_index h.places d)) (next_kept item next ∙ sym next)

pub transmits_none : (h k : Held) → Keeps h k → IsOut h → Transmits h k (λ d. []) × IsOut k
transmits_none h k keeps out = (
  record {
    items = λ d i item e. absurd (cc);
    sent = λ d. (let s = ap (λ xs. slice_index xs d) keeps.sent in omega (arith, s));
    part = λ d. part_kept h k d (keeps.ready d) (ap (λ xs. slice_index xs d) keeps.sent) (ap (λ xs. slice_index xs d) keeps.places) (out d);
  },
  λ d. out_kept h k d (keeps.ready d) (ap (λ xs. slice_index xs d) keeps.sent) (ap (λ xs. slice_index xs d) keeps.places) (out d),
)

pub sent_ready : (s : State) (t d : ℕ) → IsPrefixOf (accepted_for s.tx d) (accepted_for (do_sent s t).tx d)
unfolding transmitting
sent_ready s t d = (sent_passes s t).ready d

module _ (h t : Held) (dest : ℕ) (item : Item) (in_places : dest < length h.places) (in_sent : dest < length h.state.tx.sent) (next : next_item h.state dest ≡ Some item) (whole : IsItem item) (out : IsOut h) where
  pub piece_last : is_last (piece item (slice_index h.places dest)).head ≡ true → t ≡ record h { state = do_sent h.state dest; places = slice_set h.places dest 0 }
      → Transmits h t (λ d. only (dest == d) (piece item (slice_index h.places dest))) × IsOut t
  piece_last last is = (
    record {
      items = λ d i x e. items_at d (dest == d) refl i x e;
      sent = λ d. sent_at d (dest == d) refl;
      part = λ d. part_at_d d (dest == d) refl;
    },
    λ d. out_at d (dest == d) refl,
  )
    where
      ready : (d : ℕ) → IsPrefixOf (accepted_for h.state.tx d) (accepted_for t.state.tx d)
      ready d = subst (λ (x : Held). IsPrefixOf (accepted_for h.state.tx d) (accepted_for x.state.tx d)) (sym is) (sent_ready h.state dest d)

      sent_is : t.state.tx.sent ≡ raise h.state.tx.sent dest
      sent_is = ap (λ (x : Held). x.state.tx.sent) is ∙ sent_raised h.state dest

      places_are : t.places ≡ slice_set h.places dest 0
      places_are = ap (λ (x : Held). x.places) is

      whole_is : grown (posted_part h dest) (piece item (slice_index h.places dest)) ≡ item
      whole_is =
          let all : slice_index h.places dest + (piece item (slice_index h.places dest)).head.len ≡ length item.bytes = eqb-true _ _ last ∙ whole in
          ap (λ u. grown u (piece item (slice_index h.places dest))) (ap (part_at (slice_index h.places dest)) next) ∙ grown_part (slice_index h.places dest) item
          ∙ (λ i. record { head = item.head; bytes = take_all _ item.bytes all i })

      other_sent : (d : ℕ) → (dest == d) ≡ false → slice_index t.state.tx.sent d ≡ slice_index h.state.tx.sent d
      other_sent d e = ap (λ xs. slice_index xs d) sent_is ∙ get_or-set_other h.state.tx.sent dest d (slice_index h.state.tx.sent dest + 1) 0 (λ same. eqb-false dest d e (sym same))

      other_place : (d : ℕ) → (dest == d) ≡ false → slice_index t.places d ≡ slice_index h.places d
      other_place d e = ap (λ xs. slice_index xs d) places_are ∙ get_or-set_other h.places dest d 0 0 (λ same. eqb-false dest d e (sym same))

      items_at : (d : ℕ) (b : Bool) → (dest == d) ≡ b → (i : ℕ) (x : Item) → slice_get (joined_from (posted_part h d) (only b (piece item (slice_index h.places dest)))).whole i ≡ Some x → slice_get (accepted_for t.state.tx d) (slice_index h.state.tx.sent d + i) ≡ Some x
      items_at d false e i x got = absurd (cc)
      items_at d true e zero x got =
          let same : dest ≡ d = eqb-true dest d e in
          let at : slice_get (joined_from (posted_part h dest) (piece item (slice_index h.places dest) ∷ [])).whole 0 ≡ Some x = subst (λ y. slice_get (joined_from (posted_part h y) (piece item (slice_index h.places dest) ∷ [])).whole 0 ≡ Some x) (sym same) got in
          let one : Some (grown (posted_part h dest) (piece item (slice_index h.places dest))) ≡ Some x = rw last at at in
          let is_item : Some item ≡ Some x = ap Some (sym whole_is) ∙ one in
          let r = ready dest in
          let there : slice_get (accepted_for t.state.tx dest) (slice_index h.state.tx.sent dest + 0) ≡ Some item =
          (let z : slice_index h.state.tx.sent dest + 0 ≡ slice_index h.state.tx.sent dest = omega arith in
          ap (slice_get (accepted_for t.state.tx dest)) z ∙ ap (λ xs. slice_get xs (slice_index h.state.tx.sent dest)) (sym r.1) ∙ prefix_get (accepted_for h.state.tx dest) r.0 (slice_index h.state.tx.sent dest) item next) in
          subst (λ y. slice_get (accepted_for t.state.tx y) (slice_index h.state.tx.sent y + 0) ≡ Some x) same (there ∙ is_item)
      items_at d true e (suc i) x got = absurd (let none : None ≡ Some x = rw last at got in cc)

      sent_at : (d : ℕ) (b : Bool) → (dest == d) ≡ b → slice_index t.state.tx.sent d ≡ slice_index h.state.tx.sent d + length (joined_from (posted_part h d) (only b (piece item (slice_index h.places dest)))).whole
      sent_at d false e = let o = other_sent d e in omega (arith, o)
      sent_at d true e =
          let same : dest ≡ d = eqb-true dest d e in
          subst (λ y. slice_index t.state.tx.sent y ≡ slice_index h.state.tx.sent y + length (joined_from (posted_part h y) (piece item (slice_index h.places dest) ∷ [])).whole) same
          (rw last (ap (λ xs. slice_index xs dest) sent_is ∙ get_or-set_same h.state.tx.sent dest (slice_index h.state.tx.sent dest + 1) 0 in_sent))

      part_at_d : (d : ℕ) (b : Bool) → (dest == d) ≡ b → posted_part t d ≡ (joined_from (posted_part h d) (only b (piece item (slice_index h.places dest)))).unfinished
      part_at_d d false e = part_kept h t d (ready d) (other_sent d e) (other_place d e) (out d)
      part_at_d d true e =
          let same : dest ≡ d = eqb-true dest d e in
          subst (λ y. posted_part t y ≡ (joined_from (posted_part h y) (piece item (slice_index h.places dest) ∷ [])).unfinished) same
          (rw last (ap (λ x. part_at x (next_item t.state dest)) (ap (λ xs. slice_index xs dest) places_are ∙ get_or-set_same h.places dest 0 0 in_places)))

      out_at : (d : ℕ) (b : Bool) → (dest == d) ≡ b → IsOutAt t d
      out_at d false e = out_kept h t d (ready d) (other_sent d e) (other_place d e) (out d)
      out_at d true e = inl (ap (slice_index t.places) (sym (eqb-true dest d e)) ∙ ap (λ xs. slice_index xs dest) places_are ∙ get_or-set_same h.places dest 0 0 in_places)

  pub piece_more : is_last (piece item (slice_index h.places dest)).head ≡ false → t ≡ record h { places = slice_set h.places dest (slice_index h.places dest + (piece item (slice_index h.places dest)).head.len) }
      → Transmits h t (λ d. only (dest == d) (piece item (slice_index h.places dest))) × IsOut t
  piece_more more is = (
    record {
      items = λ d i x e. items_at d (dest == d) refl i x e;
      sent = λ d. sent_at d (dest == d) refl;
      part = λ d. part_at_d d (dest == d) refl;
    },
    λ d. out_at d (dest == d) refl,
  )
    where
      state_is : t.state ≡ h.state
      state_is = ap (λ (x : Held). x.state) is

      ready : (d : ℕ) → IsPrefixOf (accepted_for h.state.tx d) (accepted_for t.state.tx d)
      ready d = prefix_self _ _ (ap (λ (x : State). accepted_for x.tx d) (sym state_is))

      same_sent : (d : ℕ) → slice_index t.state.tx.sent d ≡ slice_index h.state.tx.sent d
      same_sent d = ap (λ (x : State). slice_index x.tx.sent d) state_is

      place_is : slice_index t.places dest ≡ slice_index h.places dest + (piece item (slice_index h.places dest)).head.len
      place_is = ap (λ (x : Held). slice_index x.places dest) is ∙ get_or-set_same h.places dest _ 0 in_places

      next_t : next_item t.state dest ≡ Some item
      next_t = ap (λ (x : State). next_item x dest) state_is ∙ next

      less : slice_index h.places dest + (piece item (slice_index h.places dest)).head.len < item.head.total
      less =
          let ne : slice_index h.places dest + min 4096 (item.head.total - slice_index h.places dest) ≢ item.head.total = eqb-false _ _ more in
          let in_item : slice_index h.places dest ≤ item.head.total = elim (out dest) [
            | inl none ↦ omega (arith, none)
            | inr (other, has, under) ↦ (let is : Some item ≡ Some other = sym next ∙ has in let same : item ≡ other = cc in let total = ap (λ (x : Item). x.head.total) same in omega (arith, under, total))
          ] in
          omega (arith, ne, in_item)

      other_place : (d : ℕ) → (dest == d) ≡ false → slice_index t.places d ≡ slice_index h.places d
      other_place d e = ap (λ (x : Held). slice_index x.places d) is ∙ get_or-set_other h.places dest d _ 0 (λ same. eqb-false dest d e (sym same))

      items_at : (d : ℕ) (b : Bool) → (dest == d) ≡ b → (i : ℕ) (x : Item) → slice_get (joined_from (posted_part h d) (only b (piece item (slice_index h.places dest)))).whole i ≡ Some x → slice_get (accepted_for t.state.tx d) (slice_index h.state.tx.sent d + i) ≡ Some x
      items_at d false e i x got = absurd (cc)
      items_at d true e i x got = absurd (let none : None ≡ Some x = rw more at got in cc)

      sent_at : (d : ℕ) (b : Bool) → (dest == d) ≡ b → slice_index t.state.tx.sent d ≡ slice_index h.state.tx.sent d + length (joined_from (posted_part h d) (only b (piece item (slice_index h.places dest)))).whole
      sent_at d false e = let o = same_sent d in omega (arith, o)
      sent_at d true e = rw more (let o = same_sent d in omega (arith, o))

      part_at_d : (d : ℕ) (b : Bool) → (dest == d) ≡ b → posted_part t d ≡ (joined_from (posted_part h d) (only b (piece item (slice_index h.places dest)))).unfinished
      part_at_d d false e = part_kept h t d (ready d) (same_sent d) (other_place d e) (out d)
      part_at_d d true e =
          let same : dest ≡ d = eqb-true dest d e in
          let ne : slice_index h.places dest + min 4096 (item.head.total - slice_index h.places dest) ≢ item.head.total = eqb-false _ _ more in
          subst (λ y. posted_part t y ≡ (joined_from (posted_part h y) (piece item (slice_index h.places dest) ∷ [])).unfinished) same
          (rw more (ap (λ x. part_at x (next_item t.state dest)) place_is ∙ ap (part_at (slice_index h.places dest + (piece item (slice_index h.places dest)).head.len)) next_t
          ∙ part_some (slice_index h.places dest + (piece item (slice_index h.places dest)).head.len) item (let l = less in omega (arith, l, ne))
          ∙ ap Some (sym (ap (λ u. grown u (piece item (slice_index h.places dest))) (ap (part_at (slice_index h.places dest)) next) ∙ grown_part (slice_index h.places dest) item))))

      out_at : (d : ℕ) (b : Bool) → (dest == d) ≡ b → IsOutAt t d
      out_at d false e = out_kept h t d (ready d) (same_sent d) (other_place d e) (out d)
      out_at d true e = subst (λ y. IsOutAt t y) (eqb-true dest d e) (inr (item, next_t, (let p = place_is in let l = less in omega (arith, p, l))))

-- every other act keeps what is posted
one_ready : (act : Act) (p q : Living) → Lives p act q → (d : ℕ) → IsPrefixOf (accepted_for p.held.state.tx d) (accepted_for q.held.state.tx d)
one_ready Did p q (did, same) d = (did_passes (actor_in p) (actor_in q) did).ready d
one_ready Had p q (had, same) d = (had_passes (actor_in p) (actor_in q) had).ready d
one_ready Drew p q ((due, room, is), rest) d = subst (λ (x : Held). IsPrefixOf (accepted_for p.held.state.tx d) (accepted_for x.state.tx d)) (sym is) ((draw_passes p.held.state).ready d)
one_ready (Took source f) p q ((in_begun, in_tails, comes, ends), rest) d = (keeps_took p.held q.held source f _ (is_last f.head) ends).ready d
one_ready (Posted dest f) p q ((in_places, in_sent, next, departs), rest) d = by_last (is_last f.head) departs
  where
    by_last : (b : Bool) → Departs b p.held dest (f.head.from + f.head.len) q.held → IsPrefixOf (accepted_for p.held.state.tx d) (accepted_for q.held.state.tx d)
    by_last true (room, is) = subst (λ (x : Held). IsPrefixOf (accepted_for p.held.state.tx d) (accepted_for x.state.tx d)) (sym is) (sent_ready p.held.state dest d)
    by_last false is = prefix_self _ _ (ap (λ (x : Held). accepted_for x.state.tx d) (sym is))

posted_one : (h t : Held) (dest : ℕ) (f : Frame) → dest < length h.places → dest < length h.state.tx.sent → next_frame h dest ≡ Some f → Departs (is_last f.head) h dest (f.head.from + f.head.len) t → AreItems h → IsOut h
    → Transmits h t (λ d. only (dest == d) f) × IsOut t
posted_one h t dest f in_places in_sent next departs items out = by_item (next_item h.state dest) refl next
  where
    by_last : (item : Item) → next_item h.state dest ≡ Some item → (b : Bool) → is_last (piece item (slice_index h.places dest)).head ≡ b → Departs b h dest (slice_index h.places dest + (piece item (slice_index h.places dest)).head.len) t
        → Transmits h t (λ d. only (dest == d) (piece item (slice_index h.places dest))) × IsOut t
    by_last item there true last (room, is) = piece_last h t dest item in_places in_sent there (items dest _ item there).0 out last is
    by_last item there false last is = piece_more h t dest item in_places in_sent there (items dest _ item there).0 out last is

    by_item : (o : Option Item) → next_item h.state dest ≡ o → option_map (λ item. piece item (slice_index h.places dest)) o ≡ Some f → Transmits h t (λ d. only (dest == d) f) × IsOut t
    by_item None there e = absurd (cc)
    by_item (Some item) there e =
        let is : piece item (slice_index h.places dest) ≡ f = cc in
        subst (λ (x : Frame). Transmits h t (λ d. only (dest == d) x) × IsOut t) is
        (by_last item there (is_last (piece item (slice_index h.places dest)).head) refl (subst (λ (x : Frame). Departs (is_last x.head) h dest (x.head.from + x.head.len) t) (sym is) departs))

pub transmits_one : (act : Act) (p q : Living) → Lives p act q → AreItems p.held → IsOut p.held → Transmits p.held q.held (λ d. posted_by d act) × IsOut q.held
transmits_one Did p q (did, same) items out = transmits_none p.held q.held (keeps_passes p.held q.held (did_passes (actor_in p) (actor_in q) did) same.0) out
transmits_one Had p q (had, same) items out = transmits_none p.held q.held (keeps_passes p.held q.held (had_passes (actor_in p) (actor_in q) had) same.0) out
transmits_one Drew p q ((due, room, is), rest) items out =
    transmits_none p.held q.held (keeps_passes p.held q.held (passes_at p.held.state (do_draw p.held.state) q.held.state (ap (λ (x : Held). x.state) is) (draw_passes p.held.state)) (ap (λ (x : Held). x.places) is)) out
transmits_one (Took source f) p q ((in_begun, in_tails, comes, ends), rest) items out = transmits_none p.held q.held (keeps_took p.held q.held source f _ (is_last f.head) ends) out
transmits_one (Posted dest f) p q ((in_places, in_sent, next, departs), rest) items out = posted_one p.held q.held dest f in_places in_sent next departs items out

-- ---- many acts

pub lives_ready : (acts : List Act) (p q : Living) → LivesBy p acts q → (d : ℕ) → IsPrefixOf (accepted_for p.held.state.tx d) (accepted_for q.held.state.tx d)
lives_ready [] p q is d = prefix_self _ _ (ap (λ (x : Living). accepted_for x.held.state.tx d) is)
lives_ready (act ∷ acts) p q (mid, one, rest) d = prefix_prefix _ _ _ (one_ready act p mid one d) (lives_ready acts mid q rest d)

pub transmits_then : (h m k : Held) (xs ys : ℕ → List Frame) → ((d : ℕ) → IsPrefixOf (accepted_for m.state.tx d) (accepted_for k.state.tx d)) → Transmits h m xs → Transmits m k ys → Transmits h k (λ d. xs d ++ ys d)
transmits_then h m k xs ys ready a b = record {
  items = λ d i item e. items_at d i item e;
  sent = λ d. (
      let whole = ap (λ (g : Gathered). length g.whole) (joined_append (posted_part h d) (xs d) (ys d)) in
      let count = length-append (joined_from (posted_part h d) (xs d)).whole (joined_from (joined_from (posted_part h d) (xs d)).unfinished (ys d)).whole in
      let start = ap (λ u. length (joined_from u (ys d)).whole) (a.part d) in
      let x = a.sent d in let y = b.sent d in omega (arith, x, y, whole, count, start));
  part = λ d. b.part d ∙ ap (λ u. (joined_from u (ys d)).unfinished) (a.part d) ∙ sym (ap (λ (g : Gathered). g.unfinished) (joined_append (posted_part h d) (xs d) (ys d)));
}
  where
    items_at : (d i : ℕ) (item : Item) → slice_get (joined_from (posted_part h d) (xs d ++ ys d)).whole i ≡ Some item → slice_get (accepted_for k.state.tx d) (slice_index h.state.tx.sent d + i) ≡ Some item
    items_at d i item e =
        let w1 = (joined_from (posted_part h d) (xs d)).whole in
        let w2 = (joined_from (posted_part m d) (ys d)).whole in
        let split : slice_get (w1 ++ w2) i ≡ Some item = ap (λ u. slice_get (w1 ++ (joined_from u (ys d)).whole) i) (a.part d) ∙ sym (ap (λ (g : Gathered). slice_get g.whole i) (joined_append (posted_part h d) (xs d) (ys d))) ∙ e in
        let r = ready d in
        elim (get_append w1 w2 i item split) [
          | inl l ↦ (let at = a.items d i item l in ap (λ zs. slice_get zs (slice_index h.state.tx.sent d + i)) (sym r.1) ∙ prefix_get (accepted_for m.state.tx d) r.0 (slice_index h.state.tx.sent d + i) item at)
          | inr (j, where_is, l) ↦ (
              let at = b.items d j item l in
              let s = a.sent d in
              let same : slice_index h.state.tx.sent d + i ≡ slice_index m.state.tx.sent d + j = omega (arith, s, where_is) in
              ap (slice_get (accepted_for k.state.tx d)) same ∙ at)
        ]

-- the frames posted are those of the items accepted, in order
pub transmits_by : (acts : List Act) (p q : Living) → LivesBy p acts q → AreItems q.held → IsOut p.held → Transmits p.held q.held (λ d. posted_to d acts) × IsOut q.held
transmits_by [] p q is items out = subst (λ (x : Living). Transmits p.held x.held (λ d. []) × IsOut x.held) is
    (transmits_none p.held p.held (record { ready = λ d. prefix_self _ _ refl; sent = refl; places = refl }) out)
transmits_by (act ∷ acts) p q (mid, one, rest) items out =
    let whole : AreItems p.held = λ d i item e. (let r = lives_ready (act ∷ acts) p q (mid, one, rest) d in
    items d i item (ap (λ zs. slice_get zs i) (sym r.1) ∙ prefix_get (accepted_for p.held.state.tx d) r.0 i item e)) in
    let first = transmits_one act p mid one whole out in
    let later = transmits_by acts mid q rest items first.1 in
    (transmits_then p.held mid.held q.held (λ d. posted_by d act) (λ d. posted_to d acts) (lives_ready acts mid q rest) first.0 later.0, later.1)
