-- Each act leaves each peer owed what is due to it.
use Rattle.std.proofs.Common.{◌≡◌, ◌≢◌, ◌≤◌, ◌<◌, ◌+◌, ◌-◌, min, ℕ, zero, suc, Bool, true, false, ◌&&◌, List, [], ◌∷◌, ◌++◌, length, drop, get_or-set_same, get_or-set_other, slice_get, Option, Some, None, ◌⊎◌, inl, inr, refl, sym, ◌∙◌, ap, subst, arith, rules}
use Rattle.std.specs.Prelude.{◌==◌, slice_index, slice_set, count_by}
use Rattle.std.proofs.lemmas.Bool.{cases_eq, eqb-false}
use Rattle.std.proofs.lemmas.Bool.Decides.{nat_tests}
use Rattle.fab_base.specs.declared.items.Item.{Item}
use Rattle.fab_base.specs.declared.items.ItemHead.{ItemHead}
use Rattle.fab_base.specs.declared.items.Outcome.TheVariants.{Done}
use Rattle.fab_base.specs.declared.frames.Frame.{Frame}
use Rattle.fab_base.specs.declared.operations.Operation.{Operation}
use Rattle.fab_base.specs.declared.peers.LineResult.{LineResult}
use Rattle.fab_link.specs.Joined.{is_last, grown}
use Rattle.fab_link.specs.Owing.{begins_reply, ends_owing, replies, owing}
use Rattle.fab_base.specs.Replies.{owes}
use Rattle.fab_link.proofs.Owed.{replies-append, owing-append}
use Rattle.fab_link.specs.Meaning.{Owes, Repays}
use Rattle.fab_model.specs.State.{State, Transmitting, accepted_for, held_for, coming_from, raise, with_tx}
use Rattle.fab_model.specs.Sending.{do_sent, end_with, ending, going_on, items_of, letting_out, transmitting}
use Rattle.fab_model.specs.Arrivals.{do_tail, do_draw}
use Rattle.fab_model.specs.Calls.{Call, do_call}
use Rattle.fab_face.specs.Held.{due, IsPledged, IsRepaid, Held, Lanes, begun_of, next_item, piece, with_machine}
use Rattle.fab_face.specs.Acts.{Act, Comes, Departs, DoesCall, Ends, Goes, Ported, Posted, Took, headed, is_first, only, posted_to, taken_of}
use Rattle.fab_face.specs.Owed.{dues, is_answer, unbegun, to_post, to_book, due_for, asked_by, kept_for, begun_in, Pledged, IsPartly}
use Rattle.fab_face.proofs.Counts.{one, count_cons, drop_next, none_dropped}
use Rattle.fab_face.proofs.Letting.{standing, lets_out}
use Rattle.fab_face.proofs.Owing.{call_keeps, draws_keep}
use Rattle.fab_face.proofs.Arriving.{Alone, BegunOf, alone_partly, head_dues, head_pledged, tail_tailed, tailed_dues, tailed_pledged}

-- ---- the port

pub owes_more : {Home : Type 0} (a b : Lanes Home) (acts : List Act) (d op n m : ℕ) → Ported a b acts → m + replies op (posted_to d acts) ≤ n + owing op (taken_of d acts) → Owes (a.outs d) (a.ins d) op n → Owes (b.outs d) (b.ins d) op m
owes_more a b acts d op n m ported le owes = go (a.outs d).owed refl
  where
    go : (o : Option (ℕ → ℕ)) → (a.outs d).owed ≡ o → Owes (b.outs d) (b.ins d) op m
    go None e = let f : (b.outs d).owed ≡ None = ported.owed d ∙ e in rw f tt
    go (Some before) e =
        let f : (b.outs d).owed ≡ Some before = ported.owed d ∙ e in
        let o : replies op (a.outs d).frames + n ≤ before op + owing op (a.ins d).taken = rw e at owes in
        rw (f, ported.posted d, ported.taken d) (omega (arith, o, le, replies-append op (a.outs d).frames (posted_to d acts), owing-append op (a.ins d).taken (taken_of d acts)))

-- nothing was posted or taken, and no more is due
pub repaid_still : {Home : Type 0} (a b : Lanes Home) (h t : Held) → Ported a b [] → ((d op : ℕ) → due t d op ≤ due h d op) → IsRepaid a h → IsRepaid b t
repaid_still a b h t ported less repaid d op below = owes_more a b [] d op (due h d op) (due t d op) ported (let l = less d op in let r : replies op [] ≡ 0 = refl in let o : owing op [] ≡ 0 = refl in omega (arith, l, r, o)) (repaid d op (let e = ported.peers in omega (arith, e, below)))

-- ---- calls and draws

pub did_due : (call : Call) (h t : Held) → DoesCall (Some call) h t → (d op : ℕ) → due t d op ≤ due h d op
did_due call h t (done, is) d op =
    let k = call_keeps h.state call in
    let state : (do_call h.state call).1 ≡ t.state = ap (λ (x : LineResult × State). x.1) done in
    let places : t.places ≡ h.places = ap (λ (x : Held). x.places) is in
    let l : dues t.state h.places d op ≤ dues h.state h.places d op = subst (λ (x : State). dues x h.places d op ≤ dues h.state h.places d op) state (k.due h.places d op) in
    rw places l

pub did_pledged : (call : Call) (h t : Held) → DoesCall (Some call) h t → IsPartly h.state.rx h.begun → IsPledged h → IsPledged t
did_pledged call h t (done, is) partly p =
    let k = call_keeps h.state call in
    let state : (do_call h.state call).1 ≡ t.state = ap (λ (x : LineResult × State). x.1) done in
    let begun : t.begun ≡ h.begun = ap (λ (x : Held). x.begun) is in
    rw begun (subst (λ (x : State). Pledged x.rx h.begun) state (k.pledged h.begun partly p))

pub drew_due : (h t : Held) → t ≡ with_machine (do_draw h.state) h → (d op : ℕ) → due t d op ≤ due h d op
drew_due h t is d op = subst (λ (x : Held). due x d op ≤ due h d op) (sym is) (let k = draws_keep h.state in k.due h.places d op)

pub drew_pledged : (h t : Held) → t ≡ with_machine (do_draw h.state) h → IsPartly h.state.rx h.begun → IsPledged h → IsPledged t
drew_pledged h t is partly p = subst (λ (x : Held). IsPledged x) (sym is) (let k = draws_keep h.state in k.pledged h.begun partly p)

-- ---- a frame is posted

ended : (o : Operation) (v : State) → ((end_with Done [] o v).tx ≡ v.tx) × ((end_with Done [] o v).rx ≡ v.rx)
unfolding end_with
ended o v = (grind rules, grind rules)

abbrev sent_by : State → ℕ → Option Operation → State
sent_by s t x = elim x [ None ↦ with_tx (transmitting t s.tx) s | Some o ↦ end_with Done [] o (with_tx (going_on t (transmitting t s.tx)) s) ]

record SentParts (s : State) (t : ℕ) : Type 0 where
  rx : (do_sent s t).rx ≡ s.rx
  sent : (do_sent s t).tx.sent ≡ raise s.tx.sent t
  fewer : (op d n : ℕ) → standing op (do_sent s t).tx d n ≤ standing op s.tx d n

sent_parts : (s : State) (t : ℕ) → SentParts s t
unfolding do_sent transmitting letting_out
sent_parts s t = record { rx = rx (ending t s.tx); sent = sent (ending t s.tx); fewer = λ op d n. fewer op d n (ending t s.tx) }
  where
    rx : (x : Option Operation) → (sent_by s t x).rx ≡ s.rx
    rx None = refl
    rx (Some o) = (ended o (with_tx (going_on t (transmitting t s.tx)) s)).1

    sent : (x : Option Operation) → (sent_by s t x).tx.sent ≡ raise s.tx.sent t
    sent None = refl
    sent (Some o) = ap (λ (x : Transmitting). x.sent) (ended o (with_tx (going_on t (transmitting t s.tx)) s)).0

    fewer : (op d n : ℕ) (x : Option Operation) → standing op (sent_by s t x).tx d n ≤ standing op s.tx d n
    fewer op d n None = omega arith
    fewer op d n (Some o) =
        let tx : Transmitting = transmitting t s.tx in
        let e : standing op (sent_by s t (Some o)).tx d n ≡ standing op (going_on t tx) d n = ap (λ (x : Transmitting). standing op x d n) (ended o (with_tx (going_on t tx) s)).0 in
        let l : standing op (going_on t tx) d n ≤ standing op s.tx d n = lets_out op t (held_for tx t) tx (omega arith) d n in
        omega (arith, e, l)

some_begun : (n sent : ℕ) (items : List Item) → 0 < n → unbegun n sent items ≡ drop (suc sent) items
some_begun zero sent items lt = absurd (omega (arith, lt))
some_begun (suc n) sent items lt = refl

-- what is next is begun with this frame, or was
begins : (place sent op : ℕ) (items : List Item) (item : Item) → slice_get items sent ≡ Some item
    → count_by (is_answer op) (drop (suc sent) items) + one (begins_reply (piece item place).head && (item.head.op == op)) ≡ count_by (is_answer op) (unbegun place sent items)
begins zero sent op items item next =
    let e : count_by (is_answer op) (drop sent items) ≡ count_by (is_answer op) (item ∷ drop (suc sent) items) = ap (count_by (is_answer op)) (drop_next sent items item next) in
    omega (arith, e, count_cons (is_answer op) item (drop (suc sent) items))
begins (suc k) sent op items item next =
    let f : (suc k == 0) ≡ false = grind (arith, nat_tests) in
    let z : one (begins_reply (piece item (suc k)).head && (item.head.op == op)) ≡ 0 = rw f refl in
    omega (arith, z)

module _ (h t : Held) (dest : ℕ) (f : Frame) (call : Option Call) (goes : Goes call h (Posted dest f) t) where
  item_is : (item : Item) × (next_item h.state dest ≡ Some item) × (piece item (slice_index h.places dest) ≡ f)
  item_is = go (next_item h.state dest) refl
    where
      go : (o : Option Item) → next_item h.state dest ≡ o → (item : Item) × (next_item h.state dest ≡ Some item) × (piece item (slice_index h.places dest) ≡ f)
      go None e = absurd (let g = goes.2 in cc (rw e at g))
      go (Some item) e = (item, e, (let g : Some (piece item (slice_index h.places dest)) ≡ Some f = rw e at goes.2 in cc))

  posted_rx : (last : Bool) → Departs last h dest (f.head.from + f.head.len) t → (t.state.rx ≡ h.state.rx) × (t.begun ≡ h.begun)
  posted_rx true (room, is) = (ap (λ (x : Held). x.state.rx) is ∙ (sent_parts h.state dest).rx, ap (λ (x : Held). x.begun) is)
  posted_rx false is = (ap (λ (x : Held). x.state.rx) is, ap (λ (x : Held). x.begun) is)

  pub posted_pledged : IsPledged h → IsPledged t
  posted_pledged p = let e = posted_rx (is_last f.head) goes.3 in rw (e.0, e.1) p

  -- the replies for the peer of which no frame is posted
  posted_here : (last : Bool) → is_last f.head ≡ last → Departs last h dest (f.head.from + f.head.len) t → (op : ℕ) → to_post t.state.tx t.places dest op + one (begins_reply f.head && (f.head.item.op == op)) ≤ to_post h.state.tx h.places dest op
  posted_here true e (room, is) op =
      let parts = sent_parts h.state dest in
      let i = item_is in
      let places : slice_index t.places dest ≡ 0 = ap (λ (x : Held). slice_index x.places dest) is ∙ get_or-set_same h.places dest 0 0 goes.0 in
      let sent : slice_index t.state.tx.sent dest ≡ slice_index h.state.tx.sent dest + 1 = ap (λ (x : Held). slice_index x.state.tx.sent dest) is ∙ ap (λ xs. slice_index xs dest) parts.sent ∙ get_or-set_same h.state.tx.sent dest (slice_index h.state.tx.sent dest + 1) 0 goes.1 in
      let next_one : slice_index t.state.tx.sent dest ≡ suc (slice_index h.state.tx.sent dest) = omega (arith, sent) in
      let fewer : standing op t.state.tx dest (suc (slice_index h.state.tx.sent dest)) ≤ standing op h.state.tx dest (suc (slice_index h.state.tx.sent dest)) =
      subst (λ (x : State). standing op x.tx dest (suc (slice_index h.state.tx.sent dest)) ≤ standing op h.state.tx dest (suc (slice_index h.state.tx.sent dest))) (sym (ap (λ (x : Held). x.state) is)) (parts.fewer op dest (suc (slice_index h.state.tx.sent dest))) in
      let b = begins (slice_index h.places dest) (slice_index h.state.tx.sent dest) op (accepted_for h.state.tx dest) i.0 i.1 in
      let c : standing op h.state.tx dest (suc (slice_index h.state.tx.sent dest)) + one (begins_reply f.head && (f.head.item.op == op)) ≡ to_post h.state.tx h.places dest op =
      subst (λ (x : Frame). standing op h.state.tx dest (suc (slice_index h.state.tx.sent dest)) + one (begins_reply x.head && (x.head.item.op == op)) ≡ to_post h.state.tx h.places dest op) i.2 (omega (arith, b)) in
      rw (places, next_one) (omega (arith, fewer, c))
  posted_here false e is op =
      let i = item_is in
      let places : slice_index t.places dest ≡ f.head.from + f.head.len = ap (λ (x : Held). slice_index x.places dest) is ∙ get_or-set_same h.places dest (f.head.from + f.head.len) 0 goes.0 in
      let tx : t.state.tx ≡ h.state.tx = ap (λ (x : Held). x.state.tx) is in
      let more : slice_index h.places dest + min 4096 (i.0.head.total - slice_index h.places dest) ≢ i.0.head.total = eqb-false _ _ (ap (λ (x : Frame). is_last x.head) i.2 ∙ e) in
      let at : f.head.from + f.head.len ≡ slice_index h.places dest + min 4096 (i.0.head.total - slice_index h.places dest) = sym (ap (λ (x : Frame). x.head.from + x.head.len) i.2) in
      let some : 0 < f.head.from + f.head.len = omega (arith, at, more) in
      let b = begins (slice_index h.places dest) (slice_index h.state.tx.sent dest) op (accepted_for h.state.tx dest) i.0 i.1 in
      let c : standing op h.state.tx dest (suc (slice_index h.state.tx.sent dest)) + one (begins_reply f.head && (f.head.item.op == op)) ≡ to_post h.state.tx h.places dest op =
      subst (λ (x : Frame). standing op h.state.tx dest (suc (slice_index h.state.tx.sent dest)) + one (begins_reply x.head && (x.head.item.op == op)) ≡ to_post h.state.tx h.places dest op) i.2 (omega (arith, b)) in
      rw (places, tx, some_begun (f.head.from + f.head.len) (slice_index h.state.tx.sent dest) (accepted_for h.state.tx dest) some) (omega (arith, c))

  posted_away : (last : Bool) → Departs last h dest (f.head.from + f.head.len) t → (d op : ℕ) → d ≢ dest → to_post t.state.tx t.places d op ≤ to_post h.state.tx h.places d op
  posted_away true (room, is) d op ne =
      let parts = sent_parts h.state dest in
      let places : slice_index t.places d ≡ slice_index h.places d = ap (λ (x : Held). slice_index x.places d) is ∙ get_or-set_other h.places dest d 0 0 ne in
      let sent : slice_index t.state.tx.sent d ≡ slice_index h.state.tx.sent d = ap (λ (x : Held). slice_index x.state.tx.sent d) is ∙ ap (λ xs. slice_index xs d) parts.sent ∙ get_or-set_other h.state.tx.sent dest d (slice_index h.state.tx.sent dest + 1) 0 ne in
      let fewer : (n : ℕ) → standing op t.state.tx d n ≤ standing op h.state.tx d n = λ n. subst (λ (x : State). standing op x.tx d n ≤ standing op h.state.tx d n) (sym (ap (λ (x : Held). x.state) is)) (parts.fewer op d n) in
      rw (places, sent) (by fewer (slice_index h.places d) (slice_index h.state.tx.sent d))
    where
      by : ((n : ℕ) → standing op t.state.tx d n ≤ standing op h.state.tx d n) → (place sent : ℕ)
          → count_by (is_answer op) (unbegun place sent (accepted_for t.state.tx d)) + count_by (is_answer op) (items_of (held_for t.state.tx d)) ≤ count_by (is_answer op) (unbegun place sent (accepted_for h.state.tx d)) + count_by (is_answer op) (items_of (held_for h.state.tx d))
      by fewer zero sent = fewer sent
      by fewer (suc k) sent = fewer (suc sent)
  posted_away false is d op ne =
      let places : slice_index t.places d ≡ slice_index h.places d = ap (λ (x : Held). slice_index x.places d) is ∙ get_or-set_other h.places dest d (f.head.from + f.head.len) 0 ne in
      let tx : t.state.tx ≡ h.state.tx = ap (λ (x : Held). x.state.tx) is in
      rw (places, tx) (omega arith)

  pub posted_due : (d op : ℕ) → due t d op + replies op (posted_to d (Posted dest f ∷ [])) ≤ due h d op
  posted_due d op = go (cases_eq d dest)
    where
      rx : to_book t.state.rx d op ≡ to_book h.state.rx d op
      rx = ap (λ x. to_book x d op) (posted_rx (is_last f.head) goes.3).0

      go : (d ≡ dest) ⊎ (d ≢ dest) → due t d op + replies op (posted_to d (Posted dest f ∷ [])) ≤ due h d op
      go (inl e) =
          let yes_ : (dest == d) ≡ true = grind (arith, nat_tests, e) in
          let p : replies op (posted_to d (Posted dest f ∷ [])) ≡ one (begins_reply f.head && (f.head.item.op == op)) = rw yes_ (let z : replies op (f ∷ []) ≡ 0 + one (begins_reply f.head && (f.head.item.op == op)) = refl in omega (arith, z)) in
          let here = posted_here (is_last f.head) refl goes.3 op in
          let a : to_post t.state.tx t.places d op ≡ to_post t.state.tx t.places dest op = ap (λ k. to_post t.state.tx t.places k op) e in
          let b : to_post h.state.tx h.places d op ≡ to_post h.state.tx h.places dest op = ap (λ k. to_post h.state.tx h.places k op) e in
          omega (arith, rx, p, here, a, b)
      go (inr ne) =
          let off : (dest == d) ≡ false = grind (arith, nat_tests, ne) in
          let p : replies op (posted_to d (Posted dest f ∷ [])) ≡ 0 = rw off refl in
          let away = posted_away (is_last f.head) goes.3 d op ne in
          omega (arith, rx, p, away)

-- ---- a frame is taken

begun_after : (h : Held) (source : ℕ) (now : Option Item) → source < length h.begun → BegunOf source now h.begun (slice_set h.begun source now)
begun_after h source now within = (get_or-set_same h.begun source now None within, λ d ne. get_or-set_other h.begun source d now None ne)

-- after the first frame of an item, or another one, it is begun, and what it will have booked is no more than it owes
begun_pledged : (first : Bool) (h : Held) (source : ℕ) (f : Frame) → source < length h.begun → source < length h.state.rx.coming → Comes first h source f.head.item → IsPartly h.state.rx h.begun → IsPledged h
    → Pledged (headed first h.state source f.head.item).rx (slice_set h.begun source (Some (grown (begun_of h source) f))) × Alone (headed first h.state source f.head.item).rx source
begun_pledged true h source f within coming comes partly p = head_pledged h.state source f.head.item h.begun _ (grown (begun_of h source) f) refl (begun_after h source (Some (grown (begun_of h source) f)) within) comes.0 coming p
begun_pledged false h source f within coming comes partly p = (λ d op. at d op (cases_eq d source), alone_partly h.state.rx h.begun source partly)
  where
    now : List (Option Item)
    now = slice_set h.begun source (Some (grown (begun_of h source) f))

    is : BegunOf source (Some (grown (begun_of h source) f)) h.begun (slice_set h.begun source (Some (grown (begun_of h source) f)))
    is = begun_after h source (Some (grown (begun_of h source) f)) within

    at : (d op : ℕ) → (d ≡ source) ⊎ (d ≢ source) → kept_for h.state.rx d op + due_for (coming_from h.state.rx d) (begun_in (slice_set h.begun source (Some (grown (begun_of h source) f))) d) op ≤ asked_by (begun_in (slice_set h.begun source (Some (grown (begun_of h source) f))) d) op
    at d op (inl e) =
        let was : begun_in h.begun source ≡ Some comes.0 = comes.1 in
        let l : kept_for h.state.rx source op + due_for (coming_from h.state.rx source) (Some comes.0) op ≤ asked_by (Some comes.0) op = rw was at (p source op) in
        rw (e, is.0, ← comes.2) l
    at d op (inr ne) = rw (is.1 d ne) (p d op)

headed_dues : (first : Bool) (s : State) (source : ℕ) (head : ItemHead) (places : List ℕ) (d op : ℕ) → dues (headed first s source head) places d op ≤ dues s places d op
headed_dues true s source head places d op = head_dues s source head places d op
headed_dues false s source head places d op = omega arith

module _ (h t : Held) (source : ℕ) (f : Frame) (goes : Goes None h (Took source f) t) (within : source < length h.state.rx.coming) (partly : IsPartly h.state.rx h.begun) (p : IsPledged h) where
  abbrev s1 : State
  s1 = headed (is_first f) h.state source f.head.item

  abbrev item : Item
  item = grown (begun_of h source) f

  begun_now : Pledged s1.rx (slice_set h.begun source (Some item)) × Alone s1.rx source
  begun_now = begun_pledged (is_first f) h source f goes.0 within goes.2 partly p

  set_twice : BegunOf source None (slice_set h.begun source (Some item)) (slice_set h.begun source None)
  set_twice = (get_or-set_same h.begun source None None goes.0, λ d ne. get_or-set_other h.begun source d None None ne ∙ sym (get_or-set_other h.begun source d (Some item) None ne))

  took_by : (last : Bool) → is_last f.head ≡ last → Ends last h s1 source item t → IsPledged t × ((d op : ℕ) → due t d op ≤ due h d op + owing op (taken_of d (Took source f ∷ [])))
  took_by false e is = (
    subst (λ (x : Held). IsPledged x) (sym is) begun_now.0,
    λ d op. (let l = headed_dues (is_first f) h.state source f.head.item h.places d op in let x : due t d op ≡ dues s1 h.places d op = ap (λ (x : Held). due x d op) is in omega (arith, l, x)),
  )
  took_by true e (rise, room, is) =
      let tailed = tail_tailed s1 source f.head.item item.bytes begun_now.1 in
      let at : begun_in (slice_set h.begun source (Some item)) source ≡ Some item = (begun_after h source (Some item) goes.0).0 in (
        subst (λ (x : Held). IsPledged x) (sym is) (tailed_pledged (coming_from s1.rx source) source f.head.item s1 (do_tail s1 source f.head.item item.bytes) tailed (slice_set h.begun source (Some item)) (slice_set h.begun source None) set_twice begun_now.0),
        λ d op.
            let l = headed_dues (is_first f) h.state source f.head.item h.places d op in
            let x : due t d op ≡ dues (do_tail s1 source f.head.item item.bytes) h.places d op = ap (λ (x : Held). due x d op) is in
            let y = tailed_dues (coming_from s1.rx source) source f.head.item s1 (do_tail s1 source f.head.item item.bytes) tailed (slice_set h.begun source (Some item)) item at refl refl begun_now.0 h.places d op in
            let z : owing op (taken_of d (Took source f ∷ [])) ≡ one ((source == d) && (owes f.head.item && (f.head.item.op == op))) = taken_one (source == d) d op e in
            omega (arith, l, x, y, z),
      )
    where
      taken_one : (b : Bool) (d op : ℕ) → is_last f.head ≡ true → owing op (only b f ++ []) ≡ one (b && (owes f.head.item && (f.head.item.op == op)))
      taken_one true d op e = let z : owing op (f ∷ []) ≡ 0 + one (ends_owing f.head && (f.head.item.op == op)) = refl in let w : one (ends_owing f.head && (f.head.item.op == op)) ≡ one (owes f.head.item && (f.head.item.op == op)) = rw e refl in omega (arith, z, w)
      taken_one false d op e = refl

  pub took_owes : IsPledged t × ((d op : ℕ) → due t d op ≤ due h d op + owing op (taken_of d (Took source f ∷ [])))
  took_owes = took_by (is_last f.head) refl goes.3

-- ---- between calls

pub repaid_posted : {Home : Type 0} (a b : Lanes Home) (call : Option Call) (h t : Held) (dest : ℕ) (f : Frame) → Ported a b (Posted dest f ∷ []) → Goes call h (Posted dest f) t → IsRepaid a h → IsRepaid b t
repaid_posted a b call h t dest f ported goes repaid d op below =
    owes_more a b (Posted dest f ∷ []) d op (due h d op) (due t d op) ported (let e = posted_due h t dest f call goes d op in omega (arith, e)) (repaid d op (let e = ported.peers in omega (arith, e, below)))

pub repaid_took : {Home : Type 0} (a b : Lanes Home) (h t : Held) (source : ℕ) (f : Frame) → Ported a b (Took source f ∷ []) → Goes None h (Took source f) t → source < length h.state.rx.coming → IsPartly h.state.rx h.begun → IsPledged h → IsRepaid a h → IsRepaid b t
repaid_took a b h t source f ported goes within partly p repaid d op below =
    let o = took_owes h t source f goes within partly p in
    owes_more a b (Took source f ∷ []) d op (due h d op) (due t d op) ported (let l = o.1 d op in let r : replies op (posted_to d (Took source f ∷ [])) ≡ 0 = refl in omega (arith, l, r)) (repaid d op (let e = ported.peers in omega (arith, e, below)))

-- the next frame for a peer may be posted
pub next_repays : {Home : Type 0} (lanes : Lanes Home) (h : Held) (dest : ℕ) (item : Item) → dest < lanes.peers → next_item h.state dest ≡ Some item → IsRepaid lanes h → Repays (lanes.outs dest) (lanes.ins dest) (piece item (slice_index h.places dest)).head
next_repays lanes h dest item below next repaid begun = go (lanes.outs dest).owed refl
  where
    op : ℕ
    op = item.head.op

    some : 1 ≤ due h dest item.head.op
    some =
        let b = begins (slice_index h.places dest) (slice_index h.state.tx.sent dest) item.head.op (accepted_for h.state.tx dest) item next in
        let same : (item.head.op == item.head.op) ≡ true = grind (arith, nat_tests) in
        let z : one (begins_reply (piece item (slice_index h.places dest)).head && (item.head.op == item.head.op)) ≡ 1 = rw (begun, same) refl in
        omega (arith, b, z)

    go : (o : Option (ℕ → ℕ)) → (lanes.outs dest).owed ≡ o → Owes (lanes.outs dest) (lanes.ins dest) item.head.op 1
    go None e = rw e tt
    go (Some before) e =
        let o : replies item.head.op (lanes.outs dest).frames + due h dest item.head.op ≤ before item.head.op + owing item.head.op (lanes.ins dest).taken = rw e at (repaid dest item.head.op below) in
        rw e (omega (arith, o, some))

-- ---- at the opening

-- nothing is due where nothing was accepted and nothing came
pub nothing_due : (h : Held) → ((d : ℕ) → accepted_for h.state.tx d ≡ []) → ((d : ℕ) → held_for h.state.tx d ≡ []) → h.state.rx.unexpected ≡ [] → h.state.rx.claimed ≡ [] → (d op : ℕ) → due h d op ≡ 0
nothing_due h none no_held us cs d op = rw (us, cs, none d, no_held d) (go (slice_index h.places d) (slice_index h.state.tx.sent d))
  where
    go : (place sent : ℕ) → count_by (is_answer op) (unbegun place sent []) + 0 + (0 + 0) ≡ 0
    go zero sent = omega (arith, none_dropped (is_answer op) sent)
    go (suc k) sent = omega (arith, none_dropped (is_answer op) (suc sent))

pub nothing_pledged : (h : Held) → ((s : ℕ) → begun_of h s ≡ None) → h.state.rx.unexpected ≡ [] → h.state.rx.claimed ≡ [] → IsPledged h
nothing_pledged h none us cs d op = rw (us, cs, none d) (omega arith)

-- then each peer is owed that over any port at which nothing was posted
pub nothing_repaid : {Home : Type 0} (lanes : Lanes Home) (h : Held) → ((d op : ℕ) → due h d op ≡ 0) → ((d : ℕ) → (lanes.outs d).frames ≡ []) → IsRepaid lanes h
nothing_repaid lanes h none fresh d op below = go (lanes.outs d).owed refl
  where
    go : (o : Option (ℕ → ℕ)) → (lanes.outs d).owed ≡ o → Owes (lanes.outs d) (lanes.ins d) op (due h d op)
    go None e = rw e tt
    go (Some before) e = rw (e, fresh d, none d op) (omega arith)
