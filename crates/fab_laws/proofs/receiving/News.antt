-- What a step adds to the two histories, by what it does on the receiving side.
use Rattle.std.proofs.Common.{◌≡◌, ◌<◌, ◌≤◌, ℕ, Bool, true, false, not, ◌&&◌, List, [], ◌∷◌, ◌++◌, length, map, get_or, get_or-set_same, slice_get, Option, Some, None, inl, inr, refl, sym, ◌∙◌, ap, ap₂, subst, arith, append-nil, length-append}
use Rattle.std.specs.Prelude.{find, nat_lt, slice_index, ◌==◌}
use Rattle.std.proofs.lemmas.Bool.{and_parts, eq-eqb, eqb-true, le-ltb, lt-ltb}
use Rattle.std.proofs.lemmas.List.{length-map, length_push as length_more}
use Rattle.std.proofs.lemmas.Option.{slice_get_past as beyond}
use Rattle.fab_base.specs.declared.items.Item.{Item}
use Rattle.fab_base.specs.declared.operations.Arrival.{Arrival}
use Rattle.fab_base.specs.declared.operations.Coming.{Coming}
use Rattle.fab_base.specs.declared.operations.Coming.TheVariants.{Into, Keep, Throw}
use Rattle.fab_base.specs.declared.operations.Receive.{Receive}
use Rattle.fab_base.specs.declared.operations.Written.{Written}
use Rattle.fab_base.proofs.Lists.{get_last as last_get}
use Rattle.fab_model.specs.Matching.{remove_first, takes}
use Rattle.fab_base.specs.Kinds.{is_message}
use Rattle.fab_model.specs.State.{Receiving, State, coming_from}
use Rattle.fab_model.specs.Receiving.{Posting, claim_of, goes, receive_of, taking, want_of, without_claim, without_first}
use Rattle.fab_model.specs.Complete.{filling}
use Rattle.fab_model.specs.Arrivals.{completed, keeping, seating}
use Rattle.fab_model.specs.Calls.{Call}
use Rattle.fab_model.specs.Views.{View}
use Rattle.fab_model.proofs.Parts.{prefix_get}
use Rattle.fab_laws.specs.Members.{Ahead, In, Never}
use Rattle.fab_laws.specs.Programs.{Counts, Deed, Draw, Head, Makes, Peer, Tail}
use Rattle.fab_laws.specs.Matched.{Came, Cancelled, Event, Got, Lost, Made, Mark, arrives, came, cancel_of, cancels, claims_more, fate, filled_by, goes_into, gone, happens, is_posted, left, makes, mark_of, new_entry, noticed, parted, posting_of, same_item, taken_now, wish_of}
use Rattle.fab_laws.specs.Claimed.{Claimed, Discarded, Dropped, Handling, Took, aside_of, call_in, claims, discards, discarding, freeing, frees, handles, parted_claim}
use Rattle.fab_laws.proofs.Lists.{Each, Loses, ahead_in, ahead_map, ahead_middle, always, each_append, found_in, in_map, map_append, map_same, never, split_at}
use Rattle.fab_laws.proofs.matching.Moves.{Keeps, loses_mapped, parts, source_within, split_in}
use Rattle.fab_laws.proofs.matching.Watch.{entry_tells, left_got, left_lost, parted_same, parted_step as stands_step}
use Rattle.fab_laws.proofs.receiving.Acts.{Act, Arrives, Cancels, Claims, Closes, Discards, Draws, Drops, Fills, Gets, Joins, Passes, Plain, Posts, Rests, Seats, Takes, Waits, entries_for, entry_for, freed, given, is_head, leaving, let_out, subject, thrown}
use Rattle.fab_laws.proofs.receiving.Claiming.{Claiming, Dull, Freed, Gone, News, Put, Still, Thrown, claimed_gone}
use Rattle.fab_laws.proofs.receiving.Claiming.{Takes as TakesIt}
use Rattle.fab_laws.proofs.matching.Quiet.{completed_same as completed_mark}

-- ---- lists of arrivals and claims

pub stands : (before after : List Arrival) (more : List Mark) → map mark_of after ≡ map mark_of before ++ more → parted before after ≡ None
stands [] after more e = refl
stands (a ∷ before) [] more e = absurd (cc)
stands (a ∷ before) (b ∷ after) more e = let f : mark_of b ≡ mark_of a = cc in let g : map mark_of after ≡ map mark_of before ++ more = cc in stands_step a b before after f (stands before after more g)

claim_step : (c d : ℕ × Arrival) (before after : List (ℕ × Arrival)) → aside_of d ≡ aside_of c → parted_claim before after ≡ None → parted_claim (c ∷ before) (d ∷ after) ≡ None
claim_step c d before after e ih =
    let m : mark_of d.1 ≡ mark_of c.1 = ap (λ (z : ℕ × Mark). z.1) e in
    let k = eq-eqb c.0 d.0 (sym (ap (λ (z : ℕ × Mark). z.0) e)) in
    let f = eq-eqb c.1.source d.1.source (sym (ap (λ (m : Mark). m.source) m)) in
    let g = eq-eqb c.1.place d.1.place (sym (ap (λ (m : Mark). m.place) m)) in
    ap₂ (λ (x y : Bool). elim (x && y) [ true ↦ parted_claim before after | false ↦ Some c ]) k (ap₂ (λ (x y : Bool). x && y) f g) ∙ ih

claims_stand : (before after : List (ℕ × Arrival)) (more : List (ℕ × Mark)) → map aside_of after ≡ map aside_of before ++ more → parted_claim before after ≡ None
claims_stand [] after more e = refl
claims_stand (c ∷ before) [] more e = absurd (cc)
claims_stand (c ∷ before) (d ∷ after) more e = let f : aside_of d ≡ aside_of c = cc in let g : map aside_of after ≡ map aside_of before ++ more = cc in claim_step c d before after f (claims_stand before after more g)

claim_self : (c : ℕ × Arrival) (xs ys : List (ℕ × Arrival)) → parted_claim (c ∷ xs) (c ∷ ys) ≡ parted_claim xs ys
claim_self c xs ys = let k = eq-eqb c.0 c.0 refl in let f = eq-eqb c.1.source c.1.source refl in let g = eq-eqb c.1.place c.1.place refl in
    ap₂ (λ (x y : Bool). elim (x && y) [ true ↦ parted_claim xs ys | false ↦ Some c ]) k (ap₂ (λ (x y : Bool). x && y) f g)

claim_differs : (c d : ℕ × Arrival) (b : Bool) → ((c.0 == d.0) && same_item c.1 d.1) ≡ b → (c.1.source ≡ d.1.source → c.1.place ≡ d.1.place → Never) → b ≡ false
claim_differs c d true e apart = let p = and_parts _ _ (and_parts (c.0 == d.0) (same_item c.1 d.1) e).1 in never (apart (eqb-true c.1.source d.1.source p.0) (eqb-true c.1.place d.1.place p.1))
claim_differs c d false e apart = refl

claim_leaves : (c : ℕ × Arrival) (front back : List (ℕ × Arrival)) → ((d : ℕ × Arrival) → In d back → c.1.source ≡ d.1.source → c.1.place ≡ d.1.place → Never) → parted_claim (front ++ c ∷ back) (front ++ back) ≡ Some c
claim_leaves c [] [] apart = refl
claim_leaves c [] (d ∷ back) apart = ap (λ b. elim b [ true ↦ parted_claim (d ∷ back) back | false ↦ Some c ]) (claim_differs c d ((c.0 == d.0) && same_item c.1 d.1) refl (apart d (inl refl)))
claim_leaves c (e ∷ front) back apart = claim_self e (front ++ c ∷ back) (front ++ back) ∙ claim_leaves c front back apart

-- ---- what is left as it was

pub record Leaves (rx rx' : Receiving) : Type 0 where
  pub unexpected : rx'.unexpected ≡ rx.unexpected
  pub claimed : rx'.claimed ≡ rx.claimed
  pub tails : rx'.tails ≡ rx.tails

pub leaves_given : (r : Receive) (place : ℕ) (a : Arrival) (rx : Receiving) → Leaves rx (given r place a rx)
leaves_given r place a rx = go a.bytes
  where
    go : (o : Option (List ℕ)) → Leaves rx (let x : Receiving = elim o [ None ↦ goes a.source (Into r place) rx | Some bytes ↦ filling r place bytes rx ] in x)
    go None = record { unexpected = refl; claimed = refl; tails = refl }
    go (Some bytes) = record { unexpected = refl; claimed = refl; tails = refl }

pub leaves_thrown : (a : Arrival) (rx : Receiving) → Leaves rx (thrown a rx)
leaves_thrown a rx = go a.bytes
  where
    go : (o : Option (List ℕ)) → Leaves rx (let x : Receiving = elim o [ None ↦ goes a.source Throw rx | Some bytes ↦ rx ] in x)
    go None = record { unexpected = refl; claimed = refl; tails = refl }
    go (Some bytes) = record { unexpected = refl; claimed = refl; tails = refl }

pub leaves_out : (o : Option Receive) (rx : Receiving) → Leaves rx (let_out o rx)
leaves_out None rx = record { unexpected = refl; claimed = refl; tails = refl }
leaves_out (Some m) rx = record { unexpected = refl; claimed = refl; tails = refl }

pub coming_out : (o : Option Receive) (rx : Receiving) → (let_out o rx).coming ≡ rx.coming
coming_out None rx = refl
coming_out (Some m) rx = refl

-- ---- dull events

dull_cancels : (s t : State) → Each Dull (cancels s t)
dull_cancels s t = go (cancel_of (new_entry s t))
  where
    go : (o : Option ℕ) → Each Dull (elim o [ None ↦ [] | Some call ↦ Cancelled call ∷ [] ])
    go None = always
    go (Some call) = (always, always)

dull_makes : (p : Option Posting) (s t : State) → Each Dull (makes p s t)
dull_makes None s t = always
dull_makes (Some p) s t = go (nat_lt s.calls t.calls)
  where
    go : (b : Bool) → Each Dull (elim b [ true ↦ Made (wish_of (receive_of s p)) ∷ [] | false ↦ [] ])
    go true = (always, always)
    go false = always

dull_more : (p : Option Posting) (s t : State) → Each Dull (cancels s t ++ makes p s t)
dull_more p s t = each_append Dull (cancels s t) (makes p s t) (dull_cancels s t) (dull_makes p s t)

abbrev posting_in : Deed → Option Posting
posting_in (Makes call) = posting_of call
posting_in (Counts counters) = None
posting_in (Head source) = None
posting_in (Tail source) = None
posting_in (Deed.Sent t) = None
posting_in Draw = None
posting_in Deed.Read = None

noticed_is : (v : View Item) (a b : Peer) (x : Deed) → is_head x ≡ false → noticed v a x b ≡ happens a.state b.state (posting_in x)
noticed_is v a b (Makes call) e = refl
noticed_is v a b (Counts counters) e = refl
noticed_is v a b (Head source) e = absurd (cc (e))
noticed_is v a b (Tail source) e = refl
noticed_is v a b (Deed.Sent t) e = refl
noticed_is v a b Draw e = refl
noticed_is v a b Deed.Read e = refl

-- ---- each step

module _ (n : ℕ) (past : List Event) (h : List Handling) (v : View Item) (a b : Peer) (keeps : Keeps n past a.state) (kept : Claiming past h (map aside_of a.state.rx.claimed))
    (same_mark : (x y : Mark) → In x (came past) → In y (came past) → x.source ≡ y.source → x.place ≡ y.place → x ≡ y) (room : (source k : ℕ) (item : Item) → slice_get (v.ready source) k ≡ Some item → source < n) where
  abbrev Tells : Option (Receive × Mark) → List Event → List Handling → Type 0
  Tells o es hs = News past o (map aside_of a.state.rx.claimed) (map aside_of b.state.rx.claimed) es hs

  -- the watcher of those set aside sees these
  handled_so : (call : Option Call) (xs ys zs : List Handling) → frees call a.state b.state ≡ xs → claims a.state b.state ≡ ys → discards call a.state b.state ≡ zs → handles call a.state b.state ≡ (xs ++ ys) ++ zs
  handled_so call xs ys zs e f g = rw (e, f, g) refl

  frees_none : (call : Option Call) (more : List (ℕ × Mark)) → map aside_of b.state.rx.claimed ≡ map aside_of a.state.rx.claimed ++ more → frees call a.state b.state ≡ []
  frees_none call more e = ap (λ (o : Option (ℕ × Arrival)). elim o [ None ↦ [] | Some c ↦ freeing call a.state.calls (mark_of c.1) ∷ [] ]) (claims_stand a.state.rx.claimed b.state.rx.claimed more e)

  claims_none : length b.state.rx.claimed ≤ length a.state.rx.claimed → claims a.state b.state ≡ []
  claims_none le = ap (λ (o : Option (ℕ × Arrival)). elim o [ None ↦ [] | Some c ↦ Claimed c.0 (mark_of c.1) ∷ [] ]) (beyond b.state.rx.claimed (length a.state.rx.claimed) le)

  discards_none : (call : Option Call) → parted a.state.rx.unexpected b.state.rx.unexpected ≡ None → discards call a.state b.state ≡ []
  discards_none call e = ap (λ (o : Option Arrival). elim o [
    | None ↦ []
    | Some x ↦ elim (claims_more a.state b.state) [ true ↦ [] | false ↦ elim (taken_now a.state b.state x) [ Some receive ↦ [] | None ↦ discarding call a.state.calls (mark_of x) ∷ [] ] ]
  ]) e

  as_many : map aside_of b.state.rx.claimed ≡ map aside_of a.state.rx.claimed → length b.state.rx.claimed ≤ length a.state.rx.claimed
  as_many e = omega (arith, length-map b.state.rx.claimed aside_of, length-map a.state.rx.claimed aside_of, ap length e)

  no_more : length b.state.rx.claimed ≤ length a.state.rx.claimed → claims_more a.state b.state ≡ false
  no_more le = le-ltb (length a.state.rx.claimed) (length b.state.rx.claimed) le

  nothing_handled : (call : Option Call) → parted a.state.rx.unexpected b.state.rx.unexpected ≡ None → map aside_of b.state.rx.claimed ≡ map aside_of a.state.rx.claimed → handles call a.state b.state ≡ []
  nothing_handled call none same = handled_so call [] [] [] (frees_none call [] (same ∙ sym (append-nil (map aside_of a.state.rx.claimed)))) (claims_none (as_many same)) (discards_none call none)

  left_nothing : parted a.state.rx.unexpected b.state.rx.unexpected ≡ None → left a.state b.state ≡ []
  left_nothing e = ap (λ (o : Option Arrival). elim o [ None ↦ [] | Some x ↦ fate b.state (mark_of x) (taken_now a.state b.state x) ∷ [] ]) e

  still_happens : (p : Option Posting) → parted a.state.rx.unexpected b.state.rx.unexpected ≡ None → Each Dull (happens a.state b.state p)
  still_happens p none = subst (λ (xs : List Event). Each Dull ((xs ++ cancels a.state b.state) ++ makes p a.state b.state)) (sym (left_nothing none)) (dull_more p a.state b.state)

  quiet : (x : Deed) → is_head x ≡ false → parted a.state.rx.unexpected b.state.rx.unexpected ≡ None → map aside_of b.state.rx.claimed ≡ map aside_of a.state.rx.claimed → Tells None (noticed v a x b) (handles (call_in x) a.state b.state)
  quiet x no_head none same = Still refl (subst (Each Dull) (sym (noticed_is v a b x no_head)) (still_happens (posting_in x) none)) (nothing_handled (call_in x) none same) same

  same_lists : (x : Deed) → is_head x ≡ false → b.state.rx.unexpected ≡ a.state.rx.unexpected → b.state.rx.claimed ≡ a.state.rx.claimed → Tells None (noticed v a x b) (handles (call_in x) a.state b.state)
  same_lists x no_head unexpected claimed = quiet x no_head (ap (parted a.state.rx.unexpected) unexpected ∙ parted_same a.state.rx.unexpected) (ap (map aside_of) claimed)

  -- ---- a message leaves those that wait

  module _ (x : Deed) (no_head : is_head x ≡ false) (test : Arrival → Bool) (y : Arrival) (found : find test a.state.rx.unexpected ≡ Some y) (unexpected : b.state.rx.unexpected ≡ remove_first test a.state.rx.unexpected) where
    parts_at : parted a.state.rx.unexpected b.state.rx.unexpected ≡ Some y
    parts_at = ap (parted a.state.rx.unexpected) unexpected ∙ parts n past a.state keeps test y (split_at test a.state.rx.unexpected y found)

    there : In y a.state.rx.unexpected
    there = (found_in test a.state.rx.unexpected y found).0

    fresh : In (mark_of y) (gone past) → Never
    fresh = keeps.holds.still (mark_of y) (in_map mark_of y a.state.rx.unexpected there)

    within : y.source < length a.state.rx.coming
    within = source_within n past a.state keeps y there

    noticed_so : (e : Event) → left a.state b.state ≡ e ∷ [] → noticed v a x b ≡ e ∷ cancels a.state b.state ++ makes (posting_in x) a.state b.state
    noticed_so e is = noticed_is v a b x no_head ∙ ap (λ (es : List Event). (es ++ cancels a.state b.state) ++ makes (posting_in x) a.state b.state) is

    discards_so : (call : Option Call) (more : Bool) (o : Option ℕ) → claims_more a.state b.state ≡ more → taken_now a.state b.state y ≡ o
        → discards call a.state b.state ≡ (let hs : List Handling = elim more [ true ↦ [] | false ↦ elim o [ Some receive ↦ [] | None ↦ discarding call a.state.calls (mark_of y) ∷ [] ] ] in hs)
    discards_so call more o e f = ap (λ (p : Option Arrival). elim p [
      | None ↦ []
      | Some z ↦ elim (claims_more a.state b.state) [ true ↦ [] | false ↦ elim (taken_now a.state b.state z) [ Some receive ↦ [] | None ↦ discarding call a.state.calls (mark_of z) ∷ [] ] ]
    ]) parts_at ∙ ap₂ (λ (c : Bool) (p : Option ℕ). elim c [ true ↦ [] | false ↦ elim p [ Some receive ↦ [] | None ↦ discarding call a.state.calls (mark_of y) ∷ [] ] ]) e f

    got : (r : Receive) → b.state.rx.claimed ≡ a.state.rx.claimed → elim y.bytes [ Some _ ↦ filled_by (new_entry a.state b.state) | None ↦ goes_into (coming_from b.state.rx y.source) ] ≡ Some r.call → Tells (Some (r, mark_of y)) (noticed v a x b) (handles (call_in x) a.state b.state)
    got r claimed seen =
        let same : map aside_of b.state.rx.claimed ≡ map aside_of a.state.rx.claimed = ap (map aside_of) claimed in
        let few = no_more (as_many same) in
        Gone r (mark_of y) (not (is_posted r.call b.state)) (cancels a.state b.state ++ makes (posting_in x) a.state b.state) refl fresh
        (noticed_so (Got r.call (mark_of y) (not (is_posted r.call b.state))) (left_got a.state b.state y r.call (not (is_posted r.call b.state)) parts_at claimed seen refl))
        (dull_more (posting_in x) a.state b.state)
        (handled_so (call_in x) [] [] [] (frees_none (call_in x) [] (same ∙ sym (append-nil (map aside_of a.state.rx.claimed)))) (claims_none (as_many same))
        (discards_so (call_in x) false (Some r.call) few (ap (λ c. elim c [ true ↦ None | false ↦ elim y.bytes [ Some _ ↦ filled_by (new_entry a.state b.state) | None ↦ goes_into (coming_from b.state.rx y.source) ] ]) few ∙ seen)))
        same

    put : (ctx : ℕ) → b.state.rx.claimed ≡ a.state.rx.claimed ++ (ctx, y) ∷ [] → Tells None (noticed v a x b) (handles (call_in x) a.state b.state)
    put ctx claimed =
        let more : map aside_of b.state.rx.claimed ≡ map aside_of a.state.rx.claimed ++ (ctx, mark_of y) ∷ [] = ap (map aside_of) claimed ∙ map_append aside_of a.state.rx.claimed ((ctx, y) ∷ []) in
        let many : claims_more a.state b.state ≡ true = lt-ltb (length a.state.rx.claimed) (length b.state.rx.claimed) (omega (arith, ap length claimed, length_more a.state.rx.claimed (ctx, y))) in
        let none : taken_now a.state b.state y ≡ None = ap (λ c. elim c [ true ↦ None | false ↦ elim y.bytes [ Some _ ↦ filled_by (new_entry a.state b.state) | None ↦ goes_into (coming_from b.state.rx y.source) ] ]) many in
        Put ctx (mark_of y) (cancels a.state b.state ++ makes (posting_in x) a.state b.state) refl fresh (noticed_so (Lost (mark_of y)) (left_lost a.state b.state y parts_at none)) (dull_more (posting_in x) a.state b.state)
        (handled_so (call_in x) [] (Claimed ctx (mark_of y) ∷ []) [] (frees_none (call_in x) ((ctx, mark_of y) ∷ []) more)
        (ap (λ (o : Option (ℕ × Arrival)). elim o [ None ↦ [] | Some c ↦ Claimed c.0 (mark_of c.1) ∷ [] ]) (ap (λ (cs : List (ℕ × Arrival)). slice_get cs (length a.state.rx.claimed)) claimed ∙ last_get a.state.rx.claimed (ctx, y)))
        (discards_so (call_in x) true None many none))
        more

    throw : (call : ℕ) → discarding (call_in x) a.state.calls (mark_of y) ≡ Discarded call (mark_of y) → b.state.rx.claimed ≡ a.state.rx.claimed
        → (let o : Option ℕ = elim y.bytes [ Some _ ↦ filled_by (new_entry a.state b.state) | None ↦ goes_into (coming_from b.state.rx y.source) ] in o) ≡ None → Tells None (noticed v a x b) (handles (call_in x) a.state b.state)
    throw call asks claimed seen =
        let same : map aside_of b.state.rx.claimed ≡ map aside_of a.state.rx.claimed = ap (map aside_of) claimed in
        let few = no_more (as_many same) in
        let none : taken_now a.state b.state y ≡ None = ap (λ c. elim c [ true ↦ None | false ↦ elim y.bytes [ Some _ ↦ filled_by (new_entry a.state b.state) | None ↦ goes_into (coming_from b.state.rx y.source) ] ]) few ∙ seen in
        Thrown call (mark_of y) (cancels a.state b.state ++ makes (posting_in x) a.state b.state) refl fresh (noticed_so (Lost (mark_of y)) (left_lost a.state b.state y parts_at none)) (dull_more (posting_in x) a.state b.state)
        (handled_so (call_in x) [] [] (Discarded call (mark_of y) ∷ []) (frees_none (call_in x) [] (same ∙ sym (append-nil (map aside_of a.state.rx.claimed)))) (claims_none (as_many same))
        (discards_so (call_in x) false None few none ∙ ap (λ (e : Handling). e ∷ []) asks))
        same

  -- ---- a message leaves those set aside

  module _ (x : Deed) (no_head : is_head x ≡ false) (ctx : ℕ) (y : Arrival) (found : claim_of ctx a.state ≡ Some y) (claimed : b.state.rx.claimed ≡ remove_first (λ (c : ℕ × Arrival). c.0 == ctx) a.state.rx.claimed) (unexpected : b.state.rx.unexpected ≡ a.state.rx.unexpected) where
    abbrev named : ℕ × Arrival → Bool
    named c = c.0 == ctx

    the_claim : (c : ℕ × Arrival) × (find (λ (c : ℕ × Arrival). c.0 == ctx) a.state.rx.claimed ≡ Some c) × (c.1 ≡ y)
    the_claim = go (find (λ (c : ℕ × Arrival). c.0 == ctx) a.state.rx.claimed) refl found
      where
        go : (o : Option (ℕ × Arrival)) → find (λ (c : ℕ × Arrival). c.0 == ctx) a.state.rx.claimed ≡ o → (let p : Option Arrival = elim o [ None ↦ None | Some c ↦ Some c.1 ] in p) ≡ Some y → (c : ℕ × Arrival) × (find (λ (c : ℕ × Arrival). c.0 == ctx) a.state.rx.claimed ≡ Some c) × (c.1 ≡ y)
        go None e f = absurd (cc (f))
        go (Some c) e f = (c, e, (let g : c.1 ≡ y = cc (f) in g))

    free_up : (o : Option (Receive × Mark)) (call : ℕ) (e : Handling) → freeing (call_in x) a.state.calls (mark_of y) ≡ e → TakesIt o call ctx (mark_of y) e → Tells o (noticed v a x b) (handles (call_in x) a.state b.state)
    free_up o call e asks is = go the_claim.0 the_claim.1 the_claim.2
      where
        go : (c : ℕ × Arrival) → find (λ (c : ℕ × Arrival). c.0 == ctx) a.state.rx.claimed ≡ Some c → c.1 ≡ y → Tells o (noticed v a x b) (handles (call_in x) a.state b.state)
        go c at same =
            let split = split_at named a.state.rx.claimed c at in
            let context : c.0 ≡ ctx = eqb-true c.0 ctx split.pass in
            let mark : mark_of c.1 ≡ mark_of y = ap mark_of same in
            let name : aside_of c ≡ (ctx, mark_of y) = ap (λ k. (k, mark_of c.1)) context ∙ ap (λ m. (ctx, m)) mark in
            let there = split_in aside_of named a.state.rx.claimed c split in
            let parts_so : parted_claim a.state.rx.claimed b.state.rx.claimed ≡ Some c = ap (parted_claim a.state.rx.claimed) claimed ∙ ap₂ parted_claim split.whole split.removed ∙ claim_leaves c split.front split.back (λ d i source place.
            let ahead : Ahead c d a.state.rx.claimed = subst (λ zs. Ahead c d zs) (sym split.whole) (ahead_middle c d split.front split.back i) in
            let behind : In d a.state.rx.claimed = (ahead_in c d a.state.rx.claimed ahead).1 in
            kept.apart (aside_of c) (aside_of d) (ahead_map aside_of c d a.state.rx.claimed ahead)
            (same_mark (mark_of c.1) (mark_of d.1) (came_of c there) (came_of d behind) source place)) in
            let loses = loses_mapped aside_of named a.state.rx.claimed c split in
            let fewer : length b.state.rx.claimed ≤ length a.state.rx.claimed = omega (arith, ap length claimed, ap length split.removed, ap length split.whole, length-append split.front split.back, length-append split.front (c ∷ split.back)) in
            Freed call ctx (mark_of y) e is (subst (Each Dull) (sym (noticed_is v a b x no_head)) (still_happens (posting_in x) (ap (parted a.state.rx.unexpected) unexpected ∙ parted_same a.state.rx.unexpected)))
            (handled_so (call_in x) (e ∷ []) [] [] (ap (λ (o : Option (ℕ × Arrival)). elim o [ None ↦ [] | Some c ↦ freeing (call_in x) a.state.calls (mark_of c.1) ∷ [] ]) parts_so ∙ ap (λ m. freeing (call_in x) a.state.calls m ∷ []) mark ∙ ap (λ (f : Handling). f ∷ []) asks)
            (claims_none fewer) (discards_none (call_in x) (ap (parted a.state.rx.unexpected) unexpected ∙ parted_same a.state.rx.unexpected)))
            (subst (λ z. In z (map aside_of a.state.rx.claimed)) name (in_map aside_of c a.state.rx.claimed there))
            (subst (λ z. Loses z (map aside_of a.state.rx.claimed) (map aside_of b.state.rx.claimed) true) name (subst (λ (cs : List (ℕ × Arrival)). Loses (aside_of c) (map aside_of a.state.rx.claimed) (map aside_of cs) true) (sym claimed) loses))
          where
            came_of : (d : ℕ × Arrival) → In d a.state.rx.claimed → In (mark_of d.1) (came past)
            came_of d i = keeps.holds.gone_came (mark_of d.1) (claimed_gone past h (map aside_of a.state.rx.claimed) kept d.0 (mark_of d.1) (kept.claimed d.0 (mark_of d.1) (in_map aside_of d a.state.rx.claimed i)).0)

  -- ---- a message arrives

  module _ (source : ℕ) (item : Item) (arrives_so : Arrives v a.state source item) (message : is_message item.head.kind ≡ true) where
    seen_so : noticed v a (Head source) b ≡ arrives b.state (record { source = source; place = slice_index a.state.rx.heads source; head = item.head })
    seen_so = ap (λ (o : Option Item). elim o [
      | None ↦ []
      | Some item ↦ elim (is_message item.head.kind) [ true ↦ arrives b.state (record { source = source; place = slice_index a.state.rx.heads source; head = item.head }) | false ↦ [] ]
    ]) arrives_so.at ∙ ap (λ c. elim c [ true ↦ arrives b.state (record { source = source; place = slice_index a.state.rx.heads source; head = item.head }) | false ↦ [] ]) message

    went : (o : Option ℕ) → goes_into (coming_from b.state.rx source) ≡ o → noticed v a (Head source) b ≡ (let es : List Event = elim o [ Some call ↦ Got call (record { source = source; place = slice_index a.state.rx.heads source; head = item.head }) (not (is_posted call b.state)) ∷ Came (record { source = source; place = slice_index a.state.rx.heads source; head = item.head }) ∷ [] | None ↦ Came (record { source = source; place = slice_index a.state.rx.heads source; head = item.head }) ∷ [] ] in es)
    went o e = seen_so ∙ ap (λ (p : Option ℕ). elim p [ Some call ↦ Got call (record { source = source; place = slice_index a.state.rx.heads source; head = item.head }) (not (is_posted call b.state)) ∷ Came (record { source = source; place = slice_index a.state.rx.heads source; head = item.head }) ∷ [] | None ↦ Came (record { source = source; place = slice_index a.state.rx.heads source; head = item.head }) ∷ [] ]) e

    new_mark : In (record { source = source; place = slice_index a.state.rx.heads source; head = item.head }) (gone past) → Never
    new_mark i = absurd (omega (arith, keeps.holds.fresh_marks _ (keeps.holds.gone_came _ i)))

    taken : (r : Receive) → goes_into (coming_from b.state.rx source) ≡ Some r.call → parted a.state.rx.unexpected b.state.rx.unexpected ≡ None → map aside_of b.state.rx.claimed ≡ map aside_of a.state.rx.claimed → Tells (Some (r, record { source = source; place = slice_index a.state.rx.heads source; head = item.head })) (noticed v a (Head source) b) (handles None a.state b.state)
    taken r e none same = Gone r (record { source = source; place = slice_index a.state.rx.heads source; head = item.head }) (not (is_posted r.call b.state)) (Came (record { source = source; place = slice_index a.state.rx.heads source; head = item.head }) ∷ []) refl new_mark (went (Some r.call) e) (always, always) (nothing_handled None none same) same

    waits : goes_into (coming_from b.state.rx source) ≡ None → parted a.state.rx.unexpected b.state.rx.unexpected ≡ None → map aside_of b.state.rx.claimed ≡ map aside_of a.state.rx.claimed → Tells None (noticed v a (Head source) b) (handles None a.state b.state)
    waits e none same = Still refl (subst (Each Dull) (sym (went None e)) (always, always)) (nothing_handled None none same) same

  passes : (source : ℕ) (item : Item) → Arrives v a.state source item → is_message item.head.kind ≡ false → noticed v a (Head source) b ≡ []
  passes source item arrives_so other = ap (λ (o : Option Item). elim o [
    | None ↦ []
    | Some item ↦ elim (is_message item.head.kind) [ true ↦ arrives b.state (record { source = source; place = slice_index a.state.rx.heads source; head = item.head }) | false ↦ [] ]
  ]) arrives_so.at ∙ ap (λ c. elim c [ true ↦ arrives b.state (record { source = source; place = slice_index a.state.rx.heads source; head = item.head }) | false ↦ [] ]) other

  in_coming : (source k : ℕ) (item : Item) → slice_get (v.ready source) k ≡ Some item → source < length a.state.rx.coming
  in_coming source k item at = omega (arith, room source k item at, keeps.coming_count)

  -- the watcher sees whose a message is that was given to a receive
  given_seen : (r : Receive) (place : ℕ) (y : Arrival) (before mid : Receiving) (more : List Written) → y.source < length before.coming → mid ≡ given r place y before → b.state.rx.coming ≡ mid.coming → b.state.cq.written ≡ (a.state.cq.written ++ entries_for r place y) ++ more
      → elim y.bytes [ Some _ ↦ filled_by (new_entry a.state b.state) | None ↦ goes_into (coming_from b.state.rx y.source) ] ≡ Some r.call
  given_seen r place y before mid more within is coming written = go y.bytes (coming ∙ ap (λ (rx : Receiving). rx.coming) is) written
    where
      go : (o : Option (List ℕ)) → b.state.rx.coming ≡ (let x : Receiving = elim o [ None ↦ goes y.source (Into r place) before | Some bytes ↦ filling r place bytes before ] in x).coming
          → b.state.cq.written ≡ (a.state.cq.written ++ (let ws : List Written = elim o [ None ↦ [] | Some bytes ↦ entry_for r place y.source y.head bytes ∷ [] ] in ws)) ++ more
          → elim o [ Some _ ↦ filled_by (new_entry a.state b.state) | None ↦ goes_into (coming_from b.state.rx y.source) ] ≡ Some r.call
      go None e f = ap (λ (cs : List (Option Coming)). goes_into (get_or cs y.source None)) e ∙ ap goes_into (get_or-set_same before.coming y.source (Some (Into r place)) None within)
      go (Some bytes) e f =
          let w : Written = entry_for r place y.source y.head bytes in
          let new : new_entry a.state b.state ≡ Some w = ap (λ (ws : List Written). slice_get ws (length a.state.cq.written)) f ∙ prefix_get (a.state.cq.written ++ w ∷ []) more (length a.state.cq.written) w (last_get a.state.cq.written w) in
          ap filled_by new ∙ ap (λ c. elim c [ true ↦ Some r.call | false ↦ None ]) (entry_tells r place y.source y.head bytes)

  thrown_seen : (y : Arrival) (before : Receiving) (w : Written) → y.source < length before.coming → b.state.rx.coming ≡ (thrown y before).coming → b.state.cq.written ≡ a.state.cq.written ++ w ∷ [] → Plain w
      → (let o : Option ℕ = elim y.bytes [ Some _ ↦ filled_by (new_entry a.state b.state) | None ↦ goes_into (coming_from b.state.rx y.source) ] in o) ≡ None
  thrown_seen y before w within coming written plain = go y.bytes coming
    where
      go : (o : Option (List ℕ)) → b.state.rx.coming ≡ (let x : Receiving = elim o [ None ↦ goes y.source Throw before | Some bytes ↦ before ] in x).coming → (let p : Option ℕ = elim o [ Some _ ↦ filled_by (new_entry a.state b.state) | None ↦ goes_into (coming_from b.state.rx y.source) ] in p) ≡ None
      go None e = ap (λ (cs : List (Option Coming)). goes_into (get_or cs y.source None)) e ∙ ap goes_into (get_or-set_same before.coming y.source (Some Throw) None within)
      go (Some bytes) e = ap filled_by (ap (λ (ws : List Written). slice_get ws (length a.state.cq.written)) written ∙ last_get a.state.cq.written w) ∙ ap (λ c. elim c [ true ↦ w.call | false ↦ None ]) plain.0

  pub news : (x : Deed) (did : Act v a.state x b.state) → Tells (subject v a.state x b.state did) (noticed v a x b) (handles (call_in x) a.state b.state)
  unfolding keeping
  news x (Rests no_head idle) = same_lists x no_head (ap (λ (rx : Receiving). rx.unexpected) idle.rx) (ap (λ (rx : Receiving). rx.claimed) idle.rx)
  news x (Posts p is calls rx written) = same_lists x (ap is_head is) (ap (λ (rx : Receiving). rx.unexpected) rx) (ap (λ (rx : Receiving). rx.claimed) rx)
  news x (Gets p y is calls single found rx written) =
      let before : Receiving = without_first (receive_of a.state p).want a.state.rx in
      let l = leaves_given (receive_of a.state p) 0 y before in
      got x (ap is_head is) (takes (receive_of a.state p).want) y found (ap (λ (rx : Receiving). rx.unexpected) rx ∙ l.unexpected) (receive_of a.state p) (ap (λ (rx : Receiving). rx.claimed) rx ∙ l.claimed)
      (given_seen (receive_of a.state p) 0 y before (given (receive_of a.state p) 0 y before) [] (source_within n past a.state keeps y (found_in (takes (receive_of a.state p).want) a.state.rx.unexpected y found).0) refl (ap (λ (rx : Receiving). rx.coming) rx) (written ∙ sym (append-nil _)))
  news x (Claims source tag ignore ctx y w is calls found rx written plain) =
      put x (ap is_head is) (takes (want_of a.state true source tag ignore)) y found (ap (λ (rx : Receiving). rx.unexpected) rx) ctx (ap (λ (rx : Receiving). rx.claimed) rx)
  news x (Discards source tag ignore ctx y w is calls found rx written plain) =
      let before : Receiving = without_first (want_of a.state true source tag ignore) a.state.rx in
      let l = leaves_thrown y before in
      throw x (ap is_head is) (takes (want_of a.state true source tag ignore)) y found (ap (λ (rx : Receiving). rx.unexpected) rx ∙ l.unexpected) a.state.calls (ap (λ (z : Deed). discarding (call_in z) a.state.calls (mark_of y)) is) (ap (λ (rx : Receiving). rx.claimed) rx ∙ l.claimed)
      (thrown_seen y before w (source_within n past a.state keeps y (found_in (takes (want_of a.state true source tag ignore)) a.state.rx.unexpected y found).0) (ap (λ (rx : Receiving). rx.coming) rx) written plain)
  news x (Takes buf ctx y is calls found rx written) =
      let l = leaves_given (taking a.state buf ctx) 0 y (without_claim ctx a.state.rx) in
      free_up x (ap is_head is) ctx y found (ap (λ (rx : Receiving). rx.claimed) rx ∙ l.claimed) (ap (λ (rx : Receiving). rx.unexpected) rx ∙ l.unexpected) (Some (taking a.state buf ctx, mark_of y)) a.state.calls (Took a.state.calls ctx (mark_of y)) (ap (λ (z : Deed). freeing (call_in z) a.state.calls (mark_of y)) is) (inl (taking a.state buf ctx, refl, refl, refl, refl, refl))
  news x (Drops ctx y w is calls found rx written plain) =
      let l = leaves_thrown y (without_claim ctx a.state.rx) in
      free_up x (ap is_head is) ctx y found (ap (λ (rx : Receiving). rx.claimed) rx ∙ l.claimed) (ap (λ (rx : Receiving). rx.unexpected) rx ∙ l.unexpected) None a.state.calls (Dropped a.state.calls ctx (mark_of y)) (ap (λ (z : Deed). freeing (call_in z) a.state.calls (mark_of y)) is) (inr (refl, refl))
  news x (Cancels c test r is which calls found rx written) = same_lists x (ap is_head is) (ap (λ (rx : Receiving). rx.unexpected) rx) (ap (λ (rx : Receiving). rx.claimed) rx)
  news x (Seats source item r is arrives_so message found rx written) =
      subst (λ (z : Deed). Tells (Some (r, record { source = source; place = slice_index a.state.rx.heads source; head = item.head })) (noticed v a z b) (handles (call_in z) a.state b.state)) (sym is)
      (taken source item arrives_so message r
      (ap (λ (rx : Receiving). goes_into (coming_from rx source)) rx ∙ ap goes_into (get_or-set_same a.state.rx.coming source (Some (Into r r.used)) None (in_coming source (slice_index a.state.rx.heads source) item arrives_so.at)))
      (ap (λ (rx : Receiving). parted a.state.rx.unexpected rx.unexpected) rx ∙ parted_same a.state.rx.unexpected) (ap (λ (rx : Receiving). map aside_of rx.claimed) rx))
  news x (Waits source item is arrives_so message found rx written) =
      subst (λ (z : Deed). Tells None (noticed v a z b) (handles (call_in z) a.state b.state)) (sym is)
      (waits source item arrives_so message
      (ap (λ (rx : Receiving). goes_into (coming_from rx source)) rx ∙ ap goes_into (get_or-set_same a.state.rx.coming source (Some Keep) None (in_coming source (slice_index a.state.rx.heads source) item arrives_so.at)))
      (stands a.state.rx.unexpected b.state.rx.unexpected _ (ap (λ (rx : Receiving). map mark_of rx.unexpected) rx ∙ map_append mark_of a.state.rx.unexpected _)) (ap (λ (rx : Receiving). map aside_of rx.claimed) rx))
  news x (Passes source item c is arrives_so other no_into rx written) =
      subst (λ (z : Deed). Tells None (noticed v a z b) (handles (call_in z) a.state b.state)) (sym is)
      (Still refl (subst (Each Dull) (sym (passes source item arrives_so other)) always) (nothing_handled None (ap (λ (rx : Receiving). parted a.state.rx.unexpected rx.unexpected) rx ∙ parted_same a.state.rx.unexpected) (ap (λ (rx : Receiving). map aside_of rx.claimed) rx)) (ap (λ (rx : Receiving). map aside_of rx.claimed) rx))
  news x (Draws r y is found first mid is_mid rx written) =
      let before : Receiving = without_first r.want (seating y.head.total r a.state.rx.unexpected a.state.rx) in
      let l = leaves_given r r.used y before in
      let o = leaves_out (leaving r mid) mid in
      got x (ap is_head is) (takes r.want) y first (ap (λ (rx : Receiving). rx.unexpected) rx ∙ o.unexpected ∙ ap (λ (rx : Receiving). rx.unexpected) is_mid ∙ l.unexpected) r (ap (λ (rx : Receiving). rx.claimed) rx ∙ o.claimed ∙ ap (λ (rx : Receiving). rx.claimed) is_mid ∙ l.claimed)
      (given_seen r r.used y before mid (freed (leaving r mid)) (source_within n past a.state keeps y (found_in (takes r.want) a.state.rx.unexpected y first).0) is_mid (ap (λ (rx : Receiving). rx.coming) rx ∙ coming_out (leaving r mid) mid) written)
  news x (Fills source item r place is ends from mid is_mid rx written) =
      let o = leaves_out (leaving r mid) mid in
      same_lists x (ap is_head is) (ap (λ (rx : Receiving). rx.unexpected) rx ∙ o.unexpected ∙ ap (λ (rx : Receiving). rx.unexpected) is_mid) (ap (λ (rx : Receiving). rx.claimed) rx ∙ o.claimed ∙ ap (λ (rx : Receiving). rx.claimed) is_mid)
  news x (Joins source item is ends from rx written) =
      quiet x (ap is_head is) (stands a.state.rx.unexpected b.state.rx.unexpected [] (ap (λ (rx : Receiving). map mark_of rx.unexpected) rx ∙ map_same mark_of (completed source item.bytes) a.state.rx.unexpected (completed_mark source item.bytes) ∙ sym (append-nil (map mark_of a.state.rx.unexpected))))
      (ap (λ (rx : Receiving). map aside_of rx.claimed) rx ∙ map_same aside_of (λ (c : ℕ × Arrival). (c.0, completed source item.bytes c.1)) a.state.rx.claimed (λ c. ap (λ m. (c.0, m)) (completed_mark source item.bytes c.1)))
  news x (Closes source item more is ends no_into no_keep rx written plain) = same_lists x (ap is_head is) (ap (λ (rx : Receiving). rx.unexpected) rx) (ap (λ (rx : Receiving). rx.claimed) rx)
