-- The numbers of calls stay distinct, so no posted receive has an item under way.
use Rattle.std.proofs.Common.{◌≡◌, ◌≢◌, ◌⊎◌, inl, inr, ℕ, ◌+◌, ◌<◌, ◌≤◌, Bool, true, false, List, [], ◌∷◌, ◌++◌, Option, Some, None, get_or, set, replicate, refl, sym, subst, ◌∙◌, arith}
use Rattle.std.specs.Prelude.{find, is_some}
use Rattle.fab_model.proofs.Parts.{get_or-set}
use Rattle.fab_base.specs.declared.items.Kind.{Kind}
use Rattle.fab_base.specs.declared.items.Kind.TheVariants.{Msg, TagMsg, WriteReq, ReadReq, AtomicReq, Reply}
use Rattle.fab_base.specs.declared.items.ItemHead.{ItemHead}
use Rattle.fab_base.specs.declared.operations.Receive.{Receive}
use Rattle.fab_base.specs.declared.operations.Arrival.{Arrival}
use Rattle.fab_base.specs.declared.operations.Coming.{Coming}
use Rattle.fab_base.specs.declared.operations.Coming.TheVariants.{Into, Keep, Throw, Request, Answer}
use Rattle.fab_model.specs.Matching.{takes, change_first, remove_first}
use Rattle.fab_base.specs.Kinds.{is_message}
use Rattle.fab_model.specs.State.{Receiving, coming_from, under_way}
use Rattle.fab_model.specs.Complete.{filled, filling, is_made_by}
use Rattle.fab_model.specs.Arrivals.{heading_message, heading_other, is_wanted, keeping, made_whole, taker, way_of}
use Rattle.fab_model.proofs.Unchanged.{single_seated}
use Rattle.fab_rx.specs.Arriving.{Arriving, IsSingle, arriving, begun_of, bytes_come, finishing, kept, posting, shared, without_closed}
use Rattle.fab_rx.specs.Stored.{turned}
use Rattle.fab_rx.specs.Numbers.{AreBelow, AreDistinct, GoesElsewhere, HaveOtherCalls, IsNumbered}
use Rattle.fab_rx.proofs.Known.{none_in_row}

-- ---- lists of receives

module _ (test : Receive → Bool) where
  pub others_fewer : (call : ℕ) (rs : List Receive) → HaveOtherCalls call rs → HaveOtherCalls call (remove_first test rs)
  others_fewer call [] h = h
  others_fewer call (r ∷ rs) h = step (test r) refl (others_fewer call rs h.1)
    where
      step : (b : Bool) → test r ≡ b → HaveOtherCalls call (remove_first test rs) → HaveOtherCalls call (remove_first test (r ∷ rs))
      step true e more = rw (e, remove_first) h.1
      step false e more = rw (e, remove_first) (h.0, more)

  pub distinct_fewer : (rs : List Receive) → AreDistinct rs → AreDistinct (remove_first test rs)
  distinct_fewer [] d = d
  distinct_fewer (r ∷ rs) d = step (test r) refl (distinct_fewer rs d.1)
    where
      step : (b : Bool) → test r ≡ b → AreDistinct (remove_first test rs) → AreDistinct (remove_first test (r ∷ rs))
      step true e more = rw (e, remove_first) d.1
      step false e more = rw (e, remove_first) (others_fewer r.call rs d.0, more)

  pub below_fewer : (n : ℕ) (rs : List Receive) → AreBelow n rs → AreBelow n (remove_first test rs)
  below_fewer n [] b = b
  below_fewer n (r ∷ rs) b = step (test r) refl (below_fewer n rs b.1)
    where
      step : (t : Bool) → test r ≡ t → AreBelow n (remove_first test rs) → AreBelow n (remove_first test (r ∷ rs))
      step true e more = rw (e, remove_first) b.1
      step false e more = rw (e, remove_first) (b.0, more)

  pub below_found : (n : ℕ) (rs : List Receive) (q : Receive) → AreBelow n rs → find test rs ≡ Some q → q.call < n
  below_found n [] q b e = absurd (cc)
  below_found n (r ∷ rs) q b e = step (test r) refl (λ later. below_found n rs q b.1 later)
    where
      step : (t : Bool) → test r ≡ t → (find test rs ≡ Some q → q.call < n) → q.call < n
      step true is later = let same : Some r ≡ Some q = rw is at e in let equal : r ≡ q = cc in subst (λ (x : Receive). x.call < n) equal b.0
      step false is later = later (rw is at e)

  pub found_other : (call : ℕ) (rs : List Receive) (q : Receive) → HaveOtherCalls call rs → find test rs ≡ Some q → q.call ≢ call
  found_other call [] q h e = absurd (cc)
  found_other call (r ∷ rs) q h e = step (test r) refl (λ later. found_other call rs q h.1 later)
    where
      step : (t : Bool) → test r ≡ t → (find test rs ≡ Some q → q.call ≢ call) → q.call ≢ call
      step true is later = let same : Some r ≡ Some q = rw is at e in let equal : r ≡ q = cc in subst (λ (x : Receive). x.call ≢ call) equal h.0
      step false is later = later (rw is at e)

  -- the receive that leaves has another number than those that stay
  pub others_found : (rs : List Receive) (q : Receive) → AreDistinct rs → find test rs ≡ Some q → HaveOtherCalls q.call (remove_first test rs)
  others_found [] q d e = tt
  others_found (r ∷ rs) q d e = step (test r) refl (λ later. others_found rs q d.1 later)
    where
      step : (t : Bool) → test r ≡ t → (find test rs ≡ Some q → HaveOtherCalls q.call (remove_first test rs)) → HaveOtherCalls q.call (remove_first test (r ∷ rs))
      step true is later = let same : Some r ≡ Some q = rw is at e in let equal : r ≡ q = cc in rw (is, remove_first) (subst (λ (x : Receive). HaveOtherCalls x.call rs) equal d.0)
      step false is later =
          let found : find test rs ≡ Some q = rw is at e in
          let differs = found_other r.call rs q d.0 found in
          rw (is, remove_first) ((λ same. differs (sym same)), later found)

pub below_more : (n m : ℕ) (rs : List Receive) → n ≤ m → AreBelow n rs → AreBelow m rs
below_more n m [] le b = tt
below_more n m (r ∷ rs) le b = (let lt = b.0 in omega arith, below_more n m rs le b.1)

pub below_push : (n : ℕ) (rs : List Receive) (q : Receive) → AreBelow n rs → q.call < n → AreBelow n (rs ++ q ∷ [])
below_push n [] q b lt = (lt, tt)
below_push n (r ∷ rs) q b lt = (b.0, below_push n rs q b.1 lt)

pub others_below : (n call : ℕ) (rs : List Receive) → n ≤ call → AreBelow n rs → HaveOtherCalls call rs
others_below n call [] le b = tt
others_below n call (r ∷ rs) le b = ((λ same. let lt = b.0 in absurd (omega arith)), others_below n call rs le b.1)

pub others_push : (call : ℕ) (rs : List Receive) (q : Receive) → HaveOtherCalls call rs → q.call ≢ call → HaveOtherCalls call (rs ++ q ∷ [])
others_push call [] q h ne = (ne, tt)
others_push call (r ∷ rs) q h ne = (h.0, others_push call rs q h.1 ne)

pub distinct_push : (rs : List Receive) (q : Receive) → AreDistinct rs → HaveOtherCalls q.call rs → AreDistinct (rs ++ q ∷ [])
distinct_push [] q d h = (tt, tt)
distinct_push (r ∷ rs) q d h = (others_push r.call rs q d.0 (λ same. h.0 (sym same)), distinct_push rs q d.1 h.1)

-- ---- items under way

pub elsewhere_by : (n m : ℕ) (before after : List Receive) (c : Option Coming) → n ≤ m → ((call : ℕ) → call < n → HaveOtherCalls call before → HaveOtherCalls call after) → GoesElsewhere n before c → GoesElsewhere m after c
elsewhere_by n m before after None le more g = tt
elsewhere_by n m before after (Some (Into r place)) le more g = (let lt = g.0 in omega arith, λ single. more r.call g.0 (g.1 single))
elsewhere_by n m before after (Some Keep) le more g = tt
elsewhere_by n m before after (Some Throw) le more g = tt
elsewhere_by n m before after (Some Request) le more g = tt
elsewhere_by n m before after (Some Answer) le more g = tt

pub elsewhere_set : (n : ℕ) (posted : List Receive) (coming : List (Option Coming)) (s : ℕ) (c : Option Coming) → ((t : ℕ) → GoesElsewhere n posted (get_or coming t None)) → GoesElsewhere n posted c → (t : ℕ) → GoesElsewhere n posted (get_or (set coming s c) t None)
elsewhere_set n posted coming s c all new t = by_place (get_or-set coming s t c None)
  where
    by_place : (get_or (set coming s c) t None ≡ get_or coming t None) ⊎ ((s ≡ t) × (get_or (set coming s c) t None ≡ c)) → GoesElsewhere n posted (get_or (set coming s c) t None)
    by_place (inl same) = subst (λ (o : Option Coming). GoesElsewhere n posted o) (sym same) (all t)
    by_place (inr here) = subst (λ (o : Option Coming). GoesElsewhere n posted o) (sym here.1) new

other_way : (n : ℕ) (posted : List Receive) (kind : Kind) → GoesElsewhere n posted (Some (way_of kind))
other_way n posted Msg = tt
other_way n posted TagMsg = tt
other_way n posted WriteReq = tt
other_way n posted ReadReq = tt
other_way n posted AtomicReq = tt
other_way n posted Reply = tt

-- ---- bytes come into a multi-receive

module _ (test : Receive → Bool) (f : Receive → Receive) (same : (r : Receive) → (f r).call ≡ r.call) where
  pub others_changed : (call : ℕ) (rs : List Receive) → HaveOtherCalls call rs → HaveOtherCalls call (change_first test f rs)
  others_changed call [] h = h
  others_changed call (r ∷ rs) h = step (test r) refl (others_changed call rs h.1)
    where
      step : (b : Bool) → test r ≡ b → HaveOtherCalls call (change_first test f rs) → HaveOtherCalls call (change_first test f (r ∷ rs))
      step true e more = rw (e, change_first) ((λ is. h.0 (sym (same r) ∙ is)), h.1)
      step false e more = rw (e, change_first) (h.0, more)

  pub distinct_changed : (rs : List Receive) → AreDistinct rs → AreDistinct (change_first test f rs)
  distinct_changed [] d = d
  distinct_changed (r ∷ rs) d = step (test r) refl (distinct_changed rs d.1)
    where
      step : (b : Bool) → test r ≡ b → AreDistinct (change_first test f rs) → AreDistinct (change_first test f (r ∷ rs))
      step true e more = rw (e, change_first) (subst (λ (n : ℕ). HaveOtherCalls n rs) (sym (same r)) d.0, d.1)
      step false e more = rw (e, change_first) (others_changed r.call rs d.0, more)

  pub below_changed : (n : ℕ) (rs : List Receive) → AreBelow n rs → AreBelow n (change_first test f rs)
  below_changed n [] b = b
  below_changed n (r ∷ rs) b = step (test r) refl (below_changed n rs b.1)
    where
      step : (t : Bool) → test r ≡ t → AreBelow n (change_first test f rs) → AreBelow n (change_first test f (r ∷ rs))
      step true e more = rw (e, change_first) (subst (λ (k : ℕ). k < n) (sym (same r)) b.0, b.1)
      step false e more = rw (e, change_first) (b.0, more)

  pub numbers_changed : (n : ℕ) (posted : List Receive) (coming : List (Option Coming)) → IsNumbered posted coming n → IsNumbered (change_first test f posted) coming n
  numbers_changed n posted coming is = record {
    below = below_changed n posted is.below;
    distinct = distinct_changed posted is.distinct;
    into = λ s. elsewhere_by n n posted (change_first test f posted) (get_or coming s None) (omega arith) (λ call lt h. others_changed call posted h) (is.into s);
  }

-- an item goes to a multi-receive
pub numbers_part : (test : Receive → Bool) (total : ℕ) (r : Receive) (n : ℕ) (before after : List Receive) (coming : List (Option Coming)) (source : ℕ) → is_some r.least ≡ true → IsNumbered after coming n → r.call < n → IsNumbered after (set coming source (Some (Into r r.used))) n
numbers_part test total r n before after coming source multi is lt = record {
  below = is.below;
  distinct = is.distinct;
  into = elsewhere_set n after coming source (Some (Into r r.used)) is.into (lt, λ single. absurd (let no : false ≡ true = rw single at multi in cc));
}

pub numbers_leave_by : (test : Receive → Bool) (n : ℕ) (posted : List Receive) (coming : List (Option Coming)) → IsNumbered posted coming n → IsNumbered (remove_first test posted) coming n
numbers_leave_by test n posted coming is = record {
  below = below_fewer test n posted is.below;
  distinct = distinct_fewer test posted is.distinct;
  into = λ s. elsewhere_by n n posted (remove_first test posted) (get_or coming s None) (omega arith) (λ call lt h. others_fewer test call posted h) (is.into s);
}

pub closed_posted : (call : ℕ) (rx : Receiving) → (without_closed call rx).posted ≡ rx.posted
closed_posted call rx = by (under_way rx call) refl
  where
    by : (b : Bool) → under_way rx call ≡ b → (without_closed call rx).posted ≡ rx.posted
    by true is = rw (is, without_closed) refl
    by false is = rw (is, without_closed) refl

pub closed_coming : (call : ℕ) (rx : Receiving) → (without_closed call rx).coming ≡ rx.coming
closed_coming call rx = by (under_way rx call) refl
  where
    by : (b : Bool) → under_way rx call ≡ b → (without_closed call rx).coming ≡ rx.coming
    by true is = rw (is, without_closed) refl
    by false is = rw (is, without_closed) refl

numbers_shared : (r : Receive) (place : ℕ) (bytes : List ℕ) (n : ℕ) (rx : Receiving) → IsNumbered rx.posted rx.coming n → IsNumbered (shared r.least r place bytes rx).posted (shared r.least r place bytes rx).coming n
numbers_shared r place bytes n rx is = by r.least refl
  where
    by : (o : Option ℕ) → r.least ≡ o → IsNumbered (shared o r place bytes rx).posted (shared o r place bytes rx).coming n
    by None e = is
    by (Some least) e =
        let now = filling r place bytes rx in
        rw (closed_posted r.call now, closed_coming r.call now, e) (numbers_changed (is_made_by r.call) (filled place bytes) (λ q. refl) n rx.posted rx.coming is)

-- ---- what calls do

pub numbers_begin : (peers : ℕ) → IsNumbered [] (replicate peers None) 0
numbers_begin peers = record { below = tt; distinct = tt; into = λ s. rw (none_in_row {X = Coming} peers s) tt }

module _ (v : Arriving) (numbers : IsNumbered v.rx.posted v.rx.coming v.next) where
  module _ (source : ℕ) (head : ItemHead) where
    pub numbers_gather : is_message head.kind ≡ false → IsNumbered (arriving source head v).rx.posted (arriving source head v).rx.coming v.next
    unfolding heading_other
    numbers_gather other = rw (other, heading_other) (record {
      below = numbers.below;
      distinct = numbers.distinct;
      into = elsewhere_set v.next v.rx.posted v.rx.coming source (Some (way_of head.kind)) numbers.into (other_way v.next v.rx.posted head.kind);
    })

    pub numbers_keep : is_message head.kind ≡ true → taker source head v.rx ≡ None → IsNumbered (arriving source head v).rx.posted (arriving source head v).rx.coming v.next
    unfolding heading_message
    numbers_keep message untaken = rw (message, heading_message, untaken) (record {
      below = numbers.below;
      distinct = numbers.distinct;
      into = elsewhere_set v.next v.rx.posted v.rx.coming source (Some Keep) numbers.into tt;
    })

    pub numbers_seat : is_message head.kind ≡ true → (r : Receive) → taker source head v.rx ≡ Some r → IsSingle r → IsNumbered (arriving source head v).rx.posted (arriving source head v).rx.coming v.next
    unfolding heading_message
    numbers_seat message r found single =
        let test = is_wanted source head in
        rw (message, heading_message, found, single_seated test head.total r v.rx.posted single.least) (record {
          below = below_fewer test v.next v.rx.posted numbers.below;
          distinct = distinct_fewer test v.rx.posted numbers.distinct;
          into = elsewhere_set v.next (remove_first test v.rx.posted) v.rx.coming source (Some (Into r r.used))
              (λ t. elsewhere_by v.next v.next v.rx.posted (remove_first test v.rx.posted) (get_or v.rx.coming t None) (omega arith) (λ call lt h. others_fewer test call v.rx.posted h) (numbers.into t))
              (below_found test v.next v.rx.posted r numbers.below found, λ single. others_found test v.rx.posted r numbers.distinct found);
        })

  finished : (source : ℕ) → IsNumbered v.rx.posted (set v.rx.coming source None) v.next
  finished source = record { below = numbers.below; distinct = numbers.distinct; into = elsewhere_set v.next v.rx.posted v.rx.coming source None numbers.into tt }

  finished_by : (source : ℕ) (c : Option Coming) (bytes : List ℕ) → IsNumbered (kept c source bytes (made_whole source v.rx)).posted (kept c source bytes (made_whole source v.rx)).coming v.next
  unfolding keeping made_whole
  finished_by source None bytes = finished source
  finished_by source (Some (Into r place)) bytes = numbers_shared r place bytes v.next (made_whole source v.rx) (finished source)
  finished_by source (Some Keep) bytes = finished source
  finished_by source (Some Throw) bytes = finished source
  finished_by source (Some Request) bytes = finished source
  finished_by source (Some Answer) bytes = finished source

  pub numbers_finish : (source : ℕ) → IsNumbered (finishing source v).rx.posted (finishing source v).rx.coming v.next
  numbers_finish source = finished_by source (coming_from v.rx source) (bytes_come (begun_of v source))

  module _ (r : Receive) (later : v.next ≤ r.call) where
    pub numbers_joined : IsNumbered (v.rx.posted ++ r ∷ []) v.rx.coming (r.call + 1)
    numbers_joined = record {
      below = below_push (r.call + 1) v.rx.posted r (below_more v.next (r.call + 1) v.rx.posted (omega arith) numbers.below) (omega arith);
      distinct = distinct_push v.rx.posted r numbers.distinct (others_below v.next r.call v.rx.posted later numbers.below);
      into = λ s. elsewhere_by v.next (r.call + 1) v.rx.posted (v.rx.posted ++ r ∷ []) (get_or v.rx.coming s None) (omega arith) (λ call lt h. others_push call v.rx.posted r h (λ same. absurd (omega arith))) (numbers.into s);
    }

    pub numbers_join : find (takes r.want) v.rx.unexpected ≡ None → IsNumbered (posting r v).rx.posted (posting r v).rx.coming (posting r v).next
    numbers_join none = rw none numbers_joined

  -- what still comes of a message goes elsewhere from now on
  pub numbers_gone : (c : Coming) (o : Option (List ℕ)) (source next : ℕ) → v.next ≤ next → GoesElsewhere next v.rx.posted (Some c) → IsNumbered v.rx.posted (turned (λ x. Some c) o source v.rx.coming) next
  numbers_gone c o source next le new = by_bytes o
    where
      as_before : (s : ℕ) → GoesElsewhere next v.rx.posted (get_or v.rx.coming s None)
      as_before s = elsewhere_by v.next next v.rx.posted v.rx.posted (get_or v.rx.coming s None) le (λ call lt h. h) (numbers.into s)

      by_bytes : (o : Option (List ℕ)) → IsNumbered v.rx.posted (turned (λ x. Some c) o source v.rx.coming) next
      by_bytes None = record { below = below_more v.next next v.rx.posted le numbers.below; distinct = numbers.distinct; into = elsewhere_set next v.rx.posted v.rx.coming source (Some c) as_before new }
      by_bytes (Some bytes) = record { below = below_more v.next next v.rx.posted le numbers.below; distinct = numbers.distinct; into = as_before }

  pub numbers_given : (a : Arrival) (r : Receive) → v.next ≤ r.call → IsNumbered v.rx.posted (turned (λ x. Some (Into r 0)) a.bytes a.source v.rx.coming) (r.call + 1)
  numbers_given a r later = numbers_gone (Into r 0) a.bytes a.source (r.call + 1) (omega arith) (omega arith, λ single. others_below v.next r.call v.rx.posted later numbers.below)

  pub numbers_thrown : (a : Arrival) → IsNumbered v.rx.posted (turned (λ x. Some Throw) a.bytes a.source v.rx.coming) v.next
  numbers_thrown a = numbers_gone Throw a.bytes a.source v.next (omega arith) tt

  pub numbers_leave : (test : Receive → Bool) → IsNumbered (remove_first test v.rx.posted) v.rx.coming v.next
  numbers_leave test = record {
    below = below_fewer test v.next v.rx.posted numbers.below;
    distinct = distinct_fewer test v.rx.posted numbers.distinct;
    into = λ s. elsewhere_by v.next v.next v.rx.posted (remove_first test v.rx.posted) (get_or v.rx.coming s None) (omega arith) (λ call lt h. others_fewer test call v.rx.posted h) (numbers.into s);
  }
