-- Calls, draws and arrivals leave what an endpoint owes as it was, or less; what is whole and owes a reply adds at most one.
--     dues s places d op      what is owed in this state
--     Keeps s t               no more is owed in t than in s
use Rattle.std.proofs.Common.{◌≡◌, ◌≤◌, ◌+◌, ℕ, zero, suc, Bool, true, false, ◌&&◌, List, [], ◌∷◌, ◌++◌, length, drop, set, get_or, Option, Some, None, ◌⊎◌, inl, inr, refl, sym, ◌∙◌, ap, arith, rules}
use Rattle.std.specs.Prelude.{find, ◌==◌, slice_index, count_by}
use Rattle.std.proofs.lemmas.Bool.Decides.{nat_tests}
use Rattle.fab_base.specs.declared.items.Item.{Item}
use Rattle.fab_base.specs.declared.items.ItemHead.{ItemHead}
use Rattle.fab_base.specs.declared.items.Ack.{Ack}
use Rattle.fab_base.specs.declared.items.Ack.TheVariants.{Nothing, Delivery, Match}
use Rattle.fab_base.specs.declared.items.Outcome.{Outcome}
use Rattle.fab_base.specs.declared.items.Outcome.TheVariants.{Done}
use Rattle.fab_base.specs.declared.operations.Receive.{Receive}
use Rattle.fab_base.specs.declared.operations.Arrival.{Arrival}
use Rattle.fab_base.specs.declared.operations.Coming.{Coming}
use Rattle.fab_base.specs.declared.operations.Coming.TheVariants.{Into, Keep, Throw}
use Rattle.fab_model.specs.Matching.{remove_first, takes}
use Rattle.fab_model.specs.State.{State, Transmitting, accepted_for, coming_from, with_rx}
use Rattle.fab_model.specs.Complete.{book, fill, release, release_multi, reply}
use Rattle.fab_base.specs.Kinds.{at_delivery, at_match}
use Rattle.fab_base.specs.Replies.{at_either, owes}
use Rattle.fab_model.specs.Receiving.{drop_arrival, give, goes}
use Rattle.fab_model.proofs.Parts.{get_or-set}
use Rattle.fab_face.specs.Owed.{dues, is_answer, unbegun, to_post, is_debt, to_book, is_pledge, is_due, due_for, asked_by, kept_for, begun_in, Pledged, IsComing, PartlyIn, IsPartly}
use Rattle.fab_face.proofs.Counts.{one, count_removed, count_dropped, found_all}

pub record Keeps (s t : State) : Type 0 where
  pub due : (places : List ℕ) (d op : ℕ) → dues t places d op ≤ dues s places d op
  pub pledged : (begun : List (Option Item)) → IsPartly s.rx begun → Pledged s.rx begun → Pledged t.rx begun

-- ---- what stays

abbrev Parts : Type 0
Parts = Transmitting × List Arrival × List (ℕ × Arrival) × List (Option Coming)

same_due : (s t : State) → t.tx ≡ s.tx → t.rx.unexpected ≡ s.rx.unexpected → t.rx.claimed ≡ s.rx.claimed → (places : List ℕ) (d op : ℕ) → dues t places d op ≡ dues s places d op
same_due s t tx us cs places d op = rw (tx, us, cs) refl

pub keeps_same : (s t : State) → t.tx ≡ s.tx → t.rx.unexpected ≡ s.rx.unexpected → t.rx.claimed ≡ s.rx.claimed → t.rx.coming ≡ s.rx.coming → Keeps s t
keeps_same s t tx us cs coming = record {
  due = λ places d op. (let e = same_due s t tx us cs places d op in omega (arith, e));
  pledged = λ begun partly p d op. rw (us, cs, coming) (p d op);
}

-- ---- a reply is booked

pub booked_one : (source op' : ℕ) (outcome : Outcome) (bytes : List ℕ) (s : State) (places : List ℕ) (d op : ℕ) → to_post (reply source op' outcome bytes s).tx places d op ≤ to_post s.tx places d op + one ((source == d) && (op' == op))
unfolding reply
booked_one source op' outcome bytes s places d op = (let l = go (slice_index places d) (get_or-set s.tx.accepted source d _ []) in omega (arith, l))
  where
    item : Item
    item = record { head = Rattle.fab_model.specs.Complete.reply_head op' outcome (length bytes); bytes = bytes }

    dropped : (n : ℕ) → (get_or (set s.tx.accepted source (accepted_for s.tx source ++ item ∷ [])) d [] ≡ accepted_for s.tx d) ⊎ ((source ≡ d) × (get_or (set s.tx.accepted source (accepted_for s.tx source ++ item ∷ [])) d [] ≡ accepted_for s.tx source ++ item ∷ []))
        → count_by (is_answer op) (drop n (get_or (set s.tx.accepted source (accepted_for s.tx source ++ item ∷ [])) d [])) ≤ count_by (is_answer op) (drop n (accepted_for s.tx d)) + one ((source == d) && (op' == op))
    dropped n (inl same) = rw same (omega arith)
    dropped n (inr (is, more)) =
        let t : (source == d) ≡ true = grind (arith, nat_tests, is) in
        let l = count_dropped (is_answer op) n (accepted_for s.tx source) (item ∷ []) in
        let e : count_by (is_answer op) (item ∷ []) ≡ 0 + one (op' == op) = refl in
        let f : one ((source == d) && (op' == op)) ≡ one (op' == op) = rw t refl in
        let at : accepted_for s.tx source ≡ accepted_for s.tx d = ap (accepted_for s.tx) is in
        rw more (let g : count_by (is_answer op) (drop n (accepted_for s.tx source)) ≡ count_by (is_answer op) (drop n (accepted_for s.tx d)) = ap (λ xs. count_by (is_answer op) (drop n xs)) at in omega (arith, l, e, f, g))

    go : (place : ℕ) → (get_or (set s.tx.accepted source (accepted_for s.tx source ++ item ∷ [])) d [] ≡ accepted_for s.tx d) ⊎ ((source ≡ d) × (get_or (set s.tx.accepted source (accepted_for s.tx source ++ item ∷ [])) d [] ≡ accepted_for s.tx source ++ item ∷ []))
        → count_by (is_answer op) (unbegun place (slice_index s.tx.sent d) (get_or (set s.tx.accepted source (accepted_for s.tx source ++ item ∷ [])) d [])) ≤ count_by (is_answer op) (unbegun place (slice_index s.tx.sent d) (accepted_for s.tx d)) + one ((source == d) && (op' == op))
    go zero e = dropped (slice_index s.tx.sent d) e
    go (suc k) e = dropped (suc (slice_index s.tx.sent d)) e

-- ---- an arrival leaves its list

pub record Gone (s u : State) (a : Arrival) : Type 0 where
  pub tx : u.tx ≡ s.tx
  pub coming : u.rx.coming ≡ s.rx.coming
  pub debts : (d op : ℕ) → to_book s.rx d op ≡ one (is_debt d op a) + to_book u.rx d op
  pub kept : (d op : ℕ) → kept_for s.rx d op ≡ one (is_pledge d op a) + kept_for u.rx d op
  pub partly : (begun : List (Option Item)) → IsPartly s.rx begun → PartlyIn s.rx begun a

pub gone_unexpected : (leaves : Arrival → Bool) (s u : State) (a : Arrival) → find leaves s.rx.unexpected ≡ Some a → u.tx ≡ s.tx → u.rx.unexpected ≡ remove_first leaves s.rx.unexpected → u.rx.claimed ≡ s.rx.claimed → u.rx.coming ≡ s.rx.coming → Gone s u a
gone_unexpected leaves s u a f tx us cs coming = record {
  tx = tx;
  coming = coming;
  debts = λ d op. rw (us, cs) (omega (arith, count_removed (is_debt d op) leaves s.rx.unexpected a f));
  kept = λ d op. rw (us, cs) (omega (arith, count_removed (is_pledge d op) leaves s.rx.unexpected a f));
  partly = λ begun partly. found_all (PartlyIn s.rx begun) leaves s.rx.unexpected a partly.unexpected f;
}

pub gone_claimed : (leaves : ℕ × Arrival → Bool) (s u : State) (c : ℕ × Arrival) → find leaves s.rx.claimed ≡ Some c → u.tx ≡ s.tx → u.rx.unexpected ≡ s.rx.unexpected → u.rx.claimed ≡ remove_first leaves s.rx.claimed → u.rx.coming ≡ s.rx.coming → Gone s u c.1
gone_claimed leaves s u c f tx us cs coming = record {
  tx = tx;
  coming = coming;
  debts = λ d op. rw (us, cs) (omega (arith, count_removed (λ (x : ℕ × Arrival). is_debt d op x.1) leaves s.rx.claimed c f));
  kept = λ d op. rw (us, cs) (omega (arith, count_removed (λ (x : ℕ × Arrival). is_pledge d op x.1) leaves s.rx.claimed c f));
  partly = λ begun partly. found_all (λ (x : ℕ × Arrival). PartlyIn s.rx begun x.1) leaves s.rx.claimed c partly.claimed f;
}

and_true : (x y : Bool) → one (((x && true) && true) && y) ≡ one (x && y)
and_true true y = refl
and_true false y = refl

pub either_split : (k : Ack) (y : Bool) → one (at_either k && y) ≡ one (at_delivery k && y) + one (at_match k && y)
either_split Nothing y = refl
either_split Delivery y = omega arith
either_split Match y = omega arith

-- where what is coming goes another way
abbrev Takes : Coming → Type 0
Takes c = (head : ItemHead) → is_due (Some c) head ≡ at_either head.ack

module _ (s u : State) (a : Arrival) (gone : Gone s u a) where
  books_whole : (bytes : List ℕ) → a.bytes ≡ Some bytes → (v : State) → v.tx ≡ u.tx → v.rx.unexpected ≡ u.rx.unexpected → v.rx.claimed ≡ u.rx.claimed → v.rx.coming ≡ u.rx.coming → Keeps s (book (at_match a.head.ack) a.source a.head v)
  unfolding book reply
  books_whole bytes has v tx us cs coming = go (at_match a.head.ack) refl
    where
      owed : (d op : ℕ) → to_book v.rx d op ≡ to_book u.rx d op
      owed d op = rw (us, cs) refl

      posted : (places : List ℕ) (d op : ℕ) → to_post v.tx places d op ≡ to_post s.tx places d op
      posted places d op = rw (tx, gone.tx) refl

      less : (begun : List (Option Item)) → IsPartly s.rx begun → Pledged s.rx begun → Pledged v.rx begun
      less begun partly p d op =
          let k = gone.kept d op in
          let l = p d op in
          let way : coming_from v.rx d ≡ coming_from s.rx d = ap (λ cs. get_or cs d None) (coming ∙ gone.coming) in
          rw (us, cs, way) (omega (arith, k, l))

      go : (b : Bool) → at_match a.head.ack ≡ b → Keeps s (book b a.source a.head v)
      go true t = record {
        due = λ places d op.
            let one_more = booked_one a.source a.head.op Done [] v places d op in
            let e : one (is_debt d op a) ≡ one ((a.source == d) && (a.head.op == op)) = rw (has, t) (and_true (a.source == d) (a.head.op == op)) in
            omega (arith, one_more, e, gone.debts d op, owed d op, posted places d op);
        pledged = less;
      }
      go false t = record { due = λ places d op. omega (arith, gone.debts d op, owed d op, posted places d op); pledged = less }

  goes_on : a.bytes ≡ None → (c : Coming) → Takes c → Keeps s (with_rx (goes a.source c u.rx) u)
  goes_on none c takes = record {
    due = λ places d op. (let e : to_post u.tx places d op ≡ to_post s.tx places d op = rw gone.tx refl in omega (arith, e, gone.debts d op));
    pledged = λ begun partly p d op. by begun p d op (gone.partly begun partly none) (get_or-set u.rx.coming a.source d (Some c) None);
  }
    where
      by : (begun : List (Option Item)) → Pledged s.rx begun → (d op : ℕ) → IsComing s.rx begun a → (get_or (set u.rx.coming a.source (Some c)) d None ≡ get_or u.rx.coming d None) ⊎ ((a.source ≡ d) × (get_or (set u.rx.coming a.source (Some c)) d None ≡ Some c))
          → kept_for u.rx d op + due_for (get_or (set u.rx.coming a.source (Some c)) d None) (begun_in begun d) op ≤ asked_by (begun_in begun d) op
      by begun p d op is (inl same) = rw (same, gone.coming) (let l = p d op in let k = gone.kept d op in omega (arith, l, k))
      by begun p d op is (inr (at, now)) =
          let begun_is : begun_in begun d ≡ Some is.item = sym (ap (begun_in begun) at) ∙ is.begun_is in
          let way : coming_from s.rx d ≡ Some Keep = sym (ap (coming_from s.rx) at) ∙ is.way in
          let l : kept_for s.rx d op + one (at_delivery is.item.head.ack && (is.item.head.op == op)) ≤ one (owes is.item.head && (is.item.head.op == op)) = rw (begun_is, way) at (p d op) in
          let t : (a.source == d) ≡ true = grind (arith, nat_tests, at) in
          let pledge : one (is_pledge d op a) ≡ one (at_match a.head.ack && (a.head.op == op)) = rw (t, none) refl in
          let same : one (at_match is.item.head.ack && (is.item.head.op == op)) ≡ one (at_match a.head.ack && (a.head.op == op)) = ap (λ (h : ItemHead). one (at_match h.ack && (h.op == op))) is.head in
          let split = either_split is.item.head.ack (is.item.head.op == op) in
          let due_is : one (is_due (Some c) is.item.head && (is.item.head.op == op)) ≡ one (at_either is.item.head.ack && (is.item.head.op == op)) = ap (λ b. one (b && (is.item.head.op == op))) (takes is.item.head) in
          rw (now, begun_is) (omega (arith, l, gone.kept d op, pledge, same, split, due_is))

  pub gives : (r : Receive) (place : ℕ) → Keeps s (give r place a u)
  unfolding give fill
  gives r place = go a.bytes refl
    where
      go : (o : Option (List ℕ)) → a.bytes ≡ o → Keeps s (let t : State = elim o [ None ↦ with_rx (goes a.source (Into r place) u.rx) u | Some bytes ↦ book (at_match a.head.ack) a.source a.head (fill r place a.source a.head bytes u) ] in t)
      go None e = goes_on e (Into r place) (λ head. refl)
      go (Some bytes) e = books_whole bytes e (fill r place a.source a.head bytes u) refl refl refl refl

  pub drops : Keeps s (drop_arrival a u)
  unfolding drop_arrival
  drops = go a.bytes refl
    where
      go : (o : Option (List ℕ)) → a.bytes ≡ o → Keeps s (let t : State = elim o [ None ↦ with_rx (goes a.source Throw u.rx) u | Some bytes ↦ book (at_match a.head.ack) a.source a.head u ] in t)
      go None e = goes_on e Throw (λ head. refl)
      go (Some bytes) e = books_whole bytes e u refl refl refl refl

pub release_keeps : (r : Receive) (s t : State) → Keeps s t → Keeps s (release r t)
unfolding release_multi
release_keeps r s t k =
    let tx : (release r t).tx ≡ t.tx = grind rules in
    let us : (release r t).rx.unexpected ≡ t.rx.unexpected = grind rules in
    let cs : (release r t).rx.claimed ≡ t.rx.claimed = grind rules in
    let coming : (release r t).rx.coming ≡ t.rx.coming = grind rules in
    record {
      due = λ places d op. (let e = same_due t (release r t) tx us cs places d op in let l = k.due places d op in omega (arith, e, l));
      pledged = λ begun partly p d op. rw (us, cs, coming) (k.pledged begun partly p d op);
    }
