-- The multi-receives that are posted or closing, where the receive half changes.
use Rattle.std.proofs.Common.{◌≡◌, ◌≢◌, ◌⊎◌, inl, inr, ℕ, zero, suc, ◌==◌, Bool, true, false, List, [], ◌∷◌, ◌++◌, append-nil, get_or, set, Option, Some, None, refl, sym, ap, subst, ◌∙◌}
use Rattle.std.specs.Prelude.{find, is_some, All, IfSome}
use Rattle.std.specs.List.{list_any}
use Rattle.std.specs.Option.{option_map}
use Rattle.std.proofs.lemmas.Bool.{eqb-true, eq-eqb, ne_eqb}
use Rattle.fab_base.specs.declared.operations.Coming.{Coming}
use Rattle.fab_base.specs.declared.operations.Coming.TheVariants.{Into, Keep, Throw, Request, Answer}
use Rattle.fab_base.specs.declared.operations.Receive.{Receive}
use Rattle.fab_model.specs.Matching.{change_first, remove_first}
use Rattle.fab_model.specs.State.{Receiving, is_into, under_way}
use Rattle.fab_model.specs.Complete.{filled, filling, fill_multi, is_made_by}
use Rattle.fab_model.specs.Arrivals.{seated, shut, stays, used_up}
use Rattle.fab_model.proofs.Firsts.{IfSome-find, not_found as without_none}
use Rattle.fab_model.proofs.Parts.{get_or-set}
use Rattle.fab_rx.specs.Arriving.{without_closed}
use Rattle.fab_rx.specs.Results.{closed_by}
use Rattle.fab_rx.specs.Numbers.{AreDistinct, HaveOtherCalls}
use Rattle.fab_rx.specs.Opened.{IsPosted, is_multi, opened, sized}
use Rattle.fab_rx.proofs.Ending.{closed_now, closed_still, found_last, none_last}
use Rattle.fab_rx.proofs.Keeping.{single_seated, single_shut}
use Rattle.fab_rx.proofs.Numbering.{found_other, others_found}
use Rattle.fab_rx.proofs.Pasting.{length_paste_at}
use Rattle.fab_rx.proofs.Taking.{seated_off, seated_on, shut_off, shut_on}
use Rattle.fab_core.specs.Lent.{GoesInto, IsComingIn}
use Rattle.fab_core.proofs.Doing.{passes}

-- ---- a receive by its call

abbrev pub seek : ℕ → List Receive → Option (ℕ × ℕ)
seek c xs = option_map sized (find (λ (r : Receive). c == r.call) xs)

abbrev pub or_else : Option (ℕ × ℕ) → Option (ℕ × ℕ) → Option (ℕ × ℕ)
or_else None y = y
or_else (Some x) y = Some x

seek_both : (c : ℕ) (xs ys : List Receive) → seek c (xs ++ ys) ≡ or_else (seek c xs) (seek c ys)
seek_both c [] ys = refl
seek_both c (x ∷ xs) ys = by (c == x.call) refl (seek_both c xs ys)
  where
    by : (b : Bool) → (c == x.call) ≡ b → seek c (xs ++ ys) ≡ or_else (seek c xs) (seek c ys) → seek c (x ∷ xs ++ ys) ≡ or_else (seek c (x ∷ xs)) (seek c ys)
    by true is more = rw is refl
    by false is more = rw is more

pub seek_is : (c : ℕ) (xs ys : List Receive) (a b : Option (ℕ × ℕ)) → seek c xs ≡ a → seek c ys ≡ b → seek c (xs ++ ys) ≡ or_else a b
seek_is c xs ys a b ea eb = seek_both c xs ys ∙ ap (λ o. or_else o (seek c ys)) ea ∙ ap (λ o. or_else a o) eb

-- two lists of which each part has the same
pub seek_parts : (c : ℕ) (xs us ys vs : List Receive) → seek c us ≡ seek c xs → seek c vs ≡ seek c ys → seek c (us ++ vs) ≡ seek c (xs ++ ys)
seek_parts c xs us ys vs ea eb = seek_is c us vs (seek c xs) (seek c ys) ea eb ∙ sym (seek_both c xs ys)

module _ (test : Receive → Bool) (f : Receive → Receive) (same : (r : Receive) → (f r).call ≡ r.call) (size : (r : Receive) → sized (f r) ≡ sized r) where
  pub seek_changed : (c : ℕ) (xs : List Receive) → seek c (change_first test f xs) ≡ seek c xs
  seek_changed c [] = refl
  seek_changed c (x ∷ xs) = by (test x) refl (c == x.call) refl (seek_changed c xs)
    where
      by : (t : Bool) → test x ≡ t → (b : Bool) → (c == x.call) ≡ b → seek c (change_first test f xs) ≡ seek c xs → seek c (change_first test f (x ∷ xs)) ≡ seek c (x ∷ xs)
      by true t true is more = rw (t, change_first, same x, is) (ap (λ p. Some p) (size x))
      by true t false is more = rw (t, change_first, same x, is) refl
      by false t true is more = rw (t, change_first, is) refl
      by false t false is more = rw (t, change_first, is) more

pub seek_none : (c : ℕ) (xs : List Receive) → HaveOtherCalls c xs → seek c xs ≡ None
seek_none c [] h = refl
seek_none c (x ∷ xs) h = rw (ne_eqb c x.call (λ e. h.0 (sym e))) (seek_none c xs h.1)

others_right : (c : ℕ) (xs ys : List Receive) → HaveOtherCalls c (xs ++ ys) → HaveOtherCalls c ys
others_right c [] ys h = h
others_right c (x ∷ xs) ys h = others_right c xs ys h.1

pub distinct_left : (xs ys : List Receive) → AreDistinct (xs ++ ys) → AreDistinct xs
distinct_left [] ys d = tt
distinct_left (x ∷ xs) ys d = (others_left x.call xs d.0, distinct_left xs ys d.1)
  where
    others_left : (c : ℕ) (xs : List Receive) → HaveOtherCalls c (xs ++ ys) → HaveOtherCalls c xs
    others_left c [] h = tt
    others_left c (x ∷ xs) h = (h.0, others_left c xs h.1)

pub distinct_right : (xs ys : List Receive) → AreDistinct (xs ++ ys) → AreDistinct ys
distinct_right [] ys d = d
distinct_right (x ∷ xs) ys d = distinct_right xs ys d.1

-- one that the second list has is not on the first
pub seek_apart : (c : ℕ) (x : ℕ × ℕ) (xs ys : List Receive) → AreDistinct (xs ++ ys) → seek c ys ≡ Some x → seek c xs ≡ None
seek_apart c x [] ys d e = refl
seek_apart c x (y ∷ xs) ys d e = by (c == y.call) refl (seek_apart c x xs ys d.1 e)
  where
    by : (b : Bool) → (c == y.call) ≡ b → seek c xs ≡ None → seek c (y ∷ xs) ≡ None
    by true is more = let none = seek_none y.call ys (others_right y.call xs ys d.0) in let same : c ≡ y.call = eqb-true c y.call is in let no : Some x ≡ None = sym e ∙ ap (λ k. seek k ys) same ∙ none in absurd (cc)
    by false is more = rw is more

-- one of another call joins the list
pub seek_besides : (c : ℕ) (xs : List Receive) (r : Receive) → c ≢ r.call → seek c (xs ++ r ∷ []) ≡ seek c xs
seek_besides c xs r other = seek_is c xs (r ∷ []) (seek c xs) None refl (rw (ne_eqb c r.call other) refl) ∙ right_none (seek c xs)
  where
    right_none : (o : Option (ℕ × ℕ)) → or_else o None ≡ o
    right_none None = refl
    right_none (Some x) = refl

module _ (test : Receive → Bool) where
  pub seek_removed : (c : ℕ) (xs : List Receive) (r : Receive) → find test xs ≡ Some r → c ≢ r.call → seek c (remove_first test xs) ≡ seek c xs
  seek_removed c [] r e other = absurd (cc)
  seek_removed c (x ∷ xs) r e other = by (test x) refl (c == x.call) refl (λ rest. seek_removed c xs r rest other)
    where
      by : (t : Bool) → test x ≡ t → (b : Bool) → (c == x.call) ≡ b → (find test xs ≡ Some r → seek c (remove_first test xs) ≡ seek c xs) → seek c (remove_first test (x ∷ xs)) ≡ seek c (x ∷ xs)
      by true t true is more = let both : Some x ≡ Some r = rw t at e in let same : x ≡ r = cc in absurd (other (eqb-true c x.call is ∙ ap (λ (y : Receive). y.call) same))
      by true t false is more = rw (t, remove_first, is) refl
      by false t true is more = rw (t, remove_first, is) refl
      by false t false is more = rw (t, remove_first, is) (more (rw t at e))

  pub seek_found : (xs : List Receive) (r : Receive) → AreDistinct xs → find test xs ≡ Some r → seek r.call xs ≡ Some (sized r)
  seek_found [] r d e = absurd (cc)
  seek_found (x ∷ xs) r d e = by (test x) refl (λ rest. seek_found xs r d.1 rest)
    where
      by : (t : Bool) → test x ≡ t → (find test xs ≡ Some r → seek r.call xs ≡ Some (sized r)) → seek r.call (x ∷ xs) ≡ Some (sized r)
      by true t more = let both : Some x ≡ Some r = rw t at e in let same : x ≡ r = cc in rw (eq-eqb r.call x.call (ap (λ (y : Receive). y.call) (sym same))) (ap (λ (y : Receive). Some (sized y)) same)
      by false t more = let rest : find test xs ≡ Some r = rw t at e in rw (ne_eqb r.call x.call (found_other test x.call xs r d.0 rest)) (more rest)

  pub seek_gone : (xs : List Receive) (r : Receive) → AreDistinct xs → find test xs ≡ Some r → seek r.call (remove_first test xs) ≡ None
  seek_gone xs r d e = seek_none r.call (remove_first test xs) (others_found test xs r d e)

  -- one that is found on the first list is not on the second
  pub others_other : (xs ys : List Receive) (r : Receive) → AreDistinct (xs ++ ys) → find test xs ≡ Some r → HaveOtherCalls r.call ys
  others_other [] ys r d e = absurd (cc)
  others_other (x ∷ xs) ys r d e = by (test x) refl (λ rest. others_other xs ys r d.1 rest)
    where
      by : (t : Bool) → test x ≡ t → (find test xs ≡ Some r → HaveOtherCalls r.call ys) → HaveOtherCalls r.call ys
      by true t more = let both : Some x ≡ Some r = rw t at e in let same : x ≡ r = cc in subst (λ (y : Receive). HaveOtherCalls y.call ys) same (others_right x.call xs ys d.0)
      by false t more = more (rw t at e)

  pub seek_other : (xs ys : List Receive) (r : Receive) → AreDistinct (xs ++ ys) → find test xs ≡ Some r → seek r.call ys ≡ None
  seek_other xs ys r d e = seek_none r.call ys (others_other xs ys r d e)

made_seek : (c : ℕ) (xs : List Receive) (o : Option Receive) → find (is_made_by c) xs ≡ o → seek c xs ≡ option_map sized o
made_seek c [] o e = ap (λ o. option_map sized o) e
made_seek c (x ∷ xs) o e = by (x.call == c) refl (λ rest. made_seek c xs o rest)
  where
    by : (b : Bool) → (x.call == c) ≡ b → (find (is_made_by c) xs ≡ o → seek c xs ≡ option_map sized o) → seek c (x ∷ xs) ≡ option_map sized o
    by true is more = rw (eq-eqb c x.call (sym (eqb-true x.call c is))) (ap (λ o. option_map sized o) (rw is at e))
    by false is more = rw (ne_eqb c x.call (λ same. (let yes = eq-eqb x.call c (sym same) in let no : true ≡ false = sym yes ∙ is in absurd (cc)))) (more (rw is at e))

-- ---- a receive takes a message

module _ (rx : Receiving) (known : List (ℕ × ℕ)) (posted : All (IsPosted known) rx.posted) (once : AreDistinct (rx.posted ++ rx.closing)) (test : Receive → Bool) (total : ℕ) (r : Receive) (found : find test rx.posted ≡ Some r) where
  pub taker_is : IsPosted known r
  taker_is = subst (λ (o : Option Receive). IfSome o (IsPosted known)) found (IfSome-find test (IsPosted known) rx.posted posted)

  pub taker_open : opened rx r.call ≡ Some (sized r)
  taker_open = seek_is r.call rx.posted rx.closing (Some (sized r)) (seek r.call rx.closing) (seek_found test rx.posted r (distinct_left rx.posted rx.closing once) found) refl

  left_here : seek r.call (remove_first test rx.posted ++ (rx.closing ++ used_up total r ∷ [])) ≡ Some (sized r)
  left_here =
      seek_is r.call (remove_first test rx.posted) (rx.closing ++ used_up total r ∷ []) None (Some (sized r)) (seek_gone test rx.posted r (distinct_left rx.posted rx.closing once) found)
      (seek_is r.call rx.closing (used_up total r ∷ []) None (Some (sized r)) (seek_other test rx.posted rx.closing r once found) (rw (eq-eqb r.call r.call refl) refl))

  left_else : (c : ℕ) → c ≢ r.call → seek c (remove_first test rx.posted ++ (rx.closing ++ used_up total r ∷ [])) ≡ opened rx c
  left_else c other =
      seek_parts c rx.posted (remove_first test rx.posted) rx.closing (rx.closing ++ used_up total r ∷ []) (seek_removed test c rx.posted r found other)
      (seek_besides c rx.closing (used_up total r) other)

  pub seated_same : (c : ℕ) → is_multi known c ≡ true → seek c (seated test total r rx.posted ++ (rx.closing ++ shut total r)) ≡ opened rx c
  seated_same c is = by r.least refl (stays total r) refl
    where
      by : (o : Option ℕ) → r.least ≡ o → (b : Bool) → stays total r ≡ b → seek c (seated test total r rx.posted ++ (rx.closing ++ shut total r)) ≡ opened rx c
      by None single b stay =
          let other : c ≢ r.call = λ same. (let no : true ≡ false = sym is ∙ ap (is_multi known) same ∙ taker_is.multi ∙ ap is_some single in absurd (cc)) in
          rw (single_seated test total r rx.posted single, single_shut total r single, append-nil rx.closing) (seek_parts c rx.posted (remove_first test rx.posted) rx.closing rx.closing (seek_removed test c rx.posted r found other) refl)
      by (Some least) multi true stay =
          rw (seated_on test total r rx.posted stay, shut_on total r least multi stay, append-nil rx.closing) (seek_parts c rx.posted (change_first test (used_up total) rx.posted) rx.closing rx.closing (seek_changed test (used_up total) (λ r. refl) (λ r. refl) c rx.posted) refl)
      by (Some least) multi false stay = rw (seated_off test total r rx.posted stay, shut_off total r least multi stay) (here (c == r.call) refl)
        where
          here : (b : Bool) → (c == r.call) ≡ b → seek c (remove_first test rx.posted ++ (rx.closing ++ used_up total r ∷ [])) ≡ opened rx c
          here true same = let equal : c ≡ r.call = eqb-true c r.call same in subst (λ (k : ℕ). seek k (remove_first test rx.posted ++ (rx.closing ++ used_up total r ∷ [])) ≡ opened rx k) (sym equal) (left_here ∙ sym taker_open)
          here false other = left_else c (λ same. (let no : true ≡ false = sym (eq-eqb c r.call same) ∙ other in absurd (cc)))

-- ---- bytes come into a multi-receive

module _ (r : Receive) (place : ℕ) (bytes : List ℕ) where
  pub fill_same : (c : ℕ) (xs : List Receive) → seek c (fill_multi r place bytes xs) ≡ seek c xs
  fill_same c xs = by r.least refl
    where
      by : (o : Option ℕ) → r.least ≡ o → seek c (fill_multi r place bytes xs) ≡ seek c xs
      by None single = rw (single, fill_multi) refl
      by (Some least) multi = rw (multi, fill_multi) (seek_changed (is_made_by r.call) (filled place bytes) (λ r. refl) (λ r. ap (λ n. (r.ctx, n)) (length_paste_at r.buf bytes place)) c xs)

  pub filling_same : (rx : Receiving) (c : ℕ) → opened (filling r place bytes rx) c ≡ opened rx c
  filling_same rx c = seek_parts c rx.posted (fill_multi r place bytes rx.posted) rx.closing (fill_multi r place bytes rx.closing) (fill_same c rx.posted) (fill_same c rx.closing)

-- ---- a multi-receive that is closing leaves

module _ (call : ℕ) (rx : Receiving) where
  removed_none : find (is_made_by call) rx.closing ≡ None → remove_first (is_made_by call) rx.closing ≡ rx.closing
  removed_none none = without_none (is_made_by call) rx.closing none

  pub unclosed_same : closed_by call rx ≡ None → without_closed call rx ≡ rx
  unclosed_same none = by (under_way rx call) refl
    where
      by : (b : Bool) → under_way rx call ≡ b → without_closed call rx ≡ rx
      by true busy = closed_still call rx busy
      by false idle = closed_now call rx idle ∙ ap (λ xs. record rx { closing = xs }) (removed_none (sym (found_last call rx idle) ∙ none))

  module _ (x : Receive) (last : closed_by call rx ≡ Some x) where
    pub closed_idle : under_way rx call ≡ false
    closed_idle = by (under_way rx call) refl
      where
        by : (b : Bool) → under_way rx call ≡ b → under_way rx call ≡ false
        by true busy = let no : None ≡ Some x = sym (none_last call rx busy) ∙ last in absurd (cc)
        by false idle = idle

    pub closed_found : find (is_made_by call) rx.closing ≡ Some x
    closed_found = sym (found_last call rx closed_idle) ∙ last

    pub closed_call : x.call ≡ call
    closed_call = eqb-true x.call call (passes (is_made_by call) rx.closing x closed_found)

    pub closed_others : (c : ℕ) → c ≢ call → opened (without_closed call rx) c ≡ opened rx c
    closed_others c other =
        ap (λ (rx : Receiving). opened rx c) (closed_now call rx closed_idle)
        ∙ seek_parts c rx.posted rx.posted rx.closing (remove_first (is_made_by call) rx.closing) refl (seek_removed (is_made_by call) c rx.closing x closed_found (λ same. other (same ∙ closed_call)))

    pub closed_seek : seek call rx.closing ≡ Some (sized x)
    closed_seek = made_seek call rx.closing (Some x) closed_found

    module _ (none : seek call rx.posted ≡ None) where
      pub closed_open : opened rx call ≡ Some (sized x)
      closed_open = seek_is call rx.posted rx.closing None (Some (sized x)) none closed_seek

      pub closed_gone : seek call (remove_first (is_made_by call) rx.closing) ≡ None → opened (without_closed call rx) call ≡ None
      closed_gone rest = ap (λ (rx : Receiving). opened rx call) (closed_now call rx closed_idle) ∙ seek_is call rx.posted (remove_first (is_made_by call) rx.closing) None None none rest

-- ---- what comes

pub coming_moved : (rx next : Receiving) (known : List (ℕ × ℕ)) (calls : ℕ) (c : Option Coming) → ((call : ℕ) → is_multi known call ≡ true → opened next call ≡ opened rx call) → IsComingIn rx known calls c → IsComingIn next known calls c
coming_moved rx next known calls None same h = h
coming_moved rx next known calls (Some (Into r place)) same h = by r.least h
  where
    by : (o : Option ℕ) → GoesInto rx known calls o r place → GoesInto next known calls o r place
    by None h = h
    by (Some least) h = (h.0, same r.call h.0 ∙ h.1, h.2)
coming_moved rx next known calls (Some Keep) same h = h
coming_moved rx next known calls (Some Throw) same h = h
coming_moved rx next known calls (Some Request) same h = h
coming_moved rx next known calls (Some Answer) same h = h

pub coming_set : (next : Receiving) (known : List (ℕ × ℕ)) (calls : ℕ) (xs : List (Option Coming)) (source : ℕ) (c : Option Coming) → ((s : ℕ) → IsComingIn next known calls (get_or xs s None)) → IsComingIn next known calls c
    → (s : ℕ) → IsComingIn next known calls (get_or (set xs source c) s None)
coming_set next known calls xs source c all new s = by (get_or-set xs source s c None)
  where
    by : (get_or (set xs source c) s None ≡ get_or xs s None) ⊎ ((source ≡ s) × (get_or (set xs source c) s None ≡ c)) → IsComingIn next known calls (get_or (set xs source c) s None)
    by (inl same) = subst (λ (o : Option Coming). IsComingIn next known calls o) (sym same) (all s)
    by (inr here) = subst (λ (o : Option Coming). IsComingIn next known calls o) (sym here.1) new

none_into : (call : ℕ) (xs : List (Option Coming)) → list_any (is_into call) xs ≡ false → (s : ℕ) → is_into call (get_or xs s None) ≡ false
none_into call [] e s = refl
none_into call (x ∷ xs) e s = by (is_into call x) refl s (λ rest t. none_into call xs rest t)
  where
    by : (b : Bool) → is_into call x ≡ b → (s : ℕ) → (list_any (is_into call) xs ≡ false → (t : ℕ) → is_into call (get_or xs t None) ≡ false) → is_into call (get_or (x ∷ xs) s None) ≡ false
    by true is s more = let no : true ≡ false = rw is at e in absurd (cc)
    by false is zero more = is
    by false is (suc s) more = more (rw is at e) s

-- nothing comes into the one that leaves
pub coming_left : (rx next : Receiving) (known : List (ℕ × ℕ)) (calls call : ℕ) → under_way rx call ≡ false → ((c : ℕ) → c ≢ call → opened next c ≡ opened rx c)
    → (s : ℕ) → IsComingIn rx known calls (get_or rx.coming s None) → IsComingIn next known calls (get_or rx.coming s None)
coming_left rx next known calls call idle same s h = by (get_or rx.coming s None) (none_into call rx.coming idle s) h
  where
    by : (c : Option Coming) → is_into call c ≡ false → IsComingIn rx known calls c → IsComingIn next known calls c
    by None not_it h = h
    by (Some (Into r place)) not_it h = into r.least h
      where
        into : (o : Option ℕ) → GoesInto rx known calls o r place → GoesInto next known calls o r place
        into None h = h
        into (Some least) h = (h.0, same r.call (λ is. (let no : true ≡ false = sym (eq-eqb r.call call is) ∙ not_it in absurd (cc))) ∙ h.1, h.2)
    by (Some Keep) not_it h = h
    by (Some Throw) not_it h = h
    by (Some Request) not_it h = h
    by (Some Answer) not_it h = h
