-- One turn more of a peer, and the meeting after it.
use Rattle.std.proofs.Common.{◌≡◌, ◌<◌, ◌≤◌, ◌+◌, ℕ, zero, suc, true, List, [], ◌∷◌, ◌++◌, length, get_or, inl, inr, refl, sym, ap, ◌∙◌, subst, arith, length-append}
use Rattle.std.proofs.lemmas.Bool.{cases_lt}
use Rattle.std.proofs.lemmas.List.{get_or_push, get_or_append_left}
use Rattle.fab_meeting.specs.declared.kinds.Account.{Account}
use Rattle.fab_meeting.specs.Accounts.{answer_at}
use Rattle.fab_rounds.specs.Rounds.{Between, Rounded}
use Rattle.fab_rounds.specs.Words.{told_by, goes}
use Rattle.fab_rounds.specs.Staying.{Risen, LivedFor, IsLife}

module _ {Home : Type 0} where
  pub life_begins : (a : Between Home) (x : Account) → x.said ≡ [] → IsLife a a x
  life_begins a x none = let short : length x.said ≡ zero = ap length none in record {
    lived = subst (λ n. LivedFor n x.said a a) (sym short) refl;
    went = λ n long. absurd (omega (arith, long, short));
  }

  -- all answers so far let it go on
  all_went : (a b : Between Home) (x : Account) → IsLife a b x → ((n : ℕ) → length x.said ≡ n + 1 → goes (answer_at x n) ≡ true) → (n : ℕ) → n < length x.said → goes (answer_at x n) ≡ true
  all_went a b x life now n low = elim (cases_lt (n + 1) (length x.said)) [
    | inl before ↦ life.went n before
    | inr at_end ↦ now n (omega (arith, low, at_end))
  ]

  -- a word more at the end changes no earlier one
  lived_still : (n : ℕ) (said : List ℕ) (w : ℕ) (a b : Between Home) → n ≤ length said → LivedFor n said a b → LivedFor n (said ++ w ∷ []) a b
  lived_still zero said w a b most same = same
  lived_still (suc n) said w a c most (b, before, round, rise, is) =
      let here : get_or (said ++ w ∷ []) n 0 ≡ get_or said n 0 = get_or_append_left said (w ∷ []) 0 n (omega (arith, most)) in
      (b, lived_still n said w a b (omega (arith, most)) before, round, rise, here ∙ is)

  pub life_more : (a b c : Between Home) (x y : Account) (w : ℕ) → IsLife a b x → ((n : ℕ) → length x.said ≡ n + 1 → goes (answer_at x n) ≡ true) → Rounded b c → Risen b c → w ≡ told_by c
      → y.said ≡ x.said ++ w ∷ [] → ((n : ℕ) → n < length x.said → answer_at y n ≡ answer_at x n) → IsLife a c y
  life_more a b c x y w life now round rise is said kept =
      let long : length y.said ≡ suc (length x.said) = ap length said ∙ (let l = length-append x.said (w ∷ []) in omega (arith, l)) in
      let last : get_or (x.said ++ w ∷ []) (length x.said) 0 ≡ w = get_or_push x.said w 0 (length x.said) refl in
      let more : LivedFor (suc (length x.said)) (x.said ++ w ∷ []) a c = (b, lived_still (length x.said) x.said w a b (omega arith) life.lived, round, rise, last ∙ is) in
      record {
        lived = subst (λ n. LivedFor n y.said a c) (sym long) (subst (λ (ws : List ℕ). LivedFor (suc (length x.said)) ws a c) (sym said) more);
        went = λ n low. ap goes (kept n (omega (arith, low, long))) ∙ all_went a b x life now n (omega (arith, low, long));
      }
