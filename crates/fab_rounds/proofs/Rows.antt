-- From the turns of each peer to the rounds of all: a row has each peer after as many turns.
use Rattle.std.proofs.Common.{◌≡◌, ◌<◌, ◌≤◌, ◌+◌, ℕ, zero, suc, true, false, List, [], ◌∷◌, length, map, sum_by, refl, sym, ap, ◌∙◌, arith}
use Rattle.std.specs.Prelude.{not, slice_index, slice_index_or}
use Rattle.std.specs.List.{list_all, list_any}
use Rattle.std.proofs.lemmas.List.{same_lists}
use Rattle.fab_base.proofs.Bools.{not_false}
use Rattle.fab_meeting.specs.Accounts.{together, column}
use Rattle.fab_rounds.specs.Rounds.{Each, Between, Rounded, GoesOn, size}
use Rattle.fab_rounds.specs.Words.{told_by, goes}
use Rattle.fab_rounds.specs.Staying.{Risen, LivedFor, RanFor}
use Rattle.fab_rounds.proofs.Lists.{sums_rise, none_at}
use Rattle.fab_rounds.proofs.Words.{told_go}

module _ {Home : Type 0} where
  -- by peer: the words that it told, and its turns
  abbrev pub AllLived : ℕ → List (List ℕ) → List (Between Home) → List (Between Home) → Type 0
  AllLived n saids old new = (k : ℕ) (d : Between Home) → k < length old → LivedFor n (slice_index_or saids k []) (slice_index_or old k d) (slice_index_or new k d)

  lived_next : (n : ℕ) (s : List ℕ) (saids : List (List ℕ)) (a b : Between Home) (old new : List (Between Home)) → LivedFor n s a b → AllLived n saids old new → AllLived n (s ∷ saids) (a ∷ old) (b ∷ new)
  lived_next n s saids a b old new here rest zero d below = here
  lived_next n s saids a b old new here rest (suc k) d below = rest k d (omega (arith, below))

  each_next : (R : Between Home → Between Home → Type 0) (a b : Between Home) (old new : List (Between Home)) → R a b → Each R old new → Each R (a ∷ old) (b ∷ new)
  each_next R a b old new here rest zero d below = here
  each_next R a b old new here rest (suc k) d below = rest k d (omega (arith, below))

  -- the peers before their last turn, and the words that they told after it
  abbrev Before : ℕ → List (List ℕ) → List (Between Home) → List (Between Home) → Type 0
  Before n saids old new = (mid : List (Between Home)) × (length mid ≡ length old) × AllLived n saids old mid × Each (λ b c. Rounded b c × Risen b c) mid new × (column n saids ≡ map (λ p. told_by p) new)

  before_last : (n : ℕ) (saids : List (List ℕ)) (old new : List (Between Home)) → length new ≡ length old → length saids ≡ length old → AllLived (suc n) saids old new → Before n saids old new
  before_last n [] [] [] long many all = ([], refl, λ k d below. absurd (omega (arith, below)), λ k d below. absurd (omega (arith, below)), refl)
  before_last n [] [] (c ∷ new) long many all = absurd (omega (arith, long))
  before_last n [] (a ∷ old) new long many all = absurd (omega (arith, many))
  before_last n (s ∷ saids) [] new long many all = absurd (omega (arith, many))
  before_last n (s ∷ saids) (a ∷ old) [] long many all = absurd (omega (arith, long))
  before_last n (s ∷ saids) (a ∷ old) (c ∷ new) long many all =
      let here : (b : Between Home) × LivedFor n s a b × Rounded b c × Risen b c × (slice_index s n ≡ told_by c) = all zero a (omega arith) in
      let rest : Before n saids old new = before_last n saids old new (omega (arith, long)) (omega (arith, many)) (λ k d below. all (suc k) d (omega (arith, below))) in (
        here.0 ∷ rest.0,
        ap suc rest.1,
        lived_next n s saids a here.0 old rest.0 here.1 rest.2,
        each_next (λ x y. Rounded x y × Risen x y) here.0 c rest.0 new (here.2, here.3) rest.3,
        λ i. here.4 i ∷ rest.4 i,
      )

  -- all went on after a round that is not the last
  row_goes : (n : ℕ) (saids : List (List ℕ)) (old mid : List (Between Home)) → length mid ≡ length old → length saids ≡ length old → AllLived n saids old mid
      → ((m : ℕ) → m + 1 < suc n → goes (together (column m saids)) ≡ true) → 0 < n → GoesOn mid
  row_goes zero saids old mid long many all go some = absurd (omega (arith, some))
  row_goes (suc n) saids old mid long many all go some =
      let words : column n saids ≡ map (λ p. told_by p) mid = (before_last n saids old mid long many all).4 in
      told_go mid (ap (λ ws. goes (together ws)) (sym words) ∙ go n (omega arith))

  -- ---- sizes

  abbrev total : List (Between Home) → ℕ
  total peers = sum_by (λ p. size p.peer) peers

  grew_before : (n : ℕ) (old mid : List (Between Home)) → RanFor n old mid → (0 < n → GoesOn mid) → total old + n ≤ total mid
  grew_before zero old mid ran goes_on = omega (arith, ap total ran.made)
  grew_before (suc n) old mid ran goes_on = let g = goes_on (omega arith) in ran.grew g.well g.moving

  grew_more : (n : ℕ) (old mid new : List (Between Home)) → length new ≡ length mid → total old + n ≤ total mid → Each Risen mid new → list_any (λ p. p.failed) new ≡ false → list_all (λ p. not p.moved) new ≡ false
      → total old + suc n ≤ total new
  grew_more n old mid new long before each well some =
      let rise : total mid < total new = sums_rise (λ p. size p.peer) (λ p. not p.moved) mid new long
      (λ k d below. (each k d below).grown (none_at (λ p. p.failed) new k d (omega (arith, below, long)) well)) (λ k d below e. (each k d below).risen (not_false _ e)) some in
      omega (arith, rise, before)

  -- ---- rounds

  pub rows : (n : ℕ) (saids : List (List ℕ)) (old new : List (Between Home)) → length new ≡ length old → length saids ≡ length old → AllLived n saids old new
      → ((m : ℕ) → m + 1 < n → goes (together (column m saids)) ≡ true) → RanFor n old new
  rows zero saids old new long many all go =
      let same : old ≡ new = same_lists old new (sym long) (λ k d below. all k d below) in
      record { made = same; grew = λ well some. omega (arith, ap total same) }
  rows (suc n) saids old new long many all go =
      let last : Before n saids old new = before_last n saids old new long many all in
      let mid : List (Between Home) = last.0 in
      let before = rows n saids old mid last.1 many last.2 (λ m low. go m (omega (arith, low))) in
      let goes_on : 0 < n → GoesOn mid = row_goes n saids old mid last.1 many last.2 go in
      let same : length new ≡ length mid = long ∙ sym last.1 in
      record {
        made = (mid, before.made, goes_on, same, λ k d below. (last.3 k d below).0);
        grew = grew_more n old mid new same (grew_before n old mid before goes_on) (λ k d below. (last.3 k d below).1);
      }
