-- What stays of the slots' places at each kind of step.
use Rattle.std.proofs.Common.{◌≡◌, ℕ, ◌+◌, ◌*◌, ◌<◌, ◌≤◌, ◌≢◌, inl, inr, ⊎_elim, Bool, true, false, true≢false, List, [], ◌∷◌, ◌++◌, length, get_or, sym, refl, le_refl, ap, ◌∙◌, subst, arith, length-append}
use mathlib.Core.Logic.{dite}
use mathlib.Core.Path.{Path}
use mathlib.Core.Option.{some, some-injective}
use native.Mathlib.Decide.{ℕ_discrete}
use lib.ListN.{get_elem?}
use Rattle.std.specs.Prelude.{Option, Some, None}
use Rattle.std.proofs.lemmas.Option.{none-some, same_Some}
use Rattle.atomic_table.proofs.Lists.{at_longer, at_last}
use Rattle.fab_base.proofs.Places.{at_lt}
use Rattle.fab_table.specs.declared.kinds.Sent.{Sent}
use Rattle.fab_table.specs.declared.kinds.Slot.{Slot}
use Rattle.fab_table.specs.Views.{lane_of, pool_word, pool_home, has_slot}
use Rattle.fab_table.specs.Rule.{Homes, Home, Lane, Fills, IsBuf, Place, free, claimed, sent, SentOk, PlaceOk, Outstanding, Pools}
use Rattle.fab_table.proofs.Rows.{at_shorter, put, at_put, lane_once}
use Rattle.fab_table.proofs.Cells.{with_writing, with_opened, with_post, with_take}

abbrev kind : Place → ℕ
kind free = 0
kind (claimed s d) = 1
kind (sent s d k) = 2

abbrev pub lane_at : ℕ → Place → ℕ
lane_at n free = 0
lane_at n (claimed s d) = lane_of n s d
lane_at n (sent s d k) = lane_of n s d

abbrev turn_of : Place → ℕ
turn_of free = 0
turn_of (claimed s d) = 0
turn_of (sent s d k) = k

abbrev pub with_claim : Lane → Option ℕ → Lane
with_claim l c = record { posted = l.posted; got = l.got; writing = l.writing; opened = l.opened; claim = c; lent = l.lent }

abbrev pub with_lent : Lane → Bool → Lane
with_lent l b = record { posted = l.posted; got = l.got; writing = l.writing; opened = l.opened; claim = l.claim; lent = b }

pub nothing_open : (o : Option Sent) → ((z : Sent) → o ≡ Some z → ⊥) → o ≡ None
nothing_open None f = refl
nothing_open (Some z) f = absurd (f z refl)

module _ (n room pool : ℕ) (lane : ℕ → Lane) (place : ℕ → Place) (ws : List ℕ) (hs : Homes) (ps : Pools n room pool lane place ws hs) (S D : ℕ) (low : S < n) (low' : D < n) where
  abbrev l : ℕ
  l = lane_of n S D

  abbrev own : Lane
  own = lane (lane_of n S D)

  module _ (x : Lane) where
    keeps_place : (q w : ℕ) (h : Home) (P : Place) → (own.claim ≡ Some q → x.claim ≡ Some q) → ((k : ℕ) → SentOk own h q k → SentOk x h q k) → PlaceOk n lane q w h P → PlaceOk n (put lane l x) q w h P
    keeps_place q w h free c t ok = ok
    keeps_place q w h (claimed s d) c t ok = (ok.0, ok.1, ok.2, at_put lane l x (λ m y. m ≡ lane_of n s d → y.claim ≡ Some q) (lane_of n s d) (λ is. c (subst (λ (m : ℕ). (lane m).claim ≡ Some q) (sym is) ok.3)) (λ _ _. ok.3) refl)
    keeps_place q w h (sent s d k) c t ok = (ok.0, ok.1, ok.2, at_put lane l x (λ m y. m ≡ lane_of n s d → SentOk y h q k) (lane_of n s d) (λ is. t k (subst (λ (m : ℕ). SentOk (lane m) h q k) (sym is) ok.3)) (λ _ _. ok.3) refl)

    moved : (place' : ℕ → Place) (ws' : List ℕ) (hs' : Homes)
        → ((q : ℕ) → q < n * pool → PlaceOk n (put lane l x) q (get_or ws' (pool_word n q) 0) (get_elem? hs' (pool_home n room q)) (place' q))
        → ((q : ℕ) → x.claim ≡ Some q → (q < n * pool) × (place' q ≡ claimed S D))
        → ((k : ℕ) (y : Sent) (q : ℕ) → Outstanding x k y → y.slot ≡ Some q → (q < n * pool) × (place' q ≡ sent S D k))
        → (x.lent ≡ true → (y : Sent) × (x.opened ≡ Some y))
        → ((q : ℕ) (P : Place) → lane_at n P ≢ l → 0 < kind P → place q ≡ P → place' q ≡ P)
        → Pools n room pool (put lane l x) place' ws' hs'
    moved place' ws' hs' places claims sents lent others = record {
      each_place = places;
      each_claim = λ s d q a b c. at_put lane l x (λ m y. m ≡ lane_of n s d → y.claim ≡ Some q → (q < n * pool) × (place' q ≡ claimed s d)) (lane_of n s d)
          (λ is c'. let e = lane_once n S D s d low a is in subst (λ (z : ℕ × ℕ). (q < n * pool) × (place' q ≡ claimed z.0 z.1)) (λ i. (e.0 i, e.1 i)) (claims q c'))
          (λ ne _ c'. let o = ps.each_claim s d q a b c' in (o.0, others q (claimed s d) ne (omega arith) o.1)) refl c;
      each_sent = λ s d k y q a b c e. at_put lane l x (λ m z. m ≡ lane_of n s d → Outstanding z k y → (q < n * pool) × (place' q ≡ sent s d k)) (lane_of n s d)
          (λ is c'. let f = lane_once n S D s d low a is in subst (λ (z : ℕ × ℕ). (q < n * pool) × (place' q ≡ sent z.0 z.1 k)) (λ i. (f.0 i, f.1 i)) (sents k y q c' e))
          (λ ne _ c'. let o = ps.each_sent s d k y q a b c' e in (o.0, others q (sent s d k) ne (omega arith) o.1)) refl c;
      each_lent = λ s d a b c. at_put lane l x (λ m z. m ≡ lane_of n s d → z.lent ≡ true → (y : Sent) × (z.opened ≡ Some y)) (lane_of n s d) (λ is c'. lent c') (λ ne _ c'. ps.each_lent s d a b c') refl c;
    }

    -- the words and homes of the pools do not change, nor the place of a slot
    pub unplaced : (ws' : List ℕ) (hs' : Homes) → ((q : ℕ) → get_or ws' (pool_word n q) 0 ≡ get_or ws (pool_word n q) 0) → ((q : ℕ) → get_elem? hs' (pool_home n room q) ≡ get_elem? hs (pool_home n room q))
        → ((q : ℕ) → own.claim ≡ Some q → x.claim ≡ Some q) → ((q : ℕ) → x.claim ≡ Some q → own.claim ≡ Some q) → ((q : ℕ) (h : Home) (k : ℕ) → SentOk own h q k → SentOk x h q k)
        → ((k : ℕ) (y : Sent) (q : ℕ) → Outstanding x k y → y.slot ≡ Some q → Outstanding own k y) → (x.lent ≡ true → (y : Sent) × (x.opened ≡ Some y)) → Pools n room pool (put lane l x) place ws' hs'
    unplaced ws' hs' sw sh claim claim' there back lent = moved place ws' hs'
        (λ q near. subst (λ (z : ℕ × Home). PlaceOk n (put lane l x) q z.0 z.1 (place q)) (λ i. (sym (sw q) i, sym (sh q) i))
        (keeps_place q (get_or ws (pool_word n q) 0) (get_elem? hs (pool_home n room q)) (place q) (claim q) (there q (get_elem? hs (pool_home n room q))) (ps.each_place q near)))
        (λ q c. ps.each_claim S D q low low' (claim' q c)) (λ k y q o e. ps.each_sent S D k y q low low' (back k y q o e) e) lent (λ q P _ _ e. e)

    -- the slot q₀ goes to the place P
    pub placed : (q₀ : ℕ) (P : Place) (ws' : List ℕ) (hs' : Homes) → ((q : ℕ) → q ≢ q₀ → get_or ws' (pool_word n q) 0 ≡ get_or ws (pool_word n q) 0) → ((q : ℕ) → q ≢ q₀ → get_elem? hs' (pool_home n room q) ≡ get_elem? hs (pool_home n room q))
        → PlaceOk n (put lane l x) q₀ (get_or ws' (pool_word n q₀) 0) (get_elem? hs' (pool_home n room q₀)) P
        → ((q : ℕ) → q ≢ q₀ → own.claim ≡ Some q → x.claim ≡ Some q) → ((q : ℕ) (h : Home) (k : ℕ) → q ≢ q₀ → SentOk own h q k → SentOk x h q k)
        → ((q : ℕ) → x.claim ≡ Some q → (q < n * pool) × (put place q₀ P q ≡ claimed S D))
        → ((k : ℕ) (y : Sent) (q : ℕ) → Outstanding x k y → y.slot ≡ Some q → (q < n * pool) × (put place q₀ P q ≡ sent S D k))
        → (x.lent ≡ true → (y : Sent) × (x.opened ≡ Some y)) → ((Q : Place) → lane_at n Q ≢ l → 0 < kind Q → place q₀ ≡ Q → ⊥) → Pools n room pool (put lane l x) (put place q₀ P) ws' hs'
    placed q₀ P ws' hs' sw sh new claim there claims sents lent apart = moved (put place q₀ P) ws' hs'
        (λ q near. at_put place q₀ P (λ m z. m ≡ q → PlaceOk n (put lane l x) q (get_or ws' (pool_word n q) 0) (get_elem? hs' (pool_home n room q)) z) q
        (λ is. subst (λ (z : ℕ). PlaceOk n (put lane l x) z (get_or ws' (pool_word n z) 0) (get_elem? hs' (pool_home n room z)) P) is new)
        (λ ne _. subst (λ (z : ℕ × Home). PlaceOk n (put lane l x) q z.0 z.1 (place q)) (λ i. (sym (sw q ne) i, sym (sh q ne) i))
        (keeps_place q (get_or ws (pool_word n q) 0) (get_elem? hs (pool_home n room q)) (place q) (claim q ne) (λ k. there q (get_elem? hs (pool_home n room q)) k ne) (ps.each_place q near))) refl)
        claims sents lent
        (λ q Q other some_kind e. at_put place q₀ P (λ m z. m ≡ q → z ≡ Q) q (λ is. absurd (apart Q other some_kind (ap place is ∙ e))) (λ _ _. e) refl)

  one_frame : (k : ℕ) (y z : Sent) → get_elem? own.posted own.got ≡ some y → get_elem? own.posted k ≡ some z → k ≡ own.got → y ≡ z
  one_frame k y z here at e = some-injective y z (sym here ∙ ap (get_elem? own.posted) (sym e) ∙ at)

  not_lent : own.opened ≡ None → own.lent ≡ true → ⊥
  not_lent e t = let o = ps.each_lent S D low low' t in none-some o.0 (sym e ∙ o.1)

  abbrev pub SameWords : List ℕ → Type 0
  SameWords ws' = (q : ℕ) → get_or ws' (pool_word n q) 0 ≡ get_or ws (pool_word n q) 0

  abbrev pub SameHomes : Homes → Type 0
  SameHomes hs' = (q : ℕ) → get_elem? hs' (pool_home n room q) ≡ get_elem? hs (pool_home n room q)

  -- the look at got
  pub pools_look : (b : Bool) (ws' : List ℕ) (hs' : Homes) → ((q : ℕ) → get_or ws' (pool_word n q) 0 ≡ get_or ws (pool_word n q) 0) → ((q : ℕ) → get_elem? hs' (pool_home n room q) ≡ get_elem? hs (pool_home n room q))
      → Pools n room pool (put lane l (with_writing own b)) place ws' hs'
  pools_look b ws' hs' sw sh = unplaced (with_writing own b) ws' hs' sw sh (λ q c. c) (λ q c. c) (λ q h k t. t) (λ k y q o e. o) (λ t. ps.each_lent S D low low' t)

  -- a frame with no slot is published
  pub pools_post : (y : Sent) (ws' : List ℕ) (hs' : Homes) → ((q : ℕ) → get_or ws' (pool_word n q) 0 ≡ get_or ws (pool_word n q) 0) → ((q : ℕ) → get_elem? hs' (pool_home n room q) ≡ get_elem? hs (pool_home n room q))
      → own.claim ≡ None → y.slot ≡ None → own.got ≤ length own.posted → Pools n room pool (put lane l (with_post own y)) place ws' hs'
  pools_post y ws' hs' sw sh idle small behind = unplaced (with_post own y) ws' hs' sw sh (λ q c. absurd (none-some q (sym idle ∙ c))) (λ q c. absurd (none-some q c))
      (λ q h k t. (t.0, (t.1.0, at_longer own.posted (y ∷ []) k t.1.0 t.1.1, t.1.2, t.1.3)))
      (λ k z q o e. let lt = at_lt (own.posted ++ y ∷ []) k z o.1 in let long = length-append own.posted (y ∷ []) in dite (ℕ_discrete k (length own.posted))
      (λ is. let same : y ≡ z = some-injective y z (sym (at_last own.posted y k (sym is)) ∙ o.1) in absurd (none-some q (sym small ∙ ap (λ (f : Sent). f.slot) same ∙ e)))
      (λ ne. (o.0, at_shorter own.posted (y ∷ []) k z (omega arith) o.1, o.2)))
      (λ t. ps.each_lent S D low low' t)

  -- a frame in the slot in hand is published
  pub pools_post_slot : (y : Sent) (q₀ : ℕ) (b : Slot) (ws' : List ℕ) (hs' : Homes) → SameWords ws' → ((q : ℕ) → q ≢ q₀ → get_elem? hs' (pool_home n room q) ≡ get_elem? hs (pool_home n room q))
      → get_elem? hs' (pool_home n room q₀) ≡ some (some b) → Fills y b → own.claim ≡ Some q₀ → y.slot ≡ Some q₀ → own.got ≤ length own.posted
      → ((z : Sent) → own.opened ≡ Some z → get_elem? own.posted own.got ≡ some z)
      → Pools n room pool (put lane l (with_post own y)) (put place q₀ (sent S D (length own.posted))) ws' hs'
  pools_post_slot y q₀ b ws' hs' sw sh home fits held large behind open_is = let x : Lane = with_post own y in let m : ℕ = length own.posted in let P : Place = sent S D m in let mine = ps.each_claim S D q₀ low low' held in
      let was : PlaceOk n lane q₀ (get_or ws (pool_word n q₀) 0) (get_elem? hs (pool_home n room q₀)) (claimed S D) = subst (PlaceOk n lane q₀ (get_or ws (pool_word n q₀) 0) (get_elem? hs (pool_home n room q₀))) mine.1 (ps.each_place q₀ mine.0) in
      let long = length-append own.posted (y ∷ []) in
      placed x q₀ P ws' hs' (λ q _. sw q) sh (
        sw q₀ ∙ was.0,
        low,
        low',
        at_put lane l x (λ j z. j ≡ l → SentOk z (get_elem? hs' (pool_home n room q₀)) q₀ m) l
            (λ _. (behind, (y, at_last own.posted y m refl, large, inr ((b, fits, home), λ e. nothing_open own.opened (λ z o. let lt = at_lt own.posted own.got z (open_is z o) in omega arith)))))
            (λ ne. absurd (ne refl)) refl,
      )
      (λ q ne c. absurd (ne (same_Some q q₀ (sym c ∙ held))))
      (λ q h k ne t. (t.0, (t.1.0, at_longer own.posted (y ∷ []) k t.1.0 t.1.1, t.1.2, t.1.3)))
      (λ q c. absurd (none-some q c))
      (λ k z q o e. let lt = at_lt (own.posted ++ y ∷ []) k z o.1 in dite (ℕ_discrete k m)
      (λ is. let same : y ≡ z = some-injective y z (sym (at_last own.posted y k (sym is)) ∙ o.1) in let qs : q₀ ≡ q = same_Some q₀ q (sym large ∙ ap (λ (f : Sent). f.slot) same ∙ e) in
      (subst (λ (w : ℕ). w < n * pool) qs mine.0, at_put place q₀ P (λ j w. j ≡ q → w ≡ sent S D k) q (λ _ i. sent S D (sym is i)) (λ ne. absurd (ne (sym qs))) refl))
      (λ ne. let old = ps.each_sent S D k z q low low' (o.0, at_shorter own.posted (y ∷ []) k z (omega arith) o.1, o.2) e in
      (old.0, at_put place q₀ P (λ j w. j ≡ q → w ≡ sent S D k) q (λ is. let no : Path ℕ 1 2 = ap kind (sym mine.1 ∙ ap place is ∙ old.1) in absurd (omega arith)) (λ _ _. old.1) refl)))
      (λ t. ps.each_lent S D low low' t)
      (λ Q other some_kind e. other (sym (ap (lane_at n) (sym mine.1 ∙ e))))

  -- a frame with no slot is opened
  pub pools_open : (y : Sent) (ws' : List ℕ) (hs' : Homes) → SameWords ws' → SameHomes hs' → own.opened ≡ None → get_elem? own.posted own.got ≡ some y → y.slot ≡ None
      → Pools n room pool (put lane l (with_opened own (Some y) (has_slot y.slot))) place ws' hs'
  pools_open y ws' hs' sw sh closed here small = let x : Lane = with_opened own (Some y) (has_slot y.slot) in
      unplaced x ws' hs' sw sh (λ q c. c) (λ q c. c)
      (λ q h k t. (
        t.0,
        (
          t.1.0,
          t.1.1,
          t.1.2,
          ⊎_elim (λ o. absurd (not_lent closed o.1))
              (λ o. inr (o.0, λ e. absurd (none-some q (sym small ∙ ap (λ (f : Sent). f.slot) (one_frame k y t.1.0 here t.1.1 e) ∙ t.1.2)))) t.1.3,
        ),
      ))
      (λ k z q o e. (o.0, o.1, λ _ is. absurd (none-some z (sym closed ∙ is))))
      (λ t. absurd (true≢false (sym t ∙ ap has_slot small)))

  -- a frame in a slot is opened
  pub pools_open_slot : (y : Sent) (q₀ : ℕ) (ws' : List ℕ) (hs' : Homes) → SameWords ws' → ((q : ℕ) → q ≢ q₀ → get_elem? hs' (pool_home n room q) ≡ get_elem? hs (pool_home n room q))
      → own.opened ≡ None → get_elem? own.posted own.got ≡ some y → y.slot ≡ Some q₀ → Pools n room pool (put lane l (with_opened own (Some y) (has_slot y.slot))) (put place q₀ (sent S D own.got)) ws' hs'
  pools_open_slot y q₀ ws' hs' sw sh closed here large = let x : Lane = with_opened own (Some y) (has_slot y.slot) in let P : Place = sent S D own.got in
      let mine = ps.each_sent S D own.got y q₀ low low' (le_refl own.got, here, λ _ is. absurd (none-some y (sym closed ∙ is))) large in
      let was : PlaceOk n lane q₀ (get_or ws (pool_word n q₀) 0) (get_elem? hs (pool_home n room q₀)) P = subst (PlaceOk n lane q₀ (get_or ws (pool_word n q₀) 0) (get_elem? hs (pool_home n room q₀))) mine.1 (ps.each_place q₀ mine.0) in
      let lends : has_slot y.slot ≡ true = ap has_slot large in
      placed x q₀ P ws' hs' (λ q _. sw q) sh
      (sw q₀ ∙ was.0, low, low', at_put lane l x (λ j z. j ≡ l → SentOk z (get_elem? hs' (pool_home n room q₀)) q₀ own.got) l (λ _. (le_refl own.got, (y, here, large, inl (refl, lends)))) (λ ne. absurd (ne refl)) refl)
      (λ q _ c. c)
      (λ q h k ne t. (
        t.0,
        (
          t.1.0,
          t.1.1,
          t.1.2,
          ⊎_elim (λ o. absurd (not_lent closed o.1))
              (λ o. inr (o.0, λ e. absurd (ne (same_Some q q₀ (sym t.1.2 ∙ ap (λ (f : Sent). f.slot) (sym (one_frame k y t.1.0 here t.1.1 e)) ∙ large))))) t.1.3,
        ),
      ))
      (λ q c. let o = ps.each_claim S D q low low' c in (o.0, at_put place q₀ P (λ j w. j ≡ q → w ≡ claimed S D) q (λ is. let no : Path ℕ 2 1 = ap kind (sym mine.1 ∙ ap place is ∙ o.1) in absurd (omega arith)) (λ _ _. o.1) refl))
      (λ k z q o e. let old = ps.each_sent S D k z q low low' (o.0, o.1, λ _ is. absurd (none-some z (sym closed ∙ is))) e in
      (old.0, at_put place q₀ P (λ j w. j ≡ q → w ≡ sent S D k) q (λ is. sym mine.1 ∙ ap place is ∙ old.1) (λ _ _. old.1) refl))
      (λ _. (y, refl))
      (λ Q other some_kind e. other (sym (ap (lane_at n) (sym mine.1 ∙ e))))

  -- a frame is finished, its slot being freed
  pub pools_take : (y : Sent) (ws' : List ℕ) (hs' : Homes) → SameWords ws' → SameHomes hs' → own.opened ≡ Some y → own.lent ≡ false → Pools n room pool (put lane l (with_take own)) place ws' hs'
  pools_take y ws' hs' sw sh opened given = unplaced (with_take own) ws' hs' sw sh (λ q c. c) (λ q c. c)
      (λ q h k t. let ne : k ≢ own.got = λ e. ⊎_elim (λ o. true≢false (sym o.1 ∙ given)) (λ o. none-some y (sym (o.1 e) ∙ opened)) t.1.3 in let le = t.0 in
      (omega arith, (t.1.0, t.1.1, t.1.2, ⊎_elim (λ o. absurd (ne o.0)) (λ o. inr (o.0, λ _. refl)) t.1.3)))
      (λ k z q o e. let le : own.got + 1 ≤ k = o.0 in (omega arith, o.1, λ is _. absurd (omega arith)))
      (λ t. absurd (true≢false (sym t)))

  -- a slot is claimed
  pub pools_claim : (q₀ : ℕ) (ws' : List ℕ) (hs' : Homes) → q₀ < n * pool → ((q : ℕ) → q ≢ q₀ → get_or ws' (pool_word n q) 0 ≡ get_or ws (pool_word n q) 0) → ((q : ℕ) → q ≢ q₀ → get_elem? hs' (pool_home n room q) ≡ get_elem? hs (pool_home n room q))
      → get_or ws' (pool_word n q₀) 0 ≡ S + 1 → place q₀ ≡ free → own.claim ≡ None → Pools n room pool (put lane l (with_claim own (Some q₀))) (put place q₀ (claimed S D)) ws' hs'
  pools_claim q₀ ws' hs' near sw sh named was idle = let x : Lane = with_claim own (Some q₀) in let P : Place = claimed S D in
      placed x q₀ P ws' hs' sw sh (named, low, low', at_put lane l x (λ j z. j ≡ l → z.claim ≡ Some q₀) l (λ _. refl) (λ ne. absurd (ne refl)) refl)
      (λ q _ c. absurd (none-some q (sym idle ∙ c))) (λ q h k _ t. t)
      (λ q c. let qs : q₀ ≡ q = same_Some q₀ q c in (subst (λ (w : ℕ). w < n * pool) qs near, at_put place q₀ P (λ j w. j ≡ q → w ≡ claimed S D) q (λ _. refl) (λ ne. absurd (ne (sym qs))) refl))
      (λ k z q o e. let old = ps.each_sent S D k z q low low' o e in
      (old.0, at_put place q₀ P (λ j w. j ≡ q → w ≡ sent S D k) q (λ is. let no : Path ℕ 0 2 = ap kind (sym was ∙ ap place is ∙ old.1) in absurd (omega arith)) (λ _ _. old.1) refl))
      (λ t. ps.each_lent S D low low' t)
      (λ Q other some_kind e. let no : Path ℕ 0 (kind Q) = ap kind (sym was ∙ e) in omega arith)

  -- a slot is freed
  pub pools_free : (y : Sent) (q₀ : ℕ) (b : Slot) (ws' : List ℕ) (hs' : Homes) → ((q : ℕ) → q ≢ q₀ → get_or ws' (pool_word n q) 0 ≡ get_or ws (pool_word n q) 0) → ((q : ℕ) → q ≢ q₀ → get_elem? hs' (pool_home n room q) ≡ get_elem? hs (pool_home n room q))
      → get_or ws' (pool_word n q₀) 0 ≡ 0 → IsBuf b → get_elem? hs' (pool_home n room q₀) ≡ some (some b) → own.opened ≡ Some y → own.lent ≡ true → get_elem? own.posted own.got ≡ some y → y.slot ≡ Some q₀
      → Pools n room pool (put lane l (with_lent own false)) (put place q₀ free) ws' hs'
  pools_free y q₀ b ws' hs' sw sh zero_is buf home opened has here large = let x : Lane = with_lent own false in
      let mine = ps.each_sent S D own.got y q₀ low low' (le_refl own.got, here, λ _ _. has) large in
      placed x q₀ free ws' hs' sw sh (zero_is, (b, buf, home)) (λ q _ c. c)
      (λ q h k ne t. let other : k ≢ own.got = λ e. ne (same_Some q q₀ (sym t.1.2 ∙ ap (λ (f : Sent). f.slot) (sym (one_frame k y t.1.0 here t.1.1 e)) ∙ large)) in (t.0, (t.1.0, t.1.1, t.1.2, ⊎_elim (λ o. absurd (other o.0)) (λ o. inr o) t.1.3)))
      (λ q c. let o = ps.each_claim S D q low low' c in (o.0, at_put place q₀ free (λ j w. j ≡ q → w ≡ claimed S D) q (λ is. let no : Path ℕ 2 1 = ap kind (sym mine.1 ∙ ap place is ∙ o.1) in absurd (omega arith)) (λ _ _. o.1) refl))
      (λ k z q o e. let later : k ≢ own.got = λ is. true≢false (sym (o.2 is (opened ∙ ap (λ (f : Sent). Some f) (one_frame k y z here o.1 is)))) in
      let old = ps.each_sent S D k z q low low' (o.0, o.1, λ is. absurd (later is)) e in
      (old.0, at_put place q₀ free (λ j w. j ≡ q → w ≡ sent S D k) q (λ is. let no : Path ℕ own.got k = ap turn_of (sym mine.1 ∙ ap place is ∙ old.1) in absurd (later (omega arith))) (λ _ _. old.1) refl))
      (λ t. absurd (true≢false (sym t)))
      (λ Q other some_kind e. other (sym (ap (lane_at n) (sym mine.1 ∙ e))))
