-- Where two peers can both take a turn, the order of the two makes no difference: so no order of turns makes any.
use Rattle.std.proofs.Common.{◌≡◌, ◌≢◌, ◌≤◌, ◌<◌, ℕ, zero, suc, List, [], ◌∷◌, length, Option, Some, None, ◌⊎◌, inl, inr, refl, ◌∙◌, ap, subst, arith}
use Rattle.std.specs.Option.{option_or}
use Rattle.std.proofs.lemmas.Bool.{cases_eq, cases_lt}
use Rattle.fab_model.specs.Orders.{lowest, replay_for}
use Rattle.fab_model.specs.Laws.{Run, AtEnd}

or_none : {M : Type 0} (a b : Option M) → option_or a b ≡ None → (a ≡ None) × (b ≡ None)
or_none None b e = (refl, e)
or_none (Some x) b e = cc

or_some : {M : Type 0} (a b : Option M) (x : M) → option_or a b ≡ Some x → (a ≡ Some x) ⊎ (b ≡ Some x)
or_some None b x e = inr e
or_some (Some y) b x e = inl e

pub lowest_none : {M : Type 0} (gives : ℕ → Option M) (n : ℕ) → lowest gives n ≡ None → (p : ℕ) → p < n → gives p ≡ None
lowest_none gives zero e p lt = absurd (omega arith)
lowest_none gives (suc n) e p lt =
    let both : (lowest gives n ≡ None) × (gives n ≡ None) = or_none _ _ e in
    elim (cases_eq p n) [ inl same ↦ ap gives same ∙ both.1 | inr differ ↦ lowest_none gives n both.0 p (omega arith) ]

pub lowest_some : {M : Type 0} (gives : ℕ → Option M) (n : ℕ) (x : M) → lowest gives n ≡ Some x → (p : ℕ) × (gives p ≡ Some x)
lowest_some gives zero x e = absurd (cc)
lowest_some gives (suc n) x e = elim (or_some _ _ x e) [ inl below ↦ lowest_some gives n x below | inr here ↦ (n, here) ]

pub none_or_some : {M : Type 0} (o : Option M) → (o ≡ None) ⊎ ((x : M) × (o ≡ Some x))
none_or_some None = inl refl
none_or_some (Some x) = inr (x, refl)

-- what is asked of the turns, at moments of a kind that turns keep: two peers that can both take a turn can take the two in either order
pub record Exchange {M : Type 0} (turn : M → ℕ → Option M) (peers : ℕ) (Sound : M → Type 0) : Type 0 where
  pub keeps : (m x : M) (p : ℕ) → Sound m → turn m p ≡ Some x → Sound x
  pub swap : (m x y : M) (p q : ℕ) → Sound m → p ≢ q → turn m p ≡ Some x → turn m q ≡ Some y → (z : M) × (turn x q ≡ Some z) × (turn y p ≡ Some z)
  pub outside : (m : M) (p : ℕ) → Sound m → peers ≤ p → turn m p ≡ None

module _ {M : Type 0} (turn : M → ℕ → Option M) (peers : ℕ) (Sound : M → Type 0) (law : Exchange turn peers Sound) where
  -- a turn that stands now can be taken now, before the others of a run to the end, which goes on to the same end
  pub sooner : (order : List ℕ) (m x y : M) (p : ℕ) → Sound m → Run turn m order x → AtEnd turn x → turn m p ≡ Some y → (rest : List ℕ) × Run turn y rest x × (suc (length rest) ≡ length order)
  sooner [] m x y p sound run end t = let e : turn x p ≡ None = end p in absurd (cc)
  sooner (q ∷ order) m x y p sound run end t =
      elim (cases_eq p q) [
        | inl same ↦ (order, let e : run.0 ≡ y = (let f : turn m p ≡ turn m q = ap (turn m) same in cc (run.1)) in subst (λ w. Run turn w order x) e run.2, refl)
        | inr differ ↦
            let s = law.swap m y run.0 p q sound differ t run.1 in
            let ih = sooner order run.0 x s.0 p (law.keeps m run.0 q sound run.1) run.2 end s.2 in
            (q ∷ ih.0, (s.0, s.1, ih.1), ap suc ih.2)
      ]

  -- where no peer can take a step, and only there, the search finds none
  pub at_end : (m : M) → Sound m → lowest (turn m) peers ≡ None → AtEnd turn m
  at_end m sound none p = elim (cases_lt p peers) [ inl within ↦ lowest_none (turn m) peers none p within | inr past ↦ law.outside m p sound past ]

  -- a run from the end is no turn at all
  stays : (order : List ℕ) (m x : M) → AtEnd turn m → Run turn m order x → m ≡ x
  stays [] m x end run = run
  stays (p ∷ order) m x end run = let e : turn m p ≡ None = end p in absurd (cc (run.1))

  -- every run to the end, in whichever order, ends where the replay does
  pub replay_is_end : (turns : ℕ) (order : List ℕ) (m x : M) → Sound m → Run turn m order x → AtEnd turn x → length order ≤ turns → replay_for turn peers turns m ≡ x
  replay_is_end zero [] m x sound run end enough = run
  replay_is_end zero (p ∷ order) m x sound run end enough = absurd (omega arith)
  replay_is_end (suc turns) order m x sound run end enough =
      elim (none_or_some (lowest (turn m) peers)) [
        | inl none ↦ rw (none, replay_for) (stays order m x (at_end m sound none) run)
        | inr some ↦
            let here = lowest_some (turn m) peers some.0 some.1 in
            let next = sooner order m x some.0 here.0 sound run end here.1 in
            rw (some.1, replay_for) (replay_is_end turns next.0 some.0 x (law.keeps m some.0 here.0 sound here.1) next.1 end (omega (arith, next.2)))
      ]

-- the replay is itself such a run, whatever the turns are
pub replay_runs : {M : Type 0} (turn : M → ℕ → Option M) (peers turns : ℕ) (m : M) → (order : List ℕ) × Run turn m order (replay_for turn peers turns m)
replay_runs turn peers zero m = ([], refl)
replay_runs turn peers (suc turns) m =
    elim (none_or_some (lowest (turn m) peers)) [
      | inl none ↦ rw (none, replay_for) ([], refl)
      | inr some ↦
          let here = lowest_some (turn m) peers some.0 some.1 in
          let ih = replay_runs turn peers turns some.0 in
          rw (some.1, replay_for) (here.0 ∷ ih.0, (some.0, here.1, ih.1))
    ]

-- a kind of moments that each turn keeps is kept at every moment of the replay
pub replay_keeps : {M : Type 0} (turn : M → ℕ → Option M) (Kept : M → Type 0) → ((m x : M) (p : ℕ) → Kept m → turn m p ≡ Some x → Kept x) → (peers turns : ℕ) (m : M) → Kept m → Kept (replay_for turn peers turns m)
replay_keeps turn Kept keeps peers zero m kept = kept
replay_keeps turn Kept keeps peers (suc turns) m kept =
    elim (none_or_some (lowest (turn m) peers)) [
      | inl none ↦ rw (none, replay_for) kept
      | inr some ↦ let here = lowest_some (turn m) peers some.0 some.1 in rw (some.1, replay_for) (replay_keeps turn Kept keeps peers turns some.0 (keeps m some.0 here.0 kept here.1))
    ]
