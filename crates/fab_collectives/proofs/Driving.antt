-- Calls in turn, as a loop makes them: none yet, one more, and the end.
--     Upto one test a b last old new      the rounds from a to below b that pass had their call
use Rattle.std.proofs.Common.{Result, Ok, Err, ◌≡◌, ℕ, ◌+◌, ◌-◌, ◌<◌, ◌≤◌, max, Bool, true, false, List, [], ◌∷◌, ◌++◌, length, inl, inr, ◌⊎◌, refl, sym, ap, ◌∙◌, subst, arith, cond}
use Rattle.std.proofs.lemmas.List.{append-nil, map-id}
use Rattle.std.proofs.lemmas.List.FromFn.{filter_of_map_range_with_len_more}
use Rattle.std.proofs.Math.Nat.{le-max_left, le-max_right}
use Rattle.std.specs.List.{range_with_len}
use Rattle.std.specs.Prelude.{filter, IfErr, IsErrAnd, Option, None}
use Rattle.std.proofs.lemmas.Result.{err_from_is_err_and}
use Rattle.fab_base.specs.declared.faults.Fault.{Fault}
use Rattle.fab_base.specs.declared.faults.Fault.TheVariants.{MsgSize, NoMemory as LacksMemory}
use Rattle.fab_face.specs.Held.{Seen}
use Rattle.fab_collectives.specs.Lengths.{AreWhole}
use Rattle.fab_collectives.specs.declared.collective.Collective.{Collective}
use Rattle.fab_collectives.specs.Driving.{between, InTurn, Passing, InVain, Tries, Ends, Goes, AsksAll, TellsAll, Drove, HasAll, IsDue, NoOutcome, Drives}

more : (test : ℕ → Bool) (a b : ℕ) → a ≤ b → between test a (b + 1) ≡ between test a b ++ cond (test b) (b ∷ []) []
more test a b forth = let n : ℕ = b - a in
    let longer : b + 1 - a ≡ n + 1 = omega (arith, forth) in
    ap (λ (k : ℕ). filter test (range_with_len a k)) longer
    ∙ sym (ap (filter test) (map-id (range_with_len a (n + 1))))
    ∙ filter_of_map_range_with_len_more test (λ k. k) a n b (omega (arith, forth))
    ∙ ap (λ (xs : List ℕ). filter test xs ++ cond (test b) (b ∷ []) []) (map-id (range_with_len a n))

-- what an error is that is handed on
pub handed_on : {T : Type 0} (r : Result T Fault) (why : Fault) → IsErrAnd r (λ e. e ≡ why) → r ≡ Err why
handed_on r why is = let p = err_from_is_err_and r is in p.1 ∙ ap Err p.2

-- what a call says of its answer
pub answered : {S : Type 0} (one : S → S → Type 0) (not : S → S → Fault → Type 0) (old new : S) (answer : Result Bool Fault) (told expected : Bool)
    → answer ≡ Ok told → told ≡ expected → Tries one not old new answer → Tries one not old new (Ok expected)
answered one not old new answer told expected is same tries =
    subst (λ (t : Bool). Tries one not old new (Ok t)) same (subst (λ (r : Result Bool Fault). Tries one not old new r) is tries)

module _ {S : Type 0} (one : ℕ → S → S → Type 0) where
  in_turn-snoc : (ranks : List ℕ) (rank : ℕ) (old mid new : S) → InTurn one ranks old mid → one rank mid new → InTurn one (ranks ++ rank ∷ []) old new
  in_turn-snoc [] rank old mid new same call = (new, subst (λ (s : S). one rank s new) same call, refl)
  in_turn-snoc (first ∷ ranks) rank old mid new turns call = (turns.0, turns.1, in_turn-snoc ranks rank turns.0 mid new turns.2 call)

  pub record Upto (test : ℕ → Bool) (a b last : ℕ) (old new : S) : Type 0 where
    pub forth : a ≤ b
    pub within : b ≤ max a last
    pub made : InTurn one (between test a b) old new

  module _ (test : ℕ → Bool) (a last : ℕ) where
    pub begins : (s : S) → Upto test a a last s s
    begins s = let none : a - a ≡ 0 = omega arith in record {
      forth = omega arith;
      within = le-max_left a last;
      made = subst (λ (n : ℕ). InTurn one (filter test (range_with_len a n)) s s) (sym none) refl;
    }

    module _ (b : ℕ) (below : b < last) (old mid : S) (upto : Upto test a b last old mid) where
      inside : b + 1 ≤ max a last
      inside = let le = le-max_right a last in omega (arith, below, le)

      pub passes : (new then : S) → then ≡ new → test b ≡ true → one b mid new → Upto test a (b + 1) last old then
      passes new then same pass call = subst (λ (s : S). Upto test a (b + 1) last old s) (sym same) (record {
        forth = let le = upto.forth in omega (arith, le);
        within = inside;
        made = subst (λ (ranks : List ℕ). InTurn one ranks old new) (sym (more test a b upto.forth ∙ ap (λ (t : Bool). between test a b ++ cond t (b ∷ []) []) pass))
            (in_turn-snoc (between test a b) b old mid new upto.made call);
      })

      pub skips : (then : S) → then ≡ mid → test b ≡ false → Upto test a (b + 1) last old then
      skips then same fail = subst (λ (s : S). Upto test a (b + 1) last old s) (sym same) (record {
        forth = let le = upto.forth in omega (arith, le);
        within = inside;
        made = subst (λ (ranks : List ℕ). InTurn one ranks old mid)
            (sym (more test a b upto.forth ∙ ap (λ (t : Bool). between test a b ++ cond t (b ∷ []) []) fail ∙ append-nil (between test a b))) upto.made;
      })

    module _ (not : ℕ → S → S → Fault → Type 0) (b c : ℕ) (same : c ≡ b) (old mid : S) (upto : Upto test a b last old mid) where
      goes : (new : S) (answer : Result (Unit {0}) Fault) → Ends not b last mid new answer → Goes one not test a c last old new answer
      goes new answer ends = subst (λ (k : ℕ). Goes one not test a k last old new answer) (sym same) (record {
        mid = mid;
        forth = upto.forth;
        within = upto.within;
        made = upto.made;
        ends = ends;
      })

      pub all_had : last ≤ b → Goes one not test a c last old mid (Ok tt)
      all_had over = goes mid (Ok tt) (inl (over, refl))

      pub for_now : (new : S) → b < last → Passing (not b) mid new → Goes one not test a c last old new (Ok tt)
      for_now new below now = goes new (Ok tt) (inr (below, now))

      pub in_vain : (new : S) (answer : Result (Unit {0}) Fault) (why : Fault) → answer ≡ Err why → b < last → InVain (not b) mid new why → Goes one not test a c last old new answer
      in_vain new answer why is below vain = goes new answer (subst (λ (r : Result (Unit {0}) Fault). Ends not b last mid new r) (sym is) (below, vain))

-- once no share is missing
pub of_shares : (c : Collective) → HasAll c → (answer : Result (Option (List ℕ)) Fault)
    → IfErr answer (λ why. (why ≡ LacksMemory) ⊎ ((why ≡ MsgSize) × (AreWhole c.work c.own c.received.items → ⊥)))
    → IfErr answer (λ why. (why ≡ LacksMemory) ⊎ ((why ≡ MsgSize) × NoOutcome c))
of_shares c all (Ok given) cause = cause
of_shares c all (Err why) (inl memory) = inl memory
of_shares c all (Err why) (inr size) = inr (size.0, inr (all, size.1))

module _ {Home : Type 0} (fixed : Bool) (c d : Collective) (own : List ℕ) (same : own ≡ c.own) (received : List (List ℕ)) (kept : received ≡ c.received.items) (due : ℕ) (last : IsDue c due) (old : Seen Home) where
  abbrev Asked : Seen Home → Result (Unit {0}) Fault → Type 0
  Asked new answer = AsksAll c.work (length own) c.asked d.asked old new answer

  abbrev Told : Seen Home → Seen Home → Result (Unit {0}) Fault → Type 0
  Told mid new answer = TellsAll fixed c.work own received due c.sent d.sent mid new answer

  asked : (new : Seen Home) (answer : Result (Unit {0}) Fault) → Asked new answer → AsksAll c.work (length c.own) c.asked d.asked old new answer
  asked new answer asks = subst (λ (o : List ℕ). AsksAll c.work (length o) c.asked d.asked old new answer) same asks

  told : (mid new : Seen Home) (answer : Result (Unit {0}) Fault) → Told mid new answer → TellsAll fixed c.work c.own c.received.items due c.sent d.sent mid new answer
  told mid new answer tells = subst (λ (o : List ℕ). TellsAll fixed c.work o c.received.items due c.sent d.sent mid new answer) same
      (subst (λ (r : List (List ℕ)). TellsAll fixed c.work own r due c.sent d.sent mid new answer) kept tells)

  drove : (mid new : Seen Home) (answer : Result (Unit {0}) Fault) → Asked mid (Ok tt) → Told mid new answer → Drove fixed c d old new answer
  drove mid new answer asks tells = (mid, asked mid (Ok tt) asks, (due, last, told mid new answer tells))

  module _ (answer : Result (Option (List ℕ)) Fault) where
    pub asked_in_vain : (new : Seen Home) (why : Fault) → answer ≡ Err why → d.sent ≡ c.sent → Asked new (Err why) → Drives fixed c d old new answer
    unfolding Drives
    asked_in_vain new why is sent asks = subst (λ (r : Result (Option (List ℕ)) Fault). Drives fixed c d old new r) (sym is) (inl (asked new (Err why) asks, sent))

    module _ (mid new : Seen Home) (asks : Asked mid (Ok tt)) where
      pub told_in_vain : (why : Fault) → answer ≡ Err why → Told mid new (Err why) → Drives fixed c d old new answer
      unfolding Drives
      told_in_vain why is tells = subst (λ (r : Result (Option (List ℕ)) Fault). Drives fixed c d old new r) (sym is) (inr (inl (drove mid new (Err why) asks tells)))

      pub driven : Told mid new (Ok tt) → IfErr answer (λ why. (why ≡ LacksMemory) ⊎ ((why ≡ MsgSize) × NoOutcome c)) → Drives fixed c d old new answer
      unfolding Drives
      driven tells cause = by answer cause
        where
          by : (r : Result (Option (List ℕ)) Fault) → IfErr r (λ why. (why ≡ LacksMemory) ⊎ ((why ≡ MsgSize) × NoOutcome c)) → Drives fixed c d old new r
          by (Ok given) cause = drove mid new (Ok tt) asks tells
          by (Err why) cause = inr (inr (drove mid new (Ok tt) asks tells, cause))

      pub driven_failed : c.failed ≡ true → answer ≡ Err MsgSize → Told mid new (Ok tt) → Drives fixed c d old new answer
      driven_failed failed is tells = driven tells (subst (λ (r : Result (Option (List ℕ)) Fault). IfErr r (λ why. (why ≡ LacksMemory) ⊎ ((why ≡ MsgSize) × NoOutcome c))) (sym is) (inr (refl, inl failed)))

      pub driven_on : answer ≡ Ok None → Told mid new (Ok tt) → Drives fixed c d old new answer
      driven_on is tells = driven tells (subst (λ (r : Result (Option (List ℕ)) Fault). IfErr r (λ why. (why ≡ LacksMemory) ⊎ ((why ≡ MsgSize) × NoOutcome c))) (sym is) tt)
