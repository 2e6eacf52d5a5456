-- What each lane gets in calls of progress, one after another.
use Rattle.std.proofs.Common.{◌≡◌, ◌≤◌, ◌+◌, ◌⊎◌, inl, inr, ℕ, Bool, List, [], ◌∷◌, refl, arith}
use Rattle.std.proofs.lemmas.List.Sums.{sum_by-append}
use Rattle.fab_face.specs.declared.lanes.Lane.{Lane}
use Rattle.fab_face.specs.Answers.{frames_in}
use Rattle.fab_face.specs.Circle.{IsOf, ahead}
use Rattle.fab_face.specs.Fairness.{EachHasItsTurn, OneGave, Poll, Polls, frames_of}
use Rattle.fab_face.proofs.Circle.{ahead_below}

module _ {Home : Type 0} where
  nearer_by : (fixed : Bool) (peers : ℕ) (from : Lane) (ps : List (Poll Home)) (l : Lane) → Polls fixed peers from ps → IsOf peers l → OneGave fixed l ps ⊎ (frames_of ps ≤ ahead peers from l)
  nearer_by fixed peers from [] l polls is = inr (omega arith)
  nearer_by fixed peers from (p ∷ ps) l (begins, same, serves, rest) is =
      elim (serves.nearer l (rw same is)) [
        | inl turn ↦ inl (inl turn)
        | inr near ↦ elim (nearer_by fixed peers p.new.next ps l rest is) [
          | inl one ↦ inl (inr one)
          | inr few ↦ inr (
              let n : frames_in p.acts + ahead peers p.new.next l ≤ ahead peers p.old.next l = rw same at near in
              let m : frames_in p.acts + ahead peers p.new.next l ≤ ahead peers from l = rw begins at n in
              let one : frames_of (p ∷ []) ≡ 0 + frames_in p.acts = refl in
              let all : frames_of (p ∷ ps) ≡ frames_of (p ∷ []) + frames_of ps = sum_by-append (λ (x : Poll Home). frames_in x.acts) (p ∷ []) ps in
              omega (arith, one, all, m, few))
        ]
      ]

  pub each_has_its_turn : (fixed : Bool) → EachHasItsTurn Home fixed
  each_has_its_turn fixed peers from ps l polls is many = elim (nearer_by fixed peers from ps l polls is) [
    | inl one ↦ one
    | inr few ↦ absurd (let below = ahead_below peers from l is in omega (arith, few, below, many))
  ]
