-- Two calls of progress, one behind the other.
use Rattle.std.proofs.Common.{◌≡◌, ◌+◌, ◌⊎◌, inl, inr, ℕ, Bool, List, [], ◌∷◌, Result, refl, arith}
use Rattle.std.specs.Prelude.{is_err}
use Rattle.fabric.specs.Answers.{HadTurn, frames_in}
use Rattle.fabric.specs.Cleared.{cleared}
use Rattle.fabric.specs.Fairness.{EachHasItsTurn, Poll, frames_of}
use Rattle.fabric.specs.Held.{Seen}
use Rattle.fabric.specs.Progresses.{Moves}
use Rattle.fabric.specs.Words.{Lacks, Lane, Next}
use Rattle.fabric_uses.specs.Uses.{MovesTwice}

module _ {Home : Type 0} where
  pub moves_twice : (fixed : Bool) (budget : ℕ) (old mid new : Seen Home) (first second : Result Next Lacks) → EachHasItsTurn Home fixed
      → Moves fixed budget (cleared old) mid first → Moves fixed budget (cleared mid) new second → MovesTwice fixed budget old new first second
  moves_twice fixed budget old mid new first second law one two = record {
    mid = mid;
    one = one;
    two = two;
    turns = λ l is many. by l (law old.lanes.peers old.next polls l (refl, refl, one.progressed.serves, (refl, one.progressed.went.ported.peers, two.progressed.serves, tt)) is (let n = all in omega (arith, many, n)));
  }
    where
      polls : List (Poll Home)
      polls =
          record { old = cleared old; new = mid; acts = one.progressed.acts; failed = is_err one.moved }
          ∷ record { old = cleared mid; new = new; acts = two.progressed.acts; failed = is_err two.moved } ∷ []

      all : frames_of polls ≡ frames_in one.progressed.acts + frames_in two.progressed.acts
      all = omega (arith)

      by : (l : Lane) → HadTurn fixed (is_err one.moved) (cleared old) mid one.progressed.acts l ⊎ (HadTurn fixed (is_err two.moved) (cleared mid) new two.progressed.acts l ⊎ ⊥)
          → HadTurn fixed (is_err one.moved) (cleared old) mid one.progressed.acts l ⊎ HadTurn fixed (is_err two.moved) (cleared mid) new two.progressed.acts l
      by l (inl turn) = inl turn
      by l (inr (inl turn)) = inr turn
      by l (inr (inr none)) = elim none [ ]
