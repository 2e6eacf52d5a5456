-- All peers together again: what their threads did is so many rounds, in each of which every peer took one turn.
use Rattle.std.proofs.Common.{◌≡◌, ◌<◌, ◌+◌, ℕ, zero, suc, true, Option, Some, List, [], ◌∷◌, map, length, get_or, sym, ap, ◌∙◌, subst, arith}
use Rattle.std.proofs.lemmas.List.{length-map, get_or-map}
use Rattle.fab_meeting.specs.declared.kinds.Account.{Account}
use Rattle.fab_meeting.specs.declared.board.MeetingSeat.{MeetingSeat}
use Rattle.fab_meeting.specs.Accounts.{together, column}
use Rattle.fab_meeting.specs.Gather.{all_said, AreMet}
use Rattle.fab_meeting.specs.Seats.{account_of}
use Rattle.fab_meeting.proofs.Meets.{all_answered}
use Rattle.fab_rounds.specs.Rounds.{Each, Between}
use Rattle.fab_rounds.specs.Words.{goes}
use Rattle.fab_rounds.specs.Staying.{account_in, LivedFor, IsLife, RanFor}
use Rattle.fab_rounds.proofs.Rows.{AllLived, rows}

some_one : {X : Type 0} (xs : List X) → 0 < length xs → X
some_one [] some = absurd (omega (arith, some))
some_one (x ∷ xs) some = x

-- by place: the turns of each peer, with the account of its seat
abbrev pub AreLives : {Home : Type 0} → List (Between Home) → List (Between Home) → List Account → Type 0
AreLives {Home} old new accounts = (k : ℕ) (d : Between Home) (e : Account) → k < length old → IsLife (get_or old k d) (get_or new k d) (get_or accounts k e)

pub lives_told : {Home X : Type 0} (view : X → Between Home) (seat : X → Option MeetingSeat) (old new : List X) (seats : List MeetingSeat) → length new ≡ length old → map seat new ≡ map (λ s. Some s) seats
    → Each (λ a b. IsLife (view a) (view b) (account_in (seat b))) old new → AreLives (map view old) (map view new) (map account_of seats)
lives_told view seat [] new seats long stood each k d e below = absurd (omega (arith, below))
lives_told view seat (x ∷ old) [] seats long stood each k d e below = absurd (omega (arith, long))
lives_told view seat (x ∷ old) (y ∷ new) [] long stood each k d e below = absurd (cc (stood))
lives_told view seat (x ∷ old) (y ∷ new) (s ∷ seats) long stood each zero d e below =
    let here : seat y ≡ Some s = cc (stood) in
    subst (λ o. IsLife (view x) (view y) (account_in o)) here (each zero x (omega arith))
lives_told view seat (x ∷ old) (y ∷ new) (s ∷ seats) long stood each (suc k) d e below =
    let rest : map seat new ≡ map (λ z. Some z) seats = cc (stood) in
    lives_told view seat old new seats (omega (arith, long)) rest (λ j c low. each (suc j) c (omega (arith, low))) k d e (omega (arith, below))

module _ {Home : Type 0} (old new : List (Between Home)) (accounts : List Account) (long : length new ≡ length old) (count : length accounts ≡ length new) (some : 0 < length new) (lives : AreLives old new accounts) (met : AreMet accounts)
    (made : ℕ) (e : Account) (first : length (get_or accounts 0 e).said ≡ made) where
  all_lived : AllLived made (all_said accounts) old new
  all_lived k d below =
      let near : k < length accounts = omega (arith, below, long, count) in
      let life = lives k d e below in
      let as_many : length (get_or accounts k e).said ≡ made = met.even k 0 e near (omega (arith, near)) ∙ first in
      let said : get_or (all_said accounts) k [] ≡ (get_or accounts k e).said = get_or-map (λ (a : Account). a.said) accounts k e [] near in
      subst (λ (ws : List ℕ). LivedFor made ws (get_or old k d) (get_or new k d)) (sym said)
      (subst (λ n. LivedFor n (get_or accounts k e).said (get_or old k d) (get_or new k d)) as_many life.lived)

  all_went : (m : ℕ) → m + 1 < made → goes (together (column m (all_said accounts))) ≡ true
  all_went m low =
      let life = lives 0 (some_one new some) e (omega (arith, some, long)) in
      ap goes (sym (all_answered accounts met 0 e (omega (arith, some, count)) m)) ∙ life.went m (omega (arith, low, first))

  pub rounds_ran : RanFor made old new
  rounds_ran = rows made (all_said accounts) old new long (length-map accounts (λ (a : Account). a.said) ∙ count ∙ long) all_lived all_went
