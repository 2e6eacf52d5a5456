-- Peers whose threads stay: after each turn all meet.
--     IsSeated m o              a peer has a seat of this meeting
--     Risen a b                 what a turn adds to a peer's size
--     LivedFor n said a b       so many turns led from a to b, and after each it told its word of the list
--     IsLife a b x              the turns of one peer from a to b, and what it told and was answered after each
--     RanFor n old new          so many rounds led from old to new, and what they added
use Rattle.std.specs.Prelude.{◌≡◌, ℕ, zero, suc, ◌+◌, ◌<◌, ◌≤◌, true, false, not, List, length, sum_by, Option, Some, None, slice_index}
use Rattle.std.specs.List.{list_all, list_any}
use Rattle.fab_meeting.specs.declared.kinds.Account.{Account}
use Rattle.fab_meeting.specs.declared.board.Meeting.{Meeting}
use Rattle.fab_meeting.specs.declared.board.MeetingSeat.{MeetingSeat}
use Rattle.fab_meeting.specs.Accounts.{new_account, answer_at}
use Rattle.fab_meeting.specs.Seats.{account_of, IsOf}
use Rattle.fab_rounds.specs.Rounds.{Between, Rounded, MadeFor, size}
use Rattle.fab_rounds.specs.Words.{told_by, goes}

abbrev pub account_in : Option MeetingSeat → Account
account_in None = new_account 0 0
account_in (Some s) = account_of s

pub record IsSeated (m : Meeting) (o : Option MeetingSeat) : Type 0 where
  pub seat : MeetingSeat
  pub is : o ≡ Some seat
  pub of : IsOf m seat

pub record Risen {Home : Type 0} (a b : Between Home) : Type 0 where
  pub grown : b.failed ≡ false → size a.peer ≤ size b.peer
  pub risen : b.moved ≡ true → size a.peer < size b.peer

abbrev pub LivedFor : {Home : Type 0} → ℕ → List ℕ → Between Home → Between Home → Type 0
LivedFor zero said a b = a ≡ b
LivedFor {Home} (suc n) said a c = (b : Between Home) × LivedFor n said a b × Rounded b c × Risen b c × (slice_index said n ≡ told_by c)

pub record IsLife {Home : Type 0} (a b : Between Home) (x : Account) : Type 0 where
  -- it took a turn for each word that it told
  pub lived : LivedFor (length x.said) x.said a b
  -- each answer but the last let it go on
  pub went : (n : ℕ) → n + 1 < length x.said → goes (answer_at x n) ≡ true

pub record RanFor {Home : Type 0} (n : ℕ) (old new : List (Between Home)) : Type 0 where
  pub made : MadeFor n old new
  -- where the last one moved something, each of them did, so all peers together are larger by as many
  pub grew : list_any (λ p. p.failed) new ≡ false → list_all (λ p. not p.moved) new ≡ false → sum_by (λ p. size p.peer) old + n ≤ sum_by (λ p. size p.peer) new
