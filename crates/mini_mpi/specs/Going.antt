-- What a rank does while it waits: it reads completions, whose ends it keeps, and makes the calls that wait.
--     Rank, rank_of seen begun            an endpoint, the calls that wait for it, and the ends that are kept
--     left_of tried rest                  what waits once its first was tried: a call that is refused for now stays first
--     never_of id tried                   the end of a call that is refused for good
--     TriesAll                            each of these receives is tried once, in order
--     Reads, PostsSend, PostsReceive, PostsEach      a step: a completion is read and its end kept; the first send that waits is tried;
--                                         the first receive is; each of them is
--     Goes fixed old new                  so many steps
--     HasNoMessage seen                   no message of MPI is there that no receive took
--     PostsAll fixed old new              steps, until none waits or no message is there, or else each that waits was tried last
--     Comes fixed polled old new          steps, and a completion is read whose end is not kept yet
--     IsFull begun                        the ends that are kept and the receives that wait fill the list of ends
--     LacksMemory fixed old new begun     memory lacks: the list of ends is full, or, behind steps, completions were asked for and the endpoint lacked it
use Rattle.std.specs.Prelude.{◌≡◌, ◌⊎◌, ℕ, ◌+◌, ◌≤◌, vec_len, vec_capacity, zero, suc, Bool, List, [], ◌∷◌, ◌++◌, None, IsSome, Result, Ok, Err}
use Rattle.std.specs.VecDeque.{deque_len}
use Rattle.fabric.specs.Held.{Seen}
use Rattle.fabric.specs.Polls.{Waits}
use Rattle.fabric.specs.Probes.{probe_fault, probed}
use Rattle.fabric.specs.Words.{Lacks, Polled}
use Rattle.mini_mpi_parts.specs.Tags.{wanted}
use Rattle.mini_mpi.specs.Posting.{TriesReceive, TriesSend}
use Rattle.mini_mpi.specs.Requests.{End, kept_of}
use Rattle.mini_mpi.specs.declared.begun.Begun.{Begun}
use Rattle.mini_mpi.specs.declared.begun.Receiving.{Receiving}
use Rattle.mini_mpi.specs.declared.begun.Sending.{Sending}
use Rattle.mini_mpi.specs.declared.posting.Tried.{Tried}
use Rattle.mini_mpi.specs.declared.posting.Tried.TheVariants.{Accepted, Later, Never}
use Rattle.mini_mpi_parts.specs.declared.ended.Ended.{Ended}

pub record Rank (Home : Type 0) : Type 0 where
  pub seen : Seen Home
  pub sends : List Sending
  pub receives : List Receiving
  pub ended : List (Ended End)

abbrev pub rank_of : {Home : Type 0} → Seen Home → Begun → Rank Home
rank_of seen begun = record { seen = seen; sends = begun.sends.items; receives = begun.receives.items; ended = begun.ended.items }

abbrev pub InSteps : {S : Type 0} → (S → S → Type 0) → ℕ → S → S → Type 0
InSteps Step zero old new = new ≡ old
InSteps {S} Step (suc n) old new = (mid : S) × InSteps Step n old mid × Step mid new

-- ---- calls that wait

abbrev pub left_of : {T : Type 0} → Tried T → List T → List T
left_of Accepted rest = rest
left_of (Later same) rest = same ∷ rest
left_of (Never failed) rest = rest

abbrev pub never_of : {T : Type 0} → ℕ → Tried T → List (Ended End)
never_of id Accepted = []
never_of id (Later same) = []
never_of id (Never failed) = record { id = id; end = Err failed } ∷ []

abbrev pub ends_of : Result Polled Lacks → List (Ended End)
ends_of (Ok polled) = kept_of polled
ends_of (Err lacking) = []

module _ {Home : Type 0} where
  -- those that are refused for now are left, in order
  abbrev pub TriesAll : List Receiving → Seen Home → Seen Home → List Receiving → List (Ended End) → Type 0
  TriesAll [] old new left ends = (new ≡ old) × (left ≡ []) × (ends ≡ [])
  TriesAll (receive ∷ receives) old new left ends = (mid : Seen Home) × (tried : Tried Receiving) × (rest : List Receiving) × (never : List (Ended End))
      × TriesReceive receive old mid tried × TriesAll receives mid new rest never × (left ≡ left_of tried rest) × (ends ≡ never_of receive.id tried ++ never)

  -- ---- steps

  pub record Reads (fixed : Bool) (old new : Rank Home) : Type 0 where
    pub budget : ℕ
    pub answer : Result Polled Lacks
    pub waits : Waits fixed budget old.seen new.seen answer
    pub sends : new.sends ≡ old.sends
    pub receives : new.receives ≡ old.receives
    pub ended : new.ended ≡ old.ended ++ ends_of answer

  pub record PostsSend (fixed : Bool) (old new : Rank Home) : Type 0 where
    pub send : Sending
    pub behind : List Sending
    pub tried : Tried Sending
    pub first : old.sends ≡ send ∷ behind
    pub tries : TriesSend fixed send old.seen new.seen tried
    pub sends : new.sends ≡ left_of tried behind
    pub receives : new.receives ≡ old.receives
    pub ended : new.ended ≡ old.ended ++ never_of send.id tried

  pub record PostsReceive (old new : Rank Home) : Type 0 where
    pub receive : Receiving
    pub behind : List Receiving
    pub tried : Tried Receiving
    pub first : old.receives ≡ receive ∷ behind
    pub tries : TriesReceive receive old.seen new.seen tried
    pub sends : new.sends ≡ old.sends
    pub receives : new.receives ≡ left_of tried behind
    pub ended : new.ended ≡ old.ended ++ never_of receive.id tried

  pub record PostsEach (old new : Rank Home) : Type 0 where
    pub never : List (Ended End)
    pub tries : TriesAll old.receives old.seen new.seen new.receives never
    pub sends : new.sends ≡ old.sends
    pub ended : new.ended ≡ old.ended ++ never

  abbrev pub Step : Bool → Rank Home → Rank Home → Type 0
  Step fixed old new = Reads fixed old new ⊎ (PostsSend fixed old new ⊎ (PostsReceive old new ⊎ PostsEach old new))

  abbrev pub Goes : Bool → Rank Home → Rank Home → Type 0
  Goes fixed old new = (n : ℕ) × InSteps (Step fixed) n old new

  -- ---- receives that wait

  abbrev pub HasNoMessage : Seen Home → Type 0
  HasNoMessage e = IsSome (probe_fault e.held.state None) ⊎ (probed e.held.state None (wanted None).0 (wanted None).1 ≡ None)

  pub record PostsAll (fixed : Bool) (old new : Rank Home) : Type 0 where
    pub mid : Rank Home
    pub goes : Goes fixed old mid
    pub tries : (((new.receives ≡ []) ⊎ HasNoMessage new.seen) × (new ≡ mid)) ⊎ PostsEach mid new

  -- the first in the queue is tried, and stays behind the others where it is refused for now
  pub record TriesNext (old new : Rank Home) : Type 0 where
    pub receive : Receiving
    pub behind : List Receiving
    pub tried : Tried Receiving
    pub first : old.receives ≡ receive ∷ behind
    pub tries : TriesReceive receive old.seen new.seen tried
    pub sends : new.sends ≡ old.sends
    pub receives : new.receives ≡ behind ++ left_of tried []
    pub ended : new.ended ≡ old.ended ++ never_of receive.id tried

  abbrev pub TakesTurn : Rank Home → Rank Home → Type 0
  TakesTurn old new = ((old.receives ≡ []) × (new ≡ old)) ⊎ TriesNext old new

  -- ---- waits

  pub record Comes (fixed : Bool) (polled : Polled) (old new : Rank Home) : Type 0 where
    pub mid : Rank Home
    pub goes : Goes fixed old mid
    pub budget : ℕ
    pub waits : Waits fixed budget mid.seen new.seen (Ok polled)
    pub same : new ≡ record mid { seen = new.seen }

-- ---- memory

abbrev pub IsFull : Begun → Type 0
IsFull begun = vec_capacity begun.ended ≤ vec_len begun.ended + deque_len begun.receives

module _ {Home : Type 0} where
  pub record Lacked (fixed : Bool) (old new : Rank Home) : Type 0 where
    pub mid : Rank Home
    pub goes : Goes fixed old mid
    pub budget : ℕ
    pub lacking : Lacks
    pub waits : Waits fixed budget mid.seen new.seen (Err lacking)

  abbrev pub LacksMemory : Bool → Rank Home → Rank Home → Begun → Type 0
  LacksMemory fixed old new begun = IsFull begun ⊎ Lacked fixed old new
