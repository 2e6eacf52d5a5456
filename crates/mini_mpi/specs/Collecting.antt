-- What a rank does in a collective, and what it gives.
--     Member, Standing                          a rank and the collective that it takes part in; a rank and its group
--     DrivesAs fixed answer old new             the collective is driven: it makes its own calls, and nothing else is changed
--     HearsOf fixed polled old new              the rank goes on, and a completion is read: one of the collective it takes, of any other the end is kept
--     TakesPart fixed read old new              the collective is driven and a completion is read, in turn; these were read, in order
--     Brings work len k bytes polled            a completion of the collective that brings these bytes, from the rank that is heard in round k
--     IsOutcome work own read bytes             the bytes are the outcome of the own share and of the messages of all rounds, each brought by one of these completions
--     Completes fixed begun old new bytes       the rank takes part in this collective until it gives these bytes
--     Collects fixed coll own old new bytes     a collective of this kind is begun with this share, and completed
--     Passes fixed old new                      a barrier
--     piece_at bytes at, pieces_of bytes        4,096 bytes from here on, or those that are left; all such pieces, in order
--     filled_at bytes at piece                  the bytes with this piece in the place of the one there
--     CollectsAll fixed coll pieces old new all      one collective after another, each with one of these pieces, and what they give
--     CollectsBytes fixed coll own old new bytes     the same with the pieces of these bytes, and what they give is joined
--     CollectsAt fixed coll at before after old new  the same of the piece that begins here
--     Finishes fixed old endpoint               a barrier, and then the rank goes on until no send waits
use Rattle.std.specs.Prelude.{◌≡◌, ℕ, ◌+◌, ◌-◌, ◌*◌, ◌<◌, min, Bool, true, if◌then◌else◌, List, [], ◌∷◌, ◌++◌, Any, length, map, take, drop, slice_index_or, Option, None, Some, Result, Ok}
use Rattle.std.specs.Int.{div_ceil}
use Rattle.std.specs.List.{concat, range_with_len}
use Rattle.fabric.specs.Beginning.{IsFresh, next_of, work_of}
use Rattle.fabric.specs.Driving.{Drives}
use Rattle.fabric.specs.Held.{Seen}
use Rattle.fabric.specs.Lengths.{AreWhole}
use Rattle.fabric.specs.Offering.{awaited_after, brought, failed_after, is_of, received_after}
use Rattle.fabric.specs.Progresses.{is_flushed}
use Rattle.fabric.specs.Routes.{hears_in, others_of, rounds_in, source_in}
use Rattle.fabric.specs.Shares.{outcome_of}
use Rattle.fabric.specs.Words.{Barrier, Coll, Collective, Fault, Group, MOST_SHARE, Message, Polled, Work}
use Rattle.mini_mpi.specs.Going.{Comes, Goes, Rank, rank_of}
use Rattle.mini_mpi.specs.Requests.{End, kept_of}
use Rattle.mini_mpi.specs.declared.begun.Begun.{Begun}
use Rattle.mini_mpi_parts.specs.declared.ended.Ended.{Ended}

pub record Member (Home : Type 0) : Type 0 where
  pub rank : Rank Home
  pub part : Collective

abbrev pub member_of : {Home : Type 0} → Seen Home → Begun → Collective → Member Home
member_of seen begun part = record { rank = rank_of seen begun; part = part }

pub record Standing (Home : Type 0) : Type 0 where
  pub group : Group
  pub rank : Rank Home

abbrev pub standing_of : {Home : Type 0} → Group → Seen Home → Begun → Standing Home
standing_of group seen begun = record { group = group; rank = rank_of seen begun }

-- ---- turns

abbrev pub KeepsMessages : Collective → Collective → Type 0
KeepsMessages old new = (new.work ≡ old.work) × (new.own ≡ old.own) × (new.received.items ≡ old.received.items) × (new.awaited.items ≡ old.awaited.items) × (new.failed ≡ old.failed)

abbrev pub IsOffered : Polled → Collective → Collective → Type 0
IsOffered polled old new = (new.work ≡ old.work) × (new.own ≡ old.own)
    × (new.received.items ≡ received_after old.work (length old.own) old.received.items polled)
    × (new.awaited.items ≡ awaited_after old.work (length old.own) old.awaited.items polled)
    × (new.failed ≡ failed_after old.work (length old.own) old.failed polled)
    × (new.asked ≡ old.asked) × (new.sent ≡ old.sent)

-- the end of another's completion is kept
abbrev pub kept_beside : Work → Polled → List (Ended End)
kept_beside work polled = if is_of work.tag polled then [] else kept_of polled

module _ {Home : Type 0} where
  pub record DrivesAs (fixed : Bool) (answer : Result (Option (List ℕ)) Fault) (old new : Member Home) : Type 0 where
    pub drives : Drives fixed old.part new.part old.rank.seen new.rank.seen answer
    pub same : new.rank ≡ record old.rank { seen = new.rank.seen }
    pub messages : KeepsMessages old.part new.part

  pub record HearsOf (fixed : Bool) (polled : Polled) (old new : Member Home) : Type 0 where
    pub mid : Rank Home
    pub comes : Comes fixed polled old.rank mid
    pub seen : new.rank.seen ≡ mid.seen
    pub calls : (new.rank.sends ≡ mid.sends) × (new.rank.receives ≡ mid.receives)
    pub ended : new.rank.ended ≡ mid.ended ++ kept_beside old.part.work polled
    pub offered : IsOffered polled old.part new.part

  abbrev pub TakesPart : Bool → List Polled → Member Home → Member Home → Type 0
  TakesPart fixed [] old new = new ≡ old
  TakesPart fixed (polled ∷ read) old new = (driven : Member Home) × (heard : Member Home)
      × DrivesAs fixed (Ok None) old driven × HearsOf fixed polled driven heard × TakesPart fixed read heard new

-- ---- what is given

abbrev pub Brings : Work → ℕ → ℕ → List ℕ → Polled → Type 0
Brings work len k bytes polled = (is_of work.tag polled ≡ true) × (message : Message) × (brought polled ≡ Some message) × (message.source ≡ source_in work len k) × (bytes ≡ message.bytes)

-- below 8 ranks that is the message of each rank whose share is needed; from 8 on one brings the shares of several
pub record IsOutcome (work : Work) (own : List ℕ) (read : List Polled) (bytes : List ℕ) : Type 0 where
  pub received : List (List ℕ)
  pub heard : (k : ℕ) → k < rounds_in work (length own) → hears_in work (length own) k ≡ true → Any (Brings work (length own) k (slice_index_or received k [])) read
  pub whole : AreWhole work own received
  pub gives : bytes ≡ outcome_of work.coll work.rank own (others_of work own received)

module _ {Home : Type 0} where
  pub record Completes (fixed : Bool) (begun : Collective) (old new : Rank Home) (bytes : List ℕ) : Type 0 where
    pub read : List Polled
    pub last : Member Home
    pub done : Collective
    pub takes : TakesPart fixed read (record { rank = old; part = begun }) last
    pub drives : DrivesAs fixed (Ok (Some bytes)) last (record { rank = new; part = done })
    pub outcome : IsOutcome begun.work begun.own read bytes

  pub record Collects (fixed : Bool) (coll : Coll) (own : List ℕ) (old new : Standing Home) (bytes : List ℕ) : Type 0 where
    pub begun : Collective
    pub work : begun.work ≡ work_of old.group coll
    pub share : begun.own ≡ own
    pub fresh : IsFresh begun
    pub next : new.group ≡ next_of old.group
    pub completes : Completes fixed begun old.rank new.rank bytes

-- ---- pieces

abbrev pub piece_at : List ℕ → ℕ → List ℕ
piece_at bytes at = take MOST_SHARE (drop at bytes)

abbrev pub filled_at : List ℕ → ℕ → List ℕ → List ℕ
filled_at bytes at piece = take at bytes ++ piece ++ drop (at + MOST_SHARE) bytes

abbrev pub pieces_of : List ℕ → List (List ℕ)
pieces_of bytes = map (λ n. piece_at bytes (n * MOST_SHARE)) (range_with_len 0 (div_ceil (length bytes) MOST_SHARE))

-- ---- calls

module _ {Home : Type 0} where
  -- what a barrier gives has no bytes
  abbrev pub Passes : Bool → Standing Home → Standing Home → Type 0
  Passes fixed old new = (none : List ℕ) × Collects fixed Barrier [] old new none

  abbrev pub CollectsAll : Bool → Coll → List (List ℕ) → Standing Home → Standing Home → List (List ℕ) → Type 0
  CollectsAll fixed coll [] old new all = (new ≡ old) × (all ≡ [])
  CollectsAll fixed coll (piece ∷ pieces) old new all = (mid : Standing Home) × (bytes : List ℕ) × (rest : List (List ℕ))
      × Collects fixed coll piece old mid bytes × CollectsAll fixed coll pieces mid new rest × (all ≡ bytes ∷ rest)

  pub record CollectsBytes (fixed : Bool) (coll : Coll) (own : List ℕ) (old new : Standing Home) (bytes : List ℕ) : Type 0 where
    pub all : List (List ℕ)
    pub each : CollectsAll fixed coll (pieces_of own) old new all
    pub joined : bytes ≡ concat all

  pub record CollectsAt (fixed : Bool) (coll : Coll) (at : ℕ) (before after : List ℕ) (old new : Standing Home) : Type 0 where
    pub given : List ℕ
    pub collects : Collects fixed coll (piece_at before at) old new given
    pub long : length given ≡ min MOST_SHARE (length before - at)
    pub filled : after ≡ filled_at before at given

  pub record Finishes (fixed : Bool) (old : Standing Home) (endpoint : Seen Home) : Type 0 where
    pub passed : Standing Home
    pub passes : Passes fixed old passed
    pub last : Rank Home
    pub goes : Goes fixed passed.rank last
    pub sends : last.sends ≡ []
    pub seen : endpoint ≡ last.seen
    pub flushed : is_flushed endpoint.held.state ≡ true
