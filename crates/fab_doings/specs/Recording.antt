-- What a thread's function ensures of the record of its endpoint's calls.
--     IsRecorded old new own     whatever was recorded before, the record goes on with more, of which the thread's own part is this: its calls that were Ok, with what they answered, and the entries read, in order; and the port is that of the same peer of the same table
--     AreRecordedSome old new own     the same of the first so many of these
--     exchanged .., asked_both ..     what the examples' functions do themselves
--     asks other tag room   the receive of the examples: of that peer, under that tag
--     says other tag bytes  their message, to that peer under that tag
--     Exchanges ..          the example: a receive was posted, a message sent, and progress made
--     ExchangesNot ..       one of the two was refused, or progress lacked memory
use Rattle.std.specs.Prelude.{◌≡◌, ◌⊎◌, ℕ, Bool, true, false, List, [], ◌∷◌, take, None, Some, Result, Err}
use Rattle.fab_base.specs.declared.faults.Fault.{Fault}
use Rattle.fab_base.specs.declared.faults.Fault.TheVariants.{NoMemory as LacksMemory}
use Rattle.fab_base.specs.declared.faults.NoMemory.{NoMemory}
use Rattle.fab_base.specs.declared.items.Kind.TheVariants.{TagMsg}
use Rattle.fab_base.specs.declared.peers.Level.TheVariants.{Transmit}
use Rattle.fab_base.specs.declared.peers.LineResult.TheVariants.{Done}
use Rattle.fab_model.specs.Calls.{Call, message}
use Rattle.fab_face.specs.declared.events.Moved.{Moved}
use Rattle.fab_face.specs.Answers.{Progressed, Receives, ReceivesNot, Sends, SendsNot, receive_call}
use Rattle.fab_face.specs.Held.{Seen}
use Rattle.fab_doings.specs.Doings.{Calls, Did, Doing, own_of}
use Rattle.fab_doings.specs.Law.{Adds}

-- the record is the old one, and then the thread's own calls and reads are these
pub record IsRecorded {Home : Type 0} (old new : Seen Home) (own : List Doing) : Type 0 where
  pub more : List Doing
  pub adds : Adds old new more
  -- between them are the frames and the draws that the endpoint and its port tell
  pub are : own_of more ≡ own
  pub home : new.lanes.home ≡ old.lanes.home
  pub number : new.lanes.number ≡ old.lanes.number

-- a call that is Ok
abbrev pub called : Call → Doing
called call = Did (Calls call Done)

-- the first so many of these
abbrev pub AreRecordedSome : {Home : Type 0} → Seen Home → Seen Home → List Doing → Type 0
AreRecordedSome old new own = (n : ℕ) × IsRecorded old new (take n own)

abbrev pub asks : ℕ → ℕ → List ℕ → Call
asks other tag room = receive_call true (Some other) tag 0 room None tag

abbrev pub says : ℕ → ℕ → List ℕ → Call
says other tag bytes = message TagMsg (Some tag) other tag bytes None Transmit true false

abbrev pub exchanged : ℕ → ℕ → List ℕ → List ℕ → List Doing
exchanged other tag room bytes = called (asks other tag room) ∷ called (says other tag bytes) ∷ []

abbrev pub asked_both : ℕ → ℕ → ℕ → List ℕ → List ℕ → List Doing
asked_both other first second room other_room = called (asks other first room) ∷ called (asks other second other_room) ∷ []

module _ {Home : Type 0} (fixed : Bool) (other tag : ℕ) (room bytes : List ℕ) (budget : ℕ) (old new : Seen Home) where
  pub record Exchanges (answer : Result Moved NoMemory) : Type 0 where
    pub asked : Seen Home
    pub sent : Seen Home
    pub receives : Receives (asks other tag room) old asked
    pub sends : Sends fixed (says other tag bytes) other asked sent
    pub progressed : Progressed fixed budget sent new answer

  abbrev pub ExchangesNot : Fault → Type 0
  ExchangesNot why =
      ReceivesNot (asks other tag room) old new why
      ⊎ ((asked : Seen Home) × Receives (asks other tag room) old asked × SendsNot fixed (says other tag bytes) asked new why)
      ⊎ ((why ≡ LacksMemory) × (lacked : NoMemory) × Exchanges (Err lacked))
