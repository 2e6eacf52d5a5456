-- What an application's thread did, in its own words: the receives that it asked for, the messages that it sent and the entries that it read, each in order.
--     orders_in own                  the messages that a thread's own part sends
--     IsPart own asks sent read      the part is such calls alone, each Ok, and such reads
--     Speaks old new asks sent read  the thread's record goes on by such a part
--     reads_by answer                what a wait says that was read
--     Hears asks order mine old new said came      by receives that are such, each of these things was sent so, and these messages came under such contexts
--     Comes mine old new before after      entries were read, and the messages that came by them stand behind what had come
--     IsAt .., Keeps ..              of a list of things the first so many were sent, since the endpoint was opened; a call keeps that so
use Rattle.std.specs.Prelude.{◌≡◌, ◌≤◌, ℕ, Bool, List, [], ◌∷◌, ◌++◌, length, map, take, Result, Ok, Err}
use Rattle.std.specs.List.{flat_map}
use Rattle.fab_base.specs.declared.entries.Taken.{Taken}
use Rattle.fab_base.specs.declared.entries.Taken.TheVariants.{Success, Failure}
use Rattle.fab_base.specs.declared.faults.NoMemory.{NoMemory}
use Rattle.fab_model.specs.Calls.{Call, Transmit}
use Rattle.fab_model.specs.Receiving.{Posting}
use Rattle.fab_model.specs.Sending.{Order}
use Rattle.fab_laws.specs.Members.{In}
use Rattle.fab_face.specs.Held.{Seen}
use Rattle.fab_app.specs.declared.completions.Polled.{Polled}
use Rattle.fab_app.specs.declared.completions.Polled.TheVariants.{Entry, Error, Idle, More}
use Rattle.fab_doings.specs.Doings.{Doing, entries_of}
use Rattle.fab_doings.specs.Heard.{IsSimple, calls_by, message_in, postings}
use Rattle.fab_doings.specs.Recording.{IsRecorded}

abbrev pub order_in : Call → List Order
order_in (Transmit order) = order ∷ []
order_in call = []

abbrev pub orders_in : List Doing → List Order
orders_in own = flat_map order_in (flat_map calls_by own)

pub record IsPart (own : List Doing) (asks : List Posting) (sent : List Order) (read : List Taken) : Type 0 where
  -- no cancel, no claim, no look
  pub simple : (z : Doing) → In z own → IsSimple z
  pub asked : postings own ≡ asks
  pub said : orders_in own ≡ sent
  pub had : entries_of own ≡ read

pub record Speaks {Home : Type 0} (old new : Seen Home) (asks : List Posting) (sent : List Order) (read : List Taken) : Type 0 where
  pub own : List Doing
  pub recorded : IsRecorded old new own
  pub part : IsPart own asks sent read

-- of a wait
abbrev pub reads_by : Result Polled NoMemory → List Taken
reads_by (Ok (Entry entry)) = Success entry ∷ []
reads_by (Ok (Error entry)) = Failure entry ∷ []
reads_by (Ok Idle) = []
reads_by (Ok More) = []
reads_by (Err lacks) = []

-- ---- things of an application, each sent as a message, and the messages that come

abbrev pub messages : (ℕ → Bool) → List Taken → List (List ℕ)
messages mine read = flat_map (message_in mine) read

pub record Comes {Home : Type 0} (mine : ℕ → Bool) (old new : Seen Home) (before after : List (List ℕ)) : Type 0 where
  pub read : List Taken
  pub speaks : Speaks old new [] [] read
  pub kept : after ≡ before ++ messages mine read

module _ {Home Thing : Type 0} (IsAsk : Posting → Type 0) (order : Thing → Order) (mine : ℕ → Bool) where
  pub record Hears (old new : Seen Home) (said : List Thing) (came : List (List ℕ)) : Type 0 where
    pub asks : List Posting
    pub read : List Taken
    pub speaks : Speaks old new asks (map order said) read
    pub asked : (q : Posting) → In q asks → IsAsk q
    pub heard : messages mine read ≡ came

  pub record IsAt (things : List Thing) (opening now : Seen Home) (sent : ℕ) (came : List (List ℕ)) : Type 0 where
    pub within : sent ≤ length things
    pub hears : Hears opening now (take sent things) came

  -- whatever was so since the opening is so still
  abbrev pub Keeps : List Thing → Seen Home → ℕ → List (List ℕ) → Seen Home → ℕ → List (List ℕ) → Type 0
  Keeps things old sent came new then_sent then_came = (opening : Seen Home) → IsAt things opening old sent came → IsAt things opening new then_sent then_came
