-- What becomes of a completion that is offered. `len` is how many bytes the own share has.
--     is_of tag polled                           it is that of a receive of the collective with this tag
--     brought polled                             the message that it brings, cut to its length, and the rank that it came from
--     round_of work len message                  the round in which the rank hears the message's source, if there is one
--     received_after work len received polled    the messages that came, by round, with the one that it brings
--     awaited_after work len awaited polled      of which rounds the message is awaited still
--     failed_after work len failed polled        whether a receive failed, or brought a message that is not waited for
use Rattle.std.specs.Prelude.{ℕ, Bool, false, ◌&&◌, ◌||◌, ◌==◌, if◌then◌else◌, List, [], take, slice_set, Option, Some, None, is_none}
use Rattle.fab_base.specs.declared.entries.Entry.{Entry as EntryValue}
use Rattle.fab_base.specs.declared.entries.Entry.TheVariants.{Received}
use Rattle.fab_app.specs.declared.completions.Polled.{Polled}
use Rattle.fab_app.specs.declared.completions.Polled.TheVariants.{Entry, Error, Idle, More}
use Rattle.fab_model.specs.Peers.{ctx_of_entry}
use Rattle.fab_collectives.specs.Routes.{heard_by}
use Rattle.fab_collectives.specs.declared.offers.Message.{Message}
use Rattle.fab_collectives.specs.declared.collective.Work.{Work}

abbrev pub is_under : ℕ → Option ℕ → Bool
is_under tag (Some ctx) = ctx == tag
is_under tag None = false

abbrev pub is_of : ℕ → Polled → Bool
is_of tag (Entry entry) = is_under tag (ctx_of_entry entry)
is_of tag (Error error) = is_under tag error.ctx
is_of tag Idle = false
is_of tag More = false

abbrev pub message_in : EntryValue → Option Message
message_in (Received ctx source tag imm len buf) = Some (record { source = source; bytes = take len buf })
message_in _ = None

abbrev pub brought : Polled → Option Message
brought (Entry entry) = message_in entry
brought (Error error) = None
brought Idle = None
brought More = None

-- of which source a message is, and so of which round
abbrev pub round_of : Work → ℕ → Option Message → Option ℕ
round_of work len (Some message) = heard_by work len message.source
round_of work len None = None

abbrev pub bytes_of : Option Message → List ℕ
bytes_of (Some message) = message.bytes
bytes_of None = []

-- a message stands at its round, if it has one
abbrev pub with_message : List (List ℕ) → Option ℕ → List ℕ → List (List ℕ)
with_message received (Some k) bytes = slice_set received k bytes
with_message received None bytes = received

abbrev pub received_after : Work → ℕ → List (List ℕ) → Polled → List (List ℕ)
received_after work len received polled =
    if is_of work.tag polled then with_message received (round_of work len (brought polled)) (bytes_of (brought polled)) else received

-- the message of this round is awaited no more
abbrev pub without_round : List Bool → Option ℕ → List Bool
without_round awaited (Some k) = slice_set awaited k false
without_round awaited None = awaited

abbrev pub awaited_after : Work → ℕ → List Bool → Polled → List Bool
awaited_after work len awaited polled = if is_of work.tag polled then without_round awaited (round_of work len (brought polled)) else awaited

abbrev pub failed_after : Work → ℕ → Bool → Polled → Bool
failed_after work len failed polled = failed || (is_of work.tag polled && is_none (round_of work len (brought polled)))
