-- What looks, and what is done with claimed messages, make of an endpoint's parts (FI_PEEK, FI_CLAIM, FI_DISCARD of fi_tagged(3)).
--     looked_by, taken_by, dropped_by      a look, a receive of a claimed message, a drop of one
--     lasting_look, lasting_claimed        why they are refused for a reason that does not pass
--     lacks_take ctx p              the receive has no room for its completion
--     is_held_take ctx p            it waits, for that or for a draw
use Rattle.std.specs.Prelude.{ℕ, Bool, false, ◌&&◌, ◌||◌, not, List, Option, Some, None, find}
use Rattle.std.specs.Option.{option_map}
use Rattle.fab_base.specs.declared.entries.PeekHow.{PeekHow}
use Rattle.fab_base.specs.declared.entries.PeekHow.TheVariants.{Discard}
use Rattle.fab_base.specs.declared.faults.Fault.{Fault}
use Rattle.fab_base.specs.declared.items.Want.{Want}
use Rattle.fab_base.specs.declared.operations.Receive.{Receive}
use Rattle.fab_model.specs.Matching.{takes}
use Rattle.fab_model.specs.Receiving.{draw_due, look_refusals, claimed_refusals}
use Rattle.fab_model.specs.Sending.{first_fault}
use Rattle.fab_model.specs.State.{State, writing}
use Rattle.fab_cq.specs.Queues.{has_room}
use Rattle.fab_rx.specs.Arriving.{receive_by}
use Rattle.fab_rx.specs.Claims.{any_tagged, claim_under, dropping, seen, taking}
use Rattle.fab_rx.specs.declared.results.Seen.{Seen}
use Rattle.fab_face.specs.declared.looking.Look.{Look}
use Rattle.fab_core.specs.Parts.{Parts}
use Rattle.fab_settling.specs.Looks.{looked, parted, parted_by, told}
use Rattle.fab_core.specs.Doing.{called, given_found, with_arriving}

-- ---- calls

-- the first unexpected message that the want takes
abbrev pub met_by : Want → Parts → Option Seen
met_by want p = option_map seen (find (takes want) p.rx.rx.unexpected)

abbrev pub looked_by : PeekHow → Want → ℕ → Parts → Parts
looked_by how want ctx p =
    called (record p { rx = looked how want ctx p.rx; tx = parted_by how (met_by want p) p.tx; cq = writing (Some p.calls) (told how ctx (met_by want p)) p.cq })

-- the message claimed under the context
abbrev pub claim_by : ℕ → Parts → Option Seen
claim_by ctx p = option_map seen (claim_under ctx p.rx.rx)

abbrev pub claim_receive : List ℕ → ℕ → Parts → Receive
claim_receive buf ctx p = receive_by (Some p.calls) any_tagged buf ctx

abbrev pub taken_by : List ℕ → ℕ → Parts → Parts
taken_by buf ctx p = let r = claim_receive buf ctx p in given_found (claim_under ctx p.rx.rx) r (called (with_arriving (taking r p.rx) p))

abbrev pub dropped_by : ℕ → Parts → Parts
dropped_by ctx p = called (record p { rx = dropping ctx p.rx; tx = parted (claim_by ctx p) p.tx; cq = writing (Some p.calls) (told Discard ctx (claim_by ctx p)) p.cq })

-- ---- refusals

abbrev pub lasting_look : State → Look → Option Fault
lasting_look s l = first_fault (look_refusals s l.how l.source l.ctx)

-- a buffer of so many bytes
abbrev pub lasting_claimed : State → ℕ → ℕ → Option Fault
lasting_claimed s n ctx = first_fault (claimed_refusals s n ctx)

-- a message that is whole completes its receive at once
abbrev pub is_whole : Option Seen → Bool
is_whole None = false
is_whole (Some m) = m.whole

abbrev pub lacks_take : ℕ → Parts → Bool
lacks_take ctx p = is_whole (claim_by ctx p) && not (has_room 1 p.cq)

abbrev pub is_held_take : ℕ → Parts → Bool
is_held_take ctx p = draw_due p.rx.rx || lacks_take ctx p
