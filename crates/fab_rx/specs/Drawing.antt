-- Draws: a posted multi-receive takes a message that no receive took before (FI_MULTI_RECV of fi_msg(3)).
--     drawer rx          the first multi-receive that matches an unexpected message
--     set_apart r a rx   the message is unexpected no more, and the receive has given room to it
--     drawing            what a draw makes of the receive half
--     drawn v            what it hands out
--     entries_drawn d    how many completions that makes, the buffer's counted
use Rattle.std.specs.Prelude.{ℕ, List, Option, Some, None, find}
use Rattle.std.specs.Option.{option_map}
use Rattle.fab_base.specs.declared.operations.Receive.{Receive}
use Rattle.fab_base.specs.declared.operations.Arrival.{Arrival}
use Rattle.fab_base.specs.declared.operations.Coming.TheVariants.{Into}
use Rattle.fab_model.specs.Matching.{takes}
use Rattle.fab_model.specs.State.{Receiving}
use Rattle.fab_model.specs.Complete.{filling}
use Rattle.fab_model.specs.Receiving.{draws, goes, without_first}
use Rattle.fab_model.specs.Arrivals.{seating}
use Rattle.fab_rx.specs.declared.results.Completed.{Completed}
use Rattle.fab_rx.specs.declared.results.Released.{Released}
use Rattle.fab_rx.specs.declared.results.Drawn.{Drawn}
use Rattle.fab_rx.specs.declared.results.Drawn.TheVariants.{GoesOn, Part, Last}
use Rattle.fab_rx.specs.Arriving.{Arriving, shared, with_receiving}
use Rattle.fab_rx.specs.Results.{closed_if, completed, released}

abbrev pub drawer : Receiving → Option Receive
drawer rx = find (draws rx.unexpected) rx.posted

abbrev pub set_apart : Receive → Arrival → Receiving → Receiving
set_apart r a rx = without_first r.want (seating a.head.total r rx.unexpected rx)

-- the bytes of a message that is whole come into the buffer, of another one the rest goes there
abbrev pub drawn_into : Option (List ℕ) → Receive → ℕ → Receiving → Receiving
drawn_into None r source rx = goes source (Into r r.used) rx
drawn_into (Some bytes) r source rx = shared r.least r r.used bytes rx

abbrev pub drawn_from : Option Arrival → Receive → Receiving → Receiving
drawn_from None r rx = rx
drawn_from (Some a) r rx = drawn_into a.bytes r a.source (set_apart r a rx)

abbrev pub drawn_by : Option Receive → Receiving → Receiving
drawn_by None rx = rx
drawn_by (Some r) rx = drawn_from (find (takes r.want) rx.unexpected) r rx

abbrev pub drawing : Arriving → Arriving
drawing v = with_receiving (drawn_by (drawer v.rx) v.rx) v

-- ---- what is handed out

abbrev pub drawn_last : Option Released → Completed → Drawn
drawn_last None x = Part x
drawn_last (Some over) x = Last x over

-- the completion of a message that is whole, with the buffer where it was the last one
abbrev pub drawn_as : Option (List ℕ) → Receive → Arrival → Arriving → Drawn
drawn_as None r a v = GoesOn
drawn_as (Some bytes) r a v = drawn_last (option_map (released v) (closed_if r.least r.call (filling r r.used bytes (set_apart r a v.rx)))) (completed r r.used a.source a.head bytes)

abbrev pub drawn_message : Option Arrival → Receive → Arriving → Drawn
drawn_message None r v = GoesOn
drawn_message (Some a) r v = drawn_as a.bytes r a v

abbrev pub drawn_with : Option Receive → Arriving → Drawn
drawn_with None v = GoesOn
drawn_with (Some r) v = drawn_message (find (takes r.want) v.rx.unexpected) r v

abbrev pub drawn : Arriving → Drawn
drawn v = drawn_with (drawer v.rx) v

abbrev pub entries_drawn : Drawn → ℕ
entries_drawn GoesOn = 0
entries_drawn (Part x) = 1
entries_drawn (Last x over) = 2
