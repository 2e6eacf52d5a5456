-- What the receive half hands out: completions, items and buffers.
--     completed r place source head bytes      the completion of a receive that got this message from the place on
--     posted_as r found      what a receive call answers, where this unexpected message was found
--     ended coming source item      what becomes of an item that is whole
--     last_of v source              the multi-receive whose buffer comes back then
--     handed v last ended           what becomes of the item, with that
--     entries_due coming      how many completions that makes
--     released v r           a multi-receive that is over
--     cancelled v r          what a cancelled receive leaves
use Rattle.std.specs.Prelude.{ℕ, true, false, List, Option, Some, None, find, unwrap_or}
use Rattle.fab_base.specs.declared.items.Item.{Item}
use Rattle.fab_base.specs.declared.items.ItemHead.{ItemHead}
use Rattle.fab_base.specs.declared.operations.Receive.{Receive}
use Rattle.fab_base.specs.declared.operations.Arrival.{Arrival}
use Rattle.fab_base.specs.declared.operations.Coming.{Coming}
use Rattle.fab_base.specs.declared.operations.Coming.TheVariants.{Into, Keep, Throw, Request as RequestComes, Answer as AnswerComes}
use Rattle.fab_model.specs.State.{Receiving, coming_from, under_way}
use Rattle.fab_model.specs.Complete.{entry_of, filling, has_space, is_made_by}
use Rattle.fab_model.specs.Arrivals.{made_whole}
use Rattle.fab_rx.specs.Arriving.{Arriving, begun_of, bytes_come, id_in}
use Rattle.fab_rx.specs.declared.results.Completed.{Completed}
use Rattle.fab_rx.specs.declared.results.Posted.{Posted}
use Rattle.fab_rx.specs.declared.results.Posted.TheVariants.{Joined, GoesOn, Whole}
use Rattle.fab_rx.specs.declared.results.Finished.{Finished}
use Rattle.fab_rx.specs.declared.results.Finished.TheVariants.{Received, Last, Kept, Thrown, Request, Answer}
use Rattle.fab_rx.specs.declared.results.Released.{Released}
use Rattle.fab_rx.specs.declared.results.Cancelled.{Cancelled}

abbrev pub completed : Receive → ℕ → ℕ → ItemHead → List ℕ → Completed
completed r place source head bytes = record { entry = entry_of r place source head bytes; good = has_space r place head; source = source; head = head }

-- a message that is whole completes the receive, of another one the rest goes on
abbrev pub given_as : Option (List ℕ) → Arrival → Receive → Posted
given_as None a r = GoesOn
given_as (Some bytes) a r = Whole (completed r 0 a.source a.head bytes)

abbrev pub posted_as : Receive → Option Arrival → Posted
posted_as r None = Joined
posted_as r (Some a) = given_as a.bytes a r

abbrev pub ended : Option Coming → ℕ → Item → Finished
ended (Some (Into r place)) source item = Received (completed r place source item.head item.bytes)
ended (Some Keep) source item = Kept item.head
ended (Some Throw) source item = Thrown item.head
ended (Some RequestComes) source item = Request item
ended (Some AnswerComes) source item = Answer item
ended None source item = Thrown item.head

-- the multi-receive is closing, and no item is under way to it
abbrev pub closed_by : ℕ → Receiving → Option Receive
closed_by call rx = elim (under_way rx call) [ true ↦ None | false ↦ find (is_made_by call) rx.closing ]

abbrev pub closed_if : Option ℕ → ℕ → Receiving → Option Receive
closed_if None call rx = None
closed_if (Some least) call rx = closed_by call rx

abbrev pub last_by : Option Coming → List ℕ → Receiving → Option Receive
last_by (Some (Into r place)) bytes rx = closed_if r.least r.call (filling r place bytes rx)
last_by _ bytes rx = None

abbrev pub last_of : ℕ → Arriving → Option Receive
last_of source v = last_by (coming_from v.rx source) (bytes_come (begun_of v source)) (made_whole source v.rx)

abbrev pub released : Arriving → Receive → Released
released v r = record { id = unwrap_or (id_in v.multis r.call) 0; ctx = r.ctx; used = r.used; buf = r.buf }

abbrev pub handed : Arriving → Option Receive → Finished → Finished
handed v (Some r) (Received x) = Last x (released v r)
handed v _ f = f

abbrev pub entries_due : Option Coming → ℕ
entries_due (Some (Into r place)) = 1
entries_due _ = 0

-- the call of the receive into which the item goes
abbrev pub call_into : Option Coming → Option ℕ
call_into (Some (Into r place)) = Some r.call
call_into _ = None

abbrev pub cancelled : Arriving → Receive → Cancelled
cancelled v r = record { id = id_in v.multis r.call; ctx = r.ctx; buf = r.buf }
