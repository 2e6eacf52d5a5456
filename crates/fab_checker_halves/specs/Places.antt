-- Members of lists by their places, the receives that a cancel may choose, and what is under way.
--     seated_at k total r posted      the receives posted, after r, which stands at this place, took a message of this length
--     chosen which      any receive, or one of this context
use Rattle.std.specs.Prelude.{ℕ, Bool, true, false, ◌==◌, ◌||◌, List, [], ◌∷◌, ◌++◌, Option, Some, None, slice_set, slice_index, remove, find, take, drop}
use Rattle.std.specs.List.{list_any}
use Rattle.fab_base.specs.declared.items.Want.{Want}
use Rattle.fab_base.specs.declared.items.ItemHead.{ItemHead}
use Rattle.fab_base.specs.declared.operations.Receive.{Receive}
use Rattle.fab_base.specs.declared.operations.Arrival.{Arrival}
use Rattle.fab_base.specs.declared.operations.Coming.TheVariants.{Keep}
use Rattle.fab_model.specs.Matching.{takes}
use Rattle.fab_model.specs.State.{Receiving, is_into}
use Rattle.fab_model.specs.Arrivals.{used_up, stays, shut, newcomer, heading_message}

abbrev pub seated_at : ℕ → ℕ → Receive → List Receive → List Receive
seated_at k total r posted = elim (stays total r) [ true ↦ slice_set posted k (used_up total r) | false ↦ remove posted k ]

abbrev pub chosen : Option ℕ → Receive → Bool
chosen None r = true
chosen (Some ctx) r = r.ctx == ctx

-- the receiving half after r, which stands at this place, took a message of this length
abbrev pub seated_in : ℕ → ℕ → Receive → Receiving → Receiving
seated_in k total r rx = record rx { posted = seated_at k total r rx.posted; closing = rx.closing ++ shut total r }

-- a message that no receive takes is unexpected
abbrev pub kept_newcomer : ℕ → ItemHead → Receiving → Receiving
kept_newcomer source head rx = record rx {
  coming = slice_set rx.coming source (Some Keep);
  unexpected = rx.unexpected ++ newcomer source (slice_index rx.heads source) head ∷ [];
}

-- the first unexpected message that the receive takes at once; a multi-receive leaves it to the draws
abbrev pub taken_first : Option ℕ → Want → Receiving → Option Arrival
taken_first least want rx = elim least [ Some _ ↦ None | None ↦ find (takes want) rx.unexpected ]

-- the message that is claimed under the context
abbrev pub claimed_under : ℕ → Receiving → Option Arrival
claimed_under ctx rx = elim (find (λ c. c.0 == ctx) rx.claimed) [ None ↦ None | Some c ↦ Some c.1 ]

-- the message is placed, and not yet counted
abbrev pub placed : ℕ → ItemHead → Receiving → Receiving
placed source head rx = record (heading_message source head rx) { heads = rx.heads }

-- an item of the receive made by this call is under way from another source
abbrev pub is_under_way_besides : ℕ → ℕ → Receiving → Bool
is_under_way_besides source call rx = list_any (is_into call) (take source rx.coming) || list_any (is_into call) (drop 1 (drop source rx.coming))
