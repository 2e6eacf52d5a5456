-- A multi-receive as it is stored: what it gives away, and when it leaves (FI_MULTI_RECV of fi_msg(3)).
--     multi_at seats id      what the receive under the id has as a multi-receive
--     used_up_by total w     so many more bytes are given away, as far as there are
--     is_spent w             it has less free than it must have to stay posted
--     left_by total o        its context, where it leaves once so many more bytes are given away
--     kept_or o xs ys        the first list where nothing leaves, else the second one
--     placed_in at bytes w   the bytes are in its buffer, from the place on
--     is_closed coming id total o      it is over once so many more bytes are given away
--     taken_in total at bytes w        it has taken a message that is whole
--     is_over coming cs id   it is among those that are closing, and no item is under way to it
--     released_of id w       its buffer comes back
use Rattle.std.specs.Prelude.{ℕ, ◌+◌, ◌-◌, ◌<◌, ◌≤◌, ◌^◌, ◌&&◌, min, nat_lt, Bool, true, false, not, List, length, Option, Some, None, IfSome, is_some}
use Rattle.std.specs.List.{list_any}
use Rattle.std.specs.Option.{option_map}
use Rattle.fab_model.specs.Complete.{paste}
use Rattle.fab_match.specs.Matcher.{has_id}
use Rattle.fab_rx.specs.declared.stored.Multi.{Multi}
use Rattle.fab_rx.specs.declared.stored.Waiting.{Waiting}
use Rattle.fab_rx.specs.declared.stored.Begun.{Begun}
use Rattle.fab_rx.specs.declared.results.Released.{Released}
use Rattle.fab_rx.specs.Table.{Cells, at}
use Rattle.fab_rx.specs.Homes.{is_fed_by}

abbrev pub multi_in : Option Waiting → Option Multi
multi_in None = None
multi_in (Some w) = w.multi

abbrev pub multi_at : Cells Waiting → ℕ → Option Multi
multi_at seats id = multi_in (at seats id)

-- its numbers fit a buffer
abbrev pub IsUsable : Waiting → Type 0
IsUsable w = IfSome w.multi (λ m. (m.used ≤ length w.seat.buf) × (length w.seat.buf < 2 ^ 32))

abbrev pub used_up_by : ℕ → Waiting → Waiting
used_up_by total w = record { seat = w.seat; multi = option_map (λ m. record { want = m.want; least = m.least; used = m.used + min total (length w.seat.buf - m.used) }) w.multi }

abbrev pub is_short : ℕ → Option Multi → Bool
is_short len None = false
is_short len (Some m) = nat_lt (len - m.used) m.least

abbrev pub is_spent : Waiting → Bool
is_spent w = is_short (length w.seat.buf) w.multi

abbrev pub left_by : ℕ → Option Waiting → Option ℕ
left_by total None = None
left_by total (Some w) = elim (is_spent (used_up_by total w)) [ true ↦ Some w.seat.ctx | false ↦ None ]

abbrev pub kept_or : {X : Type 0} → Option ℕ → X → X → X
kept_or None x y = x
kept_or (Some ctx) x y = y

abbrev pub placed_in : ℕ → List ℕ → Waiting → Waiting
placed_in at bytes w = record { seat = record { buf = paste w.seat.buf at bytes; ctx = w.seat.ctx }; multi = w.multi }

abbrev pub is_over : List (Option Begun) → List (ℕ × ℕ) → ℕ → Bool
is_over coming cs id = not (list_any (is_fed_by id) coming) && has_id id cs

-- where so many more bytes are given away, it is closing, and no item is under way to it
abbrev pub is_closed : List (Option Begun) → ℕ → ℕ → Option Waiting → Bool
is_closed coming id total o = is_some (left_by total o) && not (list_any (is_fed_by id) coming)

-- it has given room to these bytes, which are in its buffer
abbrev pub taken_in : ℕ → ℕ → List ℕ → Waiting → Waiting
taken_in total at bytes w = placed_in at bytes (used_up_by total w)

abbrev pub used_in : Option Multi → ℕ
used_in None = 0
used_in (Some m) = m.used

abbrev pub released_of : ℕ → Waiting → Released
released_of id w = record { id = id; ctx = w.seat.ctx; used = used_in w.multi; buf = w.seat.buf }
