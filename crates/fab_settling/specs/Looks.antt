-- What a look does, tells and books (FI_PEEK, FI_CLAIM, FI_DISCARD of fi_tagged(3)).
--     looked how want ctx v         what it makes of the messages
--     told how ctx met              its completion, by what it met
--     parted met tx                 the reply to a message that leaves is booked, where it is whole and one is due at its match
--     parted_by how met tx          the same after a look: a message leaves where it is discarded
use Rattle.std.specs.Prelude.{ℕ, Bool, ◌&&◌, Option, Some, None}
use Rattle.fab_base.specs.declared.entries.Entry.TheVariants.{Peeked}
use Rattle.fab_base.specs.declared.entries.ErrKind.TheVariants.{NoMsg}
use Rattle.fab_base.specs.declared.entries.PeekHow.{PeekHow}
use Rattle.fab_base.specs.declared.entries.PeekHow.TheVariants.{Peek, Claim, Discard}
use Rattle.fab_base.specs.declared.entries.Taken.{Taken}
use Rattle.fab_base.specs.declared.entries.Taken.TheVariants.{Success}
use Rattle.fab_base.specs.declared.items.Want.{Want}
use Rattle.fab_model.specs.Complete.{error}
use Rattle.fab_base.specs.Kinds.{at_match}
use Rattle.fab_rx.specs.Arriving.{Arriving}
use Rattle.fab_rx.specs.Claims.{claiming_first, discarding}
use Rattle.fab_rx.specs.declared.results.Seen.{Seen}
use Rattle.fab_tx.specs.Transit.{Transit}
use Rattle.fab_settling.specs.Ends.{booked}

abbrev pub looked : PeekHow → Want → ℕ → Arriving → Arriving
looked Peek want ctx v = v
looked Claim want ctx v = claiming_first want ctx v
looked Discard want ctx v = discarding want v

abbrev pub told : PeekHow → ℕ → Option Seen → Taken
told how ctx None = error (Some ctx) NoMsg None
told how ctx (Some m) = Success (Peeked ctx how m.source m.head.tag m.head.imm m.head.total)

-- a message that is whole and leaves is owed its reply now; of another one the end books it
abbrev pub is_due_now : Seen → Bool
is_due_now m = m.whole && at_match m.head.ack

abbrev pub parted : Option Seen → Transit → Transit
parted None tx = tx
parted (Some m) tx = booked (is_due_now m) m.source m.head tx

abbrev pub parted_by : PeekHow → Option Seen → Transit → Transit
parted_by Peek met tx = tx
parted_by Claim met tx = tx
parted_by Discard met tx = parted met tx
