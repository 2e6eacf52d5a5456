-- Unexpected messages that are looked for, and those that are set aside (FI_PEEK, FI_CLAIM, FI_DISCARD of fi_tagged(3)).
--     seen a                         what is told of a message
--     claim_under ctx rx             the message that stands claimed under the context
--     claiming_first, discarding     what a claim and a discard make of the first unexpected message that the want takes
--     taking, dropping               what a receive and a drop make of the message claimed under the context
use Rattle.std.specs.Prelude.{ℕ, ◌+◌, ◌==◌, true, List, Option, Some, None, is_some, find}
use Rattle.std.specs.Option.{option_map}
use Rattle.fab_base.specs.declared.items.Want.{Want}
use Rattle.fab_base.specs.declared.operations.Receive.{Receive}
use Rattle.fab_base.specs.declared.operations.Arrival.{Arrival}
use Rattle.fab_base.specs.declared.operations.Coming.TheVariants.{Throw}
use Rattle.fab_model.specs.Matching.{takes}
use Rattle.fab_model.specs.State.{Receiving}
use Rattle.fab_model.specs.Receiving.{claiming, goes, without_claim, without_first}
use Rattle.fab_rx.specs.declared.results.Seen.{Seen}
use Rattle.fab_rx.specs.Arriving.{Arriving, given, with_receiving}

abbrev pub seen : Arrival → Seen
seen a = record { source = a.source; head = a.head; whole = is_some a.bytes }

abbrev pub claim_under : ℕ → Receiving → Option Arrival
claim_under ctx rx = option_map (λ c. c.1) (find (λ c. c.0 == ctx) rx.claimed)

-- ---- the first unexpected message that the want takes

abbrev pub claimed_to : Option Arrival → Want → ℕ → Receiving → Receiving
claimed_to None want ctx rx = rx
claimed_to (Some a) want ctx rx = claiming ctx a (without_first want rx)

abbrev pub claiming_first : Want → ℕ → Arriving → Arriving
claiming_first want ctx v = with_receiving (claimed_to (find (takes want) v.rx.unexpected) want ctx v.rx) v

-- of a message that is not whole the rest is thrown away
abbrev pub thrown : Option (List ℕ) → ℕ → Receiving → Receiving
thrown None source rx = goes source Throw rx
thrown (Some bytes) source rx = rx

abbrev pub discarded : Option Arrival → Want → Receiving → Receiving
discarded None want rx = rx
discarded (Some a) want rx = thrown a.bytes a.source (without_first want rx)

abbrev pub discarding : Want → Arriving → Arriving
discarding want v = with_receiving (discarded (find (takes want) v.rx.unexpected) want v.rx) v

-- ---- the message claimed under the context

-- what a receive wants that names the claimed message itself
abbrev pub any_tagged : Want
any_tagged = record { tagged = true; tag = 0; ignore = 0; source = None }

abbrev pub taken_to : Option Arrival → Receive → Receiving → Receiving
taken_to None r rx = rx
taken_to (Some a) r rx = given a.bytes a.source r (without_claim r.ctx rx)

abbrev pub taking : Receive → Arriving → Arriving
taking r v = record { rx = taken_to (claim_under r.ctx v.rx) r v.rx; begun = v.begun; most = v.most; next = r.call + 1; multis = v.multis }

abbrev pub dropped : Option Arrival → ℕ → Receiving → Receiving
dropped None ctx rx = rx
dropped (Some a) ctx rx = thrown a.bytes a.source (without_claim ctx rx)

abbrev pub dropping : ℕ → Arriving → Arriving
dropping ctx v = with_receiving (dropped (claim_under ctx v.rx) ctx v.rx) v
