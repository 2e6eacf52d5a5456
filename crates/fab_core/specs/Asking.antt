-- What the acceptance of a request makes of the parts of an endpoint.
--     accepted_as t o p      the call is accepted for the peer
use Rattle.std.specs.Prelude.{ℕ, ◌++◌, Some}
use Rattle.fab_model.specs.Sending.{Order, head_of, is_silent}
use Rattle.fab_tx.specs.Transit.{accepting_by}
use Rattle.fab_core.specs.Parts.{Parts, state_of}
use Rattle.fab_core.specs.Doing.{called, with_transit}

abbrev pub accepted_as : ℕ → Order → Parts → Parts
accepted_as t o p =
    called (with_transit (accepting_by (Some p.calls) t (head_of p.tx.tx.ops o) o.level o.ctx (o.bytes ++ o.compared) o.buf (is_silent (state_of p) o) o.fence p.tx) p)
