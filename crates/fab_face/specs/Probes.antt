-- A look at the unexpected messages that is answered at once.
--     probed s source tag ignore      what is told of the first unexpected message that matches
--     probe_fault s source            why it is refused, as a look is
use Rattle.std.specs.Prelude.{ℕ, true, not, find, Option, [], ◌∷◌}
use Rattle.std.specs.Option.{option_map}
use Rattle.fab_base.specs.declared.operations.Arrival.{Arrival}
use Rattle.fab_base.specs.declared.faults.Fault.{Fault}
use Rattle.fab_base.specs.declared.faults.Fault.TheVariants.{NotSupported, Invalid}
use Rattle.fab_model.specs.Matching.{takes}
use Rattle.fab_model.specs.State.{State}
use Rattle.fab_model.specs.Sending.{first_fault}
use Rattle.fab_model.specs.Receiving.{want_of, may_receive, source_is_known}
use Rattle.fab_face.specs.declared.probing.Probed.{Probed}

abbrev pub probed_of : Arrival → Probed
probed_of a = record { source = a.source; tag = a.head.tag; imm = a.head.imm; len = a.head.total }

-- what a receive with these would take
abbrev pub probed : State → Option ℕ → ℕ → ℕ → Option Probed
probed s source tag ignore = option_map probed_of (find (takes (want_of s true source tag ignore)) s.rx.unexpected)

abbrev pub probe_fault : State → Option ℕ → Option Fault
probe_fault s source = first_fault ((not (may_receive s true), NotSupported) ∷ (not (source_is_known s source), Invalid) ∷ [])
