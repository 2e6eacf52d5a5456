-- Why an endpoint is not opened, and what the machine of an opened one holds.
--     why_not granted             the numbers are not those of the offer, or memory is lacking
--     unused av info selective    the parts of a machine that did nothing
use Rattle.std.specs.Prelude.{Bool, true, false}
use Rattle.fab_base.specs.declared.caps.Info.{Info}
use Rattle.fab_base.specs.declared.faults.Fault.{Fault}
use Rattle.fab_base.specs.declared.faults.Fault.TheVariants.{Invalid, NoMemory}
use Rattle.fab_av.specs.Addresses.{Addresses}
use Rattle.fab_cq.specs.Counts.{no_counts}
use Rattle.fab_cq.specs.Queues.{nothing_written}
use Rattle.fab_rma.specs.Serving.{nothing_served}
use Rattle.fab_rx.specs.Arriving.{nothing_arrived}
use Rattle.fab_tx.specs.Transit.{nothing_accepted}
use Rattle.fab_settling.specs.Members.{most_multis, nobody}
use Rattle.fab_core.specs.Parts.{Parts}

abbrev pub why_not : Bool → Fault
why_not true = NoMemory
why_not false = Invalid

abbrev pub unused : Addresses → Info → Bool → Parts
unused av info selective = record {
  caps = info.caps;
  selective = selective;
  most_message = info.message;
  av = av;
  rx = nothing_arrived av.peers info.rx;
  tx = nothing_accepted av.peers info.tx;
  target = nothing_served av.peers;
  cq = nothing_written info.cq;
  counters = no_counts;
  calls = 0;
  multis = nobody (most_multis info.rx av.peers info.cq);
}
