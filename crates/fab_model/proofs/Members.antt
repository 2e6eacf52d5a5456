-- Sets of capabilities.
use Rattle.std.proofs.Common.{◌≡◌, Bool}
use Rattle.fab_base.specs.Granted.{has}
use Rattle.fab_base.specs.declared.caps.Cap.{Cap}
use Rattle.fab_base.specs.declared.caps.Cap.TheVariants.{Msg, Tagged, Rma, Atomic, DirectedRecv, Send, Recv, Read, Write, RemoteRead, RemoteWrite, MultiRecv, Source, RmaEvent, Fence, LocalComm}
use Rattle.fab_base.specs.declared.caps.Caps.{Caps}
use Rattle.fab_model.specs.Negotiation.{caps_of}

-- a set is what it says of each capability
pub caps_of_has : (caps : Caps) (member : Cap → Bool) → ((cap : Cap) → has caps cap ≡ member cap) → caps ≡ caps_of member
caps_of_has caps member h = rw (← h Msg, ← h Tagged, ← h Rma, ← h Atomic, ← h DirectedRecv, ← h Send, ← h Recv, ← h Read, ← h Write, ← h RemoteRead, ← h RemoteWrite, ← h MultiRecv, ← h Source, ← h RmaEvent, ← h Fence, ← h LocalComm)
