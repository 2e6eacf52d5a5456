-- Sets of capabilities (fi_getinfo(3), "Capabilities").
--     has caps cap         the capability is a member
--     with_cap cap caps    these and this one
use Rattle.std.specs.Prelude.{Bool, true}
use Rattle.fab_base.specs.declared.caps.Cap.{Cap}
use Rattle.fab_base.specs.declared.caps.Cap.TheVariants.{Msg, Tagged, Rma, Atomic, DirectedRecv, Send, Recv, Read, Write, RemoteRead, RemoteWrite, MultiRecv, Source, RmaEvent, Fence, LocalComm}
use Rattle.fab_base.specs.declared.caps.Caps.{Caps}

abbrev pub has : Caps → Cap → Bool
has caps Msg = caps.msg
has caps Tagged = caps.tagged
has caps Rma = caps.rma
has caps Atomic = caps.atomic
has caps DirectedRecv = caps.directed_recv
has caps Send = caps.send
has caps Recv = caps.recv
has caps Read = caps.read
has caps Write = caps.write
has caps RemoteRead = caps.remote_read
has caps RemoteWrite = caps.remote_write
has caps MultiRecv = caps.multi_recv
has caps Source = caps.source
has caps RmaEvent = caps.rma_event
has caps Fence = caps.fence
has caps LocalComm = caps.local_comm

abbrev pub with_cap : Cap → Caps → Caps
with_cap Msg caps = record caps { msg = true }
with_cap Tagged caps = record caps { tagged = true }
with_cap Rma caps = record caps { rma = true }
with_cap Atomic caps = record caps { atomic = true }
with_cap DirectedRecv caps = record caps { directed_recv = true }
with_cap Send caps = record caps { send = true }
with_cap Recv caps = record caps { recv = true }
with_cap Read caps = record caps { read = true }
with_cap Write caps = record caps { write = true }
with_cap RemoteRead caps = record caps { remote_read = true }
with_cap RemoteWrite caps = record caps { remote_write = true }
with_cap MultiRecv caps = record caps { multi_recv = true }
with_cap Source caps = record caps { source = true }
with_cap RmaEvent caps = record caps { rma_event = true }
with_cap Fence caps = record caps { fence = true }
with_cap LocalComm caps = record caps { local_comm = true }
