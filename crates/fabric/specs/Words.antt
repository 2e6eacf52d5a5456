-- The types and variants that clauses speak of.
pub use Rattle.fab_base.specs.declared.items.Kind.{Kind}
pub use Rattle.fab_base.specs.declared.items.Kind.TheVariants.{Msg, TagMsg, WriteReq, ReadReq}
pub use Rattle.fab_base.specs.declared.entries.Entry.{Entry}
pub use Rattle.fab_base.specs.declared.entries.ErrEntry.{ErrEntry}
pub use Rattle.fab_base.specs.declared.entries.ErrKind.{ErrKind}
pub use Rattle.fab_base.specs.declared.entries.ErrKind.TheVariants.{Truncated, NoMsg, Canceled}
pub use Rattle.fab_base.specs.declared.entries.Taken.{Taken}
pub use Rattle.fab_base.specs.declared.entries.Taken.TheVariants.{Success, Failure}
pub use Rattle.fab_base.specs.declared.entries.PeekHow.TheVariants.{Peek, Claim, Discard}
pub use Rattle.fab_base.specs.declared.peers.Level.TheVariants.{Inject, Transmit, Delivery, Match}
pub use Rattle.fab_base.specs.declared.peers.LineResult.TheVariants.{Done, Bytes}
pub use Rattle.fab_base.specs.declared.entries.Entry.TheVariants.{Received, Sent}
pub use Rattle.fab_base.specs.declared.faults.Fault.{Fault}
pub use Rattle.fab_base.specs.declared.faults.Fault.TheVariants.{Again, NoMemory, NoData, Invalid, NoKey, Range, MsgSize, NotSupported, NoEntry, Avail}
pub use Rattle.fab_base.specs.declared.faults.Busy.{Busy}
pub use Rattle.fab_base.specs.declared.faults.Busy.TheVariants.{TxFull, PostedFull, CqFull, LogFull}
pub use Rattle.fab_base.specs.declared.items.Access.{Access}
pub use Rattle.fab_base.specs.declared.peers.LineResult.{LineResult}
pub use Rattle.fab_base.specs.declared.peers.LineResult.TheVariants.{Refused}
pub use Rattle.fab_app.specs.declared.moving.Next.{Next}
pub use Rattle.fab_app.specs.declared.completions.Polled.{Polled}
pub use Rattle.fab_app.specs.declared.completions.Polled.TheVariants.{Entry as PolledEntry, Error as PolledError, Idle as PolledIdle, More as PolledMore}
pub use Rattle.fab_face.specs.declared.events.Moved.{Moved}
pub use Rattle.fab_face.specs.declared.lanes.Lane.{Lane}
pub use Rattle.fab_face.specs.declared.lanes.Lane.TheVariants.{To as LaneTo, From as LaneFrom}
pub use Rattle.fab_base.specs.declared.faults.NoMemory.{NoMemory as Lacks}
pub use Rattle.fab_base.specs.declared.operations.Receive.{Receive}
pub use Rattle.fab_base.specs.declared.operations.Arrival.{Arrival}
pub use Rattle.fab_base.specs.declared.operations.Coming.TheVariants.{Into}
pub use Rattle.fab_face.specs.declared.probing.Probed.{Probed}
pub use Rattle.fab_base.specs.declared.caps.Info.{Info}
pub use Rattle.fab_base.specs.declared.items.ItemHead.{ItemHead}
pub use Rattle.fab_table.specs.declared.lane_table.LaneTable.{LaneTable}
pub use Rattle.fab_app.specs.declared.clock.Moment.{Moment}
pub use Rattle.fab_app.specs.declared.until.WaitFault.{WaitFault}
pub use Rattle.fab_app.specs.declared.until.WaitFault.TheVariants.{ClockFailed, NoMemory as WaitLacks}
pub use Rattle.fab_app.specs.declared.trying_until.NotAccepted.{NotAccepted}
pub use Rattle.fab_app.specs.declared.trying_until.TryFault.{TryFault}
pub use Rattle.fab_app.specs.declared.trying_until.TryFault.TheVariants.{Refused as TryRefused, ClockFailed as TryClockFailed}
pub use Rattle.fab_collectives.specs.declared.collective.Collective.{Collective}
pub use Rattle.fab_collectives.specs.declared.collective.Work.{Work}
pub use Rattle.fab_collectives.specs.declared.group.Group.{Group}
pub use Rattle.fab_collectives.specs.declared.offers.Message.{Message}
pub use Rattle.fab_fold.specs.declared.coll.Coll.{Coll}
pub use Rattle.fab_fold.specs.declared.coll.Coll.TheVariants.{Barrier, Broadcast, Allgather, Allreduce}
pub use Rattle.fab_fold.specs.declared.coll.TheConstants.{MOST_SHARE}
