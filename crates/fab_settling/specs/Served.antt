-- What a request does at its target when it is whole (fi_rma(3), fi_atomic(3)).
--     reply_of head done            the reply to a request that was performed
--     data_of outcome source head   the completion of a write that tells its target of it, where one is written
--     writes_data outcome head      whether one is
--     counted outcome events head counters      the counters after a request with this outcome, where such events count or do not
--     served source item target     the target after the request
use Rattle.std.specs.Prelude.{ℕ, Bool, true, false, List, length, Option, None, is_some, slice_set}
use Rattle.std.specs.Option.{option_map}
use Rattle.fab_base.specs.declared.entries.Entry.TheVariants.{RemoteData}
use Rattle.fab_base.specs.declared.entries.Taken.{Taken}
use Rattle.fab_base.specs.declared.entries.Taken.TheVariants.{Success}
use Rattle.fab_base.specs.declared.items.Item.{Item}
use Rattle.fab_base.specs.declared.items.ItemHead.{ItemHead}
use Rattle.fab_base.specs.declared.items.Kind.TheVariants.{WriteReq}
use Rattle.fab_base.specs.declared.items.Outcome.{Outcome}
use Rattle.fab_base.specs.declared.items.Outcome.TheVariants.{Done}
use Rattle.fab_base.specs.declared.operations.Tally.{Tally}
use Rattle.fab_model.specs.Arrivals.{remote_class}
use Rattle.fab_model.specs.Complete.{reply_head}
use Rattle.fab_model.specs.State.{counting}
use Rattle.fab_model.specs.Target.{Performed, perform}
use Rattle.fab_rma.specs.Serving.{Serving}

abbrev pub reply_of : ItemHead → Performed → Item
reply_of head done = record { head = reply_head head.op done.outcome (length done.bytes); bytes = done.bytes }

abbrev pub data_of : Outcome → ℕ → ItemHead → Option Taken
data_of Done source head = elim head.kind [ WriteReq ↦ option_map (λ imm. Success (RemoteData source imm)) head.imm | _ ↦ None ]
data_of _ source head = None

abbrev pub writes_data : Outcome → ItemHead → Bool
writes_data Done head = elim head.kind [ WriteReq ↦ is_some head.imm | _ ↦ false ]
writes_data _ head = false

-- a request that is done counts, where that was granted (FI_RMA_EVENT of fi_getinfo(3))
abbrev pub counted : Outcome → Bool → ItemHead → List Tally → List Tally
counted Done events head counters = elim events [ true ↦ counting (remote_class head) true counters | false ↦ counters ]
counted _ events head counters = counters

abbrev pub served : ℕ → Item → Serving → Serving
served source item target = record { regions = (perform target.regions item.head item.bytes).regions; rooms = slice_set target.rooms source 0 }
