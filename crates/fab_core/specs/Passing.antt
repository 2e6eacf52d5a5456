-- Why a receive call is refused for a reason that may pass.
--     is_held n p                 it waits: a draw is due, or so many entries have no room
--     passing_post want p         why it is refused now
use Rattle.std.specs.Prelude.{ℕ, Bool, not, ◌||◌, cond, List, length, Option, Some, None, find, nat_le}
use Rattle.std.specs.Option.{option_map}
use Rattle.fab_base.specs.declared.faults.Fault.{Fault}
use Rattle.fab_base.specs.declared.faults.Fault.TheVariants.{Again}
use Rattle.fab_base.specs.declared.faults.Busy.TheVariants.{CqFull, PostedFull}
use Rattle.fab_base.specs.declared.items.Want.{Want}
use Rattle.fab_model.specs.Matching.{takes}
use Rattle.fab_model.specs.Receiving.{draw_due}
use Rattle.fab_cq.specs.Queues.{has_room}
use Rattle.fab_core.specs.Parts.{Parts}

-- a draw is due, or so many entries have no room
abbrev pub is_held : ℕ → Parts → Bool
is_held n p = draw_due p.rx.rx || not (has_room n p.cq)

-- why a receive is refused now, that may pass later, where no draw is due: where a message is found that is whole, its completion needs room, and where none is found, the receive needs a place
abbrev pub passing : Option (Option (List ℕ)) → Parts → Option Fault
passing None p = cond (nat_le p.rx.most (length p.rx.rx.posted)) (Some (Again (PostedFull p.rx.most))) None
passing (Some None) p = None
passing (Some (Some bytes)) p = cond (has_room 1 p.cq) None (Some (Again (CqFull p.cq.size)))

abbrev pub passing_post : Want → Parts → Option Fault
passing_post want p = cond (draw_due p.rx.rx) (Some (Again (CqFull p.cq.size))) (passing (option_map (λ a. a.bytes) (find (takes want) p.rx.rx.unexpected)) p)
