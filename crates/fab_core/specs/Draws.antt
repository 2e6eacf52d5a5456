-- Draws: a multi-receive takes an unexpected message (FI_MULTI_RECV of fi_msg(3)).
--     drew p      the draw that is due is made
use Rattle.std.specs.Prelude.{ℕ, Option}
use Rattle.std.specs.Option.{option_map}
use Rattle.fab_base.specs.declared.entries.Entry.TheVariants.{Released as GivenBack}
use Rattle.fab_base.specs.declared.entries.Taken.TheVariants.{Success}
use Rattle.fab_base.specs.Kinds.{at_match}
use Rattle.fab_model.specs.State.{Receiving, writing}
use Rattle.fab_rx.specs.Drawing.{drawer, drawing, drawn}
use Rattle.fab_rx.specs.declared.results.Drawn.{Drawn}
use Rattle.fab_rx.specs.declared.results.Drawn.TheVariants.{GoesOn, Part, Last}
use Rattle.fab_core.specs.Parts.{Parts}
use Rattle.fab_settling.specs.Ends.{unread_of}
use Rattle.fab_core.specs.Doing.{received, with_arriving}
use Rattle.fab_settling.specs.Members.{let_go}

-- the call of the receive that draws
abbrev pub call_drawn : Receiving → Option ℕ
call_drawn rx = option_map (λ r. r.call) (drawer rx)

-- what is handed out is written, counted and booked
abbrev pub drew_as : Drawn → Option ℕ → Parts → Parts
drew_as GoesOn call p = p
drew_as (Part x) call p = received call (at_match x.head.ack) x p
drew_as (Last x y) call p = let q = received call (at_match x.head.ack) x p in record q { cq = writing call (Success (GivenBack y.ctx y.used y.buf)) q.cq; multis = let_go y.id (unread_of q.cq) q.multis }

abbrev pub drew : Parts → Parts
drew p = drew_as (drawn p.rx) (call_drawn p.rx.rx) (with_arriving (drawing p.rx) p)
