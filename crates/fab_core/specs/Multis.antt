-- Multi-receives (FI_MULTI_RECV of fi_msg(3)).
--     passing_multi p           why it is refused now
--     shared_by id ask buf p    it is posted, under this id
--     IsShared ask buf p q      it is posted
--     HasBuffer h ctx bytes     the buffer of the oldest one of the context
use Rattle.std.specs.Prelude.{◌≡◌, ℕ, false, cond, List, length, Option, Some, None, nat_le}
use Rattle.fab_base.specs.declared.faults.Busy.TheVariants.{CqFull, PostedFull}
use Rattle.fab_base.specs.declared.faults.Fault.{Fault}
use Rattle.fab_base.specs.declared.faults.Fault.TheVariants.{Again}
use Rattle.fab_base.specs.declared.operations.Receive.{Receive}
use Rattle.fab_model.specs.Receiving.{draw_due, want_of}
use Rattle.fab_rx.specs.Arriving.{multi_by, opening}
use Rattle.fab_model.specs.Peers.{multi_buf}
use Rattle.fab_face.specs.Answers.{multi_of}
use Rattle.fab_face.specs.Held.{Held}
use Rattle.fab_face.specs.declared.multis.MultiAsk.{MultiAsk}
use Rattle.fab_core.specs.Parts.{Parts, state_of}
use Rattle.fab_core.specs.Doing.{called, with_arriving}
use Rattle.fab_settling.specs.Members.{enlisted}

-- it waits for draws that are due, and for a place
abbrev pub passing_multi : Parts → Option Fault
passing_multi p = cond (draw_due p.rx.rx) (Some (Again (CqFull p.cq.size))) (cond (nat_le p.rx.most (length p.rx.rx.posted)) (Some (Again (PostedFull p.rx.most))) None)

-- the receive of the call that is being made
abbrev pub shared_now : MultiAsk → List ℕ → Parts → Receive
shared_now a buf p = multi_by (Some p.calls) (want_of (state_of p) false a.source 0 0) buf a.least a.ctx

abbrev pub shared_by : ℕ → MultiAsk → List ℕ → Parts → Parts
shared_by id a buf p = record (called (with_arriving (opening id (shared_now a buf p) p.rx) p)) { multis = enlisted id a.ctx p.calls p.multis }

abbrev pub IsShared : MultiAsk → List ℕ → Parts → Parts → Type 0
IsShared a buf p q = (id : ℕ) × (q ≡ shared_by id a buf p)

abbrev pub HasBuffer : Held → ℕ → List ℕ → Type 0
HasBuffer h ctx bytes = (call : ℕ) × (multi_of h ctx ≡ Some call) × (multi_buf h.state (Some call) ≡ bytes)
