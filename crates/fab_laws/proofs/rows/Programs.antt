-- Two endpoints used as a library: one receives into a buffer of its own, the other sends; no line says so.
use Rattle.std.proofs.Common.{◌≡◌, true, false, List, [], ◌∷◌, ◌++◌, slice_get, Some, None, inl, refl}
use Rattle.std.specs.Prelude.{codes}
use Rattle.fab_base.specs.declared.entries.Entry.TheVariants.{Received}
use Rattle.fab_base.specs.declared.entries.Taken.TheVariants.{Success}
use Rattle.fab_base.specs.declared.items.Item.{Item}
use Rattle.fab_base.specs.declared.items.Kind.TheVariants.{TagMsg}
use Rattle.fab_base.specs.declared.operations.Receive.{Receive}
use Rattle.fab_base.specs.declared.operations.Written.{Written}
use Rattle.fab_base.specs.declared.peers.Level.{Level}
use Rattle.fab_model.specs.Calls.{Call, Post, message}
use Rattle.fab_model.specs.Orders.{Leads, Turn, by}
use Rattle.fab_model.specs.Views.{rule}
use Rattle.fab_model.proofs.Scripts.{script_of}
use Rattle.fab_laws.specs.Members.{In}
use Rattle.fab_laws.specs.Matched.{tells_message}
use Rattle.fab_laws.specs.Completed.{operations_of}
use Rattle.fab_laws.specs.MessageLaws.{asked_of}
use Rattle.fab_laws.specs.StreamLaws.{posted_for, whole_from}
use Rattle.fab_laws.specs.Programs.{Deed, Head, Makes, Opening, Peer, Tail, program}
use Rattle.fab_laws.proofs.Scripts.{script_opening}
use Rattle.fab_laws.proofs.rows.Following.{follows, programs}

-- two peers without lines
from : Opening
from = script_opening (script_of ([] ∷ [] ∷ []))

call : Call
call = Post (record { tagged = true; source = Some 1; tag = 5; ignore = 0; buf = 9 ∷ 9 ∷ 9 ∷ []; least = None; ctx = 1 })

turns : List (Turn Deed)
turns = by 0 (Makes (Some call) ∷ []) ++ by 1 (Makes (Some (message TagMsg (Some 3) 0 5 (codes "x") None Level.Delivery false false)) ∷ Deed.Sent 0 ∷ []) ++ by 0 (Head 1 ∷ Tail 1 ∷ [])

-- what is so in the end of the receiver
record Ends (states : List Peer) : Type 0 where
  leads : Leads (rule program) from.peers turns states
  receiver : Peer
  here : slice_get states 0 ≡ Some receiver
  -- the item of the call is whole, and nothing else
  whole : (item : Item) × (whole_from from.peers turns 0 1 ≡ item ∷ []) × (posted_for 0 (operations_of from.peers turns 1).accepted ≡ item ∷ [])
  -- its byte is in the buffer that the call passed
  entry : (w : Written) × In w receiver.state.cq.written × (tells_message w.entry ≡ true) × (w.entry ≡ Success (Received 1 1 (Some 5) None 1 (120 ∷ 9 ∷ 9 ∷ [])))
  asked : (f : Receive) × In f (asked_of from.peers turns 0) × (f.least ≡ None) × (f.buf ≡ 9 ∷ 9 ∷ 9 ∷ [])

ends : (states : List Peer) × Ends states
unfolding from call turns programs
ends = (
  _,
  record {
    leads = follows turns from.peers _ refl;
    receiver = _;
    here = refl;
    whole = (_, refl, refl);
    entry = (_, inl refl, refl, refl);
    asked = (_, inl refl, refl, refl);
  },
)
