-- What completed receives say, at every moment that some order of turns leads to from the opening.
--     asked_of from turns p      the receives that the calls of peer p made: of recv, trecv and recv_multi, and of take
--     EntriesTell                each entry that tells a message is that of an item that is whole: its source and length, or how much was cut off
--     ReceivesTell               so the entry of a receive that is no multi-receive has its message in its own buffer, from the buffer's first byte on
--     ItemsAreSized              each item has as many bytes as its head says
use Rattle.std.specs.Prelude.{◌≡◌, ◌≤◌, ◌-◌, length, ◌<◌, ◌⊎◌, ℕ, Bool, true, false, nat_lt, List, [], ◌∷◌, ◌++◌, Option, Some, None, slice_get, slice_index}
use Rattle.fab_base.specs.declared.items.Item.{Item}
use Rattle.fab_base.specs.declared.operations.Receive.{Receive}
use Rattle.fab_base.specs.declared.operations.Written.{Written}
use Rattle.fab_model.specs.State.{State, accepted_for}
use Rattle.fab_base.specs.declared.items.ItemHead.{ItemHead}
use Rattle.fab_base.specs.declared.entries.Entry.TheVariants.{Received}
use Rattle.fab_base.specs.declared.entries.ErrKind.TheVariants.{Truncated}
use Rattle.fab_base.specs.declared.entries.Taken.TheVariants.{Failure, Success}
use Rattle.fab_model.specs.Complete.{entry_of, paste, tag_of}
use Rattle.fab_model.specs.Receiving.{receive_of, taking}
use Rattle.fab_model.specs.Calls.{Call, Post, TakeClaimed}
use Rattle.fab_model.specs.Orders.{Turn}
use Rattle.fab_model.specs.Views.{seen}
use Rattle.fab_laws.specs.Members.{In, Never}
use Rattle.fab_laws.specs.Programs.{Counts, Deed, Draw, Head, Makes, Peer, Tail, program}
use Rattle.fab_laws.specs.Moments.{AtEveryMoment, Note, remembered}
use Rattle.fab_laws.specs.Matched.{Event, Got, Lost, Mark, Wish, made, past_of, tells_message}

abbrev pub asks_for : Call → State → List Receive
asks_for (Post p) s = receive_of s p ∷ []
asks_for (TakeClaimed buf ctx) s = taking s buf ctx ∷ []
asks_for call s = []

-- a call was accepted where it took the next number
abbrev pub asking : Option Call → State → State → List Receive
asking call s t = elim call [ None ↦ [] | Some c ↦ elim (nat_lt s.calls t.calls) [ true ↦ asks_for c s | false ↦ [] ] ]

abbrev pub asked_by : Peer → Deed → Peer → List Receive
asked_by a (Makes call) b = asking call a.state b.state
asked_by a (Counts counters) b = []
asked_by a (Head source) b = []
asked_by a (Tail source) b = []
asked_by a (Deed.Sent t) b = []
asked_by a Draw b = []
asked_by a Deed.Read b = []

abbrev pub keeping_asked : Note (List Receive)
keeping_asked v a x b m = asked_by a x b ++ m

abbrev pub asked_of : List Peer → List (Turn Deed) → ℕ → List Receive
asked_of from turns p = remembered keeping_asked p turns from []

-- r is the receive that a call made; a multi-receive's buffer fills
pub record IsOf (m : List Receive) (r : Receive) : Type 0 where
  pub first : Receive
  pub asked : In first m
  pub call : r.call ≡ first.call
  pub ctx : r.ctx ≡ first.ctx
  pub least : r.least ≡ first.least
  pub buf : r.least ≡ None → r.buf ≡ first.buf

-- the entry is that of a receive that was asked for, with an item that is whole here
pub record IsMessage (m : List Receive) (ready : ℕ → List Item) (tails : List ℕ) (w : Written) : Type 0 where
  pub r : Receive
  pub of : IsOf m r
  pub place : ℕ
  pub single : r.least ≡ None → place ≡ 0
  pub source : ℕ
  pub k : ℕ
  pub item : Item
  pub at : slice_get (ready source) k ≡ Some item
  pub whole : k < slice_index tails source
  pub call : w.call ≡ Some r.call
  pub entry : w.entry ≡ entry_of r place source item.head item.bytes

-- no receive that was posted, by recv, trecv or recv_multi, is of this call
abbrev pub IsNoPost : List Event → ℕ → Type 0
IsNoPost past call = (w : Wish) → In w (made past) → w.call ≡ call → Never

-- the receive of this call got the message; or the message was claimed or discarded, and the call is no receive that was posted (it is a take)
abbrev pub Went : List Event → ℕ → Mark → Type 0
Went past call x = ((last : Bool) × In (Got call x last) past) ⊎ (In (Lost x) past × IsNoPost past call)

abbrev pub IsWhole : List Event → List Receive → (ℕ → List Item) → List ℕ → Written → Type 0
IsWhole past m ready tails w = (x : IsMessage m ready tails w) × Went past x.r.call (record { source = x.source; place = x.k; head = x.item.head })

abbrev pub EntryTells : List Event → List Receive → List Peer → ℕ → Peer → Type 0
EntryTells past asked states p a = (w : Written) → In w a.state.cq.written → tells_message w.entry ≡ true → IsWhole past asked (seen program states p).ready a.state.rx.tails w

abbrev pub EntriesTell : Type 0
EntriesTell = AtEveryMoment (λ from turns states p a. EntryTells (past_of from turns p) (asked_of from turns p) states p a)

abbrev pub ReceiveTells : List Event → List Receive → List Peer → ℕ → Peer → Type 0
ReceiveTells past asked states p a = (f : Receive) (w : Written) → In f asked → f.least ≡ None → In w a.state.cq.written → w.call ≡ Some f.call → tells_message w.entry ≡ true
    → (source : ℕ) × (k : ℕ) × (item : Item) × (slice_get ((seen program states p).ready source) k ≡ Some item) × (k < slice_index a.state.rx.tails source) × Went past f.call (record { source = source; place = k; head = item.head })
    × (w.entry ≡ entry_of f 0 source item.head item.bytes)

abbrev pub ReceivesTell : Type 0
ReceivesTell = AtEveryMoment (λ from turns states p a. ReceiveTells (past_of from turns p) (asked_of from turns p) states p a)

-- how the entry of a receive that is no multi-receive reads: the message where its buffer has room, or else how many bytes are placed and how many cut off
abbrev pub EntryReads : Type 0
EntryReads = (f : Receive) (source : ℕ) (head : ItemHead) (bytes : List ℕ) → f.least ≡ None →
    (head.total ≤ length f.buf → entry_of f 0 source head bytes ≡ Success (Received f.ctx source (tag_of head) head.imm head.total (paste f.buf 0 bytes)))
    × (length f.buf < head.total → entry_of f 0 source head bytes ≡ Failure (record {
      ctx = Some f.ctx;
      kind = Truncated;
      source = Some source;
      tag = tag_of head;
      imm = head.imm;
      at = None;
      len = length f.buf;
      olen = head.total - length f.buf;
      buf = Some (paste f.buf 0 bytes);
    }))

-- ---- lengths

abbrev pub IsSized : Item → Type 0
IsSized item = length item.bytes ≡ item.head.total

-- each item that the peer lets out, a message, a request or a reply
abbrev pub LetsOutSized : Peer → Type 0
LetsOutSized a = (t : ℕ) (item : Item) → In item (accepted_for a.state.tx t) → IsSized item

abbrev pub ItemsAreSized : Type 0
ItemsAreSized = AtEveryMoment (λ from turns states p a. LetsOutSized a)
