-- What completes (fi_cq(3)): the entries, the buffers and the replies that an arrival brings.
--     entry_of r place source head bytes      the entry of a receive for a whole message
--     fill, release, book                     see below
use Rattle.std.specs.Prelude.{ℕ, ◌+◌, ◌-◌, min, Bool, true, false, ◌==◌, nat_le, List, [], ◌∷◌, ◌++◌, length, take, drop, Option, Some, None, slice_set, find}
use Rattle.fab_base.specs.declared.items.Kind.TheVariants.{Reply}
use Rattle.fab_base.specs.declared.items.Ack.TheVariants.{Nothing}
use Rattle.fab_base.specs.declared.items.Outcome.{Outcome}
use Rattle.fab_base.specs.declared.items.Outcome.TheVariants.{Done}
use Rattle.fab_base.specs.declared.items.ItemHead.{ItemHead}
use Rattle.fab_base.specs.declared.items.Item.{Item}
use Rattle.fab_base.specs.declared.entries.Taken.{Taken}
use Rattle.fab_base.specs.declared.entries.Taken.TheVariants.{Success, Failure}
use Rattle.fab_base.specs.declared.entries.Entry.TheVariants.{Received, Part, Released}
use Rattle.fab_base.specs.declared.entries.ErrKind.{ErrKind}
use Rattle.fab_base.specs.declared.entries.ErrKind.TheVariants.{Truncated}
use Rattle.fab_base.specs.declared.entries.Class.TheVariants.{Recv}
use Rattle.fab_base.specs.declared.operations.Receive.{Receive}
use Rattle.fab_model.specs.Matching.{change_first, remove_first}
use Rattle.fab_base.specs.Kinds.{is_tagged}
use Rattle.fab_model.specs.State.{State, Receiving, Transmitting, accepted_for, under_way, with_rx, write, count}

-- ---- the entry of a receive

-- the buffer with these bytes in it from the place on, as many as fit
unfoldable pub paste : List ℕ → ℕ → List ℕ → List ℕ
paste buf place bytes = let n = min (length bytes) (length buf - place) in take place buf ++ take n bytes ++ drop (place + n) buf

abbrev pub tag_of : ItemHead → Option ℕ
tag_of head = elim (is_tagged head.kind) [ true ↦ Some head.tag | false ↦ None ]

-- an error of which nothing more is told
abbrev pub error : Option ℕ → ErrKind → Option (List ℕ) → Taken
error ctx kind buf = Failure (record { ctx = ctx; kind = kind; source = None; tag = None; imm = None; at = None; len = 0; olen = 0; buf = buf })

-- the success of a receive, whose message is whole in it from the place on
unfoldable pub received : Receive → ℕ → ℕ → ItemHead → List ℕ → Taken
received r place source head bytes = elim r.least [
  | None ↦ Success (Received r.ctx source (tag_of head) head.imm head.total (paste r.buf place bytes))
  | Some _ ↦ Success (Part r.ctx source head.imm place head.total)
]

-- the error of a receive with n free bytes for a longer message: len the bytes placed, olen the bytes cut off
unfoldable pub truncated : Receive → ℕ → ℕ → ℕ → ItemHead → List ℕ → Taken
truncated r n place source head bytes = Failure (record {
  ctx = Some r.ctx;
  kind = Truncated;
  source = Some source;
  tag = tag_of head;
  imm = head.imm;
  at = elim r.least [ None ↦ None | Some _ ↦ Some place ];
  len = n;
  olen = head.total - n;
  buf = elim r.least [ None ↦ Some (paste r.buf place bytes) | Some _ ↦ None ];
})

-- the message has room in the receive from the place on
abbrev pub has_space : Receive → ℕ → ItemHead → Bool
has_space r place head = nat_le head.total (length r.buf - place)

unfoldable pub entry_of : Receive → ℕ → ℕ → ItemHead → List ℕ → Taken
entry_of r place source head bytes = elim (has_space r place head) [
  | true ↦ received r place source head bytes
  | false ↦ truncated r (length r.buf - place) place source head bytes
]

-- ---- filling and releasing

abbrev pub is_made_by : ℕ → Receive → Bool
is_made_by call r = r.call == call

-- the receive with these bytes in its buffer
abbrev pub filled : ℕ → List ℕ → Receive → Receive
filled place bytes r = record r { buf = paste r.buf place bytes }

-- of a multi-receive the buffer itself is kept until it is released; a single receive's buffer is in its entry
abbrev pub fill_multi : Receive → ℕ → List ℕ → List Receive → List Receive
fill_multi r place bytes receives = elim r.least [ None ↦ receives | Some _ ↦ change_first (is_made_by r.call) (filled place bytes) receives ]

abbrev pub filling : Receive → ℕ → List ℕ → Receiving → Receiving
filling r place bytes rx = record rx { posted = fill_multi r place bytes rx.posted; closing = fill_multi r place bytes rx.closing }

-- the message is placed in the receive: the entry is written, and the receive counts
unfoldable pub fill : Receive → ℕ → ℕ → ItemHead → List ℕ → State → State
fill r place source head bytes s =
    write (Some r.call) (entry_of r place source head bytes) (count Recv (has_space r place head) (with_rx (filling r place bytes s.rx) s))

-- the multi-receive leaves those that are closing, and its buffer comes back
abbrev pub let_go : Receive → State → State
let_go r s = write (Some r.call) (Success (Released r.ctx r.used r.buf)) (let rx = s.rx in with_rx (record rx { closing = remove_first (is_made_by r.call) rx.closing }) s)

-- where the multi-receive of this call is closing and has no items under way, it is let go
unfoldable pub release_multi : ℕ → State → State
release_multi call s = elim (find (is_made_by call) s.rx.closing) [
  | None ↦ s
  | Some r ↦ elim (under_way s.rx call) [ true ↦ s | false ↦ let_go r s ]
]

abbrev pub release : Receive → State → State
release r s = elim r.least [ None ↦ s | Some _ ↦ release_multi r.call s ]

-- ---- replies

abbrev pub reply_head : ℕ → Outcome → ℕ → ItemHead
reply_head op outcome total = record {
  kind = Reply;
  op = op;
  tag = 0;
  imm = None;
  ack = Nothing;
  key = 0;
  at = 0;
  count = 0;
  atom = None;
  outcome = outcome;
  total = total;
}

-- an item joins those accepted for this peer
abbrev pub joining : ℕ → Item → Transmitting → Transmitting
joining t item tx = record tx { accepted = slice_set tx.accepted t (accepted_for tx t ++ item ∷ []) }

-- a reply to this operation of this peer
unfoldable pub reply : ℕ → ℕ → Outcome → List ℕ → State → State
reply source op outcome bytes s = record s { tx = joining source (record { head = reply_head op outcome (length bytes); bytes = bytes }) s.tx }

-- where a reply is due, it is booked
unfoldable pub book : Bool → ℕ → ItemHead → State → State
book true source head s = reply source head.op Done [] s
book false source head s = s
