-- A peer with its lines, and its steps.
--     Actor      a peer: its machine, its lines, the results of those done, and the entries that it read and no wait took
--     step v a step      the peer after the step, in this view; None where the step does not stand
--     fabric     the machine whose states are actors, whose steps are those of a schedule, and whose items go between peers
use Rattle.std.specs.Prelude.{ℕ, zero, suc, ◌+◌, Bool, true, false, not, ◌&&◌, ◌==◌, nat_lt, nat_le, List, [], ◌∷◌, ◌++◌, length, take, drop, Option, Some, None, slice_get, slice_index, slice_index_or, is_some, is_none, find, zip, count_by, map, unwrap_or}
use Rattle.std.specs.List.{list_all}
use Rattle.std.specs.Option.{option_map_or}
use Rattle.fab_base.specs.declared.items.Item.{Item}
use Rattle.fab_base.specs.declared.faults.Fault.TheVariants.{Again}
use Rattle.fab_base.specs.declared.entries.Entry.{Entry}
use Rattle.fab_base.specs.declared.entries.Entry.TheVariants.{Sent, Received, Part, Released, Peeked, Read, Wrote, Updated, Fetched, RemoteData}
use Rattle.fab_base.specs.declared.entries.Taken.{Taken}
use Rattle.fab_base.specs.declared.entries.Taken.TheVariants.{Success, Failure}
use Rattle.fab_base.specs.declared.entries.Kept.{Kept}
use Rattle.fab_base.specs.declared.operations.Receive.{Receive}
use Rattle.fab_base.specs.declared.operations.Written.{Written}
use Rattle.fab_base.specs.declared.peers.Step.{Step}
use Rattle.fab_base.specs.declared.peers.Step.TheVariants.{Do, Head, Tail, Draw, Final}
use Rattle.fab_base.specs.declared.peers.LineResult.{LineResult}
use Rattle.fab_base.specs.declared.peers.LineResult.TheVariants.{Refused, Waited}
use Rattle.fab_base.specs.declared.script.Line.{Line}
use Rattle.fab_base.specs.declared.script.LineOp.{LineOp}
use Rattle.fab_base.specs.declared.script.LineOp.TheVariants.{MRecv, Wait, Reach}
use Rattle.fab_model.specs.Matching.{remove_first}
use Rattle.fab_model.specs.State.{State, Completions, accepted_for, fits, tally_of}
use Rattle.fab_model.specs.Receiving.{draw_due, cancel, cancellable}
use Rattle.fab_model.specs.Sending.{do_sent}
use Rattle.fab_model.specs.Arrivals.{do_head, do_draw, do_tail}
use Rattle.fab_model.specs.Calls.{Call, CancelFirst, do_call, call_of}
use Rattle.fab_model.specs.Views.{View, Machine}

-- `results` are those of the lines done, in order
pub record Actor : Type 0 where
  pub state : State
  pub lines : List Line
  pub results : List LineResult
  pub kept : List Kept

abbrev pub next_line : Actor → Option Line
next_line a = slice_get a.lines (length a.results)

abbrev pub is_finished : Actor → Bool
is_finished a = is_none (next_line a)

abbrev pub with_state : Actor → State → Actor
with_state a s = record a { state = s }

-- the peer after the step, where its condition holds
abbrev pub only_if : Bool → Actor → Option Actor
only_if b a = elim b [ true ↦ Some a | false ↦ None ]

-- ---- lines

abbrev pub ctx_of_entry : Entry → Option ℕ
ctx_of_entry (Sent ctx tagged buf) = Some ctx
ctx_of_entry (Received ctx source tag imm len buf) = Some ctx
ctx_of_entry (Part ctx source imm at len) = Some ctx
ctx_of_entry (Released ctx used buf) = Some ctx
ctx_of_entry (Peeked ctx how source tag imm len) = Some ctx
ctx_of_entry (Read ctx buf) = Some ctx
ctx_of_entry (Wrote ctx buf) = Some ctx
ctx_of_entry (Updated ctx) = Some ctx
ctx_of_entry (Fetched ctx outcome) = Some ctx
ctx_of_entry (RemoteData source imm) = None

-- the context under which an entry comes, if any
abbrev pub ctx_of : Taken → Option ℕ
ctx_of (Success entry) = ctx_of_entry entry
ctx_of (Failure entry) = entry.ctx

abbrev pub same_ctx : Option ℕ → Option ℕ → Bool
same_ctx None None = true
same_ctx (Some a) (Some b) = a == b
same_ctx None (Some b) = false
same_ctx (Some a) None = false

abbrev pub is_of_ctx : Option ℕ → Kept → Bool
is_of_ctx ctx k = same_ctx ctx (ctx_of k.entry)

abbrev pub with_result : LineResult → Actor → Actor
with_result outcome a = record a { results = a.results ++ outcome ∷ [] }

abbrev pub is_again : LineResult → Bool
is_again (Refused (Again busy)) = true
is_again _ = false

-- a wait takes the oldest entry of its context that was read and that no wait took
unfoldable pub wait_line : Actor → Option ℕ → Option Actor
wait_line a ctx = elim (find (is_of_ctx ctx) a.kept) [
  | None ↦ None
  | Some k ↦ Some (with_result (Waited k) (record a { kept = remove_first (is_of_ctx ctx) a.kept }))
]

-- a call is made once it is not told to come again
abbrev pub after_call : Actor → LineResult × State → Option Actor
after_call a done = elim (is_again done.0) [ true ↦ None | false ↦ Some (with_result done.0 (with_state a done.1)) ]

unfoldable pub call_line : Actor → Call → Option Actor
call_line a c = after_call a (do_call a.state c)

-- the peer after this line, where the line can be done
unfoldable pub do_line : Actor → LineOp → Option Actor
do_line a (Wait ctx) = wait_line a ctx
do_line a (Reach class n) = elim (nat_le n (tally_of a.state.counters class).ok) [ true ↦ Some (with_result LineResult.Done a) | false ↦ None ]
do_line a op = elim (call_of op) [ None ↦ None | Some c ↦ call_line a c ]

unfoldable pub do_next : Actor → Option Actor
do_next a = elim (next_line a) [ None ↦ None | Some line ↦ do_line a line.op ]

-- ---- reading

abbrev pub is_multi_line : ℕ → Line × LineResult → Bool
is_multi_line ctx done = elim done.1 [ LineResult.Done ↦ elim done.0.op [ MRecv c source len least ↦ c == ctx | _ ↦ false ] | _ ↦ false ]

abbrev pub is_release : ℕ → Written → Bool
is_release ctx w = elim w.entry [ Success entry ↦ elim entry [ Released c used buf ↦ c == ctx | _ ↦ false ] | Failure _ ↦ false ]

-- context, place and length of a part or a truncated part
abbrev pub part_of : Taken → Option (ℕ × ℕ × ℕ)
part_of (Success entry) = elim entry [ Part ctx source imm at len ↦ Some (ctx, at, len) | _ ↦ None ]
part_of (Failure entry) = elim entry.at [ None ↦ None | Some at ↦ Some (unwrap_or entry.ctx 0, at, entry.len) ]

-- the buffer that the release or the cancel of this call handed back
abbrev pub released_buf : Option ℕ → Written → Option (List ℕ)
released_buf call w = elim (same_ctx call w.call) [
  | true ↦ elim w.entry [ Success entry ↦ elim entry [ Released ctx used buf ↦ Some buf | _ ↦ None ] | Failure e ↦ e.buf ]
  | false ↦ None
]

abbrev pub first_some : {X Y : Type 0} → (X → Option Y) → List X → Option Y
first_some f [] = None
first_some f (x ∷ xs) = elim (f x) [ Some y ↦ Some y | None ↦ first_some f xs ]

-- the buffer of the multi-receive made by this call
abbrev pub multi_buf : State → Option ℕ → List ℕ
multi_buf s call = elim (find (λ (r : Receive). same_ctx call (Some r.call)) (s.rx.posted ++ s.rx.closing)) [
  | Some r ↦ r.buf
  | None ↦ unwrap_or (first_some (released_buf call) s.cq.written) []
]

-- one multi-receive of this context, and no other, is neither released nor read
abbrev pub is_only_multi : Actor → ℕ → Bool
is_only_multi a ctx = count_by (is_multi_line ctx) (zip a.lines a.results) == count_by (is_release ctx) (take a.state.cq.taken_out a.state.cq.written) + 1

-- the bytes of a part are copied when its entry is read, where it is known which buffer they are in
unfoldable pub bytes_kept : Actor → Written → Option (List ℕ)
bytes_kept a w = elim (part_of w.entry) [
  | None ↦ None
  | Some part ↦ elim (is_only_multi a part.0) [ true ↦ Some (take part.2 (drop part.1 (multi_buf a.state w.call))) | false ↦ None ]
]

-- the first unread entry
abbrev pub unread : Completions → Option Written
unread cq = slice_get cq.written cq.taken_out

abbrev pub reading : State → State
reading s = record s { cq = (let cq = s.cq in record cq { taken_out = cq.taken_out + 1 }) }

unfoldable pub read_next : Actor → Option Actor
read_next a = elim (unread a.state.cq) [
  | None ↦ None
  | Some w ↦ Some (record a { state = reading a.state; kept = a.kept ++ record { entry = w.entry; bytes = bytes_kept a w } ∷ [] })
]

-- ---- steps

-- the next item of the source arrives: it was accepted, none of the source is coming, and no draw is due
unfoldable pub head_step : View Item → Actor → ℕ → Option Actor
head_step v a source =
    let rx = a.state.rx in
    elim (slice_get (v.ready source) (slice_index rx.heads source)) [
      | None ↦ None
      | Some item ↦ only_if ((slice_index rx.heads source == slice_index rx.tails source) && not (draw_due rx)) (with_state a (do_head a.state source item.head))
    ]

-- the item that arrived is whole: it is transmitted, and the entries that it writes have room
unfoldable pub tail_step : View Item → Actor → ℕ → Option Actor
tail_step v a source =
    let rx = a.state.rx in
    elim (slice_get (v.ready source) (slice_index rx.tails source)) [
      | None ↦ None
      | Some item ↦
          let after = do_tail a.state source item.head item.bytes in
          only_if ((slice_index rx.heads source == slice_index rx.tails source + 1) && nat_lt (slice_index rx.tails source) (v.sent source) && fits after.cq) (with_state a after)
    ]

-- the next item for the peer is transmitted: it was accepted, and its entry has room
unfoldable pub sent_step : Actor → ℕ → Option Actor
sent_step a t =
    let after = do_sent a.state t in
    only_if (nat_lt (slice_index a.state.tx.sent t) (length (accepted_for a.state.tx t)) && fits after.cq) (with_state a after)

unfoldable pub draw_step : Actor → Option Actor
draw_step a = let after = do_draw a.state in only_if (draw_due a.state.rx && fits after.cq) (with_state a after)

-- at the end, when all is calm, the first posted receive that may be cancelled is cancelled: it has room for its entry
unfoldable pub final_step : View Item → Actor → Option Actor
final_step v a =
    only_if (v.calm && is_some (cancellable (λ r. true) a.state.rx) && fits (cancel a.state (λ r. true)).cq) (with_state a (do_call a.state CancelFirst).1)

unfoldable pub step : View Item → Actor → Step → Option Actor
step v a Do = do_next a
step v a (Head source) = head_step v a source
step v a (Tail source) = tail_step v a source
step v a (Step.Sent t) = sent_step a t
step v a Draw = draw_step a
step v a Step.Read = read_next a
step v a Final = final_step v a

-- ---- when all is calm

-- what the final cancels ask of a peer
pub record Facts : Type 0 where
  pub finished : Bool
  pub accepted : List (List Item)
  pub tails : List ℕ
  pub draw_due : Bool

abbrev pub facts : Actor → Facts
facts a = record { finished = is_finished a; accepted = a.state.tx.accepted; tails = a.state.rx.tails; draw_due = draw_due a.state.rx }

-- the test passes at each number below n
abbrev pub all_below : (ℕ → Bool) → ℕ → Bool
all_below test zero = true
all_below test (suc n) = all_below test n && test n

-- every item that the sender accepted for the receiver is whole there
abbrev pub has_all : List Facts → ℕ → ℕ → Bool
has_all all sender receiver =
    option_map_or (λ f. slice_index f.tails sender) (slice_get all receiver) 0 == option_map_or (λ f. length (slice_index_or f.accepted receiver [])) (slice_get all sender) 0

-- all lines are done, every item accepted anywhere is whole, and no draw is due
unfoldable pub is_calm : List Facts → Bool
is_calm all = list_all (λ f. f.finished && not f.draw_due) all && all_below (λ sender. all_below (has_all all sender) (length all)) (length all)

unfoldable pub fabric : Machine Actor Step Item
fabric = record {
  ready = λ a receiver. accepted_for a.state.tx receiver;
  sent = λ a receiver. slice_index a.state.tx.sent receiver;
  calm = λ all. is_calm (map facts all);
  step = step;
}
