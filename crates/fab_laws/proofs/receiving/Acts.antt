-- What each deed makes of a peer on its receiving side: what is posted, what comes where, what waits, what is set aside, and which entries are written.
--     Act v s x t     the deed x, in this view, leads from s to t so
--     act             each deed that stands does one of these
use Rattle.std.proofs.Common.{◌≡◌, ◌≢◌, ◌+◌, ℕ, Bool, true, false, List, [], ◌∷◌, ◌++◌, set, slice_get, Option, Some, None, ◌⊎◌, inl, inr, refl, sym, ◌∙◌, ap, subst, rules, append_assoc, append-nil}
use Rattle.std.specs.Prelude.{find, slice_index, unwrap_or, ◌==◌}
use Rattle.fab_base.specs.declared.items.Item.{Item}
use Rattle.fab_base.specs.declared.items.ItemHead.{ItemHead}
use Rattle.fab_base.specs.declared.items.Kind.{Kind}
use Rattle.fab_base.specs.declared.items.Kind.TheVariants.{Msg, TagMsg, WriteReq, ReadReq, AtomicReq, Reply}
use Rattle.fab_base.specs.declared.items.Outcome.{Outcome}
use Rattle.fab_base.specs.declared.items.Outcome.TheVariants.{Done, BadKey, BadAccess, BadRange}
use Rattle.fab_base.specs.declared.items.Want.{Want}
use Rattle.fab_base.specs.declared.entries.Class.TheVariants.{Recv}
use Rattle.fab_base.specs.declared.entries.Entry.{Entry}
use Rattle.fab_base.specs.declared.entries.Entry.TheVariants.{Fetched, Released, RemoteData, Sent, Updated, Wrote}
use Rattle.fab_base.specs.declared.entries.ErrKind.TheVariants.{NoMsg, Canceled}
use Rattle.fab_base.specs.declared.entries.PeekHow.{PeekHow}
use Rattle.fab_base.specs.declared.entries.PeekHow.TheVariants.{Peek, Claim, Discard}
use Rattle.fab_base.specs.declared.entries.Taken.TheVariants.{Success}
use Rattle.fab_base.specs.declared.faults.Fault.{Fault}
use Rattle.fab_base.specs.declared.operations.Arrival.{Arrival}
use Rattle.fab_base.specs.declared.operations.Coming.{Coming}
use Rattle.fab_base.specs.declared.operations.Coming.TheVariants.{Into, Keep, Throw, Request, Answer}
use Rattle.fab_base.specs.declared.operations.Operation.{Operation}
use Rattle.fab_base.specs.declared.operations.Receive.{Receive}
use Rattle.fab_base.specs.declared.operations.Written.{Written}
use Rattle.fab_model.specs.Matching.{remove_first, takes}
use Rattle.fab_base.specs.Kinds.{at_delivery, at_match, is_answered, is_message, is_tagged}
use Rattle.fab_model.specs.State.{Completions, Receiving, State, called, coming_from, count, lookup, raise, under_way, with_rx, with_tx, write}
use Rattle.fab_model.specs.Complete.{book, entry_of, error, fill, filling, is_made_by, let_go, release, release_multi, reply}
use Rattle.fab_model.specs.Sending.{Order, answering, class_of, do_answer, do_sent, end_with, ending, going_on, is_answered_by, success_of, transmit, transmit_to, transmitting}
use Rattle.fab_model.specs.Receiving.{Posting, cancel, cancellable, claim_of, claiming, draw_due, draws, drop_arrival, drop_claimed, give, goes, joining_posted, look, look_at, peeked, post, receive_of, take_claimed, taken_by, taking, want_of, without_claim, without_first, without_posted}
use Rattle.fab_model.specs.Target.{perform}
use Rattle.fab_model.specs.Arrivals.{do_draw, do_head, do_request, do_tail, heading_message, heading_other, is_wanted, keeping, made_whole, newcomer, remote_data, remote_event, seated, seating, shut, tail_to, taker, way_of, with_regions}
use Rattle.fab_model.specs.Calls.{Call, Transmit, Post, Look, TakeClaimed, DropClaimed, Cancel, CancelFirst, Insert, Remove, Reg, Close, Put, Show, Count, answer, close, do_call, insert, put, reg, remove}
use Rattle.fab_base.specs.Replies.{at_either}
use Rattle.fab_model.specs.Peers.{reading}
use Rattle.fab_model.specs.Views.{View}
use Rattle.fab_laws.specs.Programs.{Counts, Deed, Draw, Head, Makes, Peer, Tail, program, with_counters}
use Rattle.fab_laws.specs.Matched.{Mark, mark_of, tells_message}
use Rattle.fab_laws.specs.MultiLaws.{handed_back}
use Rattle.fab_laws.proofs.Lists.{Each, always, each_append}
use Rattle.fab_laws.proofs.Stepping.{StepIs, step_is}
use Rattle.fab_laws.proofs.matching.Quiet.{book_quiet}
use Rattle.fab_laws.proofs.matching.Watch.{book_cq}
use Rattle.fab_laws.proofs.matching.Watch as Watch

-- ---- words

-- the entry tells no message and hands no buffer back
abbrev pub Plain : Written → Type 0
Plain w = (tells_message w.entry ≡ false) × (handed_back w.entry ≡ None)

abbrev pub given : Receive → ℕ → Arrival → Receiving → Receiving
given r place a rx = elim a.bytes [ None ↦ goes a.source (Into r place) rx | Some bytes ↦ filling r place bytes rx ]

abbrev pub entry_for : Receive → ℕ → ℕ → ItemHead → List ℕ → Written
entry_for r place source head bytes = record { call = Some r.call; entry = entry_of r place source head bytes }

abbrev pub entries_for : Receive → ℕ → Arrival → List Written
entries_for r place a = elim a.bytes [ None ↦ [] | Some bytes ↦ entry_for r place a.source a.head bytes ∷ [] ]

abbrev pub thrown : Arrival → Receiving → Receiving
thrown a rx = elim a.bytes [ None ↦ goes a.source Throw rx | Some bytes ↦ rx ]

-- the closing multi-receive of r's call, where nothing is under way into it
abbrev pub leaving : Receive → Receiving → Option Receive
leaving r rx = elim r.least [
  | None ↦ None
  | Some _ ↦ elim (find (is_made_by r.call) rx.closing) [ None ↦ None | Some m ↦ elim (under_way rx r.call) [ true ↦ None | false ↦ Some m ] ]
]

abbrev pub let_out : Option Receive → Receiving → Receiving
let_out None rx = rx
let_out (Some m) rx = record rx { closing = remove_first (is_made_by m.call) rx.closing }

abbrev pub freed : Option Receive → List Written
freed None = []
freed (Some m) = record { call = Some m.call; entry = Success (Released m.ctx m.used m.buf) } ∷ []

-- a message that a posted receive takes as it arrives
abbrev pub seat : ℕ → ItemHead → Receive → Receiving → Receiving
seat source head r rx = record {
  posted = seated (is_wanted source head) head.total r rx.posted;
  closing = rx.closing ++ shut head.total r;
  coming = set rx.coming source (Some (Into r r.used));
  unexpected = rx.unexpected;
  claimed = rx.claimed;
  heads = raise rx.heads source;
  tails = rx.tails;
}

-- one that no posted receive takes
abbrev pub wait : ℕ → ItemHead → Receiving → Receiving
wait source head rx = record {
  posted = rx.posted;
  closing = rx.closing;
  coming = set rx.coming source (Some Keep);
  unexpected = rx.unexpected ++ newcomer source (slice_index rx.heads source) head ∷ [];
  claimed = rx.claimed;
  heads = raise rx.heads source;
  tails = rx.tails;
}

-- an item that is no message
abbrev pub pass : ℕ → Coming → Receiving → Receiving
pass source c rx = record rx { coming = set rx.coming source (Some c); heads = raise rx.heads source }

abbrev pub whole : ℕ → Receiving → Receiving
whole source rx = record rx { tails = raise rx.tails source; coming = set rx.coming source None }

abbrev pub is_into : Option Coming → Bool
is_into None = false
is_into (Some (Into r place)) = true
is_into (Some Keep) = false
is_into (Some Throw) = false
is_into (Some Request) = false
is_into (Some Answer) = false

-- nothing that is received changes; plain entries may be written
pub record Idle (s t : State) : Type 0 where
  pub rx : t.rx ≡ s.rx
  pub more : List Written
  pub written : t.cq.written ≡ s.cq.written ++ more
  pub plain : Each Plain more

-- the item of the source that is next to arrive, or next to be whole
pub record Arrives (v : View Item) (s : State) (source : ℕ) (item : Item) : Type 0 where
  pub at : slice_get (v.ready source) (slice_index s.rx.heads source) ≡ Some item
  pub level : slice_index s.rx.heads source ≡ slice_index s.rx.tails source
  pub none_due : draw_due s.rx ≡ false

pub record Ends (v : View Item) (s : State) (source : ℕ) (item : Item) : Type 0 where
  pub at : slice_get (v.ready source) (slice_index s.rx.tails source) ≡ Some item
  pub odd : slice_index s.rx.heads source ≡ slice_index s.rx.tails source + 1

abbrev pub cancelled_entry : Receive → Written
cancelled_entry r = record { call = Some r.call; entry = error (Some r.ctx) Canceled (Some r.buf) }

abbrev pub is_head : Deed → Bool
is_head (Head source) = true
is_head (Makes call) = false
is_head (Counts counters) = false
is_head (Tail source) = false
is_head (Deed.Sent t) = false
is_head Draw = false
is_head Deed.Read = false

pub data Act (v : View Item) (s : State) (x : Deed) (t : State) : Type 0 where
  Rests : is_head x ≡ false → Idle s t → Act v s x t
  -- calls
  Posts : (p : Posting) → x ≡ Makes (Some (Post p)) → t.calls ≡ s.calls + 1 → t.rx ≡ joining_posted (receive_of s p) s.rx → t.cq.written ≡ s.cq.written → Act v s x t
  Gets : (p : Posting) (a : Arrival) → x ≡ Makes (Some (Post p)) → t.calls ≡ s.calls + 1 → p.least ≡ None → find (takes (receive_of s p).want) s.rx.unexpected ≡ Some a
      → t.rx ≡ given (receive_of s p) 0 a (without_first (receive_of s p).want s.rx) → t.cq.written ≡ s.cq.written ++ entries_for (receive_of s p) 0 a → Act v s x t
  Claims : (source : Option ℕ) (tag ignore ctx : ℕ) (a : Arrival) (w : Written) → x ≡ Makes (Some (Look Claim source tag ignore ctx)) → t.calls ≡ s.calls + 1
      → find (takes (want_of s true source tag ignore)) s.rx.unexpected ≡ Some a → t.rx ≡ claiming ctx a (without_first (want_of s true source tag ignore) s.rx) → t.cq.written ≡ s.cq.written ++ w ∷ [] → Plain w → Act v s x t
  Discards : (source : Option ℕ) (tag ignore ctx : ℕ) (a : Arrival) (w : Written) → x ≡ Makes (Some (Look Discard source tag ignore ctx)) → t.calls ≡ s.calls + 1
      → find (takes (want_of s true source tag ignore)) s.rx.unexpected ≡ Some a → t.rx ≡ thrown a (without_first (want_of s true source tag ignore) s.rx) → t.cq.written ≡ s.cq.written ++ w ∷ [] → Plain w → Act v s x t
  Takes : (buf : List ℕ) (ctx : ℕ) (a : Arrival) → x ≡ Makes (Some (TakeClaimed buf ctx)) → t.calls ≡ s.calls + 1 → claim_of ctx s ≡ Some a
      → t.rx ≡ given (taking s buf ctx) 0 a (without_claim ctx s.rx) → t.cq.written ≡ s.cq.written ++ entries_for (taking s buf ctx) 0 a → Act v s x t
  Drops : (ctx : ℕ) (a : Arrival) (w : Written) → x ≡ Makes (Some (DropClaimed ctx)) → t.calls ≡ s.calls + 1 → claim_of ctx s ≡ Some a
      → t.rx ≡ thrown a (without_claim ctx s.rx) → t.cq.written ≡ s.cq.written ++ w ∷ [] → Plain w → Act v s x t
  Cancels : (c : Call) (test : Receive → Bool) (r : Receive) → x ≡ Makes (Some c) → (c ≡ CancelFirst) ⊎ ((ctx : ℕ) × (c ≡ Cancel ctx)) → t.calls ≡ s.calls + 1 → cancellable test s.rx ≡ Some r
      → t.rx ≡ without_posted test s.rx → t.cq.written ≡ s.cq.written ++ cancelled_entry r ∷ [] → Act v s x t
  -- arrivals
  Seats : (source : ℕ) (item : Item) (r : Receive) → x ≡ Head source → Arrives v s source item → is_message item.head.kind ≡ true → taker source item.head s.rx ≡ Some r
      → t.rx ≡ seat source item.head r s.rx → t.cq.written ≡ s.cq.written → Act v s x t
  Waits : (source : ℕ) (item : Item) → x ≡ Head source → Arrives v s source item → is_message item.head.kind ≡ true → taker source item.head s.rx ≡ None
      → t.rx ≡ wait source item.head s.rx → t.cq.written ≡ s.cq.written → Act v s x t
  Passes : (source : ℕ) (item : Item) (c : Coming) → x ≡ Head source → Arrives v s source item → is_message item.head.kind ≡ false → is_into (Some c) ≡ false
      → t.rx ≡ pass source c s.rx → t.cq.written ≡ s.cq.written → Act v s x t
  Draws : (r : Receive) (a : Arrival) → x ≡ Draw → find (draws s.rx.unexpected) s.rx.posted ≡ Some r → find (takes r.want) s.rx.unexpected ≡ Some a
      → (mid : Receiving) → mid ≡ given r r.used a (without_first r.want (seating a.head.total r s.rx.unexpected s.rx)) → t.rx ≡ let_out (leaving r mid) mid → t.cq.written ≡ (s.cq.written ++ entries_for r r.used a) ++ freed (leaving r mid) → Act v s x t
  -- items that are whole
  Fills : (source : ℕ) (item : Item) (r : Receive) (place : ℕ) → x ≡ Tail source → Ends v s source item → coming_from s.rx source ≡ Some (Into r place)
      → (mid : Receiving) → mid ≡ filling r place item.bytes (whole source s.rx) → t.rx ≡ let_out (leaving r mid) mid → t.cq.written ≡ (s.cq.written ++ entry_for r place source item.head item.bytes ∷ []) ++ freed (leaving r mid) → Act v s x t
  Joins : (source : ℕ) (item : Item) → x ≡ Tail source → Ends v s source item → coming_from s.rx source ≡ Some Keep → t.rx ≡ keeping source item.bytes (whole source s.rx) → t.cq.written ≡ s.cq.written → Act v s x t
  Closes : (source : ℕ) (item : Item) (more : List Written) → x ≡ Tail source → Ends v s source item → is_into (coming_from s.rx source) ≡ false → coming_from s.rx source ≢ Some Keep → t.rx ≡ whole source s.rx
      → t.cq.written ≡ s.cq.written ++ more → Each Plain more → Act v s x t

-- ---- what a step gives

-- the receive that is given a message, and the message
abbrev pub subject : (v : View Item) (s : State) (x : Deed) (t : State) → Act v s x t → Option (Receive × Mark)
subject v s x t (Rests no_head idle) = None
subject v s x t (Posts p is calls rx written) = None
subject v s x t (Gets p y is calls single found rx written) = Some (receive_of s p, mark_of y)
subject v s x t (Claims source tag ignore ctx y w is calls found rx written plain) = None
subject v s x t (Discards source tag ignore ctx y w is calls found rx written plain) = None
subject v s x t (Takes buf ctx y is calls found rx written) = Some (taking s buf ctx, mark_of y)
subject v s x t (Drops ctx y w is calls found rx written plain) = None
subject v s x t (Cancels c test r is which calls found rx written) = None
subject v s x t (Seats source item r is arrives_so message found rx written) = Some (r, record { source = source; place = slice_index s.rx.heads source; head = item.head })
subject v s x t (Waits source item is arrives_so message found rx written) = None
subject v s x t (Passes source item c is arrives_so other no_into rx written) = None
subject v s x t (Draws r y is found first mid is_mid rx written) = Some (r, mark_of y)
subject v s x t (Fills source item r place is ends from mid is_mid rx written) = None
subject v s x t (Joins source item is ends from rx written) = None
subject v s x t (Closes source item more is ends no_into no_keep rx written plain) = None

-- ---- what only writes plain entries

idle_same : (s t : State) → t.rx ≡ s.rx → t.cq.written ≡ s.cq.written → Idle s t
idle_same s t rx cq = record { rx = rx; more = []; written = cq ∙ sym (append-nil s.cq.written); plain = always }

idle_then : (s t u : State) → Idle s t → Idle t u → Idle s u
idle_then s t u a b = record {
  rx = b.rx ∙ a.rx;
  more = a.more ++ b.more;
  written = b.written ∙ ap (λ ws. ws ++ b.more) a.written ∙ append_assoc s.cq.written a.more b.more;
  plain = each_append Plain a.more b.more a.plain b.plain;
}

idle_one : (s t : State) (w : Written) → t.rx ≡ s.rx → t.cq.written ≡ s.cq.written ++ w ∷ [] → Plain w → Idle s t
idle_one s t w rx cq plain = record { rx = rx; more = w ∷ []; written = cq; plain = (plain, always) }

success_plain : (o : Operation) (bytes : List ℕ) → Plain (record { call = Some o.call; entry = Success (success_of o bytes) })
unfolding success_of
success_plain o bytes = go o.head.kind (is_answered o.head)
  where
    go : (k : Kind) (b : Bool) → Plain (record {
      call = Some o.call;
      entry = Success (elim k [
        | ReadReq ↦ Entry.Read (unwrap_or o.ctx 0) bytes
        | WriteReq ↦ Wrote (unwrap_or o.ctx 0) (unwrap_or o.buf [])
        | AtomicReq ↦ elim b [ true ↦ Fetched (unwrap_or o.ctx 0) bytes | false ↦ Updated (unwrap_or o.ctx 0) ]
        | _ ↦ Sent (unwrap_or o.ctx 0) (is_tagged o.head.kind) (unwrap_or o.buf [])
      ]);
    })
    go Msg b = (refl, refl)
    go TagMsg b = (refl, refl)
    go WriteReq b = (refl, refl)
    go ReadReq b = (refl, refl)
    go AtomicReq true = (refl, refl)
    go AtomicReq false = (refl, refl)
    go Reply b = (refl, refl)

end_idle : (outcome : Outcome) (bytes : List ℕ) (o : Operation) (s : State) → Idle s (end_with outcome bytes o s)
unfolding end_with
end_idle Done bytes o s = go o.silent
  where
    go : (b : Bool) → Idle s (let u : State = elim b [
      | true ↦ count (class_of o.head) true s
      | false ↦ write (Some o.call) (Success (success_of o bytes)) (count (class_of o.head) true s)
    ] in u)
    go true = idle_same s (count (class_of o.head) true s) refl refl
    go false = idle_one s (write (Some o.call) (Success (success_of o bytes)) (count (class_of o.head) true s)) (record { call = Some o.call; entry = Success (success_of o bytes) }) refl refl (success_plain o bytes)
end_idle BadKey bytes o s = idle_one s _ _ refl refl (refl, refl)
end_idle BadAccess bytes o s = idle_one s _ _ refl refl (refl, refl)
end_idle BadRange bytes o s = idle_one s _ _ refl refl (refl, refl)

sent_idle : (s : State) (t : ℕ) → Idle s (do_sent s t)
unfolding do_sent
sent_idle s t = go (ending t s.tx)
  where
    go : (o : Option Operation) → Idle s (let u : State = elim o [ None ↦ with_tx (transmitting t s.tx) s | Some o ↦ end_with Done [] o (with_tx (going_on t (transmitting t s.tx)) s) ] in u)
    go None = idle_same s (with_tx (transmitting t s.tx) s) refl refl
    go (Some o) =
        let u : State = with_tx (going_on t (transmitting t s.tx)) s in
        idle_then s u (end_with Done [] o u) (idle_same s u refl refl) (end_idle Done [] o u)

answer_idle : (s : State) (source : ℕ) (head : ItemHead) (bytes : List ℕ) → Idle s (do_answer s source head bytes)
unfolding do_answer
answer_idle s source head bytes = go (find (is_answered_by s.tx source head) s.tx.live)
  where
    go : (o : Option Operation) → Idle s (let u : State = elim o [ None ↦ s | Some o ↦ end_with head.outcome bytes o (with_tx (going_on source (answering source head s.tx)) s) ] in u)
    go None = idle_same s s refl refl
    go (Some o) =
        let u : State = with_tx (going_on source (answering source head s.tx)) s in
        idle_then s u (end_with head.outcome bytes o u) (idle_same s u refl refl) (end_idle head.outcome bytes o u)

event_idle : (w : Outcome) (head : ItemHead) (s : State) → Idle s (remote_event w head s)
event_idle w head s = idle_same s (remote_event w head s) (grind rules) (grind rules)

imm_idle : (source : ℕ) (o : Option ℕ) (s : State) → Idle s (let u : State = elim o [ None ↦ s | Some imm ↦ write None (Success (RemoteData source imm)) s ] in u)
imm_idle source None s = idle_same s s refl refl
imm_idle source (Some imm) s = idle_one s (write None (Success (RemoteData source imm)) s) (record { call = None; entry = Success (RemoteData source imm) }) refl refl (refl, refl)

kind_idle : (source : ℕ) (head : ItemHead) (kind : Kind) (s : State) → Idle s (let u : State = elim kind [
  | WriteReq ↦ elim head.imm [ None ↦ s | Some imm ↦ write None (Success (RemoteData source imm)) s ]
  | _ ↦ s
] in u)
kind_idle source head WriteReq s = imm_idle source head.imm s
kind_idle source head Msg s = idle_same s s refl refl
kind_idle source head TagMsg s = idle_same s s refl refl
kind_idle source head ReadReq s = idle_same s s refl refl
kind_idle source head AtomicReq s = idle_same s s refl refl
kind_idle source head Reply s = idle_same s s refl refl

data_idle : (w : Outcome) (source : ℕ) (head : ItemHead) (s : State) → Idle s (remote_data w source head s)
data_idle Done source head s = kind_idle source head head.kind s
data_idle BadKey source head s = idle_same s s refl refl
data_idle BadAccess source head s = idle_same s s refl refl
data_idle BadRange source head s = idle_same s s refl refl

request_idle : (s : State) (source : ℕ) (head : ItemHead) (bytes : List ℕ) → Idle s (do_request s source head bytes)
unfolding do_request reply
request_idle s source head bytes =
    let x = perform s.regions head bytes in
    let u : State = reply source head.op x.outcome x.bytes (with_regions x.regions s) in
    let w : State = remote_event x.outcome head u in
    idle_then s u (remote_data x.outcome source head w) (idle_same s u refl refl) (idle_then u w (remote_data x.outcome source head w) (event_idle x.outcome head u) (data_idle x.outcome source head w))

-- ---- what becomes of a message

pub given_to : (r : Receive) (place : ℕ) (a : Arrival) (s : State) → ((give r place a s).rx ≡ given r place a s.rx) × ((give r place a s).cq.written ≡ s.cq.written ++ entries_for r place a)
unfolding give fill
given_to r place a s = go a.bytes
  where
    go : (o : Option (List ℕ)) → (let u : State = elim o [
      | None ↦ with_rx (goes a.source (Into r place) s.rx) s
      | Some bytes ↦ book (at_match a.head.ack) a.source a.head (fill r place a.source a.head bytes s)
    ] in (u.rx ≡ elim o [ None ↦ goes a.source (Into r place) s.rx | Some bytes ↦ filling r place bytes s.rx ]) × (u.cq.written ≡ s.cq.written ++ elim o [ None ↦ [] | Some bytes ↦ entry_for r place a.source a.head bytes ∷ [] ]))
    go None = (refl, sym (append-nil s.cq.written))
    go (Some bytes) = let b = book_cq (at_match a.head.ack) a.source a.head (fill r place a.source a.head bytes s) in (b.1, ap (λ (q : Completions). q.written) b.0)

thrown_to : (a : Arrival) (s : State) → ((drop_arrival a s).rx ≡ thrown a s.rx) × ((drop_arrival a s).cq.written ≡ s.cq.written) × ((drop_arrival a s).calls ≡ s.calls)
unfolding drop_arrival
thrown_to a s = go a.bytes
  where
    go : (o : Option (List ℕ)) → (let u : State = elim o [
      | None ↦ with_rx (goes a.source Throw s.rx) s
      | Some bytes ↦ book (at_match a.head.ack) a.source a.head s
    ] in (u.rx ≡ elim o [ None ↦ goes a.source Throw s.rx | Some bytes ↦ s.rx ]) × (u.cq.written ≡ s.cq.written) × (u.calls ≡ s.calls))
    go None = (refl, refl, refl)
    go (Some bytes) = let b = book_cq (at_match a.head.ack) a.source a.head s in (b.1, ap (λ (q : Completions). q.written) b.0, (book_quiet (at_match a.head.ack) a.source a.head s).calls)

-- u is s, but for the multi-receive that is let go
abbrev LetsOut : State → State → Option Receive → Type 0
LetsOut s u o = (u.rx ≡ let_out o s.rx) × (u.cq.written ≡ s.cq.written ++ freed o)

released_to : (r : Receive) (s : State) → ((release r s).rx ≡ let_out (leaving r s.rx) s.rx) × ((release r s).cq.written ≡ s.cq.written ++ freed (leaving r s.rx))
unfolding release_multi
released_to r s = by_least r.least
  where
    stays : LetsOut s s None
    stays = (refl, sym (append-nil s.cq.written))

    by_way : (m : Receive) (b : Bool) → (let u : State = elim b [ true ↦ s | false ↦ let_go m s ] in LetsOut s u (elim b [ true ↦ None | false ↦ Some m ]))
    by_way m true = stays
    by_way m false = (refl, refl)

    by_find : (o : Option Receive) → (let u : State = elim o [ None ↦ s | Some m ↦ elim (under_way s.rx r.call) [ true ↦ s | false ↦ let_go m s ] ] in LetsOut s u (elim o [ None ↦ None | Some m ↦ elim (under_way s.rx r.call) [ true ↦ None | false ↦ Some m ] ]))
    by_find None = stays
    by_find (Some m) = by_way m (under_way s.rx r.call)

    by_least : (o : Option ℕ) → (let u : State = elim o [ None ↦ s | Some _ ↦ release_multi r.call s ] in LetsOut s u (elim o [
      | None ↦ None
      | Some _ ↦ elim (find (is_made_by r.call) s.rx.closing) [ None ↦ None | Some m ↦ elim (under_way s.rx r.call) [ true ↦ None | false ↦ Some m ] ]
    ]))
    by_least None = stays
    by_least (Some n) = by_find (find (is_made_by r.call) s.rx.closing)

-- ---- calls

module _ (v : View Item) (s : State) where
  judged : (call : Option Call) (fault : Option Fault) (after : State) → Act v s (Makes call) after → Act v s (Makes call) (answer fault s after).1
  judged call None after does = does
  judged call (Some f) after does = Rests refl (idle_same s s refl refl)

  aside : (call : Option Call) (t : State) → t.rx ≡ s.rx → t.cq ≡ s.cq → Act v s (Makes call) t
  aside call t rx cq = Rests refl (idle_same s t rx (ap (λ (q : Completions). q.written) cq))

  transmits : (call : Option Call) (order : Order) → Act v s (Makes call) (transmit s order)
  unfolding transmit transmit_to
  transmits call order = go (lookup s.av order.dest)
    where
      go : (o : Option ℕ) → Act v s (Makes call) (let u : State = elim o [ None ↦ s | Some t ↦ transmit_to t s order ] in u)
      go None = aside call s refl refl
      go (Some t) = aside call (transmit_to t s order) refl refl

  gets : (p : Posting) (a : Arrival) → p.least ≡ None → find (takes (receive_of s p).want) s.rx.unexpected ≡ Some a → Act v s (Makes (Some (Post p))) (give (receive_of s p) 0 a (called (with_rx (without_first (receive_of s p).want s.rx) s)))
  gets p a none e =
      let u : State = called (with_rx (without_first (receive_of s p).want s.rx) s) in
      let g = given_to (receive_of s p) 0 a u in
      Gets p a refl ((Watch.gives (receive_of s p) 0 a u).quiet.calls) none e g.0 g.1

  posts : (p : Posting) → Act v s (Makes (Some (Post p))) (post s p)
  unfolding post
  posts p = go (taken_by (receive_of s p) s) refl
    where
      found : (least : Option ℕ) (a : Arrival) → (let o : Option Arrival = elim least [ Some _ ↦ None | None ↦ find (takes (receive_of s p).want) s.rx.unexpected ] in o) ≡ Some a → (least ≡ None) × (find (takes (receive_of s p).want) s.rx.unexpected ≡ Some a)
      found None a e = (refl, e)
      found (Some n) a e = absurd (cc (e))

      go : (o : Option Arrival) → taken_by (receive_of s p) s ≡ o → Act v s (Makes (Some (Post p))) (let u : State = elim o [
        | None ↦ called (with_rx (joining_posted (receive_of s p) s.rx) s)
        | Some a ↦ give (receive_of s p) 0 a (called (with_rx (without_first (receive_of s p).want s.rx) s))
      ] in u)
      go None e = Posts p refl refl refl refl
      go (Some a) e = let f = found p.least a e in gets p a f.0 f.1

  module _ (source : Option ℕ) (tag ignore ctx : ℕ) where
    abbrev want : Want
    want = want_of s true source tag ignore

    looks_at : (how : PeekHow) (a : Arrival) → find (takes want) s.rx.unexpected ≡ Some a → (let u : State = write (Some s.calls) (Success (peeked how ctx a)) (called s) in Act v s (Makes (Some (Look how source tag ignore ctx))) (look_at how want ctx a u))
    looks_at Peek a e = Rests refl (idle_one s (write (Some s.calls) (Success (peeked Peek ctx a)) (called s)) (record { call = Some s.calls; entry = Success (peeked Peek ctx a) }) refl refl (refl, refl))
    looks_at Claim a e = Claims source tag ignore ctx a (record { call = Some s.calls; entry = Success (peeked Claim ctx a) }) refl refl e refl refl (refl, refl)
    looks_at Discard a e =
        let u : State = write (Some s.calls) (Success (peeked Discard ctx a)) (called s) in
        let d = thrown_to a (with_rx (without_first want u.rx) u) in
        Discards source tag ignore ctx a (record { call = Some s.calls; entry = Success (peeked Discard ctx a) }) refl d.2 e d.0 d.1 (refl, refl)

    looks : (how : PeekHow) → Act v s (Makes (Some (Look how source tag ignore ctx))) (look how want ctx s)
    unfolding look
    looks how = go (find (takes want) s.rx.unexpected) refl
      where
        go : (o : Option Arrival) → find (takes want) s.rx.unexpected ≡ o → Act v s (Makes (Some (Look how source tag ignore ctx))) (let u : State = elim o [
          | None ↦ write (Some s.calls) (error (Some ctx) NoMsg None) (called s)
          | Some a ↦ look_at how want ctx a (write (Some s.calls) (Success (peeked how ctx a)) (called s))
        ] in u)
        go None e = Rests refl (idle_one s (write (Some s.calls) (error (Some ctx) NoMsg None) (called s)) (record { call = Some s.calls; entry = error (Some ctx) NoMsg None }) refl refl (refl, refl))
        go (Some a) e = looks_at how a e

  takes_it : (buf : List ℕ) (ctx : ℕ) → Act v s (Makes (Some (TakeClaimed buf ctx))) (take_claimed s buf ctx)
  unfolding take_claimed
  takes_it buf ctx = go (claim_of ctx s) refl
    where
      go : (o : Option Arrival) → claim_of ctx s ≡ o → Act v s (Makes (Some (TakeClaimed buf ctx))) (let u : State = elim o [ None ↦ s | Some a ↦ give (taking s buf ctx) 0 a (called (with_rx (without_claim ctx s.rx) s)) ] in u)
      go None e = aside (Some (TakeClaimed buf ctx)) s refl refl
      go (Some a) e =
          let u : State = called (with_rx (without_claim ctx s.rx) s) in
          let g = given_to (taking s buf ctx) 0 a u in
          Takes buf ctx a refl ((Watch.gives (taking s buf ctx) 0 a u).quiet.calls) e g.0 g.1

  drops_it : (ctx : ℕ) → Act v s (Makes (Some (DropClaimed ctx))) (drop_claimed s ctx)
  unfolding drop_claimed
  drops_it ctx = go (claim_of ctx s) refl
    where
      go : (o : Option Arrival) → claim_of ctx s ≡ o → Act v s (Makes (Some (DropClaimed ctx))) (let u : State = elim o [
        | None ↦ s
        | Some a ↦ drop_arrival a (write (Some s.calls) (Success (peeked Discard ctx a)) (called (with_rx (without_claim ctx s.rx) s)))
      ] in u)
      go None e = aside (Some (DropClaimed ctx)) s refl refl
      go (Some a) e =
          let u : State = write (Some s.calls) (Success (peeked Discard ctx a)) (called (with_rx (without_claim ctx s.rx) s)) in
          let d = thrown_to a u in
          Drops ctx a (record { call = Some s.calls; entry = Success (peeked Discard ctx a) }) refl d.2 e d.0 d.1 (refl, refl)

  cancels : (c : Call) (test : Receive → Bool) → (c ≡ CancelFirst) ⊎ ((ctx : ℕ) × (c ≡ Cancel ctx)) → Act v s (Makes (Some c)) (cancel s test)
  unfolding cancel
  cancels c test is = go (cancellable test s.rx) refl
    where
      go : (o : Option Receive) → cancellable test s.rx ≡ o → Act v s (Makes (Some c)) (let u : State = elim o [
        | None ↦ s
        | Some r ↦ write (Some r.call) (error (Some r.ctx) Canceled (Some r.buf)) (count Recv false (called (with_rx (without_posted test s.rx) s)))
      ] in u)
      go None e = aside (Some c) s refl refl
      go (Some r) e = Cancels c test r refl is refl e refl refl

  call_act : (c : Call) → Act v s (Makes (Some c)) (do_call s c).1
  unfolding do_call insert remove reg close put
  call_act (Transmit order) = judged _ _ _ (transmits (Some (Transmit order)) order)
  call_act (Post p) = judged _ _ _ (posts p)
  call_act (Look how source tag ignore ctx) = judged _ _ _ (looks source tag ignore ctx how)
  call_act (TakeClaimed buf ctx) = judged _ _ _ (takes_it buf ctx)
  call_act (DropClaimed ctx) = judged _ _ _ (drops_it ctx)
  call_act (Cancel ctx) = judged _ _ _ (cancels (Cancel ctx) (λ r. r.ctx == ctx) (inr (ctx, refl)))
  call_act CancelFirst = judged _ _ _ (cancels CancelFirst (λ r. true) (inl refl))
  call_act (Insert name) = aside _ _ (grind rules) (grind rules)
  call_act (Remove index) = aside _ _ (grind rules) (grind rules)
  call_act (Reg key access bytes) = aside _ _ (grind rules) (grind rules)
  call_act (Close key) = aside _ _ (grind rules) (grind rules)
  call_act (Put key at bytes) = aside _ _ (grind rules) (grind rules)
  call_act (Show key) = aside _ s refl refl
  call_act (Count class) = aside _ s refl refl

  -- ---- arrivals

  module _ (source : ℕ) (item : Item) (arrives : Arrives v s source item) where
    comes : is_message item.head.kind ≡ true → (o : Option Receive) → taker source item.head s.rx ≡ o → Act v s (Head source) (let u : State = with_rx (record {
      posted = elim o [ None ↦ s.rx.posted | Some r ↦ seated (is_wanted source item.head) item.head.total r s.rx.posted ];
      closing = elim o [ None ↦ s.rx.closing | Some r ↦ s.rx.closing ++ shut item.head.total r ];
      coming = set s.rx.coming source (Some (elim o [ None ↦ Keep | Some r ↦ Into r r.used ]));
      unexpected = elim o [ None ↦ s.rx.unexpected ++ newcomer source (slice_index s.rx.heads source) item.head ∷ [] | Some _ ↦ s.rx.unexpected ];
      claimed = s.rx.claimed;
      heads = raise s.rx.heads source;
      tails = s.rx.tails;
    }) s in u)
    comes message None e = Waits source item refl arrives message e refl refl
    comes message (Some r) e = Seats source item r refl arrives message e refl refl

    other : (k : Kind) → is_message k ≡ false → is_into (Some (way_of k)) ≡ false
    other Reply e = refl
    other Msg e = refl
    other TagMsg e = refl
    other WriteReq e = refl
    other ReadReq e = refl
    other AtomicReq e = refl

    heads : Act v s (Head source) (do_head s source item.head)
    unfolding do_head heading_message heading_other
    heads = go (is_message item.head.kind) refl
      where
        go : (b : Bool) → is_message item.head.kind ≡ b → Act v s (Head source) (let u : State = elim b [ true ↦ with_rx (heading_message source item.head s.rx) s | false ↦ with_rx (heading_other source item.head.kind s.rx) s ] in u)
        go true is = comes is (taker source item.head s.rx) refl
        go false is = Passes source item (way_of item.head.kind) refl arrives is (other item.head.kind is) refl refl

  drawn : (r : Receive) → find (draws s.rx.unexpected) s.rx.posted ≡ Some r → (o : Option Arrival) → find (takes r.want) s.rx.unexpected ≡ o → Act v s Draw (let u : State = elim o [
    | None ↦ s
    | Some a ↦ release r (give r r.used a (with_rx (without_first r.want (seating a.head.total r s.rx.unexpected s.rx)) s))
  ] in u)
  drawn r e None f = Rests refl (idle_same s s refl refl)
  drawn r e (Some a) f =
      let before : State = with_rx (without_first r.want (seating a.head.total r s.rx.unexpected s.rx)) s in
      let g = given_to r r.used a before in
      let mid : State = give r r.used a before in
      let d = released_to r mid in
      Draws r a refl e f mid.rx g.0 d.0 (d.1 ∙ ap (λ ws. ws ++ freed (leaving r mid.rx)) g.1)

  draws_one : Act v s Draw (do_draw s)
  unfolding do_draw
  draws_one = go (find (draws s.rx.unexpected) s.rx.posted) refl
    where
      go : (o : Option Receive) → find (draws s.rx.unexpected) s.rx.posted ≡ o → Act v s Draw (let u : State = elim o [
        | None ↦ s
        | Some r ↦ elim (find (takes r.want) s.rx.unexpected) [
          | None ↦ s
          | Some a ↦ release r (give r r.used a (with_rx (without_first r.want (seating a.head.total r s.rx.unexpected s.rx)) s))
        ]
      ] in u)
      go None e = Rests refl (idle_same s s refl refl)
      go (Some r) e = drawn r e (find (takes r.want) s.rx.unexpected) refl

  -- ---- items that are whole

  module _ (source : ℕ) (item : Item) (ends : Ends v s source item) where
    abbrev after : State
    after = with_rx (made_whole source s.rx) s

    whole_is : (made_whole source s.rx ≡ whole source s.rx)
    unfolding made_whole
    whole_is = refl

    closes : (c : Option Coming) → coming_from s.rx source ≡ c → is_into c ≡ false → c ≢ Some Keep → (t : State) → Idle after t → Act v s (Tail source) t
    closes c e no_into no_keep t idle = Closes source item idle.more refl ends (ap is_into e ∙ no_into) (λ f. no_keep (sym e ∙ f)) (idle.rx ∙ whole_is) idle.written idle.plain

    booked : (b : Bool) (u : State) → Idle u (book b source item.head u)
    booked b u = let e = book_cq b source item.head u in idle_same u (book b source item.head u) e.1 (ap (λ (q : Completions). q.written) e.0)

    fills : (r : Receive) (place : ℕ) → coming_from s.rx source ≡ Some (Into r place) → Act v s (Tail source) (let u : State = release r (book (at_either item.head.ack) source item.head (fill r place source item.head item.bytes after)) in u)
    unfolding fill
    fills r place e =
        let f : State = fill r place source item.head item.bytes after in
        let b : State = book (at_either item.head.ack) source item.head f in
        let i = booked (at_either item.head.ack) f in
        let d = released_to r b in
        let cq = book_cq (at_either item.head.ack) source item.head f in
        Fills source item r place refl ends e b.rx (i.rx ∙ ap (filling r place item.bytes) whole_is) d.0 (d.1 ∙ ap (λ ws. ws ++ freed (leaving r b.rx)) (ap (λ (q : Completions). q.written) cq.0))

    joins : coming_from s.rx source ≡ Some Keep → Act v s (Tail source) (let u : State = book (at_delivery item.head.ack) source item.head (with_rx (keeping source item.bytes after.rx) after) in u)
    joins e =
        let k : State = with_rx (keeping source item.bytes after.rx) after in
        let cq = book_cq (at_delivery item.head.ack) source item.head k in
        Joins source item refl ends e (cq.1 ∙ ap (keeping source item.bytes) whole_is) (ap (λ (q : Completions). q.written) cq.0)

    tails : Act v s (Tail source) (do_tail s source item.head item.bytes)
    unfolding do_tail tail_to
    tails = go (coming_from s.rx source) refl
      where
        go : (c : Option Coming) → coming_from s.rx source ≡ c → Act v s (Tail source) (tail_to c (with_rx (made_whole source s.rx) s) source item.head item.bytes)
        go None e = closes None e refl (λ f. absurd (cc (f))) after (idle_same after after refl refl)
        go (Some (Into r place)) e = fills r place e
        go (Some Keep) e = joins e
        go (Some Throw) e = closes (Some Throw) e refl (λ f. absurd (cc (f))) _ (booked (at_either item.head.ack) after)
        go (Some Request) e = closes (Some Request) e refl (λ f. absurd (cc (f))) _ (request_idle after source item.head item.bytes)
        go (Some Answer) e = closes (Some Answer) e refl (λ f. absurd (cc (f))) _ (answer_idle after source item.head item.bytes)

-- ---- each deed

by_step : (v : View Item) (a b : Peer) (x : Deed) → StepIs v a x b → Act v a.state x b.state
by_step v a b (Makes call) (inl (none, is)) = subst (Act v a.state (Makes call)) (sym is) (aside v a.state call a.state refl refl)
by_step v a b (Makes call) (inr (c, asks, is)) = subst (Act v a.state (Makes call)) (sym is) (subst (λ (o : Option Call). Act v a.state (Makes o) (do_call a.state c).1) (sym asks) (call_act v a.state c))
by_step v a b (Counts counters) is = subst (Act v a.state (Counts counters)) (sym is) (Rests refl (idle_same a.state (with_counters counters a.state) refl refl))
by_step v a b (Head source) (item, has, level, none, is) = subst (Act v a.state (Head source)) (sym is) (heads v a.state source item (record { at = has; level = level; none_due = none }))
by_step v a b (Tail source) (item, has, odd, sent, is) = subst (Act v a.state (Tail source)) (sym is) (tails v a.state source item (record { at = has; odd = odd }))
by_step v a b (Deed.Sent t) (less, is) = subst (Act v a.state (Deed.Sent t)) (sym is) (Rests refl (sent_idle a.state t))
by_step v a b Draw (due, is) = subst (Act v a.state Draw) (sym is) (draws_one v a.state)
by_step v a b Deed.Read is = subst (Act v a.state Deed.Read) (sym is) (Rests refl (idle_same a.state (reading a.state) refl refl))

pub act : (v : View Item) (a b : Peer) (x : Deed) → program.step v a x ≡ Some b → Act v a.state x b.state
act v a b x e = by_step v a b x (step_is v a b x e)
