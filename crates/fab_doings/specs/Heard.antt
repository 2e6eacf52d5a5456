-- What a thread heard of another, by the own parts of their records.
--     IsSimple x             the doing is an Ok send or receive, or an entry read
--     postings, orders_to    the receives that a part asks for, and what it sends to a peer, in order
--     answers p posts os     the entries of these receives, each with what was sent at its own place
--     Chooses ..             the receives under contexts that pass a test want just this, and no other matches what they do
--     HeardInTurn            the law
--     heard, said            the bytes of the messages that a part received, and of those that it sent, in order
--     HeardIsSaid            the law in bytes
use Rattle.std.specs.Prelude.{◌≡◌, ◌≤◌, ℕ, Bool, true, false, ◌==◌, List, [], ◌∷◌, ◌++◌, filter, length, map, take, Some, None, slice_get}
use Rattle.std.specs.List.{flat_map}
use Rattle.fab_base.specs.declared.entries.Taken.{Taken}
use Rattle.fab_base.specs.declared.entries.Taken.TheVariants.{Success, Failure}
use Rattle.fab_base.specs.declared.entries.Entry.TheVariants.{Received}
use Rattle.fab_base.specs.declared.entries.ErrKind.TheVariants.{Truncated}
use Rattle.fab_base.specs.declared.items.ItemHead.{ItemHead}
use Rattle.fab_base.specs.declared.items.Want.{Want}
use Rattle.fab_base.specs.declared.operations.Receive.{Receive}
use Rattle.fab_base.specs.declared.peers.LineResult.TheVariants.{Done}
use Rattle.fab_model.specs.Calls.{Call, Transmit, Post}
use Rattle.fab_model.specs.Complete.{entry_of}
use Rattle.fab_model.specs.Matching.{matches}
use Rattle.fab_model.specs.Receiving.{Posting, want_of}
use Rattle.fab_model.specs.Sending.{Order, head_of}
use Rattle.fab_model.specs.State.{State, lookup}
use Rattle.fab_model.specs.Views.{IsPrefixOf}
use Rattle.fab_laws.specs.Members.{In, Never}
use Rattle.fab_laws.specs.Programs.{Opening}
use Rattle.fab_merging.specs.Pasts.{begun}
use Rattle.fab_doings.specs.Doings.{Calls, Did, Doing, Drew, Had, Living, Posted, Took, Writes, entries_of, own_of}
use Rattle.fab_doings.specs.Law.{IsRun, Kept, Past}

-- ---- one doing

abbrev pub is_simple : Call → Bool
is_simple (Transmit order) = true
is_simple (Post posting) = true
is_simple call = false

abbrev pub IsSimple : Doing → Type 0
IsSimple (Did (Calls call answer)) = (is_simple call ≡ true) × (answer ≡ Done)
IsSimple (Did (Writes counters)) = Never
IsSimple (Took source f) = Never
IsSimple (Posted dest f) = Never
IsSimple Drew = Never
IsSimple (Had entry) = entry ≡ entry

abbrev pub posting_by : Call → List Posting
posting_by (Post posting) = posting ∷ []
posting_by call = []

abbrev pub order_by : State → ℕ → Call → List Order
order_by s d (Transmit order) = elim (lookup s.av order.dest) [ None ↦ [] | Some t ↦ elim (t == d) [ true ↦ order ∷ [] | false ↦ [] ] ]
order_by s d call = []

abbrev pub calls_by : Doing → List Call
calls_by (Did (Calls call answer)) = call ∷ []
calls_by (Did (Writes counters)) = []
calls_by (Took source f) = []
calls_by (Posted dest f) = []
calls_by Drew = []
calls_by (Had entry) = []

-- ---- a thread's own part

abbrev pub postings : List Doing → List Posting
postings own = flat_map posting_by (flat_map calls_by own)

-- where an endpoint that opens in s sends to peer d
abbrev pub orders_to : State → ℕ → List Doing → List Order
orders_to s d own = flat_map (order_by s d) (flat_map calls_by own)

-- ---- entries

abbrev pub want_at : State → Posting → Want
want_at s q = want_of s q.tagged q.source q.tag q.ignore

-- the receive, whatever its number and its want
abbrev pub as_receive : Posting → Receive
as_receive q = record { call = 0; want = record { tagged = q.tagged; tag = q.tag; ignore = q.ignore; source = None }; buf = q.buf; ctx = q.ctx; least = None; used = 0 }

abbrev pub answers : ℕ → List Posting → List Order → List Taken
answers p [] orders = []
answers p (q ∷ posts) [] = []
answers p (q ∷ posts) (o ∷ orders) = entry_of (as_receive q) 0 p (head_of 0 o) (o.bytes ++ o.compared) ∷ answers p posts orders

-- it tells a message that came under such a context, whole or cut off
abbrev pub counts : (ℕ → Bool) → Taken → Bool
counts mine taken = elim taken [
  | Success entry ↦ elim entry [ Received ctx source tag imm len buf ↦ mine ctx | _ ↦ false ]
  | Failure e ↦ elim e.kind [ Truncated ↦ elim e.ctx [ None ↦ false | Some ctx ↦ mine ctx ] | _ ↦ false ]
]

pub record Chooses (s : State) (p : ℕ) (want : Want) (mine : ℕ → Bool) (own : List Doing) : Type 0 where
  pub directed : want.source ≡ Some p
  pub single : (q : Posting) → In q (postings own) → q.least ≡ None
  pub wants : (q : Posting) → In q (postings own) → mine q.ctx ≡ true → want_at s q ≡ want
  pub apart : (q : Posting) (t : ℕ) (head : ItemHead) → In q (postings own) → mine q.ctx ≡ false → matches want t head ≡ true → matches (want_at s q) t head ≡ false

-- the sender's messages that the want matches
abbrev pub wanted : Want → ℕ → Order → Bool
wanted want p o = matches want p (head_of 0 o)

abbrev pub HeardInTurn : Type 0
HeardInTurn = (from : Opening) (opening : List Living) (pasts : List Past) → IsRun from opening pasts → (p q : ℕ) (o r : Living) (x y : Past) → slice_get opening p ≡ Some o → slice_get pasts p ≡ Some x → slice_get opening q ≡ Some r → slice_get pasts q ≡ Some y
    → Kept (begun o) x → Kept (begun r) y → ((z : Doing) → In z (own_of x.steps) → IsSimple z) → ((z : Doing) → In z (own_of y.steps) → IsSimple z)
    → (want : Want) (mine : ℕ → Bool) → Chooses r.held.state p want mine (own_of y.steps)
    → IsPrefixOf (filter (counts mine) (entries_of (own_of y.steps))) (answers p (filter (λ (s : Posting). mine s.ctx) (postings (own_of y.steps))) (filter (wanted want p) (orders_to o.held.state q (own_of x.steps))))

-- ---- in bytes

-- the message that an entry hands over, where it came under such a context
abbrev pub message_in : (ℕ → Bool) → Taken → List (List ℕ)
message_in mine (Success entry) = elim entry [ Received ctx source tag imm len buf ↦ elim (mine ctx) [ true ↦ take len buf ∷ [] | false ↦ [] ] | _ ↦ [] ]
message_in mine (Failure e) = []

abbrev pub heard : (ℕ → Bool) → List Doing → List (List ℕ)
heard mine own = flat_map (message_in mine) (entries_of own)

abbrev pub bytes_of : Order → List ℕ
bytes_of o = o.bytes ++ o.compared

-- what a part says to peer d, of an endpoint that opens in s, as far as the want of a receive of p's messages matches it
abbrev pub said : State → ℕ → Want → ℕ → List Doing → List (List ℕ)
said s p want d own = map bytes_of (filter (wanted want p) (orders_to s d own))

-- each such message has room in each such receive
abbrev pub AllFit : (ℕ → Bool) → List (List ℕ) → List Doing → Type 0
AllFit mine messages own = (q : Posting) (message : List ℕ) → In q (postings own) → mine q.ctx ≡ true → In message messages → length message ≤ length q.buf

abbrev pub HeardIsSaid : Type 0
HeardIsSaid = (from : Opening) (opening : List Living) (pasts : List Past) → IsRun from opening pasts → (p q : ℕ) (o r : Living) (x y : Past) → slice_get opening p ≡ Some o → slice_get pasts p ≡ Some x → slice_get opening q ≡ Some r → slice_get pasts q ≡ Some y
    → Kept (begun o) x → Kept (begun r) y → ((z : Doing) → In z (own_of x.steps) → IsSimple z) → ((z : Doing) → In z (own_of y.steps) → IsSimple z)
    → (want : Want) (mine : ℕ → Bool) → Chooses r.held.state p want mine (own_of y.steps) → AllFit mine (said o.held.state p want q (own_of x.steps)) (own_of y.steps)
    → IsPrefixOf (heard mine (own_of y.steps)) (said o.held.state p want q (own_of x.steps))
