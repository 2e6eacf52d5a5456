-- What the receive half makes of a few messages, worked out by the definitions alone: of each of them a wrong body would give another value.
use Rattle.std.proofs.Common.{◌≡◌, ℕ, List, [], ◌∷◌, Some, None, false, refl}
use Rattle.fab_base.specs.declared.items.Ack.TheVariants.{Nothing}
use Rattle.fab_base.specs.declared.items.Kind.TheVariants.{Msg}
use Rattle.fab_base.specs.declared.items.Outcome.TheVariants.{Done}
use Rattle.fab_base.specs.declared.items.Item.{Item}
use Rattle.fab_base.specs.declared.items.ItemHead.{ItemHead}
use Rattle.fab_base.specs.declared.entries.Taken.TheVariants.{Success}
use Rattle.fab_base.specs.declared.entries.Entry.TheVariants.{Received}
use Rattle.fab_base.specs.declared.operations.Coming.TheVariants.{Keep}
use Rattle.fab_base.specs.declared.operations.Receive.{Receive}
use Rattle.fab_model.specs.Machine.{machine}
use Rattle.fab_rx.specs.declared.results.Finished.TheVariants.{Kept}
use Rattle.fab_rx.specs.Arriving.{Arriving, arriving, finishing, growing, multi_by, nothing_arrived, opening, posting, receive_by}
use Rattle.fab_rx.specs.Leaving.{cancelling}
use Rattle.fab_rx.specs.Results.{completed, ended, last_of}

-- a message of two bytes
abbrev head : ItemHead
head = record { kind = Msg; op = 0; tag = 0; imm = None; ack = Nothing; key = 0; at = 0; count = 0; atom = None; outcome = Done; total = 2 }

abbrev item : Item
item = record { head = head; bytes = 1 ∷ 2 ∷ [] }

-- a receive of any message, by its call and its context, into this buffer
abbrev receive : ℕ → ℕ → List ℕ → Receive
receive call ctx buf = receive_by (Some call) (record { tagged = false; tag = 0; ignore = 0; source = None }) buf ctx

-- its bytes stand in the buffer from its start on, in their order
whole : (completed (receive 0 7 (9 ∷ 9 ∷ 9 ∷ [])) 0 1 head item.bytes).entry ≡ Success (Received 7 1 None None 2 (1 ∷ 2 ∷ 9 ∷ []))
unfolding machine
whole = refl

-- a buffer that is too short
short : (completed (receive 0 7 (9 ∷ [])) 0 1 head item.bytes).good ≡ false
unfolding machine
short = refl

-- a message that no receive took is kept
kept : ended (Some Keep) 1 item ≡ Kept head
kept = refl

-- receives of the contexts 7 and 8
abbrev two : Arriving
two = posting (receive 1 8 []) (posting (receive 0 7 []) (nothing_arrived 2 2))

-- the first takes a message, and is posted no more
taken : (arriving 1 head two).rx.posted ≡ receive 1 8 [] ∷ []
unfolding machine
taken = refl

-- the one of the context that is named is cancelled
cancelled : (cancelling (Some 8) two).rx.posted ≡ receive 0 7 [] ∷ []
unfolding machine
cancelled = refl

-- ---- multi-receives

-- one of four bytes, which stays posted while so many are free
abbrev many : ℕ → Arriving
many least = opening 0 (multi_by (Some 0) (record { tagged = false; tag = 0; ignore = 0; source = None }) (9 ∷ 9 ∷ 9 ∷ 9 ∷ []) least 7) (nothing_arrived 2 2)

-- the same receive with these bytes in its buffer, the first two of which are given away
abbrev given : ℕ → List ℕ → Receive
given least buf = record { call = 0; want = record { tagged = false; tag = 0; ignore = 0; source = None }; buf = buf; ctx = 7; least = Some least; used = 2 }

-- it stays posted while a message is under way to it, and has its bytes once it is whole
stays_posted : (arriving 1 head (many 2)).rx.posted ≡ given 2 (9 ∷ 9 ∷ 9 ∷ 9 ∷ []) ∷ []
unfolding machine
stays_posted = refl

has_bytes : (finishing 1 (growing 1 item.bytes (arriving 1 head (many 2)))).rx.posted ≡ given 2 (1 ∷ 2 ∷ 9 ∷ 9 ∷ []) ∷ []
unfolding machine
has_bytes = refl

-- where too little is left it closes, and comes back with the message that closed it
closes : (arriving 1 head (many 3)).rx.closing ≡ given 3 (9 ∷ 9 ∷ 9 ∷ 9 ∷ []) ∷ []
unfolding machine
closes = refl

comes_back : last_of 1 (growing 1 item.bytes (arriving 1 head (many 3))) ≡ Some (given 3 (1 ∷ 2 ∷ 9 ∷ 9 ∷ []))
unfolding machine
comes_back = refl

is_gone : (finishing 1 (growing 1 item.bytes (arriving 1 head (many 3)))).rx.closing ≡ []
unfolding machine
is_gone = refl
