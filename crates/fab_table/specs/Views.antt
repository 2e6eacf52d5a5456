-- The parts of a view, and how a step changes them.
--     new_part n room pool p     what is known for the peer p at the start
--     everyone n room pool       the view of the first seat: the parts of all peers
--     part_at, out_at, in_at     a part of a view, and a lane of a part that the peer writes or reads
--     saw_full, saw_room ..      a lane after a step
--     lane_of n s d              the number of the lane from s to d, among n peers
--     put_word, got_word, still_word, pool_word, pool_home    where its words, and those of the pools, lie
--     word_count n pool          how many words there are
use Rattle.std.specs.Prelude.{ℕ, zero, suc, ◌+◌, ◌*◌, min, Bool, true, false, List, [], ◌∷◌, ◌++◌, length, map, take, drop, replicate, slice_index, slice_index_or, slice_set, Option, Some, None, if◌then◌else◌, nat_lt}
use Rattle.fab_base.specs.declared.frames.Frame.{Frame}
use Rattle.fab_link.specs.declared.moves.Move.{Move}
use Rattle.fab_table.specs.declared.kinds.Sent.{Sent}
use Rattle.fab_table.specs.declared.kinds.Out.{Out}
use Rattle.fab_table.specs.declared.kinds.In.{In}
use Rattle.fab_table.specs.declared.kinds.Part.{Part}
use Rattle.fab_table.specs.declared.kinds.View.{View}

-- the frames alone
abbrev pub frame_of : Sent → Frame
frame_of x = x.frame

abbrev pub frames_of : List Sent → List Frame
frames_of xs = map frame_of xs

-- the least of m and these numbers
abbrev pub least_from : ℕ → List ℕ → ℕ
least_from m [] = m
least_from m (x ∷ xs) = least_from (min m x) xs

-- the least of these numbers, 0 where there are none
abbrev pub least : List ℕ → ℕ
least [] = 0
least (x ∷ xs) = least_from x xs

abbrev pub new_out : ℕ → Out
new_out pool = record { posted = []; got_seen = 0; full_seen = 0; tried = replicate pool 0; full_at = 0; writing = false; claim = None }

abbrev pub new_in : In
new_in = record { taken = []; put_seen = 0; empty_seen = 0; empty_at = 0; opened = None; lent = false }

abbrev pub new_part : ℕ → ℕ → ℕ → ℕ → Part
new_part n room pool p = record { me = p; peers = n; room = room; pool = pool; outs = replicate n (new_out pool); ins = replicate n new_in; moves = [] }

abbrev pub parts_from : ℕ → ℕ → ℕ → ℕ → ℕ → List Part
parts_from n room pool p zero = []
parts_from n room pool p (suc c) = new_part n room pool p ∷ parts_from n room pool (suc p) c

abbrev pub view_of : List Part → View
view_of ps = record { parts = ps }

-- the view of the first seat
abbrev pub everyone : ℕ → ℕ → ℕ → View
everyone n room pool = view_of (parts_from n room pool 0 n)

abbrev pub nobody : View
nobody = view_of []

abbrev pub only_first : View → View
only_first v = view_of (take 1 v.parts)

abbrev pub but_first : View → View
but_first v = view_of (drop 1 v.parts)

abbrev pub both : View → View → View
both v w = view_of (v.parts ++ w.parts)

abbrev pub part_at : View → ℕ → Part
part_at v i = slice_index_or v.parts i (new_part 0 0 0 0)

abbrev pub out_at : Part → ℕ → Out
out_at p d = slice_index_or p.outs d (new_out 0)

abbrev pub in_at : Part → ℕ → In
in_at p s = slice_index_or p.ins s new_in

abbrev pub with_part : View → ℕ → Part → View
with_part v i p = view_of (slice_set v.parts i p)

abbrev pub with_out : Part → ℕ → Out → List Move → Part
with_out p d o ms = record { me = p.me; peers = p.peers; room = p.room; pool = p.pool; outs = slice_set p.outs d o; ins = p.ins; moves = ms }

abbrev pub with_in : Part → ℕ → In → List Move → Part
with_in p s u ms = record { me = p.me; peers = p.peers; room = p.room; pool = p.pool; outs = p.outs; ins = slice_set p.ins s u; moves = ms }

-- a look at `got` that showed r frames given back, and no place for one more
abbrev pub saw_full : Out → ℕ → Out
saw_full o r = record { posted = o.posted; got_seen = r; full_seen = o.full_seen + 1; tried = o.tried; full_at = length o.posted; writing = o.writing; claim = o.claim }

-- one that showed a place: its cell comes into hand
abbrev pub saw_room : Out → ℕ → Out
saw_room o r = record { posted = o.posted; got_seen = r; full_seen = o.full_seen; tried = o.tried; full_at = o.full_at; writing = true; claim = o.claim }

abbrev pub posted_one : Out → Sent → Out
posted_one o x = record { posted = o.posted ++ x ∷ []; got_seen = o.got_seen; full_seen = o.full_seen; tried = o.tried; full_at = o.full_at; writing = false; claim = None }

abbrev pub claimed_one : Out → ℕ → Out
claimed_one o q = record { posted = o.posted; got_seen = o.got_seen; full_seen = o.full_seen; tried = o.tried; full_at = o.full_at; writing = o.writing; claim = Some q }

-- one try more found the j-th slot taken
abbrev pub tried_more : List ℕ → ℕ → List ℕ
tried_more ts j = slice_set ts j (slice_index ts j + 1)

abbrev pub refused_one : Out → ℕ → Out
refused_one o j = record {
  posted = o.posted;
  got_seen = o.got_seen;
  full_seen = o.full_seen;
  tried = tried_more o.tried j;
  full_at = if nat_lt (least o.tried) (least (tried_more o.tried j)) then length o.posted else o.full_at;
  writing = o.writing;
  claim = o.claim;
}

-- the cell went back
abbrev pub left_one : Out → Out
left_one o = record { posted = o.posted; got_seen = o.got_seen; full_seen = o.full_seen; tried = o.tried; full_at = o.full_at; writing = false; claim = o.claim }

abbrev pub has_slot : Option ℕ → Bool
has_slot None = false
has_slot (Some q) = true

-- a look at `put` that showed r frames posted, all of them taken
abbrev pub saw_empty : In → ℕ → In
saw_empty u r = record { taken = u.taken; put_seen = r; empty_seen = u.empty_seen + 1; empty_at = length u.taken; opened = u.opened; lent = u.lent }

-- one that showed the frame x: its places come into hand
abbrev pub saw_frame : In → ℕ → Sent → In
saw_frame u r x = record { taken = u.taken; put_seen = r; empty_seen = u.empty_seen; empty_at = u.empty_at; opened = Some x; lent = has_slot x.slot }

-- its slot went back, free
abbrev pub freed_one : In → In
freed_one u = record { taken = u.taken; put_seen = u.put_seen; empty_seen = u.empty_seen; empty_at = u.empty_at; opened = u.opened; lent = false }

abbrev pub taken_one : In → Sent → In
taken_one u x = record { taken = u.taken ++ x ∷ []; put_seen = u.put_seen; empty_seen = u.empty_seen; empty_at = u.empty_at; opened = None; lent = false }

-- the lane from s to d, among n peers: those to one receiver lie side by side
abbrev pub lane_of : ℕ → ℕ → ℕ → ℕ
lane_of n s d = d * n + s

-- its two words, each on a cache line of its own
abbrev pub put_word : ℕ → ℕ
put_word l = l * 32

abbrev pub got_word : ℕ → ℕ
got_word l = l * 32 + 16

-- a word of the lane, on a line of its own, that is never written: it stays in the sender's cache
abbrev pub still_word : ℕ → ℕ
still_word l = l * 32 + 8

-- the word and the place of the q-th slot of all pools
abbrev pub pool_word : ℕ → ℕ → ℕ
pool_word n q = n * n * 32 + q * 16

-- how many words there are: those of the lanes, and one for each slot
abbrev pub word_count : ℕ → ℕ → ℕ
word_count n pool = n * n * 32 + n * pool * 16

abbrev pub pool_home : ℕ → ℕ → ℕ → ℕ
pool_home n room q = n * n * room + q
