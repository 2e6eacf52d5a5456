-- The multi-receives whose end was not read, oldest first (FI_MULTI_RECV of fi_msg(3)): contexts and calls, which contracts see, and places, which are stored.
--     Members               both, and how many places have memory
--     nobody room           none
--     enlisted id ctx call m  one more is posted under the id
--     let_go id n m         the buffer of the one under the id comes back with an entry before which so many are unread
--     read_by first m       those whose end was not read, once this first unread entry is
use Rattle.std.specs.Prelude.{ℕ, ◌+◌, ◌-◌, ◌==◌, ◌++◌, ◌∷◌, [], Bool, false, cond, List, map, Option, Some, None}
use Rattle.fab_base.specs.declared.operations.Written.{Written}
use Rattle.fab_model.specs.Matching.{remove_first}
use Rattle.fab_face.specs.Acts.{is_end_of}
use Rattle.fab_settling.specs.declared.places.Place.{Place}
use Rattle.fab_settling.specs.declared.places.Place.TheVariants.{Open, Ended}
use Rattle.fab_settling.specs.declared.places.Member.{Member}

pub record Members : Type 0 where
  -- context, and number of the call
  pub list : List (ℕ × ℕ)
  -- context, and where the buffer is
  pub places : List Member
  pub room : ℕ

abbrev pub nobody : ℕ → Members
nobody room = record { list = []; places = []; room = room }

-- as many as may be posted, one for each source that closes one, one for each unread entry, and one that is being posted
abbrev pub most_multis : ℕ → ℕ → ℕ → ℕ
most_multis most peers size = most + peers + size + 1

abbrev pub enlisted : ℕ → ℕ → ℕ → Members → Members
enlisted id ctx call m = record { list = m.list ++ (ctx, call) ∷ []; places = m.places ++ record { ctx = ctx; place = Open id } ∷ []; room = m.room }

-- ---- the buffer comes back

abbrev pub ended_at : ℕ → ℕ → Place → Place
ended_at id n (Open k) = cond (k == id) (Ended n) (Open k)
ended_at id n (Ended k) = Ended k

abbrev pub let_one_go : ℕ → ℕ → Member → Member
let_one_go id n s = record { ctx = s.ctx; place = ended_at id n s.place }

abbrev pub let_go : ℕ → ℕ → Members → Members
let_go id n m = record { list = m.list; places = map (let_one_go id n) m.places; room = m.room }

-- where it has an id
abbrev pub places_left : Option ℕ → ℕ → List Member → List Member
places_left None n ms = ms
places_left (Some id) n ms = map (let_one_go id n) ms

abbrev pub let_any_go : Option ℕ → ℕ → Members → Members
let_any_go o n m = record { list = m.list; places = places_left o n m.places; room = m.room }

-- ---- an entry is read

abbrev pub list_read : Option Written → List (ℕ × ℕ) → List (ℕ × ℕ)
list_read None multis = multis
list_read (Some w) multis = remove_first (is_end_of w) multis

-- its end is the first unread entry
abbrev pub is_next : Place → Bool
is_next (Open id) = false
is_next (Ended n) = n == 0

abbrev pub is_first : Member → Bool
is_first s = is_next s.place

abbrev pub moved_up : Place → Place
moved_up (Open id) = Open id
moved_up (Ended n) = Ended (n - 1)

abbrev pub one_read : Member → Member
one_read s = record { ctx = s.ctx; place = moved_up s.place }

abbrev pub read_by : Option Written → Members → Members
read_by first m = record { list = list_read first m.list; places = map one_read (remove_first is_first m.places); room = m.room }
