-- The queue of one lane.
--     frames_of xs        the frames alone
--     known pass          what a pass may do, and what it put in and got out
--     Ordered             the rule: what was put is what was got, and then what is inside, each frame behind those before it
--     put_one, GotOne     what one more frame does to a pass
--     EndsWith, Holds     what a pass learns of what is inside
use Rattle.std.specs.Prelude.{◌≡◌, ℕ, Bool, true, List, [], ◌∷◌, ◌++◌, map, None}
use mathlib.Core.Option.{some}
use mathlib.Core.List.{IsPrefix}
use lib.ListN.{get_elem?}
use Rattle.crossbeam_queue.specs.Passes.{Pass}
use Rattle.fab_base.specs.declared.frames.Frame.{Frame}
use Rattle.fab_link.specs.Frames.{last_head, MayCome, IsLane}
use Rattle.fab_queue.specs.declared.lane.Sent.{Sent}
use Rattle.fab_queue.specs.declared.lane.Log.{Log}

abbrev pub frame_of : Sent → Frame
frame_of x = x.frame

abbrev pub frames_of : List Sent → List Frame
frames_of xs = map frame_of xs

abbrev pub log : Bool → Bool → List Sent → List Sent → Log
log puts gets put got = record { puts = puts; gets = gets; put = put; got = got }

abbrev pub known : Pass Sent Log → Log
known p = p.me.0.client

-- the frame may come behind these
abbrev pub Continues : List Sent → Sent → Type 0
Continues xs x = MayCome (last_head None (frames_of xs)) x.frame

-- a pass that may put has the list of what was put, and is the only one; the same of getting
abbrev pub Fits : ℕ → ℕ → List Sent → List Sent → ℕ → Log → Type 0
Fits writer reader put got pass v = (v.puts ≡ true → (pass ≡ writer) × (v.put ≡ put)) × (v.gets ≡ true → (pass ≡ reader) × (v.got ≡ got))

pub record Ordered (items : List Sent) (views : List Log) : Type 0 where
  pub writer : ℕ
  pub reader : ℕ
  pub put : List Sent
  pub got : List Sent
  pub whole : put ≡ got ++ items
  pub cut : IsLane None (frames_of put)
  pub each : (pass : ℕ) (v : Log) → get_elem? views pass ≡ some v → Fits writer reader put got pass v

abbrev pub put_one : Log → Sent → Log
put_one v x = log v.puts v.gets (v.put ++ x ∷ []) v.got

-- the frame may come behind those that were got, and is the next of those put, where the pass knows these too
pub record GotOne (v : Log) (x : Sent) (w : Log) : Type 0 where
  pub after : w ≡ log v.puts v.gets v.put (v.got ++ x ∷ [])
  pub next : Continues v.got x
  pub first : v.puts ≡ true → IsPrefix (v.got ++ x ∷ []) v.put

-- these are the last of them
abbrev pub EndsWith : List Sent → List Sent → Type 0
EndsWith all items = (before : List Sent) × (all ≡ before ++ items)

-- a pass that may put and get knows what is inside
abbrev pub Holds : Log → List Sent → Type 0
Holds v items = v.puts ≡ true → (v.put ≡ v.got ++ items) × IsLane None (frames_of v.put)
