-- What bodies of a port's calls do that the clauses of `Port` refuse. Each call is handed on in `src/ports.rt`.
--     posted_twice                 `post`, ok: a frame is posted twice by one call
--     full_by_an_old_count         `post`, lane_full: a lane is called full by a call that did not look at it: its count stays
--     pool_by_an_old_count         `post`, pool_full: so is a pool
--     full_at_moved                `post`, noticed: the place of the last full lane moves, and no count does
--     none_where_a_frame_stands    `front`, after: a look tells that no frame comes, and one is lent
--     an_empty_lane_not_counted    the same: a look tells that no frame comes, and nothing is counted
--     none_unseen                  the same, saw: a look tells that no frame comes, counts it, and saw no such thing
--     skips_a_frame                the same: a look steps over the frame that it tells of
use Rattle.std.proofs.Common.{◌≡◌, ◌≢◌, ℕ, ◌+◌, ◌^◌, ◌<◌, Bool, false, inl, inr, [], ◌∷◌, ◌++◌, length, length-append, Option, Some, None, Result, Err, sym, ap, ◌∙◌, arith}
use Rattle.std.specs.Prelude.{IsErrOf, IfNone, is_some}
use Rattle.fab_base.specs.Counts.{Rose}
use Rattle.fab_base.specs.declared.frames.Frame.{Frame}
use Rattle.fab_base.specs.declared.frames.FrameRef.{FrameRef}
use Rattle.fab_link.specs.declared.port.PostRefused.{PostRefused}
use Rattle.fab_link.specs.declared.port.PostRefused.TheVariants.{LaneFull, PoolFull}
use Rattle.fab_link.specs.Meaning.{Fronted, Incoming, Noticed, Outgoing}

-- ---- a post

no_rise : (a b : ℕ) → a + 1 < 2 ^ 64 → b ≡ a → Rose a b → ⊥
no_rise a b below same (inl less) = omega (arith, same, less)
no_rise a b below same (inr stays) = let last = stays.1 in omega (arith, same, last, below)

module _ (old new : Outgoing) where
  pub posted_twice : (f : Frame) → new.frames ≡ old.frames ++ f ∷ [] → new.frames ≡ old.frames ++ f ∷ f ∷ [] → ⊥
  posted_twice f once twice =
      let same = ap length (sym once ∙ twice) in
      omega (arith, same, length-append old.frames (f ∷ []), length-append old.frames (f ∷ f ∷ []))

  pub full_by_an_old_count : (result : Result Unit PostRefused) → old.lane_full_seen + 1 < 2 ^ 64
      → (IsErrOf result LaneFull → Rose old.lane_full_seen new.lane_full_seen × (new.full_at ≡ length old.frames))
      → result ≡ Err LaneFull → new.lane_full_seen ≡ old.lane_full_seen → ⊥
  full_by_an_old_count result below full told stays = no_rise old.lane_full_seen new.lane_full_seen below stays (full told).0

  pub pool_by_an_old_count : (result : Result Unit PostRefused) → old.pool_full_seen + 1 < 2 ^ 64
      → (IsErrOf result PoolFull → Rose old.pool_full_seen new.pool_full_seen × (new.full_at ≡ length old.frames))
      → result ≡ Err PoolFull → new.pool_full_seen ≡ old.pool_full_seen → ⊥
  pool_by_an_old_count result below full told stays = no_rise old.pool_full_seen new.pool_full_seen below stays (full told).0

  pub full_at_moved : old.lane_full_seen + 1 < 2 ^ 64 → old.pool_full_seen + 1 < 2 ^ 64 → new.lane_full_seen ≡ old.lane_full_seen → new.pool_full_seen ≡ old.pool_full_seen
      → Noticed old new → new.full_at ≢ old.full_at → ⊥
  full_at_moved lane pool lanes pools noticed moved = elim noticed.full_at [
    | inl still ↦ moved still.2
    | inr rose ↦ elim rose.0 [
      | inl at_lane ↦ no_rise old.lane_full_seen new.lane_full_seen lane lanes at_lane
      | inr at_pool ↦ no_rise old.pool_full_seen new.pool_full_seen pool pools at_pool
    ]
  ]

-- ---- what a look saw

pub saw_none : {Saw : Type 0} (answer : Option FrameRef) (told : Bool) → told ≡ is_some answer → IfNone answer Saw → told ≡ false → Saw
saw_none None told is saw none = saw
saw_none (Some f) told is saw none = absurd (cc (sym none ∙ is))

-- Saw is what the port's own `SawNone` comes to for this call
pub none_unseen : (Saw : Type 0) (told : Bool) → (told ≡ false → Saw) → told ≡ false → (Saw → ⊥) → ⊥
none_unseen Saw told saw none unseen = unseen (saw none)

-- ---- a look: the lane's count of empty looks is not at its last value

module _ (old new : Incoming) (told : Bool) where
  abbrev pub Comes : Type 0
  Comes = (answer : Option FrameRef) × (told ≡ is_some answer) × Fronted old new answer

  counted : Comes → told ≡ false → Rose old.empty_seen new.empty_seen
  counted (None, is, fronted) none = fronted.1
  counted (Some f, is, fronted) none = absurd (cc (sym none ∙ is))

  pub none_where_a_frame_stands : (f : FrameRef) → old.empty_seen + 1 < 2 ^ 64 → Comes → told ≡ false → Fronted old new (Some f) → ⊥
  none_where_a_frame_stands f below comes none lent = no_rise old.empty_seen new.empty_seen below (ap (λ (i : Incoming). i.empty_seen) lent) (counted comes none)

  pub an_empty_lane_not_counted : old.empty_seen + 1 < 2 ^ 64 → Comes → told ≡ false → new ≡ old → ⊥
  an_empty_lane_not_counted below comes none stays = no_rise old.empty_seen new.empty_seen below (ap (λ (i : Incoming). i.empty_seen) stays) (counted comes none)

  stays_taken : (answer : Option FrameRef) → Fronted old new answer → new.taken ≡ old.taken
  stays_taken None looked = ap (λ (i : Incoming). i.taken) looked.0
  stays_taken (Some lent) looked = ap (λ (i : Incoming). i.taken) looked

  pub skips_a_frame : (f : Frame) → Comes → new.taken ≡ old.taken ++ f ∷ [] → ⊥
  skips_a_frame f (answer, is, fronted) wrong =
      let longer = ap length (sym (stays_taken answer fronted) ∙ wrong) in
      omega (arith, longer, length-append old.taken (f ∷ []))
