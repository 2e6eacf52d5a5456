-- What a port means, and what its calls do to that meaning.
use Rattle.std.specs.Prelude.{◌≡◌, ◌≢◌, ℕ, ◌≤◌, ◌⊎◌, true, List, [], ◌∷◌, ◌++◌, length, Option, Some, None, IfSome, ⊤}
use Rattle.std.specs.Borrow.{follows_so, Fml, RattleType, MutBor}
use mathlib.Core.Option.{none}
use Rattle.fab_base.specs.Counts.{Rose}
use Rattle.fab_base.specs.declared.frames.FrameHead.{FrameHead}
use Rattle.fab_base.specs.declared.frames.Frame.{Frame}
use Rattle.fab_base.specs.declared.frames.FrameRef.{FrameRef}
use Rattle.fab_link.specs.declared.moves.Move.{Move}
use Rattle.fab_link.specs.Frames.{lent_frame, last_head, MayCome}
use Rattle.fab_link.specs.Owing.{begins_reply, IsOwed}

-- one direction of a port towards one peer: what was posted to it
pub record Outgoing : Type 0 where
  -- the head of the last frame before the list
  pub after : Option FrameHead
  -- by operation, how many replies the peer was owed before the list, where the port tells it
  pub owed : Option (ℕ → ℕ)
  -- the frames posted
  pub frames : List Frame
  pub lane_full_seen : ℕ
  pub pool_full_seen : ℕ
  -- how many frames were posted when one of the two counts last rose
  pub full_at : ℕ

-- the other direction: what came from the peer
pub record Incoming : Type 0 where
  -- the head of the last frame before the list
  pub after : Option FrameHead
  -- the frames advanced over
  pub taken : List Frame
  -- the frame that `front` gave and that was not advanced over
  pub lent : Option Frame
  pub empty_seen : ℕ
  -- how many frames were taken when the count last rose
  pub empty_at : ℕ

-- Both directions towards one peer as every maker of a port leaves them: no frame was posted or taken, none is lent, and
-- no count was raised.
pub record AreFresh (o : Outgoing) (i : Incoming) : Type 0 where
  pub frames : o.frames ≡ []
  pub lane_full_seen : o.lane_full_seen ≡ 0
  pub pool_full_seen : o.pool_full_seen ≡ 0
  pub taken : i.taken ≡ []
  pub lent : i.lent ≡ None
  pub empty_seen : i.empty_seen ≡ 0

-- P holds of the value behind s once the result's borrow of it ends
abbrev pub Rests : (R : RattleType) → MutBor R.Denot → (R.Denot → Type 0) → Fml
Rests R s P = follows_so R R s.ghost_name none (λ _ _. ⊤) P

-- the two agree at every peer but this one
abbrev pub Others : {A : Type 0} → ℕ → (ℕ → A) → (ℕ → A) → Type 0
Others peer old new = (d : ℕ) → d ≢ peer → new d ≡ old d

-- the head that the next frame posted has to follow
abbrev pub end_of : Outgoing → Option FrameHead
end_of o = last_head o.after o.frames

-- the head that the next frame taken has to follow
abbrev pub taken_end : Incoming → Option FrameHead
taken_end i = last_head i.after i.taken

-- the peer is owed at least so many replies to this operation, where the port tells it
abbrev pub Owes : Outgoing → Incoming → ℕ → ℕ → Type 0
Owes o i op n = IfSome o.owed (λ before. IsOwed before o.frames i.taken op n)

-- the frame is not the first one of a reply, or the reply is owed
abbrev pub Repays : Outgoing → Incoming → FrameHead → Type 0
Repays o i head = begins_reply head ≡ true → Owes o i head.item.op 1

-- what a call of `post` may do to the lane to its peer besides appending
pub record Noticed (old new : Outgoing) : Type 0 where
  pub after : new.after ≡ old.after
  pub owed : new.owed ≡ old.owed
  pub lane_full : old.lane_full_seen ≤ new.lane_full_seen
  pub pool_full : old.pool_full_seen ≤ new.pool_full_seen
  -- `full_at` changes only with a count, and then to the number of frames posted before
  pub full_at : ((new.lane_full_seen ≡ old.lane_full_seen) × (new.pool_full_seen ≡ old.pool_full_seen) × (new.full_at ≡ old.full_at))
      ⊎ ((Rose old.lane_full_seen new.lane_full_seen ⊎ Rose old.pool_full_seen new.pool_full_seen) × (new.full_at ≡ length old.frames))

-- what `front` gave: a frame that may come next, and the one already lent where there was one
abbrev pub Gives : Incoming → FrameRef → Type 0
Gives old f = MayCome (taken_end old) (lent_frame f) × ((g : Frame) → old.lent ≡ Some g → lent_frame f ≡ g)

-- what `front` left of the lane from the peer that it named
abbrev pub Fronted : Incoming → Incoming → Option FrameRef → Type 0
Fronted old new None =
    (new ≡ record old { empty_seen = new.empty_seen; empty_at = length old.taken })
    × Rose old.empty_seen new.empty_seen
Fronted old new (Some f) = new ≡ record old { lent = Some (lent_frame f) }

-- the lent frame counts as taken
abbrev pub advanced : Incoming → Incoming
advanced i = elim i.lent [ None ↦ i | Some f ↦ record i { taken = i.taken ++ f ∷ []; lent = None } ]

-- where moves are told, there is one more of this kind, with some number; a port that tells none goes on telling none
abbrev pub GrewBy : (ℕ → Move) → Option (List Move) → Option (List Move) → Type 0
GrewBy move None new = new ≡ None
GrewBy move (Some moves) new = (number : ℕ) × (new ≡ Some (moves ++ move number ∷ []))
