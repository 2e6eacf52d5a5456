-- What a transmit call does before and after its message is accepted.
--     Admits call old new      the message may be accepted in `new`: what waited was posted, where all entries were in use
use Rattle.std.specs.Prelude.{◌≡◌, ◌≢◌, ℕ, ◌+◌, ◌≤◌, ◌<◌, ◌⊎◌, Bool, true, false, ◌||◌, List, [], ◌∷◌, ◌++◌, nat_le, length, Some, None, slice_index}
use Rattle.std.specs.List.{list_any}
use Rattle.fab_base.specs.declared.frames.Frame.{Frame}
use Rattle.fab_link.specs.Joined.{is_last}
use Rattle.fab_model.specs.State.{accepted_for, fits, held_for, in_use, lookup}
use Rattle.fab_model.specs.Sending.{AreFenced, do_sent}
use Rattle.fab_model.specs.Calls.{Call, do_call}
use Rattle.fab_face.specs.Held.{Held, Seen, next_item, next_frame}
use Rattle.fab_face.specs.declared.events.Event.{Event}
use Rattle.fab_face.specs.Acts.{Act, Posted, Went, is_post, posted_to}
use Rattle.fab_ep.specs.Tries.{Calm}
use Rattle.fab_face.specs.Answers.{AllAre, HasPlaces, IsFull, IsTried, SawFull, is_final}

pub record Admits {Home : Type 0} (call : Call) (old new : Seen Home) : Type 0 where
  pub acts : List Act
  pub push : AllAre is_post acts
  pub went : Went None old new acts
  pub pushed : new.pushed ≡ list_any is_post acts
  pub places : HasPlaces old
  pub left : HasPlaces new
  pub only_if_full : acts ≢ [] → IsFull old
  pub tried : IsFull old → (d : ℕ) → d < new.lanes.peers → IsTried old new d
  pub ins : new.lanes.ins ≡ old.lanes.ins
  pub next : new.next ≡ old.next
  pub granted : is_final (do_call new.held.state call).0 ≡ false
  pub room : nat_le new.held.state.most_tx (in_use new.held.state.tx) ≡ false

-- nothing waits for the peer, or one item, behind which no fence holds anything back
abbrev pub IsOnly : Held → ℕ → Type 0
IsOnly h d = (next_item h.state d ≡ None) ⊎ ((length (accepted_for h.state.tx d) ≤ slice_index h.state.tx.sent d + 1) × (held_for h.state.tx d ≡ []))

-- the frame that is next was refused in this call, or is the last one and its entry has no room; a port that takes memory may have lacked it
abbrev pub IsHeldOut : {Home : Type 0} → Bool → Seen Home → Seen Home → ℕ → Type 0
IsHeldOut fixed old new d = (f : Frame) → next_frame new.held d ≡ Some f
    → SawFull old.lanes new.lanes d ⊎ (((is_last f.head ≡ true) × (fits (do_sent new.held.state d).cq ≡ false)) ⊎ (fixed ≡ false))

-- `moved` says whether a frame was posted, and it is remembered
abbrev pub LetsOutOne : {Home : Type 0} → Bool → Seen Home → Seen Home → ℕ → Bool → Type 0
LetsOutOne fixed old new d true = ((f : Frame) × Went None old new (Posted d f ∷ [])) × (new.pushed ≡ true)
LetsOutOne fixed old new d false = Calm old new × IsHeldOut fixed old new d × (new.pushed ≡ old.pushed)

-- the frames of the only item that waits for the peer, as far as they go
pub record LetsOut {Home : Type 0} (fixed : Bool) (old new : Seen Home) (d : ℕ) : Type 0 where
  pub acts : List Act
  pub posts : AllAre is_post acts
  pub went : Went None old new acts
  pub pushed : new.pushed ≡ (old.pushed || list_any is_post acts)
  pub own : (k : ℕ) → k ≢ d → posted_to k acts ≡ []
  pub held : IsHeldOut fixed old new d

-- the peer stands at this index, and no item waits for it but what a fence holds back
pub record IsFree {Home : Type 0} (e : Seen Home) (index t : ℕ) : Type 0 where
  pub at : lookup e.held.state.av index ≡ Some t
  pub below : t < e.lanes.peers
  pub listed : t < length e.held.state.tx.accepted
  pub free : next_item e.held.state t ≡ None
  pub fenced : AreFenced e.held.state.tx

abbrev pub logging : {Home : Type 0} → Event → Seen Home → Seen Home
logging event e = record e { log = e.log ++ event ∷ [] }
