-- The end of a run, in the words of the machine.
--     Rest all          the peers are at rest, as `at_rest` tests it
--     Cancelled a b     peer a cancelled its receives, and became b
--     CancelNone all    no receive may be cancelled
use Rattle.std.specs.Prelude.{◌≡◌, ℕ, ◌<◌, false, true, List, length, Some, None, slice_get, slice_index}
use Rattle.fab_model.specs.State.{accepted_for}
use Rattle.fab_model.specs.Receiving.{cancellable, draw_due}
use Rattle.fab_model.specs.Peers.{Actor, facts}
use Rattle.fab_model.specs.Replay.{can_do}
use Rattle.fab_peer.specs.Turns.{IsRead}
use Rattle.fab_finish.specs.Joined.{Member, member_actor, seen_plain}

-- All completions are read, no draw is due, no line can be done, and of each pair everything accepted is sent and whole.
pub record Rest (all : List Actor) : Type 0 where
  pub read : (p : ℕ) (a : Actor) → slice_get all p ≡ Some a → a.state.cq.taken_out ≡ length a.state.cq.written
  pub draws : (p : ℕ) (a : Actor) → slice_get all p ≡ Some a → draw_due a.state.rx ≡ false
  pub lines : (p : ℕ) (a : Actor) → slice_get all p ≡ Some a → can_do a ≡ false
  pub whole : (p s : ℕ) (a b : Actor) → slice_get all p ≡ Some a → slice_get all s ≡ Some b → slice_index a.state.rx.tails s ≡ length (accepted_for b.state.tx p)
  pub sent : (p s : ℕ) (a b : Actor) → slice_get all p ≡ Some a → slice_get all s ≡ Some b → slice_index b.state.tx.sent p ≡ length (accepted_for b.state.tx p)

-- what the calm asks of the peer stays, as does what it transmitted; and no posted receive may be cancelled
pub record Cancelled (a b : Member) : Type 0 where
  pub facts_are : facts (member_actor b) ≡ facts (member_actor a)
  pub tx : b.endpoint.held.state.tx ≡ a.endpoint.held.state.tx
  pub coming : b.endpoint.held.state.rx.coming ≡ a.endpoint.held.state.rx.coming
  pub read : IsRead (seen_plain b.endpoint)
  pub none : cancellable (λ r. true) b.endpoint.held.state.rx ≡ None

-- no posted receive of any peer may be cancelled
abbrev pub CancelNone : List Actor → Type 0
CancelNone all = (p : ℕ) (a : Actor) → slice_get all p ≡ Some a → cancellable (λ r. true) a.state.rx ≡ None

-- the first n peers cancelled their receives, and the others did nothing
pub record AreCancelled (n : ℕ) (ps qs : List Member) : Type 0 where
  pub count : length qs ≡ length ps
  pub before : (k : ℕ) (b : Member) → k < n → slice_get qs k ≡ Some b → (a : Member) × (slice_get ps k ≡ Some a) × Cancelled a b
  pub after : (k : ℕ) → (k < n → ⊥) → slice_get qs k ≡ slice_get ps k
