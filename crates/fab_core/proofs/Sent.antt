-- An item is transmitted, a message is accepted: what is held then.
use Rattle.std.proofs.Common.{◌≡◌, ℕ, refl}
use Rattle.fab_face.specs.Held.{next_item}
use Rattle.fab_face.specs.Machine.{finished}
use Rattle.fab_core.specs.Parts.{Parts, held_of, state_of}
use Rattle.fab_core.specs.Doing.{sent}
use Rattle.fab_core.proofs.Doing.{sent_is}
use Rattle.fab_core.proofs.Next.{sent_others}

pub sent_held : (p : Parts) (dest : ℕ) → held_of (sent dest p) ≡ finished dest (held_of p)
sent_held p dest = rw (sent_is p dest) refl

pub sent_next : (p : Parts) (dest d : ℕ) → (d ≡ dest → ⊥) → next_item (state_of (sent dest p)) d ≡ next_item (state_of p) d
sent_next p dest d other = sent_others p.tx.tx dest d other
