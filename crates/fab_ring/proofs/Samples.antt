-- For the tests: the last of new ports is new, and a whole message leaves its lane between items.
use Rattle.std.proofs.Common.{◌≡◌, ◌≢◌, ℕ, [], ◌∷◌, ◌++◌, sym, ap, subst}
use mathlib.Core.Logic.{dite}
use native.Mathlib.Decide.{ℕ_discrete}
use Rattle.std.specs.Prelude.{Result, OnOk, OnErr}
use Rattle.fab_base.specs.declared.frames.Frame.{Frame}
pub use Rattle.fab_base.proofs.Lists.{rest_is, last_is}
use Rattle.fab_link.specs.Frames.{IsLast}
use Rattle.fab_link.specs.Cut.{IsBetweenItems}
use Rattle.fab_link.specs.declared.port.PostRefused.{PostRefused}
use Rattle.fab_link.specs.Meaning.{Outgoing, end_of}
use Rattle.fab_link.proofs.Between.{between_by}

pub between_after : (old new : ℕ → Outgoing) (dest : ℕ) (f : Frame) (r : Result (Unit {0}) PostRefused) → OnOk r ((new dest).frames ≡ (old dest).frames ++ f ∷ []) → OnErr r ((new dest).frames ≡ (old dest).frames) → (new dest).after ≡ (old dest).after
    → ((d : ℕ) → d ≢ dest → new d ≡ old d) → ((d : ℕ) → IsBetweenItems (end_of (old d))) → IsLast f.head → (d : ℕ) → IsBetweenItems (end_of (new d))
between_after old new dest f r ok err after others was last d = dite (ℕ_discrete d dest)
    (λ is. subst (λ (z : ℕ). IsBetweenItems (end_of (new z))) (sym is) (between_by (old dest) (new dest) f r ok err after (was dest) last))
    (λ ne. subst IsBetweenItems (ap end_of (sym (others d ne))) (was d))
