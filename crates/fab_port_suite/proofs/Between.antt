-- What was posted goes on to end with a whole item.
use Rattle.std.proofs.Common.{◌≡◌, ◌≢◌, ℕ, [], ◌∷◌, ◌++◌, sym, ap, ◌∙◌, subst, None}
use mathlib.Core.Logic.{dite}
use native.Mathlib.Decide.{ℕ_discrete}
use Rattle.std.specs.Prelude.{Result, OnOk, OnErr}
use Rattle.fab_base.specs.declared.frames.Frame.{Frame}
use Rattle.fab_link.specs.Cut.{IsBetweenItems}
use Rattle.fab_link.specs.Frames.{IsLast, last_head}
use Rattle.fab_link.specs.declared.port.PostRefused.{PostRefused}
use Rattle.fab_link.specs.declared.port.Port.{Ghosts}
use Rattle.fab_link.specs.Meaning.{Outgoing, end_of}
use Rattle.fab_link.proofs.Between.{between_by}
use Rattle.fab_port_suite.specs.Lanes.{AreBetween, IsSame}

-- a lane to which nothing was posted
pub fresh_between : (o : Outgoing) → o.frames ≡ [] → o.after ≡ None → IsBetweenItems (end_of o)
fresh_between o none after = subst IsBetweenItems (λ i. last_head (sym after i) (sym none i)) tt

-- once the last frame of an item was posted, or refused
pub between_after : (old new : ℕ → Outgoing) (dest : ℕ) (f : Frame) (r : Result (Unit {0}) PostRefused) → OnOk r ((new dest).frames ≡ (old dest).frames ++ f ∷ []) → OnErr r ((new dest).frames ≡ (old dest).frames) → (new dest).after ≡ (old dest).after
    → ((d : ℕ) → d ≢ dest → new d ≡ old d) → AreBetween old → IsLast f.head → AreBetween new
between_after old new dest f r ok err after others was last d = dite (ℕ_discrete d dest)
    (λ is. subst (λ (z : ℕ). IsBetweenItems (end_of (new z))) (sym is) (between_by (old dest) (new dest) f r ok err after (was dest) last))
    (λ ne. subst IsBetweenItems (ap end_of (sym (others d ne))) (was d))

-- two calls, one after the other
pub same_on : {P : Type 0} (M : Ghosts P) (old mid new : P) → IsSame M old mid → IsSame M mid new → IsSame M old new
same_on M old mid new first second = (second.0 ∙ first.0, second.1 ∙ first.1, second.2 ∙ first.2)
