-- A frame that ends an item, posted or refused, leaves a lane between items.
use Rattle.std.proofs.Common.{◌≡◌, [], ◌∷◌, ◌++◌, sym, ap, ◌∙◌, subst, Ok, Err}
use Rattle.std.specs.Prelude.{Result, OnOk, OnErr}
use Rattle.fab_base.specs.declared.frames.Frame.{Frame}
use Rattle.fab_link.specs.Cut.{IsBetweenItems}
use Rattle.fab_link.specs.Frames.{IsLast, last_head}
use Rattle.fab_link.proofs.Lanes.{last_head-push}
use Rattle.fab_link.specs.declared.port.PostRefused.{PostRefused}
use Rattle.fab_link.specs.Meaning.{Outgoing, end_of}

pub between_by : (o o' : Outgoing) (f : Frame) (r : Result (Unit {0}) PostRefused) → OnOk r (o'.frames ≡ o.frames ++ f ∷ []) → OnErr r (o'.frames ≡ o.frames) → o'.after ≡ o.after → IsBetweenItems (end_of o) → IsLast f.head → IsBetweenItems (end_of o')
between_by o o' f (Ok u) ok err after was last = subst IsBetweenItems (sym (ap (last_head o'.after) ok ∙ last_head-push o'.after o.frames f)) last
between_by o o' f (Err e) ok err after was last = subst IsBetweenItems (λ i. last_head (sym after i) (sym err i)) was
