-- What a peer did in a view that shows no more than the states do leads from these states on.
use Rattle.std.proofs.Common.{◌≡◌, ◌<◌, ℕ, zero, suc, refl, replicate, false, List, ◌++◌, length, Some, slice_get}
use Rattle.std.specs.Prelude.{slice_set, slice_index_or, []}
use Rattle.fab_base.specs.declared.items.Item.{Item}
use Rattle.fab_base.specs.declared.peers.Step.{Step}
use Rattle.fab_model.specs.Orders.{Leads, AreSteps, Reached, by}
use Rattle.fab_model.specs.Peers.{Actor, fabric}
use Rattle.fab_model.specs.Views.{View, More, Walk, rule, seen}
use Rattle.fab_model.proofs.Grows.{grows}
use Rattle.fab_model.proofs.Waits.{waits}
use Rattle.fab_model.proofs.Views as views
use Rattle.fab_model.proofs.Orders as orders

pub walk_leads :
    (steps : List Step) (states : List Actor) (p : ℕ) (v : View Item) (a last : Actor) → slice_get states p ≡ Some a → v.calm ≡ false → More v (seen fabric states p) → Walk fabric v a steps last
    → Leads (rule fabric) states (by p steps) (slice_set states p last)
walk_leads = views.walk_leads fabric grows waits

-- at the opening no step is taken
pub reached_opening : (opening : List Actor) (schedules : List (List Step)) → AreSteps schedules [] → Reached (rule fabric) opening schedules opening
reached_opening = orders.reached_opening (rule fabric)

-- of the lists of no steps
pub none_taken : (n : ℕ) → AreSteps {Step = Step} (replicate n []) []
none_taken zero p = refl
none_taken (suc n) zero = refl
none_taken (suc n) (suc p) = none_taken n p

-- a peer's further steps join its list
pub reached_more :
    (opening states last : List Actor) (schedules : List (List Step)) (p : ℕ) (steps : List Step) → p < length schedules → Reached (rule fabric) opening schedules states
    → Leads (rule fabric) states (by p steps) last → Reached (rule fabric) opening (slice_set schedules p (slice_index_or schedules p [] ++ steps)) last
reached_more = orders.reached_more (rule fabric)
