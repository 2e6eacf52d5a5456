-- What a peer does alone leaves what it shows.
use Rattle.std.proofs.Common.{refl, sym, ap, subst}
use Rattle.fab_base.specs.declared.peers.LineResult.{LineResult}
use Rattle.fab_model.specs.State.{State}
use Rattle.fab_model.specs.Peers.{reading}
use Rattle.fab_model.proofs.Passes.{Passes, same, call_passes}
use Rattle.fab_doings.specs.Doings.{Own, Owns, Calls, Writes}

pub own_passes : (own : Own) (s t : State) → Owns own s t → Passes s t
own_passes (Calls call answer) s t is = subst (λ (u : State). Passes s u) (ap (λ (r : LineResult × State). r.1) is) (call_passes s call)
own_passes (Writes counters) s t is = subst (λ (u : State). Passes s u) (sym is) (same refl refl refl)

pub read_passes : (s : State) → Passes s (reading s)
read_passes s = same refl refl refl
