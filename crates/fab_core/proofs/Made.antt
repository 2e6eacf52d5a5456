-- The list of multi-receives whose end was not read.
use Rattle.std.proofs.Common.{◌≡◌, [], append-nil, refl, sym}
use Rattle.fab_model.specs.State.{State}
use Rattle.fab_model.specs.Calls.{Call}
use Rattle.fab_face.specs.Held.{Held}
use Rattle.fab_face.specs.Acts.{does, multi_made}

-- a call that makes none changes the machine's state alone
pub none_made : (call : Call) (h : Held) (s : State) → multi_made call h.state.calls ≡ [] → record h { state = s } ≡ does call s h
none_made call h s none = sym (rw (none, append-nil h.multis) refl)
