-- A port took nothing of a peer that is not there.
use Rattle.std.proofs.Common.{◌≡◌, ◌≤◌, ℕ, [], ap, arith}
use Rattle.std.proofs.lemmas.List.{get_or_past}
use Rattle.fab_table.specs.declared.kinds.In.{In}
use Rattle.fab_table.specs.Views.{frames_of, new_in}
use Rattle.fab_ring.specs.declared.port.RingPort.{RingPort}
use Rattle.fab_ring.specs.Ports.{part_of, peers_of, in_of}

pub nobody_taken : (p : RingPort) (s : ℕ) → peers_of p ≤ s → (in_of p s).taken ≡ []
nobody_taken p s past =
    let count = p.fits.all_ins in
    ap (λ (u : In). frames_of u.taken) (get_or_past (part_of p).ins s new_in (omega (arith, past, count)))
