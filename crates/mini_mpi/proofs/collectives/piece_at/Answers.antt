use Rattle.std.proofs.Common.{◌≡◌, ℕ, List, subst}
use Rattle.std.specs.Prelude.{IfOk}
use Rattle.mini_mpi.proofs.Pieces.{cut}
use Rattle.mini_mpi.proofs.collectives.piece_at.Goals as goal

pub returns : goal.returns
returns c = subst (λ (xs : List ℕ). IfOk c.copy.result (λ piece. piece ≡ xs)) (cut c.args.bytes.now c.args.at c.end_of-end.result c.end_of-end.ensures) c.copy.ensures
