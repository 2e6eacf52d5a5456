-- The premises of the law, where they come from.
use Rattle.std.proofs.Common.{List, [], Option, None, replicate}
use Rattle.fab_base.specs.declared.script.Conf.{Conf}
use Rattle.fab_laws.specs.Programs.{starting}
use Rattle.fab_merging.specs.Law.{IsFresh}
use Rattle.fab_merging.proofs.Opening.{start_fresh}
use Rattle.std.specs.Prelude.{ℕ}

-- what an endpoint holds when it is opened, whatever its address vector
pub starting_fresh : (conf : Conf) (av : List (Option ℕ)) → IsFresh (record { state = starting conf av; places = replicate conf.peers 0; begun = replicate conf.peers None; multis = [] })
starting_fresh conf av = let f = start_fresh conf in record { places = f.places; begun = f.begun; sent = f.sent; tails = f.tails }
