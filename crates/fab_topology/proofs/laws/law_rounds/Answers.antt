-- The laws are of rounds of any number of ranks.
use Rattle.fab_topology.proofs.Calls.{few_messages}
use Rattle.fab_topology.proofs.Reaching.{all_hear}
use Rattle.fab_topology.proofs.Finding.{each_is_found, each_is_from}
use Rattle.fab_topology.proofs.Pairs.{each_is_heard, each_is_once, each_is_told}
use Rattle.fab_topology.proofs.Tiles.{each_tiles}
use Rattle.fab_topology.proofs.laws.law_rounds.Goals as goal

pub returns : goal.returns
returns c = record { heard = each_is_heard; told = each_is_told; once = each_is_once; found = each_is_found; from = each_is_from; tiles = each_tiles; all_hear = all_hear; few = few_messages }
