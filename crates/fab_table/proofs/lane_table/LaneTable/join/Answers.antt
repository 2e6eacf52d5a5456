use Rattle.std.proofs.Common.{rules}
use Rattle.fab_table.proofs.Seating.{joins_parts}
use Rattle.fab_table.proofs.lane_table.LaneTable.join.Goals as goal

pub join_seat-requires : goal.join_seat-requires
join_seat-requires c = (search rules, search rules, search rules, search rules, joins_parts _ _ _ _ _)
