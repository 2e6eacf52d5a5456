use Rattle.fab_table.proofs.Rows.{cell_small}
use Rattle.fab_table.proofs.lane_table.LaneTable.cell_place.Goals as goal

pub overflow_add-result : goal.overflow_add-result
overflow_add-result c = record { fits = cell_small c.args.self.now.peers c.args.self.now.room c.lane.result c.args.cell c.args.self.now.sized.6 c.args.self.now.sized.4 c.lane.ensures.below c.requires.cell }
