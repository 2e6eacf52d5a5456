-- Wrong traces, by the laws' own definitions.
use Rattle.fab_laws.proofs.rows.Refused.{left_over, repeated, swapped, unarrived}
use Rattle.fab_laws.proofs.refused.refused_streams.Goals as goal

pub returns-clause-swapped : goal.returns-clause-swapped
returns-clause-swapped c = swapped

pub returns-clause-repeated : goal.returns-clause-repeated
returns-clause-repeated c = repeated

pub returns-clause-unarrived : goal.returns-clause-unarrived
returns-clause-unarrived c = unarrived

pub returns-clause-left : goal.returns-clause-left
returns-clause-left c = left_over
