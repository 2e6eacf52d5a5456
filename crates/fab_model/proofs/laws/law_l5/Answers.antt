-- The law is proved over any bound script.
use Rattle.fab_model.proofs.Replays.{every_order_ends_alike, lawful_is_reached, the_replay_is_an_order}
use Rattle.fab_model.proofs.laws.law_l5.Goals as goal

pub returns-clause-alike : goal.returns-clause-alike
returns-clause-alike c = every_order_ends_alike

pub returns-clause-replay : goal.returns-clause-replay
returns-clause-replay c = the_replay_is_an_order

pub returns-clause-lawful : goal.returns-clause-lawful
returns-clause-lawful c = lawful_is_reached
