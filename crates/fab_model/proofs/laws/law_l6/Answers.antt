-- The law is proved of the lines of any report, and over any bound script.
use Rattle.fab_model.proofs.Names.{bound_report_tells, lawful_report_tells}
use Rattle.fab_model.proofs.Told.{report_tells}
use Rattle.fab_model.proofs.laws.law_l6.Goals as goal

pub returns-clause-any : goal.returns-clause-any
returns-clause-any c = report_tells

pub returns-clause-bound : goal.returns-clause-bound
returns-clause-bound c = bound_report_tells

pub returns-clause-lawful : goal.returns-clause-lawful
returns-clause-lawful c = lawful_report_tells
