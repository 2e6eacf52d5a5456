-- The law is proved over any program.
use Rattle.fab_laws.proofs.receiving.Holding.{goes_once, got_is_told, none_is_lost, one_tells, took_is_told}
use Rattle.fab_laws.proofs.laws.law_receives.Goals as goal

pub returns-clause-got : goal.returns-clause-got
returns-clause-got c = got_is_told

pub returns-clause-took : goal.returns-clause-took
returns-clause-took c = took_is_told

pub returns-clause-only : goal.returns-clause-only
returns-clause-only c = one_tells

pub returns-clause-once : goal.returns-clause-once
returns-clause-once c = goes_once

pub returns-clause-all : goal.returns-clause-all
returns-clause-all c = none_is_lost
