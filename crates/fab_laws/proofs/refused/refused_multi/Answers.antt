-- Wrong traces, by the law's own definitions.
use Rattle.fab_laws.proofs.rows.Refused.{closes_early, kept_back, leaves_gap, overlaps, released_early, stays_open, swapped_parts, told_twice, wrong_used}
use Rattle.fab_laws.proofs.refused.refused_multi.Goals as goal

pub returns-clause-overlaps : goal.returns-clause-overlaps
returns-clause-overlaps c = overlaps

pub returns-clause-gap : goal.returns-clause-gap
returns-clause-gap c = leaves_gap

pub returns-clause-open : goal.returns-clause-open
returns-clause-open c = stays_open

pub returns-clause-early : goal.returns-clause-early
returns-clause-early c = closes_early

pub returns-clause-swapped : goal.returns-clause-swapped
returns-clause-swapped c = swapped_parts

pub returns-clause-unwhole : goal.returns-clause-unwhole
returns-clause-unwhole c = released_early

pub returns-clause-kept : goal.returns-clause-kept
returns-clause-kept c = kept_back

pub returns-clause-used : goal.returns-clause-used
returns-clause-used c = wrong_used

pub returns-clause-twice : goal.returns-clause-twice
returns-clause-twice c = told_twice
