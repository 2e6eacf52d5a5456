use Rattle.fab_doings.proofs.Recording.{receives_recorded, receives_not_recorded, recorded_then}
use Rattle.fab_doings.proofs.thread.ask_both.Goals as goal

pub returns-in-Err-clause-some_recorded : goal.returns-in-Err-clause-some_recorded
returns-in-Err-clause-some_recorded g c = (0, receives_not_recorded _ _ _ _ c.in-Err.ensures.err.1)

pub returns-in-Ok-clause-recorded : goal.returns-in-Ok-clause-recorded
returns-in-Ok-clause-recorded g c = recorded_then _ _ _ (receives_recorded _ _ _ c.in_default.ensures.ok) (receives_recorded _ _ _ c.in-Ok.ensures.ok)

pub returns-in-Ok-clause-some_recorded : goal.returns-in-Ok-clause-some_recorded
returns-in-Ok-clause-some_recorded g c = (2, recorded_then _ _ _ (receives_recorded _ _ _ c.in_default.ensures.ok) (receives_recorded _ _ _ c.in-Ok.ensures.ok))

pub returns-in-Err-trecv-clause-some_recorded : goal.returns-in-Err-trecv-clause-some_recorded
returns-in-Err-trecv-clause-some_recorded g c = (1, recorded_then _ _ _ (receives_recorded _ _ _ c.in_default.ensures.ok) (receives_not_recorded _ _ _ _ c.in-Err-trecv.ensures.err.1))
