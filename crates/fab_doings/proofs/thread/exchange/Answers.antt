use Rattle.std.proofs.Common.{inl, inr, refl}
use Rattle.fab_doings.proofs.Recording.{progressed_recorded, receives_recorded, receives_not_recorded, recorded_then, sends_recorded, sends_not_recorded}
use Rattle.fab_doings.proofs.thread.exchange.Goals as goal

-- ---- the receive is refused

pub returns-in-Err-clause-err : goal.returns-in-Err-clause-err
returns-in-Err-clause-err g c = inl c.in-Err.ensures.err.1

pub returns-in-Err-clause-some_recorded : goal.returns-in-Err-clause-some_recorded
returns-in-Err-clause-some_recorded g c = (0, receives_not_recorded _ _ _ _ c.in-Err.ensures.err.1)

-- ---- the send is refused

pub returns-in-Err-tsend-clause-err : goal.returns-in-Err-tsend-clause-err
returns-in-Err-tsend-clause-err g c = inr (inl (g.E.Sees.seen c.trecv.new.self, c.in_default.ensures.ok, c.in-Err-tsend.ensures.err.1))

pub returns-in-Err-tsend-clause-some_recorded : goal.returns-in-Err-tsend-clause-some_recorded
returns-in-Err-tsend-clause-some_recorded g c = (1, recorded_then _ (g.E.Sees.seen c.trecv.new.self) _ (receives_recorded _ _ _ c.in_default.ensures.ok) (sends_not_recorded _ _ _ _ _ c.in-Err-tsend.ensures.err.1))

-- ---- progress is made

pub returns-in-Ok-clause-ok : goal.returns-in-Ok-clause-ok
returns-in-Ok-clause-ok g c = record {
  asked = g.E.Sees.seen c.trecv.new.self;
  sent = g.E.Sees.seen c.tsend.new.self;
  receives = c.in_default.ensures.ok;
  sends = c.in_default-tsend.ensures.ok;
  progressed = c.in-Ok.ensures;
}

pub returns-in-Ok-clause-recorded : goal.returns-in-Ok-clause-recorded
returns-in-Ok-clause-recorded g c = recorded_then _ (g.E.Sees.seen c.tsend.new.self) _
    (recorded_then _ (g.E.Sees.seen c.trecv.new.self) _ (receives_recorded _ _ _ c.in_default.ensures.ok) (sends_recorded _ _ _ _ _ c.in_default-tsend.ensures.ok))
    (progressed_recorded _ _ _ _ _ c.progress.ensures)

pub returns-in-Ok-clause-some_recorded : goal.returns-in-Ok-clause-some_recorded
returns-in-Ok-clause-some_recorded g c = (
  2,
  recorded_then _ (g.E.Sees.seen c.tsend.new.self) _
      (recorded_then _ (g.E.Sees.seen c.trecv.new.self) _ (receives_recorded _ _ _ c.in_default.ensures.ok) (sends_recorded _ _ _ _ _ c.in_default-tsend.ensures.ok))
      (progressed_recorded _ _ _ _ _ c.progress.ensures),
)

-- ---- progress lacks memory

pub returns-in-Err-progress-clause-err : goal.returns-in-Err-progress-clause-err
returns-in-Err-progress-clause-err g c = inr (inr (
  refl,
  c.in-Err-progress.field-0,
  record {
    asked = g.E.Sees.seen c.trecv.new.self;
    sent = g.E.Sees.seen c.tsend.new.self;
    receives = c.in_default.ensures.ok;
    sends = c.in_default-tsend.ensures.ok;
    progressed = c.in-Err-progress.ensures;
  },
))

pub returns-in-Err-progress-clause-some_recorded : goal.returns-in-Err-progress-clause-some_recorded
returns-in-Err-progress-clause-some_recorded g c = (
  2,
  recorded_then _ (g.E.Sees.seen c.tsend.new.self) _
      (recorded_then _ (g.E.Sees.seen c.trecv.new.self) _ (receives_recorded _ _ _ c.in_default.ensures.ok) (sends_recorded _ _ _ _ _ c.in_default-tsend.ensures.ok))
      (progressed_recorded _ _ _ _ _ c.progress.ensures),
)
