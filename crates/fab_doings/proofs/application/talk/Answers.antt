use Rattle.std.proofs.Common.{inl, inr, refl}
use Rattle.fab_doings.proofs.Applying.{late_recorded, late_not_recorded, sends_recorded, sends_not_recorded, waits_recorded}
use Rattle.fab_doings.proofs.Recording.{recorded_then}
use Rattle.fab_doings.proofs.application.talk.Goals as goal

-- ---- the receive is refused

pub returns-in-Err-clause-err : goal.returns-in-Err-clause-err
returns-in-Err-clause-err g c = inl c.in-Err.ensures.err.1

pub returns-in-Err-clause-some_recorded : goal.returns-in-Err-clause-some_recorded
returns-in-Err-clause-some_recorded g c = (0, late_not_recorded _ _ _ _ c.in-Err.ensures.err.1)

-- ---- the send is refused

pub returns-in-Err-tsend-clause-err : goal.returns-in-Err-tsend-clause-err
returns-in-Err-tsend-clause-err g c = inr (inl (g.E.Sees.seen c.trecv.new.self, c.in_default.ensures.ok, c.in-Err-tsend.ensures.err.1))

pub returns-in-Err-tsend-clause-some_recorded : goal.returns-in-Err-tsend-clause-some_recorded
returns-in-Err-tsend-clause-some_recorded g c = (1, recorded_then _ (g.E.Sees.seen c.trecv.new.self) _ (late_recorded _ _ _ c.in_default.ensures.ok) (sends_not_recorded _ _ _ _ _ c.in-Err-tsend.ensures.err.1))

-- ---- a completion comes, or none

pub returns-in-Ok-clause-ok : goal.returns-in-Ok-clause-ok
returns-in-Ok-clause-ok g c = record {
  asked = g.E.Sees.seen c.trecv.new.self;
  sent = g.E.Sees.seen c.tsend.new.self;
  receives = c.in_default.ensures.ok;
  sends = c.in_default-tsend.ensures.ok;
  waits = c.in-Ok.ensures.waits;
}

pub returns-in-Ok-clause-recorded : goal.returns-in-Ok-clause-recorded
returns-in-Ok-clause-recorded g c = recorded_then _ (g.E.Sees.seen c.tsend.new.self) _
    (recorded_then _ (g.E.Sees.seen c.trecv.new.self) _ (late_recorded _ _ _ c.in_default.ensures.ok) (sends_recorded _ _ _ _ _ c.in_default-tsend.ensures.ok))
    (waits_recorded _ _ _ _ _ c.in-Ok.ensures.waits)

-- ---- memory lacks meanwhile

pub returns-in-Err-wait-clause-err : goal.returns-in-Err-wait-clause-err
returns-in-Err-wait-clause-err g c = inr (inr (
  refl,
  c.in-Err-wait.field-0,
  record {
    asked = g.E.Sees.seen c.trecv.new.self;
    sent = g.E.Sees.seen c.tsend.new.self;
    receives = c.in_default.ensures.ok;
    sends = c.in_default-tsend.ensures.ok;
    waits = c.in-Err-wait.ensures.waits;
  },
))

pub returns-in-Err-wait-clause-some_recorded : goal.returns-in-Err-wait-clause-some_recorded
returns-in-Err-wait-clause-some_recorded g c = (
  2,
  recorded_then _ (g.E.Sees.seen c.tsend.new.self) _
      (recorded_then _ (g.E.Sees.seen c.trecv.new.self) _ (late_recorded _ _ _ c.in_default.ensures.ok) (sends_recorded _ _ _ _ _ c.in_default-tsend.ensures.ok))
      (waits_recorded _ _ _ _ _ c.in-Err-wait.ensures.waits),
)
