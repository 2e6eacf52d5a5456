use Rattle.std.proofs.Common.{Ok, refl}
use Rattle.fab_app.specs.declared.completions.Polled.TheVariants.{Entry, Error}
use Rattle.fab_asleep.proofs.Looks.{spun_once}
use Rattle.fab_asleep.proofs.waiting.polled.Goals as goal

pub returns-in-Ok-Entry-clause-told : goal.returns-in-Ok-Entry-clause-told
returns-in-Ok-Entry-clause-told g c =
    let seen = g.E.Sees.seen in
    (spun_once g.E.Sees.fixed 64 (seen c.args.endpoint.now) (seen c.poll.new.self) (Ok c.in-Ok-Entry.field-0) (Ok (Entry c.in-Ok-Entry.entry)) c.in-Ok-Entry.ensures (cc (c.in-Ok-Entry.field-0-is)), refl)

pub returns-in-Ok-Error-clause-told : goal.returns-in-Ok-Error-clause-told
returns-in-Ok-Error-clause-told g c =
    let seen = g.E.Sees.seen in
    (spun_once g.E.Sees.fixed 64 (seen c.args.endpoint.now) (seen c.poll.new.self) (Ok c.in-Ok-Error.field-0) (Ok (Error c.in-Ok-Error.error)) c.in-Ok-Error.ensures (cc (c.in-Ok-Error.field-0-is)), refl)
