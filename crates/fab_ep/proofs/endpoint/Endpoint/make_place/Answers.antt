use Rattle.std.proofs.Common.{rules, refl}
use Rattle.fab_ep.proofs.Admitting.{shortened, admitted_at_once, unable_as, still_full, admitted}
use Rattle.fab_ep.proofs.endpoint.Endpoint.make_place.Goals as goal

pub returns-then-is_short-clause-err : goal.returns-then-is_short-clause-err
returns-then-is_short-clause-err g c o granted = rw (← c.self.view_is) (shortened g.P.Port.FIXED _ o (c.if-is_short.ensures.short refl) (rw (← c.self.view_is) at granted))

pub returns-then-not-is_full-clause-ok : goal.returns-then-not-is_full-clause-ok
returns-then-not-is_full-clause-ok g c o granted = rw (← c.self.view_is) (admitted_at_once _ o (c.if-is_short.ensures.room refl) (rw (← c.self.view_is) at granted) (search rules))

pub returns-in_default-clause-err : goal.returns-in_default-clause-err
returns-in_default-clause-err g c o granted =
    rw (← c.self.view_is) (unable_as g.P.Port.FIXED _ _ o c.push.result (c.if-is_short.ensures.room refl) (rw (← c.self.view_is) at granted) (search rules) (search rules) c.push.ensures.memory c.push.ensures.pushes c.push.ensures.places c.push.ensures.ins c.push.ensures.next)

pub returns-then-is_full-clause-err : goal.returns-then-is_full-clause-err
returns-then-is_full-clause-err g c o granted =
    rw (← c.self.view_is) (still_full g.P.Port.FIXED _ _ o _ (search rules) (c.if-is_short.ensures.room refl) (rw (← c.self.view_is) at granted) (search rules) (search rules) c.push.ensures.places c.push.ensures.ins c.push.ensures.next (search rules))

pub returns-clause-ok : goal.returns-clause-ok
returns-clause-ok g c o granted =
    rw (← c.self.view_is) (admitted _ _ o (c.if-is_short.ensures.room refl) c.push.ensures.places (rw (← c.self.view_is) at granted) (search rules) (search rules) c.push.ensures.ins c.push.ensures.next (search rules))
