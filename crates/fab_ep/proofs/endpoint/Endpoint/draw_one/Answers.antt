use Rattle.std.proofs.Common.{rules, refl, arith, ◌∷◌, [], length-append}
use Rattle.fab_ep.specs.Value.{seen}
use Rattle.fab_face.specs.declared.events.Event.TheVariants.{Draw}
use Rattle.fab_face.proofs.Going.{drew_shorter}
use Rattle.fab_ep.proofs.Accepting.{tied_drew}
use Rattle.fab_ep.proofs.endpoint.Endpoint.draw_one.Goals as goal

pub returns-clause-less : goal.returns-clause-less
returns-clause-less g c = λ is. rw (← c.self.view_is) (drew_shorter _ _ (c.draw.ensures.yes c.if-not-draw.false))

pub invariant_of-self-2 : goal.invariant_of-self-2
invariant_of-self-2 g c =
    let i = c.self.inside in (
      search rules,
      tied_drew (seen g.P.Port (record { port = i.port; held = g.C.Machine.held i.core; log = i.log.items; log_size = i.log_size; pushed = i.pushed; next = i.next })) _ c.self.invariant.1 (c.draw.ensures.yes c.if-not-draw.false) c.draw.ensures.next
          (let l = length-append i.log.items (Draw ∷ []) in rw c.push_back_reserved.ensures.items (omega (arith, l, c.is_short.ensures.room c.if-is_short.false))) refl refl c.known.ensures,
      c.self.invariant.2,
    )
