use Rattle.std.proofs.Common.{◌∙◌, sym}
use Rattle.fab_core.proofs.Calling.{cancels_none, cancels_passing}
use Rattle.fab_core.proofs.machine.CoreMachine.may_cancel.Goals as goal

pub returns-clause-no : goal.returns-clause-no
returns-clause-no g c = λ none. cancels_none c.args.self.now c.args.ctx (rw (← c.self.view_is) c.known-2.ensures.read) (rw (← c.self.view_is) c.known-2.ensures.fits) (rw (← c.self.view_is) (sym c.may_cancel.ensures ∙ none))

pub returns-clause-yes : goal.returns-clause-yes
returns-clause-yes g c = λ some. cancels_passing c.args.self.now c.args.ctx (rw (← c.self.view_is) c.known-2.ensures.read) (rw (← c.self.view_is) c.known-2.ensures.fits) (rw (← c.self.view_is) (sym c.may_cancel.ensures ∙ some))
