use Rattle.std.proofs.Common.{Some, ap, sym, ◌∙◌, ◌≡◌}
use Rattle.fab_base.specs.declared.caps.Api.TheVariants.{One}
use Rattle.fab_model.specs.Negotiation.{grant, granted_info}
use Rattle.fab_workloads.specs.Script.{hints_for}
use Rattle.fab_workloads.proofs.Granted.{peers_granted}
use Rattle.fab_workloads.proofs.script.conf_of.Goals as goal

pub returns : goal.returns
returns c =
    let peers = c.args.peers in
    let hints = c.hints_for-hints.ensures in
    let granted : Some c.in-Ok.info ≡ Some (granted_info One (hints_for peers)) =
    sym c.in-Ok.ensures.granted ∙ ap (λ hints. grant One (Some hints)) hints ∙ peers_granted peers c.requires.least c.requires.most in
    let info : c.in-Ok.info ≡ granted_info One (hints_for peers) = cc in
    cc
