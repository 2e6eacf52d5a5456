use Rattle.std.proofs.Common.{false}
use Rattle.fab_model.proofs.Members.{caps_of_has}
use Rattle.fab_info.proofs.negotiation.no_hints.Goals as goal

pub returns : goal.returns
returns c = let none = caps_of_has c.none.result (λ cap. false) c.none.ensures in cc
