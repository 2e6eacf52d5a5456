use Rattle.fabric_uses.proofs.Answering.{stands_there}
use Rattle.fabric_uses.proofs.completing.send_to_peer.Goals as goal

pub returns-in-Some : goal.returns-in-Some
returns-in-Some g c = λ t. (c.in-Some.dest, stands_there _ _ _ c.in-Some.ensures, c.sends.ensures t)
