use Rattle.fabric_uses.proofs.Refusing.{err_both, never_again}
use Rattle.fabric_uses.proofs.sending.send_when_quiet.Goals as goal

pub returns : goal.returns
returns g c = λ some. err_both _ _ _ c.send.result (λ r told never. never_again _ _ _ _ c.requires some r.why told.1 never) c.send.ensures.err c.send.ensures.never
