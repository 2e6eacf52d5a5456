use Rattle.std.proofs.Common.{ap, arith}
use Rattle.fab_core.specs.Parts.{Parts}
use Rattle.fab_core.proofs.Sharing.{buffer_short, if_shares, if_shares_next, if_shares_not}
use Rattle.fab_core.proofs.receiving.CoreMultiReceiving.post_multi.Goals as goal

pub share-requires : goal.share-requires
share-requires g c = record { small = buffer_short c.args.self.now c.args.ask.now c.args.buf c.requires.granted (let same = ap (λ (p : Parts). p.most_message) c.self.view_is in omega (arith, same, c.self.ranges)) }

pub returns-clause-ok : goal.returns-clause-ok
returns-clause-ok g c = if_shares c.args.self.now c.args.ask.now c.args.buf (rw (← c.self.view_is) c.known-2.ensures.fits) c.share.new.self c.share.result c.requires.granted c.share.ensures.ok

pub returns-clause-next : goal.returns-clause-next
returns-clause-next g c = if_shares_next c.args.self.now c.args.ask.now c.args.buf c.share.new.self c.share.result c.share.ensures.ok c.share.ensures.stays

pub returns-clause-err : goal.returns-clause-err
returns-clause-err g c = if_shares_not c.args.self.now c.args.ask.now c.args.buf (rw (← c.self.view_is) c.known-2.ensures.fits) c.share.result c.requires.granted c.share.ensures.err
