use Rattle.std.proofs.Common.{refl}
use Rattle.fab_base.specs.declared.peers.LineResult.TheVariants.{Bytes, Refused}
use Rattle.fab_model.specs.Calls.{Close}
use Rattle.fab_peer.specs.Turns.{told}
use Rattle.fab_peer.proofs.Alone.{calls_close, close_final, here_line, noted_line}
use Rattle.fab_peer.proofs.Leaving.{here_left}
use Rattle.fab_peer.proofs.peer.Peer.close.Goals as goal

pub returns-in-Ok-clause-on : goal.returns-in-Ok-clause-on
returns-in-Ok-clause-on g c =
    let seen = g.E.Sees.seen in
    let a = told seen c.args.self.now in
    let went = here_line a (told seen c.noted.new.self) (seen c.close_region.new.self) (Close c.args.key) (Bytes c.in-Ok.bytes) (λ ctx. refl) (calls_close a c.args.key c.requires.next) (close_final c.args.key) c.requires.log c.in-Ok.ensures.ok in
    noted_line c.noted.result a (told seen c.noted.new.self) _ went c.noted.ensures.told c.noted.ensures.done

pub returns-in-Err-clause-on : goal.returns-in-Err-clause-on
returns-in-Err-clause-on g c =
    let seen = g.E.Sees.seen in
    let a = told seen c.args.self.now in
    let went = here_line a (told seen c.noted-in-Err.new.self) (seen c.close_region.new.self) (Close c.args.key) (Refused c.in-Err.why) (λ ctx. refl) (calls_close a c.args.key c.requires.next) (close_final c.args.key) c.requires.log c.in-Err.ensures.err in
    noted_line c.noted-in-Err.result a (told seen c.noted-in-Err.new.self) _ went c.noted-in-Err.ensures.told c.noted-in-Err.ensures.done

pub returns-in-Ok-clause-left : goal.returns-in-Ok-clause-left
returns-in-Ok-clause-left g c =
    let seen = g.E.Sees.seen in
    let a = told seen c.args.self.now in
    here_left c.noted.result a (told seen c.noted.new.self) (seen c.close_region.new.self) (Close c.args.key) (Bytes c.in-Ok.bytes) (calls_close a c.args.key c.requires.next) (close_final c.args.key) c.in-Ok.ensures.ok c.noted.ensures.left

pub returns-in-Err-clause-left : goal.returns-in-Err-clause-left
returns-in-Err-clause-left g c =
    let seen = g.E.Sees.seen in
    let a = told seen c.args.self.now in
    here_left c.noted-in-Err.result a (told seen c.noted-in-Err.new.self) (seen c.close_region.new.self) (Close c.args.key) (Refused c.in-Err.why) (calls_close a c.args.key c.requires.next) (close_final c.args.key) c.in-Err.ensures.err c.noted-in-Err.ensures.left
