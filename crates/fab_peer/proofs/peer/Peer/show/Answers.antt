use Rattle.std.proofs.Common.{◌∙◌, ap, Some, refl}
use Rattle.fab_base.specs.declared.faults.Fault.TheVariants.{NoKey}
use Rattle.fab_base.specs.declared.peers.LineResult.TheVariants.{Bytes, Refused}
use Rattle.fab_model.specs.Calls.{Show}
use Rattle.fab_peer.specs.Turns.{told}
use Rattle.fab_peer.proofs.Alone.{calls_show, show_final, shows_none, shows_some, still_line, noted_line}
use Rattle.fab_peer.proofs.Leaving.{none_left, same_left}
use Rattle.fab_peer.proofs.peer.Peer.show.Goals as goal

pub returns-in_default-clause-on : goal.returns-in_default-clause-on
returns-in_default-clause-on g c =
    let seen = g.E.Sees.seen in
    let a = told seen c.args.self.now in
    let went = still_line a (told seen c.noted.new.self) (Show c.args.key) (Refused NoKey) (λ ctx. refl) (calls_show a c.args.key c.requires.next) (show_final c.args.key) c.requires.log (shows_none a.seen.held.state c.args.key c.in_default.ensures) in
    noted_line c.noted.result a (told seen c.noted.new.self) _ went c.noted.ensures.told c.noted.ensures.done

pub returns-clause-on : goal.returns-clause-on
returns-clause-on g c =
    let seen = g.E.Sees.seen in
    let a = told seen c.args.self.now in
    let bytes = ap Some c.in_ok-bytes.ensures ∙ c.in-Some.ensures in
    let went = still_line a (told seen c.noted-2.new.self) (Show c.args.key) (Bytes c.in_ok-bytes.bytes) (λ ctx. refl) (calls_show a c.args.key c.requires.next) (show_final c.args.key) c.requires.log (shows_some a.seen.held.state c.args.key c.in_ok-bytes.bytes bytes) in
    noted_line c.noted-2.result a (told seen c.noted-2.new.self) _ went c.noted-2.ensures.told c.noted-2.ensures.done

pub returns-in_default-clause-left : goal.returns-in_default-clause-left
returns-in_default-clause-left g c =
    let seen = g.E.Sees.seen in
    let a = told seen c.args.self.now in
    none_left c.noted.result a (told seen c.noted.new.self) c.noted.ensures.left

pub returns-clause-left : goal.returns-clause-left
returns-clause-left g c =
    let seen = g.E.Sees.seen in
    let a = told seen c.args.self.now in
    none_left c.noted-2.result a (told seen c.noted-2.new.self) c.noted-2.ensures.left

pub returns-in_err-bytes-clause-left : goal.returns-in_err-bytes-clause-left
returns-in_err-bytes-clause-left g c = same_left _ _
