use Rattle.std.proofs.Common.{◌≡◌, false, sym, ap, ◌∙◌, arith}
use Rattle.std.specs.Prelude.{Ok, Err}
use Rattle.std.proofs.lemmas.Result.{err_from_is_err_and}
use Rattle.fab_grammar.specs.Before.{opened_by, count_in}
use Rattle.fab_grammar.specs.Settings.{peer_of}
use Rattle.std.proofs.lemmas.Bool.Decides.{nat_tests}
use Rattle.fab_grammar.specs.Rules.{is_again, is_no_peer, why_from}
use Rattle.fab_script.proofs.ReaderLemmas.{answers_err, peer_fault, peer_taken, named_fresh}
use Rattle.fab_script.proofs.reader.Reader.take_peer.Goals as goal

pub returns-in_err-peer : goal.returns-in_err-peer
returns-in_err-peer c = λ before h.
    let p = err_from_is_err_and c.from_residual.result c.from_residual.ensures.1 in
    let fresh : is_again (opened_by before.items) c.args.args.now ≡ false = ap (λ ks. is_again ks c.args.args.now) (sym h.parts.opened) ∙ sym c.if-is_again.ensures in
    answers_err _ _ _ _ (why_from c.in_err-peer.field-0.0) (p.1 ∙ ap Err p.2) (peer_fault before c.args.number c.args.args.now c.in_err-peer.field-0.0 fresh (sym c.in_err-peer.ensures))

pub open-requires-clause-fresh : goal.open-requires-clause-fresh
open-requires-clause-fresh c = named_fresh c.args.self.now.parts.opened.items c.args.args.now c.in_ok-peer.peer (sym c.if-is_again.ensures) (sym c.in_ok-peer.ensures)

pub returns : goal.returns
returns c = λ before h.
    let k = c.in_ok-peer.peer in
    let args = c.args.args.now in
    let fresh : is_again (opened_by before.items) args ≡ false = ap (λ ks. is_again ks args) (sym h.parts.opened) ∙ sym c.if-is_again.ensures in
    let said : peer_of args ≡ Ok k = sym c.in_ok-peer.ensures in
    let there : is_no_peer before (Ok k) ≡ false = grind (arith, nat_tests, c.if-not-has.ensures, h.parts.count) in
    let none = peer_taken before c.args.number args k fresh said there c.in_ok-in_time.ensures in
    rw (none, said) (record { header = h.header; settings = h.settings; payloads = h.payloads; parts = c.in_ok-open.ensures (count_in before) before.items h.parts })
