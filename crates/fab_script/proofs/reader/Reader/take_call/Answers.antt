use Rattle.std.proofs.Common.{◌≡◌, ◌+◌, true, false, sym, ap, ◌∙◌}
use Rattle.std.specs.Prelude.{Ok, nat_lt}
use Rattle.fab_grammar.specs.Before.{has_opened, is_filled, count_in}
use Rattle.fab_grammar.specs.Lines.{op_of, op_size}
use Rattle.fab_grammar.specs.Rules.{is_late, is_too_much}
use Rattle.fab_grammar.specs.Versions.{most_bytes, most_in_all}
use Rattle.fab_script.proofs.ReaderLemmas.{call_taken}
use Rattle.fab_script.proofs.reader.Reader.take_call.Goals as goal

pub returns : goal.returns
returns c = λ before h.
    let api = c.args.api in
    let op = c.in_ok-op.op in
    let some : has_opened before ≡ true = ap is_filled (sym h.parts.opened) ∙ sym c.if-not-has_opened.ensures in
    let said : op_of (most_bytes api) c.args.verb c.args.args.now ≡ Ok op =
    ap (λ most. op_of most c.args.verb c.args.args.now) (sym c.most_bytes.ensures) ∙ (sym c.in_ok-read_op.ensures ∙ c.in_ok-op.was) in
    let late : is_late c.args.number ≡ false = sym c.if-is_late.ensures in
    let few : is_too_much api before (Ok op) ≡ false = ap (λ m. nat_lt (most_in_all api) (m + op_size op)) (sym h.parts.size) ∙ sym c.if-is_too_much.ensures in
    let none = call_taken api before c.args.number c.args.verb c.args.args.now op some said late few in
    rw (none, said) (record { header = h.header; settings = h.settings; payloads = h.payloads; parts = c.in_ok-add.ensures (count_in before) before.items h.parts })
