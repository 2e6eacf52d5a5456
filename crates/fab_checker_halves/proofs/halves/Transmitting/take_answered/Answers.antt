use Rattle.std.proofs.Common.{rules, Some, None, ◌≡◌, sym, ap, ◌∙◌}
use Rattle.std.specs.Prelude.{position}
use Rattle.fab_model.specs.Sending.{is_answered_by}
use Rattle.fab_checker_halves.specs.Seen.{tx_of}
use Rattle.fab_checker_halves.proofs.Parts.{answered_rest}
use Rattle.fab_model.proofs.Firsts.{first_at, first_none}
use Rattle.fab_checker_halves.proofs.halves.Transmitting.take_answered.Goals as goal

pub returns-in_default-clause-found : goal.returns-in_default-clause-found
returns-in_default-clause-found c =
    let none : position (is_answered_by (tx_of c.args.self.now) c.args.source c.args.reply.now) c.args.self.now.live.items ≡ None = search rules in
    sym ((first_none (is_answered_by (tx_of c.args.self.now) c.args.source c.args.reply.now) c.args.self.now.live.items none).0)

pub returns-in_default-clause-rest : goal.returns-in_default-clause-rest
returns-in_default-clause-rest c =
    let none : position (is_answered_by (tx_of c.args.self.now) c.args.source c.args.reply.now) c.args.self.now.live.items ≡ None = search rules in
    let same = (first_none (is_answered_by (tx_of c.args.self.now) c.args.source c.args.reply.now) c.args.self.now.live.items none).1 in
    answered_rest (tx_of c.args.self.now) c.args.source c.args.reply.now c.args.self.now.live.items (sym same)

pub returns-clause-found : goal.returns-clause-found
returns-clause-found c =
    let at : position (is_answered_by (tx_of c.args.self.now) c.args.source c.args.reply.now) c.args.self.now.live.items ≡ Some c.in-Some.at = search rules in
    let first = first_at (is_answered_by (tx_of c.args.self.now) c.args.source c.args.reply.now) c.remove.result c.args.self.now.live.items c.in-Some.at at in
    ap Some c.remove.ensures.value ∙ sym (first.found)

pub returns-clause-rest : goal.returns-clause-rest
returns-clause-rest c =
    let at : position (is_answered_by (tx_of c.args.self.now) c.args.source c.args.reply.now) c.args.self.now.live.items ≡ Some c.in-Some.at = search rules in
    let first = first_at (is_answered_by (tx_of c.args.self.now) c.args.source c.args.reply.now) c.remove.result c.args.self.now.live.items c.in-Some.at at in
    answered_rest (tx_of c.args.self.now) c.args.source c.args.reply.now c.remove.new.self.items (c.remove.ensures.items ∙ sym (first.rest))
