use Rattle.std.proofs.Common.{◌≡◌, ℕ, true, false, length, rules, arith, ap, ◌∙◌}
use Rattle.std.specs.Prelude.{nat_lt}
use Rattle.std.proofs.lemmas.Bool.Decides.{nat_tests}
use Rattle.std.proofs.lemmas.List.{length-replicate}
use Rattle.fab_base.specs.declared.items.Want.{Want}
use Rattle.fab_model.specs.Receiving.{may_receive, source_is_known, least_is_wrong}
use Rattle.fab_checker_machine.specs.Room.{place_fault}
use Rattle.fab_checker_halves.specs.Places.{taken_first}
use Rattle.fab_checker_halves.specs.Seen.{rx_of}
use Rattle.fab_checker_machine.specs.Seen.{state_of, posting_of}
use Rattle.fab_checker_machine.proofs.Answering.{post_fault_is}
use Rattle.fab_checker_machine.proofs.state.State.post_fault.Goals as goal

pub returns : goal.returns
returns c =
    let s = state_of c.args.self.now in
    let p = posting_of c.args.posting.now in
    let may : may_receive s p.tagged ≡ true = search rules in
    let len = length-replicate {A = ℕ} c.args.posting.now.len 0 in
    let short : nat_lt s.most_message (length p.buf) ≡ false = rw len (grind (arith, nat_tests, c.if-posting-self.false)) in
    let known : source_is_known s p.source ≡ true = search rules in
    let right : least_is_wrong p ≡ false = search rules in
    c.place_fault.ensures ∙ ap (λ (w : Want). place_fault (taken_first c.args.posting.now.least w (rx_of c.args.self.now.rx)) s) c.want_of-want.ensures
    ∙ post_fault_is s p may short known right
