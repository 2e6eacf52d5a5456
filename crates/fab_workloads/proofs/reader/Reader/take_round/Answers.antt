use Rattle.std.proofs.Common.{List, Some, ap, arith, length, sym, ◌||◌, ◌∙◌}
use Rattle.std.specs.Prelude.{nat_le}
use Rattle.fab_base.specs.declared.script.BytesWord.{BytesWord}
use Rattle.fab_workloads.specs.Grammar.{are_much}
use Rattle.fab_workloads.specs.Reading.{before_of}
use Rattle.fab_workloads.proofs.Ruling.{fault_said, no_ranks, no_root, no_rule, too_much}
use Rattle.fab_workloads.proofs.Said.{said_right}
use Rattle.fab_workloads.proofs.reader.Reader.take_round.Goals as goal

pub returns-in_default-clause-broken : goal.returns-in_default-clause-broken
returns-in_default-clause-broken c = sym (no_ranks (before_of c.args.self.now) c.args.verb c.args.args.now c.in_default.is)

pub returns-in-Err-clause-broken : goal.returns-in-Err-clause-broken
returns-in-Err-clause-broken c =
    ap Some c.why_from.ensures
    ∙ sym (fault_said (before_of c.args.self.now) c.args.verb c.args.args.now c.in-Some.peers c.in-Some.is c.in-Err.fault (sym c.in_ok-said.ensures ∙ c.in-Err.is))

pub returns-in_default-coll-clause-broken : goal.returns-in_default-coll-clause-broken
returns-in_default-coll-clause-broken c =
    let said = sym c.in_ok-said.ensures ∙ c.in-Ok.is in
    sym (no_root (before_of c.args.self.now) c.args.verb c.args.args.now c.in-Some.peers c.in-Some.is c.in-Ok.said.0 c.in-Ok.said.1 said c.in_default-coll.is)

pub is_much-requires-clause-few : goal.is_much-requires-clause-few
is_much-requires-clause-few c =
    let n = c.in-Some.peers in
    let right = said_right n c.args.verb c.args.args.now c.in-Ok.said (sym c.in_ok-said.ensures ∙ c.in-Ok.is) in
    let ranks = c.args.self.now.few_ranks n c.in-Some.is in
    omega (arith, ap (λ (shares : List BytesWord). length shares) c.as_slice.ensures, right.2 ranks.0, ranks.1)

pub returns-then-is_much-clause-broken : goal.returns-then-is_much-clause-broken
returns-then-is_much-clause-broken c =
    let said = sym c.in_ok-said.ensures ∙ c.in-Ok.is in
    let n = c.in-Some.peers in
    let rounds = c.args.self.now.rounds.items in
    sym (too_much (before_of c.args.self.now) c.args.verb c.args.args.now n c.in-Some.is c.in-Ok.said.0 c.in-Ok.said.1 said c.in-Some-coll.coll c.in-Some-coll.is
    (ap (λ (shares : List BytesWord). nat_le 100 (length rounds) || are_much n rounds shares) (sym c.as_slice.ensures) ∙ sym c.if-is_much.ensures))

pub add-requires-clause-few : goal.add-requires-clause-few
add-requires-clause-few c =
    let n = c.in-Some.peers in
    let right = said_right n c.args.verb c.args.args.now c.in-Ok.said (sym c.in_ok-said.ensures ∙ c.in-Ok.is) in
    let ranks = c.args.self.now.few_ranks n c.in-Some.is in
    omega (arith, right.2 ranks.0, ranks.1)

pub add-requires-clause-named : goal.add-requires-clause-named
add-requires-clause-named c = (said_right c.in-Some.peers c.args.verb c.args.args.now c.in-Ok.said (sym c.in_ok-said.ensures ∙ c.in-Ok.is)).1

pub returns-clause-broken : goal.returns-clause-broken
returns-clause-broken c =
    let said = sym c.in_ok-said.ensures ∙ c.in-Ok.is in
    let n = c.in-Some.peers in
    let rounds = c.args.self.now.rounds.items in
    sym (no_rule (before_of c.args.self.now) c.args.verb c.args.args.now n c.in-Some.is c.in-Ok.said.0 c.in-Ok.said.1 said c.in-Some-coll.coll c.in-Some-coll.is
    (ap (λ (shares : List BytesWord). nat_le 100 (length rounds) || are_much n rounds shares) (sym c.as_slice.ensures) ∙ sym c.if-is_much.ensures))
