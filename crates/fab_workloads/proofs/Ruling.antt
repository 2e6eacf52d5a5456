-- What a round is refused for.
use Rattle.std.proofs.Common.{Bool, List, None, Option, Some, [], ap, false, length, refl, true, ℕ, ◌++◌, ◌||◌, ◌∙◌, ◌∷◌, ◌≡◌}
use Rattle.std.specs.Prelude.{Err, Ok, Result, is_none, nat_le, unwrap_or}
use Rattle.fab_base.specs.declared.script.BytesWord.{BytesWord}
use Rattle.fab_base.specs.declared.status.Why.TheVariants as why
use Rattle.fab_base.specs.declared.status.Why.{Why}
use Rattle.fab_words.specs.Words.{first_of}
use Rattle.fab_words.specs.declared.misread.Misread.TheVariants.{Limit, Number, Words}
use Rattle.fab_words.specs.declared.misread.Misread.{Misread}
use Rattle.fab_grammar.specs.Rules.{why_from}
use Rattle.fab_workloads.specs.Grammar.{Before, Said, a_round, are_much, round_rules, said_of, said_rules, with_round}
use Rattle.fab_workloads.specs.declared.coll_lines.Verb.{Verb}
use Rattle.fab_fold.specs.declared.coll.Coll.{Coll}

module _ (before : Before) (verb : Verb) (args : List (List ℕ)) where
  pub no_ranks : before.peers ≡ None → first_of (round_rules before verb args) ≡ Some why.Order
  unfolding round_rules
  no_ranks none = ap (λ o. first_of (said_rules o before.rounds (said_of (unwrap_or o 0) verb args))) none

  module _ (n : ℕ) (ranks : before.peers ≡ Some n) where
    ruled : (said : Result Said Misread) → said_of n verb args ≡ said → first_of (round_rules before verb args) ≡ first_of (said_rules (Some n) before.rounds said)
    unfolding round_rules
    ruled said is =
        ap (λ o. first_of (said_rules o before.rounds (said_of (unwrap_or o 0) verb args))) ranks
        ∙ ap (λ (r : Result Said Misread). first_of (said_rules (Some n) before.rounds r)) is

    of_fault : (fault : Misread) → first_of (said_rules (Some n) before.rounds (Err fault)) ≡ Some (why_from fault)
    of_fault Words = refl
    of_fault Number = refl
    of_fault Limit = refl

    pub fault_said : (fault : Misread) → said_of n verb args ≡ Err fault → first_of (round_rules before verb args) ≡ Some (why_from fault)
    fault_said fault is = ruled (Err fault) is ∙ of_fault fault

    abbrev tests : Bool → Bool → Option Why
    tests rootless limit = first_of ((rootless, why.Peer) ∷ (limit, why.Limit) ∷ [])

    module _ (coll : Option Coll) (shares : List BytesWord) (is : said_of n verb args ≡ Ok (coll, shares)) where
      by_tests : (rootless limit : Bool) → is_none coll ≡ rootless → (nat_le 100 (length before.rounds) || are_much n before.rounds shares) ≡ limit → first_of (round_rules before verb args) ≡ tests rootless limit
      by_tests rootless limit r l =
          ruled (Ok (coll, shares)) is
          ∙ ap (λ b. tests b (nat_le 100 (length before.rounds) || are_much n before.rounds shares)) r
          ∙ ap (λ b. tests rootless b) l

      pub no_root : coll ≡ None → first_of (round_rules before verb args) ≡ Some why.Peer
      no_root none = by_tests true (nat_le 100 (length before.rounds) || are_much n before.rounds shares) (ap is_none none) refl

      pub too_much : (c : Coll) → coll ≡ Some c → (nat_le 100 (length before.rounds) || are_much n before.rounds shares) ≡ true → first_of (round_rules before verb args) ≡ Some why.Limit
      too_much c some l = by_tests false true (ap is_none some) l

      pub no_rule : (c : Coll) → coll ≡ Some c → (nat_le 100 (length before.rounds) || are_much n before.rounds shares) ≡ false → first_of (round_rules before verb args) ≡ None
      no_rule c some l = by_tests false false (ap is_none some) l

      pub round_taken : (number : ℕ) (c : Coll) → coll ≡ Some c
          → with_round before number (said_of (unwrap_or before.peers 0) verb args) ≡ record before { rounds = before.rounds ++ a_round number c shares ∷ [] }
      round_taken number c some =
          ap (λ o. with_round before number (said_of (unwrap_or o 0) verb args)) ranks
          ∙ ap (with_round before number) (is ∙ ap (λ (o : Option Coll). let said : Result Said Misread = Ok (o, shares) in said) some)
