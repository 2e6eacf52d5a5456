-- A line that breaks no rule.
use Rattle.std.proofs.Common.{◌≡◌, ℕ, Bool, true, false, ◌||◌, not, List, [], ◌∷◌, Option, Some, None, refl}
use Rattle.std.specs.Prelude.{is_none}
use Rattle.std.proofs.lemmas.Bool.{or_parts as or_false}
use Rattle.fab_base.specs.declared.caps.Api.{Api}
use Rattle.fab_base.specs.declared.status.Why.{Why}
use Rattle.fab_base.specs.declared.status.Why.TheVariants as why
use Rattle.fab_grammar.specs.declared.verbs.VerbKind.{VerbKind}
use Rattle.fab_grammar.specs.declared.verbs.VerbKind.TheVariants as kind
use Rattle.fab_grammar.specs.declared.verbs.Verb.{Verb}
use Rattle.fab_grammar.specs.Before.{Before}
use Rattle.fab_grammar.specs.Lines.{op_of}
use Rattle.fab_words.specs.Rows.{is_text, words_of}
use Rattle.fab_grammar.specs.Settings.{setting_of, peer_of}
use Rattle.fab_grammar.specs.Verbs.{verb_of, kind_of}
use Rattle.fab_grammar.specs.Versions.{header_of, most_bytes}
use Rattle.fab_words.specs.Words.{first_of}
use Rattle.fab_grammar.specs.Rules.{Rules, is_late, is_limit, is_one_too_many, is_too_much, setting_rules, peer_rules, call_rules, kind_rules, verb_rules, header_rules, word_rules, why_of}

-- where no test holds, the last does not
only_rule : (a : Bool) (u : Why) → first_of ((a, u) ∷ []) ≡ None → a ≡ false
only_rule true u e = cc
only_rule false u e = refl

last_of_2 : (a b : Bool) (u v : Why) → first_of ((a, u) ∷ (b, v) ∷ []) ≡ None → b ≡ false
last_of_2 false false u v e = refl
last_of_2 false true u v e = cc
last_of_2 true b u v e = cc

-- the last test of the rules
abbrev last_test : Rules → Bool
last_test [] = false
last_test (x ∷ []) = x.0
last_test (x ∷ y ∷ xs) = last_test (y ∷ xs)

last_fails : (rules : Rules) → first_of rules ≡ None → last_test rules ≡ false
last_fails [] e = refl
last_fails ((test, reason) ∷ []) e = only_rule test reason e
last_fails ((true, reason) ∷ y ∷ xs) e = cc
last_fails ((false, reason) ∷ y ∷ xs) e = last_fails (y ∷ xs) e

abbrev but_last : Rules → Rules
but_last [] = []
but_last (x ∷ []) = []
but_last (x ∷ y ∷ xs) = x ∷ but_last (y ∷ xs)

but_last_none : (rules : Rules) → first_of rules ≡ None → first_of (but_last rules) ≡ None
but_last_none [] e = refl
but_last_none (x ∷ []) e = refl
but_last_none ((true, reason) ∷ y ∷ xs) e = cc
but_last_none ((false, reason) ∷ y ∷ xs) e = but_last_none (y ∷ xs) e

pub first_fails : (a : Bool) (u : Why) (rules : Rules) → first_of ((a, u) ∷ rules) ≡ None → a ≡ false
first_fails true u rules e = cc
first_fails false u rules e = refl

pub rest_of : (a : Bool) (u : Why) (rules : Rules) → first_of ((a, u) ∷ rules) ≡ None → first_of rules ≡ None
rest_of true u rules e = cc
rest_of false u rules e = e

setting_in_time : (api : Api) (before : Before) (number : ℕ) (verb : Verb) (args : List (List ℕ)) → first_of (setting_rules api before number verb args) ≡ None → is_late number ≡ false
unfolding setting_rules
setting_in_time api before number verb args e =
    let limit = last_fails (but_last (setting_rules api before number verb args)) (but_last_none (setting_rules api before number verb args) e) in
    (or_false (is_limit (setting_of api verb args)) (is_late number) (or_false (is_limit (setting_of api verb args) || is_late number) (is_one_too_many before (setting_of api verb args)) limit).0).1

peer_in_time : (before : Before) (number : ℕ) (args : List (List ℕ)) → first_of (peer_rules before number args) ≡ None → is_late number ≡ false
unfolding peer_rules
peer_in_time before number args e =
    let limit = last_fails (peer_rules before number args) e in
    (or_false (is_limit (peer_of args)) (is_late number) limit).1

call_in_time : (api : Api) (before : Before) (number : ℕ) (verb : Verb) (args : List (List ℕ)) → first_of (call_rules api before number verb args) ≡ None → is_late number ≡ false
unfolding call_rules
call_in_time api before number verb args e =
    let limit = last_fails (call_rules api before number verb args) e in
    (or_false (is_limit (op_of (most_bytes api) verb args)) (is_late number) (or_false (is_limit (op_of (most_bytes api) verb args) || is_late number) (is_too_much api before (op_of (most_bytes api) verb args)) limit).0).1

kind_in_time : (k : VerbKind) (api : Api) (before : Before) (number : ℕ) (verb : Verb) (args : List (List ℕ)) → first_of (kind_rules k api before number verb args) ≡ None → is_late number ≡ false
kind_in_time kind.Setting api before number verb args e = setting_in_time api before number verb args e
kind_in_time kind.Peer api before number verb args e = peer_in_time before number args e
kind_in_time kind.Call api before number verb args e = call_in_time api before number verb args e

verb_in_time : (api : Api) (before : Before) (number : ℕ) (verb : Option Verb) (args : List (List ℕ)) → first_of (verb_rules api before number verb args) ≡ None → is_late number ≡ false
verb_in_time api before number None args e = cc
verb_in_time api before number (Some verb) args e = kind_in_time (kind_of verb) api before number verb args e

word_in_time : (before : Before) (number : ℕ) (words : List (List ℕ)) → first_of (word_rules before number words) ≡ None → is_late number ≡ false
word_in_time before number [] e = only_rule (is_late number) why.Limit e
word_in_time before number (word ∷ args) e = by_version before.api e
  where
    by_version : (o : Option Api) → first_of (elim o as (λ _. Rules) [ None ↦ header_rules number (word ∷ args) | Some api ↦ verb_rules api before number (verb_of word) args ]) ≡ None → is_late number ≡ false
    by_version None e = last_of_2 (is_none (header_of (word ∷ args))) (is_late number) why.Header why.Limit e
    by_version (Some api) e = verb_in_time api before number (verb_of word) args e

pub in_time : (before : Before) (number : ℕ) (line : List ℕ) → why_of before number line ≡ None → is_late number ≡ false
unfolding why_of
in_time before number line e = word_in_time before number (words_of line) (rest_of (not (is_text line)) why.NotText (word_rules before number (words_of line)) e)
