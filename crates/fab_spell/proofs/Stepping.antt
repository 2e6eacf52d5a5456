-- Rows that are read one after another.
--     Rest before rows Goal      from what is said before, these rows can be written and break no rule wherever they stand within 100,000 lines, and the goal holds of what is said then
use Rattle.std.proofs.Common.{◌≡◌, ◌&&◌, ℕ, ◌+◌, ◌≤◌, true, false, List, [], ◌∷◌, length, Some, None, sym, ap, subst, ◌∙◌, refl, arith}
use Rattle.std.specs.Prelude.{codes, decimal, is_none}
use Rattle.std.specs.Fmt.{digits}
use Rattle.std.specs.List.{list_all}
use Rattle.std.proofs.lemmas.Bool.Decides.{nat_tests}
use Rattle.fab_base.specs.declared.caps.Api.{Api}
use Rattle.fab_base.specs.declared.caps.Api.TheVariants.{One, Two}
use Rattle.fab_words.specs.Words.{first_of}
use Rattle.fab_words.specs.Written.{is_word, is_row}
use Rattle.fab_grammar.specs.declared.verbs.Verb.{Verb}
use Rattle.fab_grammar.specs.declared.verbs.Verb.TheVariants as verb
use Rattle.fab_grammar.specs.Before.{Before}
use Rattle.fab_grammar.specs.Reads.{Reads}
use Rattle.fab_grammar.specs.Rules.{Rules, is_late, header_rules, kind_rules, verb_rules, word_rules, with_kind, with_verb, with_words}
use Rattle.fab_grammar.specs.Verbs.{name_of, verb_of, kind_of}
use Rattle.fab_grammar.specs.Versions.{version_of, version_named, header_of}
use Rattle.fab_spell.specs.Print.{header_row}
use Rattle.fab_spell.proofs.Rules.{none_first}

pub record Outcome (before : Before) (number : ℕ) (rows : List (List (List ℕ))) (Goal : Before → Type 0) : Type 0 where
  pub after : Before
  pub written : list_all is_row rows ≡ true
  pub reads : Reads before number rows after
  pub goal : Goal after

abbrev pub Rest : Before → List (List (List ℕ)) → (Before → Type 0) → Type 0
Rest before rows Goal = (number : ℕ) → number + length rows ≤ 100001 → Outcome before number rows Goal

in_time : (number more : ℕ) → number + (more + 1) ≤ 100001 → is_late number ≡ false
in_time number more h = grind (arith, nat_tests)

-- one row, and what follows it
pub take_row : (before : Before) (row : List (List ℕ)) (rows : List (List (List ℕ))) (Goal : Before → Type 0) → is_row row ≡ true → ((number : ℕ) → is_late number ≡ false → (first_of (word_rules before number row) ≡ None) × Rest (with_words before number row) rows Goal) → Rest before (row ∷ rows) Goal
take_row before row rows Goal words fits = λ number bound.
    let late : is_late number ≡ false = in_time number (length rows) (omega arith) in
    let here = fits number late in
    let rest = here.1 (number + 1) (omega arith) in
    record { after = rest.after; written = ap (λ b. b && list_all is_row rows) words ∙ rest.written; reads = (here.0, rest.reads); goal = rest.goal }

-- no row is left
pub take_none : (before : Before) (Goal : Before → Type 0) → Goal before → Rest before [] Goal
take_none before Goal g = λ number bound. record { after = before; written = refl; reads = refl; goal = g }

-- ---- verbs
pub verb_named : (verb : Verb) → verb_of (name_of verb) ≡ Some verb
unfolding verb_of
verb_named verb.Peers = refl
verb_named _ = refl

pub verb_row : (verb : Verb) (args : List (List ℕ)) → list_all is_word args ≡ true → is_row (name_of verb ∷ args) ≡ true
verb_row verb.Peers args e = e
verb_row _ args e = e

-- a row of a verb after the header
pub verb_fits : (api : Api) (before : Before) (number : ℕ) (verb : Verb) (args : List (List ℕ)) → before.api ≡ Some api → first_of (kind_rules (kind_of verb) api before number verb args) ≡ None → first_of (word_rules before number (name_of verb ∷ args)) ≡ None
verb_fits api before number verb args header none =
    ap (λ o. first_of (elim o as (λ _. Rules) [ None ↦ header_rules number (name_of verb ∷ args) | Some named ↦ verb_rules named before number (verb_of (name_of verb)) args ])) header
    ∙ (ap (λ o. first_of (verb_rules api before number o args)) (verb_named verb) ∙ none)

pub verb_said : (api : Api) (before : Before) (number : ℕ) (verb : Verb) (args : List (List ℕ)) → before.api ≡ Some api → with_words before number (name_of verb ∷ args) ≡ with_kind (kind_of verb) api before number verb args
verb_said api before number verb args header =
    ap (λ o. elim o as (λ _. Before) [ None ↦ record before { api = header_of (name_of verb ∷ args) } | Some named ↦ with_verb named before number (verb_of (name_of verb)) args ]) header
    ∙ ap (λ o. with_verb api before number o args) (verb_named verb)

-- ---- the header
header_read : (api : Api) → (header_of (header_row (version_of api)) ≡ Some api) × (is_row (header_row (version_of api)) ≡ true)
unfolding version_named digits
header_read One = (refl, refl)
header_read Two = (refl, refl)

pub take_header : (api : Api) (before : Before) (rows : List (List (List ℕ))) (Goal : Before → Type 0) → before.api ≡ None → Rest (record before { api = Some api }) rows Goal → Rest before (header_row (version_of api) ∷ rows) Goal
take_header api before rows Goal none rest =
    let row = header_row (version_of api) in
    let read = header_read api in
    take_row before row rows Goal read.1 (λ number late.
    let verb = verb_of (codes "fabric") in
    let args : List (List ℕ) = decimal (version_of api) ∷ [] in
    let fits : first_of (word_rules before number row) ≡ None =
    ap (λ o. first_of (elim o as (λ _. Rules) [ None ↦ header_rules number row | Some named ↦ verb_rules named before number verb args ])) none
    ∙ none_first (header_rules number row) (ap is_none read.0, (late, tt)) in
    let next : with_words before number row ≡ record before { api = Some api } =
    ap (λ o. elim o as (λ _. Before) [ None ↦ record before { api = header_of row } | Some named ↦ with_verb named before number verb args ]) none
    ∙ ap (λ o. record before { api = o }) read.0 in
    (fits, subst (λ b. Rest b rows Goal) (sym next) rest))
