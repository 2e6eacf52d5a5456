-- What holds of all that the lines before say, line by line; and the script that they spell.
use Rattle.std.proofs.Common.{◌≡◌, ℕ, ◌+◌, not, List, [], ◌∷◌, length, Option, Some, None, subst, refl}
use Rattle.std.specs.Prelude.{Result, Ok, Err}
use Rattle.fab_base.specs.declared.caps.Api.{Api}
use Rattle.fab_base.specs.declared.caps.Info.{Info}
use Rattle.fab_base.specs.declared.script.Script.{Script}
use Rattle.fab_base.specs.declared.status.Why.{Why}
use Rattle.fab_base.specs.declared.status.Why.TheVariants as why
use Rattle.fab_model.specs.Negotiation.{grant}
use Rattle.fab_grammar.specs.declared.verbs.Verb.{Verb}
use Rattle.fab_grammar.specs.Before.{Before, nothing, parts_of}
use Rattle.fab_grammar.specs.Conf.{conf_of}
use Rattle.fab_grammar.specs.Grammar.{Refusal, read_lines, script_with, granted, of_peers, script_said, then_script, verdict}
use Rattle.fab_grammar.specs.Rules.{Rules, header_rules, kind_rules, verb_rules, word_rules, why_of, with_kind, with_verb, with_words, with_line}
use Rattle.fab_grammar.specs.Settings.{hints_of}
use Rattle.fab_grammar.specs.Verbs.{verb_of, kind_of}
use Rattle.fab_grammar.specs.Versions.{header_of}
use Rattle.fab_grammar.proofs.RuleLemmas.{rest_of}
use Rattle.fab_words.specs.Rows.{is_text, lines_of, words_of}
use Rattle.fab_words.specs.Words.{first_of}

-- what the header keeps, and each line that breaks no rule, all lines keep
module _ (Keeps : Before → Type 0) (header : (before : Before) (named : Option Api) → Keeps before → Keeps (record before { api = named }))
    (step : (api : Api) (before : Before) (number : ℕ) (verb : Verb) (args : List (List ℕ)) → Keeps before → first_of (kind_rules (kind_of verb) api before number verb args) ≡ None → Keeps (with_kind (kind_of verb) api before number verb args)) where
  verb_keeps : (api : Api) (before : Before) (number : ℕ) (verb : Option Verb) (args : List (List ℕ)) → Keeps before → first_of (verb_rules api before number verb args) ≡ None → Keeps (with_verb api before number verb args)
  verb_keeps api before number None args kept e = kept
  verb_keeps api before number (Some verb) args kept e = step api before number verb args kept e

  words_keep : (before : Before) (number : ℕ) (words : List (List ℕ)) → Keeps before → first_of (word_rules before number words) ≡ None → Keeps (with_words before number words)
  words_keep before number [] kept e = kept
  words_keep before number (word ∷ args) kept e = by_version before.api e
    where
      by_version : (o : Option Api) → first_of (elim o as (λ _. Rules) [ None ↦ header_rules number (word ∷ args) | Some api ↦ verb_rules api before number (verb_of word) args ]) ≡ None
          → Keeps (elim o as (λ _. Before) [ None ↦ record before { api = header_of (word ∷ args) } | Some api ↦ with_verb api before number (verb_of word) args ])
      by_version None e = header before (header_of (word ∷ args)) kept
      by_version (Some api) e = verb_keeps api before number (verb_of word) args kept e

  line_keeps : (before : Before) (number : ℕ) (line : List ℕ) → Keeps before → why_of before number line ≡ None → Keeps (with_line before number line)
  unfolding why_of with_line
  line_keeps before number line kept e = words_keep before number (words_of line) kept (rest_of (not (is_text line)) why.NotText (word_rules before number (words_of line)) e)

  pub lines_keep : (before : Before) (number : ℕ) (lines : List (List ℕ)) (after : Before) → Keeps before → read_lines before number lines ≡ Ok after → Keeps after
  unfolding read_lines
  lines_keep before number [] after kept e =
      let same : before ≡ after = cc in
      subst Keeps same kept
  lines_keep before number (line ∷ lines) after kept e =
      by_why (why_of before number line) refl (λ none f. lines_keep (with_line before number line) (number + 1) lines after (line_keeps before number line kept none) f) e
    where
      by_why : (rules : Option Why) → why_of before number line ≡ rules → (why_of before number line ≡ None → read_lines (with_line before number line) (number + 1) lines ≡ Ok after → Keeps after) → elim rules as (λ _. Result Before Refusal) [ Some why ↦ Err (number, why) | None ↦ read_lines (with_line before number line) (number + 1) lines ] ≡ Ok after → Keeps after
      by_why (Some why) f rest e = cc
      by_why None f rest e = rest f e

-- the lines of a text that spells this script
pub record Spelt (text : List ℕ) (script : Script) : Type 0 where
  pub after : Before
  pub lines : read_lines nothing 1 (lines_of text) ≡ Ok after
  pub api : Api
  pub count : ℕ
  pub info : Info
  pub peers : after.settings.peers ≡ Some count
  pub granted : grant api (Some (hints_of after.settings)) ≡ Some info
  pub is : script_with api (conf_of after.settings count info) after.payloads (parts_of count after.items) ≡ script

module _ (text : List ℕ) (script : Script) where
  by_grant : (api : Api) (count n : ℕ) (after : Before) (o : Option Info) → read_lines nothing 1 (lines_of text) ≡ Ok after → after.settings.peers ≡ Some n → grant api (Some (hints_of after.settings)) ≡ o → granted api count after n o ≡ Ok script → Spelt text script
  by_grant api count n after None lines peers g e = cc
  by_grant api count n after (Some info) lines peers g e = record { after = after; lines = lines; api = api; count = n; info = info; peers = peers; granted = g; is = cc }

  by_peers : (count : ℕ) (after : Before) (o : Option Api) (peers : Option ℕ) → read_lines nothing 1 (lines_of text) ≡ Ok after → after.settings.peers ≡ peers → elim o as (λ _. Result Script Refusal) [ None ↦ Err (0, why.Header) | Some api ↦ of_peers api count after peers ] ≡ Ok script → Spelt text script
  by_peers count after None peers lines p e = cc
  by_peers count after (Some api) None lines p e = cc
  by_peers count after (Some api) (Some n) lines p e = by_grant api count n after (grant api (Some (hints_of after.settings))) lines p refl e

  by_lines : (count : ℕ) (read : Result Before Refusal) → read_lines nothing 1 (lines_of text) ≡ read → then_script count read ≡ Ok script → Spelt text script
  unfolding script_said
  by_lines count (Ok after) lines e = by_peers count after after.api after.settings.peers lines refl e
  by_lines count (Err refusal) lines e = cc

  pub spelt : verdict text ≡ Ok script → Spelt text script
  unfolding verdict
  spelt e = by_lines (length (lines_of text)) (read_lines nothing 1 (lines_of text)) refl e
