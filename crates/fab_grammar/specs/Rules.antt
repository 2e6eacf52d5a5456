-- The rules of a line, each a test of the line and of what the lines before it say, beside the reason for which a line is refused that breaks it.
--     setting_rules, peer_rules, call_rules      of a setting, of `peer K`, and of a line that a peer does, after the header of a version
--     why_of before number line                  the first rule that a line breaks; None where it breaks none
--     with_line before number line               what is said with this line, where it breaks none
use Rattle.std.specs.Prelude.{ℕ, ◌+◌, Bool, true, false, not, ◌||◌, ◌==◌, nat_lt, nat_le, List, [], ◌∷◌, ◌++◌, length, sum_by, Option, Some, None, is_none, Result, Ok, Err}
use Rattle.std.specs.List.{list_any}
use Rattle.fab_base.specs.declared.status.Why.{Why}
use Rattle.fab_base.specs.declared.status.Why.TheVariants as why
use Rattle.fab_base.specs.declared.caps.Api.{Api}
use Rattle.fab_base.specs.declared.script.LineOp.{LineOp}
use Rattle.fab_base.specs.declared.script.Payload.{Payload}
use Rattle.fab_model.specs.Negotiation.{grant}
use Rattle.fab_words.specs.declared.misread.Misread.{Misread}
use Rattle.fab_words.specs.declared.misread.Misread.TheVariants.{Words, Number, Limit}
use Rattle.fab_grammar.specs.declared.items.Item.TheVariants.{Peer, Does}
use Rattle.fab_grammar.specs.declared.settings.Setting.{Setting}
use Rattle.fab_grammar.specs.declared.settings.Setting.TheVariants.{Peers, Capabilities, File}
use Rattle.fab_grammar.specs.declared.settings.Settings.{Settings}
use Rattle.fab_grammar.specs.declared.verbs.VerbKind.{VerbKind}
use Rattle.fab_grammar.specs.declared.verbs.VerbKind.TheVariants as kind
use Rattle.fab_grammar.specs.declared.verbs.Verb.{Verb}
use Rattle.fab_grammar.specs.declared.verbs.Verb.TheVariants as verb
use Rattle.fab_grammar.specs.Before.{Before, count_in, has_opened, opened_by, size_of}
use Rattle.fab_grammar.specs.Lines.{op_of, op_size}
use Rattle.fab_words.specs.Rows.{is_text, words_of}
use Rattle.fab_grammar.specs.Settings.{setting_of, peer_of, is_made, making, asking}
use Rattle.fab_grammar.specs.Verbs.{verb_of, kind_of}
use Rattle.fab_grammar.specs.Versions.{header_of, most_bytes, most_in_all}
use Rattle.fab_words.specs.Words.{first_of, number_of}

abbrev pub Rules : Type 0
Rules = List (Bool × Why)

-- what a line is refused for whose words have this fault
abbrev pub why_from : Misread → Why
why_from Words = why.Words
why_from Number = why.Number
why_from Limit = why.Limit

abbrev pub is_words : {A : Type 0} → Result A Misread → Bool
is_words (Err Words) = true
is_words _ = false

abbrev pub is_number : {A : Type 0} → Result A Misread → Bool
is_number (Err Number) = true
is_number _ = false

abbrev pub is_limit : {A : Type 0} → Result A Misread → Bool
is_limit (Err Limit) = true
is_limit _ = false

-- a script has at most 100,000 lines
abbrev pub is_late : ℕ → Bool
is_late number = nat_lt 100000 number

-- the line names one of these numbers
abbrev pub names_one : List ℕ → Option ℕ → Bool
names_one numbers None = false
names_one numbers (Some k) = list_any (λ j. j == k) numbers

abbrev pub is_again : List ℕ → List (List ℕ) → Bool
is_again numbers [] = false
is_again numbers (word ∷ args) = names_one numbers (number_of word)

abbrev pub has_id : List Payload → Option ℕ → Bool
has_id payloads None = false
has_id payloads (Some id) = list_any (λ p. p.id == id) payloads

abbrev pub is_declared : List Payload → List (List ℕ) → Bool
is_declared payloads [] = false
is_declared payloads (word ∷ args) = has_id payloads (number_of word)

-- the setting was made before; a payload, under the same number
abbrev pub is_set : Before → Verb → List (List ℕ) → Bool
is_set before verb.Payload args = is_declared before.payloads args
is_set before verb args = is_made before.settings verb

-- the number of peers is not said yet, where this says it
abbrev pub is_fresh : Settings → Setting → Bool
is_fresh settings (Peers n) = is_none settings.peers
is_fresh settings _ = true

-- a script has at most 64 payload files
abbrev pub is_one_too_many : Before → Result Setting Misread → Bool
is_one_too_many before (Ok (File payload)) = nat_le 64 (length before.payloads)
is_one_too_many before _ = false

-- the provider does not grant these capabilities
abbrev pub is_refused : Api → Result Setting Misread → Bool
is_refused api (Ok (Capabilities caps)) = is_none (grant api (Some (asking caps)))
is_refused api _ = false

unfoldable pub setting_rules : Api → Before → ℕ → Verb → List (List ℕ) → Rules
setting_rules api before number verb args = let said = setting_of api verb args in
    (has_opened before, why.Order)
    ∷ (is_set before verb args, why.Twice)
    ∷ (is_words said, why.Words)
    ∷ (is_number said, why.Number)
    ∷ (is_limit said || is_late number || is_one_too_many before said, why.Limit)
    ∷ (is_refused api said, why.NoData)
    ∷ []

-- the peer is not there
abbrev pub is_no_peer : Before → Result ℕ Misread → Bool
is_no_peer before (Ok k) = nat_le (count_in before) k
is_no_peer before (Err fault) = false

unfoldable pub peer_rules : Before → ℕ → List (List ℕ) → Rules
peer_rules before number args = let said = peer_of args in
    (is_again (opened_by before.items) args, why.Twice)
    ∷ (is_words said, why.Words)
    ∷ (is_number said, why.Number)
    ∷ (is_no_peer before said, why.Peer)
    ∷ (is_limit said || is_late number, why.Limit)
    ∷ []

-- the bytes of all lines, this one among them, are too many
abbrev pub is_too_much : Api → Before → Result LineOp Misread → Bool
is_too_much api before (Ok op) = nat_lt (most_in_all api) (sum_by size_of before.items + op_size op)
is_too_much api before (Err fault) = false

unfoldable pub call_rules : Api → Before → ℕ → Verb → List (List ℕ) → Rules
call_rules api before number verb args = let said = op_of (most_bytes api) verb args in
    (not (has_opened before), why.Order)
    ∷ (is_words said, why.Words)
    ∷ (is_number said, why.Number)
    ∷ (is_limit said || is_late number || is_too_much api before said, why.Limit)
    ∷ []

abbrev pub kind_rules : VerbKind → Api → Before → ℕ → Verb → List (List ℕ) → Rules
kind_rules kind.Setting api before number verb args = setting_rules api before number verb args
kind_rules kind.Peer api before number verb args = peer_rules before number args
kind_rules kind.Call api before number verb args = call_rules api before number verb args

abbrev pub verb_rules : Api → Before → ℕ → Option Verb → List (List ℕ) → Rules
verb_rules api before number None args = (true, why.Verb) ∷ []
verb_rules api before number (Some verb) args = kind_rules (kind_of verb) api before number verb args

abbrev pub header_rules : ℕ → List (List ℕ) → Rules
header_rules number words = (is_none (header_of words), why.Header) ∷ (is_late number, why.Limit) ∷ []

abbrev pub word_rules : Before → ℕ → List (List ℕ) → Rules
word_rules before number [] = (is_late number, why.Limit) ∷ []
word_rules before number (word ∷ args) = elim before.api [ None ↦ header_rules number (word ∷ args) | Some api ↦ verb_rules api before number (verb_of word) args ]

unfoldable pub why_of : Before → ℕ → List ℕ → Option Why
why_of before number line = first_of ((not (is_text line), why.NotText) ∷ word_rules before number (words_of line))

-- what is said with one setting more, one peer more, or one line more of a peer
abbrev pub with_setting : Before → Result Setting Misread → Before
with_setting before (Ok (File payload)) = record before { payloads = before.payloads ++ payload ∷ [] }
with_setting before (Ok setting) = record before { settings = making before.settings setting }
with_setting before (Err fault) = before

abbrev pub with_peer : Before → Result ℕ Misread → Before
with_peer before (Ok k) = record before { items = before.items ++ Peer k ∷ [] }
with_peer before (Err fault) = before

abbrev pub with_call : Before → ℕ → Result LineOp Misread → Before
with_call before number (Ok op) = record before { items = before.items ++ Does (record { number = number; op = op }) ∷ [] }
with_call before number (Err fault) = before

abbrev pub with_kind : VerbKind → Api → Before → ℕ → Verb → List (List ℕ) → Before
with_kind kind.Setting api before number verb args = with_setting before (setting_of api verb args)
with_kind kind.Peer api before number verb args = with_peer before (peer_of args)
with_kind kind.Call api before number verb args = with_call before number (op_of (most_bytes api) verb args)

abbrev pub with_verb : Api → Before → ℕ → Option Verb → List (List ℕ) → Before
with_verb api before number None args = before
with_verb api before number (Some verb) args = with_kind (kind_of verb) api before number verb args

abbrev pub with_words : Before → ℕ → List (List ℕ) → Before
with_words before number [] = before
with_words before number (word ∷ args) = elim before.api [ None ↦ record before { api = header_of (word ∷ args) } | Some api ↦ with_verb api before number (verb_of word) args ]

unfoldable pub with_line : Before → ℕ → List ℕ → Before
with_line before number line = with_words before number (words_of line)
