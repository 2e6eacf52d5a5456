-- What becomes of one line.
use Rattle.std.proofs.Common.{◌≡◌, ℕ, Bool, true, false, eqb, List, [], ◌∷◌, Option, Some, None, sym, ap, ◌∙◌, refl}
use Rattle.std.specs.Prelude.{Result, Ok, Err, ok_or, is_some, is_none}
use Rattle.std.specs.List.{list_any}
use Rattle.fab_base.specs.declared.caps.Api.{Api}
use Rattle.fab_base.specs.declared.script.LineOp.{LineOp}
use Rattle.fab_base.specs.declared.status.Why.{Why}
use Rattle.fab_base.specs.declared.status.Why.TheVariants as why
use Rattle.fab_words.specs.declared.misread.Misread.{Misread}
use Rattle.fab_words.specs.declared.misread.Misread.TheVariants.{Words, Number, Limit}
use Rattle.fab_words.specs.Rows.{is_text, words_of}
use Rattle.fab_script.specs.declared.reader.Reader.{Reader}
use Rattle.fab_script.specs.declared.refused.Refused.{Refused}
use Rattle.fab_script.specs.declared.refused.Refused.TheVariants.{Why as Because}
use Rattle.fab_grammar.specs.declared.settings.Setting.{Setting}
use Rattle.fab_grammar.specs.declared.settings.Setting.TheVariants.{Peers, Wish, Capabilities, Selective, File}
use Rattle.fab_grammar.specs.declared.settings.Settings.{Settings}
use Rattle.fab_base.specs.declared.caps.Caps.{Caps}
use Rattle.fab_base.specs.declared.limits.Size.{Size}
use Rattle.fab_base.specs.declared.limits.Size.TheVariants as size
use Rattle.fab_grammar.specs.Capabilities.{caps_of}
use Rattle.fab_grammar.specs.declared.verbs.Verb.{Verb}
use Rattle.fab_grammar.specs.declared.verbs.Verb.TheVariants as verb
use Rattle.fab_words.specs.Misreads.{map_ok, ◌&◌}
use Rattle.fab_grammar.specs.Before.{Before, has_opened, opened_by}
use Rattle.fab_grammar.specs.Lines.{op_of}
use Rattle.fab_grammar.specs.Versions.{most_bytes}
use Rattle.fab_grammar.specs.Settings.{a_file, size_of, caps_setting, selective_setting, payload_setting, wish_of, setting_of, peer_of}
use Rattle.fab_words.specs.Words.{first_of, number_of, read_number, read_text}
use Rattle.fab_grammar.specs.Rules.{why_from, is_late, is_set, is_fresh, is_one_too_many, is_refused, setting_rules, with_setting, names_one, is_again, is_no_peer, peer_rules, is_too_much, call_rules, word_rules, with_words, why_of, with_line}
use Rattle.fab_script.specs.Parts.{Answers}

pub answers_err : (rules : Option Why) (after : Before) (reader : Reader) (result : Result (Unit {0}) Refused) (why : Why) → result ≡ Err (Because why) → rules ≡ Some why → Answers rules after reader result
answers_err rules after reader result why e f = rw (e, f) refl

-- a `peer` line
pub peer_again : (before : Before) (number : ℕ) (args : List (List ℕ)) → is_again (opened_by before.items) args ≡ true → first_of (peer_rules before number args) ≡ Some why.Twice
unfolding peer_rules
peer_again before number args e = rw e refl

pub peer_fault : (before : Before) (number : ℕ) (args : List (List ℕ)) (fault : Misread) → is_again (opened_by before.items) args ≡ false → peer_of args ≡ Err fault → first_of (peer_rules before number args) ≡ Some (why_from fault)
unfolding peer_rules
peer_fault before number args Words a e = rw (a, e) refl
peer_fault before number args Number a e = rw (a, e) refl
peer_fault before number args Limit a e = rw (a, e) refl

pub peer_taken : (before : Before) (number : ℕ) (args : List (List ℕ)) (k : ℕ) → is_again (opened_by before.items) args ≡ false → peer_of args ≡ Ok k → is_no_peer before (Ok k) ≡ false → is_late number ≡ false → first_of (peer_rules before number args) ≡ None
unfolding peer_rules
peer_taken before number args k a e there late = rw (a, e, there, late) refl

-- the peer that the line names is not among these
read_is : (o : Option ℕ) (k : ℕ) → ok_or {E = Misread} o Number ≡ Ok k → o ≡ Some k
read_is None k e = cc
read_is (Some n) k e = cc

pub named_fresh : (peers : List ℕ) (args : List (List ℕ)) (k : ℕ) → is_again peers args ≡ false → peer_of args ≡ Ok k → list_any (λ j. eqb j k) peers ≡ false
unfolding peer_of read_number
named_fresh peers [] k a e = cc
named_fresh peers (word ∷ []) k a e = ap (names_one peers) (sym (read_is (number_of word) k e)) ∙ a
named_fresh peers (word ∷ next ∷ args) k a e = cc

-- a line that a peer does
pub call_taken : (api : Api) (before : Before) (number : ℕ) (verb : Verb) (args : List (List ℕ)) (op : LineOp) → has_opened before ≡ true → op_of (most_bytes api) verb args ≡ Ok op → is_late number ≡ false → is_too_much api before (Ok op) ≡ false → first_of (call_rules api before number verb args) ≡ None
unfolding call_rules
call_taken api before number verb args op opened e late few = rw (opened, e, late, few) refl

-- a setting
fresh_unless_made : (settings : Settings) (o : Option ℕ) → settings.peers ≡ o → is_some o ≡ false → is_none settings.peers ≡ true
fresh_unless_made settings None e f = rw e refl
fresh_unless_made settings (Some n) e f = cc

-- what says the number of peers is a `peers` line
says_peers : (r : Result ℕ Misread) (fresh : Bool) (settings : Settings) (setting : Setting) → map_ok Peers r ≡ Ok setting → is_none settings.peers ≡ true → is_fresh settings setting ≡ true
says_peers (Ok n) fresh settings (Peers m) e f = f
says_peers (Ok n) fresh settings (Wish size m) e f = cc
says_peers (Ok n) fresh settings (Capabilities caps) e f = cc
says_peers (Ok n) fresh settings Selective e f = cc
says_peers (Ok n) fresh settings (File payload) e f = cc
says_peers (Err fault) fresh settings setting e f = cc

says_wish : (size : Size) (r : Result ℕ Misread) (settings : Settings) (setting : Setting) → map_ok (Wish size) r ≡ Ok setting → is_fresh settings setting ≡ true
says_wish size (Ok n) settings (Peers m) e = cc
says_wish size (Ok n) settings (Wish other m) e = refl
says_wish size (Ok n) settings (Capabilities caps) e = cc
says_wish size (Ok n) settings Selective e = cc
says_wish size (Ok n) settings (File payload) e = cc
says_wish size (Err fault) settings setting e = cc

says_caps : (r : Result Caps Misread) (settings : Settings) (setting : Setting) → map_ok Capabilities r ≡ Ok setting → is_fresh settings setting ≡ true
says_caps (Ok n) settings (Peers m) e = cc
says_caps (Ok n) settings (Wish other m) e = cc
says_caps (Ok n) settings (Capabilities caps) e = refl
says_caps (Ok n) settings Selective e = cc
says_caps (Ok n) settings (File payload) e = cc
says_caps (Err fault) settings setting e = cc

says_file : (r : Result (ℕ × List ℕ) Misread) (settings : Settings) (setting : Setting) → map_ok a_file r ≡ Ok setting → is_fresh settings setting ≡ true
says_file (Ok (id, name)) settings (Peers m) e = cc
says_file (Ok (id, name)) settings (Wish other m) e = cc
says_file (Ok (id, name)) settings (Capabilities caps) e = cc
says_file (Ok (id, name)) settings Selective e = cc
says_file (Ok (id, name)) settings (File payload) e = refl
says_file (Err fault) settings setting e = cc

caps_fresh : (args : List (List ℕ)) (settings : Settings) (setting : Setting) → caps_setting args ≡ Ok setting → is_fresh settings setting ≡ true
unfolding caps_setting
caps_fresh (list ∷ []) settings setting e = says_caps (caps_of list) settings setting e
caps_fresh _ settings setting e = cc

payload_fresh : (args : List (List ℕ)) (settings : Settings) (setting : Setting) → payload_setting args ≡ Ok setting → is_fresh settings setting ≡ true
unfolding payload_setting
payload_fresh (id ∷ name ∷ []) settings setting e = says_file (read_number id & read_text name) settings setting e
payload_fresh _ settings setting e = cc

selective_fresh : (args : List (List ℕ)) (settings : Settings) (setting : Setting) → selective_setting args ≡ Ok setting → is_fresh settings setting ≡ true
unfolding selective_setting
selective_fresh [] settings setting e =
    let same : Selective ≡ setting = cc in
    ap (is_fresh settings) (sym same)
selective_fresh (a ∷ args) settings setting e = cc

pub setting_fresh : (api : Api) (before : Before) (verb : Verb) (args : List (List ℕ)) (setting : Setting) → setting_of api verb args ≡ Ok setting → is_set before verb args ≡ false → is_fresh before.settings setting ≡ true
unfolding setting_of wish_of
setting_fresh api before verb.Peers args setting e fresh = says_peers (size_of api size.Peers args) true before.settings setting e (fresh_unless_made before.settings before.settings.peers refl fresh)
setting_fresh api before verb.Lane args setting e fresh = says_wish size.Lane (size_of api size.Lane args) before.settings setting e
setting_fresh api before verb.Pool args setting e fresh = says_wish size.Pool (size_of api size.Pool args) before.settings setting e
setting_fresh api before verb.Tx args setting e fresh = says_wish size.Tx (size_of api size.Tx args) before.settings setting e
setting_fresh api before verb.Rx args setting e fresh = says_wish size.Rx (size_of api size.Rx args) before.settings setting e
setting_fresh api before verb.Cq args setting e fresh = says_wish size.Cq (size_of api size.Cq args) before.settings setting e
setting_fresh api before verb.Caps args setting e fresh = caps_fresh args before.settings setting e
setting_fresh api before verb.Selective args setting e fresh = selective_fresh args before.settings setting e
setting_fresh api before verb.Payload args setting e fresh = payload_fresh args before.settings setting e
setting_fresh api before _ args setting e fresh = cc

setting_rules_none : (api : Api) (before : Before) (number : ℕ) (verb : Verb) (args : List (List ℕ)) (setting : Setting) → has_opened before ≡ false → is_set before verb args ≡ false → setting_of api verb args ≡ Ok setting → is_late number ≡ false → is_one_too_many before (Ok setting) ≡ false → is_refused api (Ok setting) ≡ false → first_of (setting_rules api before number verb args) ≡ None
unfolding setting_rules
setting_rules_none api before number verb args setting closed unset said late few granted = rw (closed, unset, said, late, few, granted) refl

pub setting_answer : (api : Api) (before : Before) (number : ℕ) (verb : Verb) (args : List (List ℕ)) (setting : Setting) (reader : Reader) (result : Result (Unit {0}) Refused) → has_opened before ≡ false → is_set before verb args ≡ false → setting_of api verb args ≡ Ok setting → is_late number ≡ false → is_one_too_many before (Ok setting) ≡ false → is_refused api (Ok setting) ≡ false → Answers None (with_setting before (Ok setting)) reader result → Answers (first_of (setting_rules api before number verb args)) (with_setting before (setting_of api verb args)) reader result
setting_answer api before number verb args setting reader result closed unset said late few granted answer =
    let none = setting_rules_none api before number verb args setting closed unset said late few granted in
    rw (none, said) answer

-- a line of text, by its words
pub line_answer : (before : Before) (number : ℕ) (line : List ℕ) (words : List (List ℕ)) (reader : Reader) (result : Result (Unit {0}) Refused) → is_text line ≡ true → words_of line ≡ words → Answers (first_of (word_rules before number words)) (with_words before number words) reader result → Answers (why_of before number line) (with_line before number line) reader result
unfolding why_of with_line
line_answer before number line words reader result text e answer = rw (text, e) answer
