-- What holds of all that is said by lines of which none is refused.
use Rattle.std.proofs.Common.{◌≡◌, ℕ, ◌+◌, ◌<◌, ◌≤◌, Bool, true, false, cond, not, ◌||◌, eqb, List, [], ◌∷◌, ◌++◌, length, map, Option, Some, None, sym, ap, subst, ◌∙◌, refl, arith, length-append}
use Rattle.std.specs.Prelude.{Result, Ok, Err}
use Rattle.std.specs.List.{list_all, list_any, sum_by}
use Rattle.std.specs.Option.{IfSome}
use Rattle.std.proofs.lemmas.Bool.Decides.{nat_tests}
use Rattle.std.proofs.lemmas.List.{map-append}
use Rattle.std.proofs.lemmas.List.Sums.{sum_by_push}
use Rattle.fab_base.specs.declared.caps.Api.{Api}
use Rattle.fab_base.specs.declared.limits.Size.{Size}
use Rattle.fab_base.specs.declared.limits.Size.TheVariants as size
use Rattle.fab_base.specs.declared.script.Line.{Line}
use Rattle.fab_base.specs.declared.script.LineOp.{LineOp}
use Rattle.fab_base.specs.declared.script.Payload.{Payload}
use Rattle.fab_base.specs.declared.status.Why.{Why}
use Rattle.fab_base.specs.declared.status.Why.TheVariants as why
use Rattle.fab_base.proofs.Bools.{not_false}
use Rattle.fab_words.specs.declared.misread.Misread.{Misread}
use Rattle.fab_words.specs.declared.misread.Misread.TheVariants.{Number}
use Rattle.fab_words.specs.Rows.{is_text, words_of}
use Rattle.fab_words.specs.Words.{first_of, number_of, read_number, read_text}
use Rattle.fab_words.specs.Written.{is_word}
use Rattle.fab_words.specs.Misreads.{map_ok, ◌&◌}
use Rattle.fab_grammar.specs.declared.items.Item.{Item}
use Rattle.fab_grammar.specs.declared.items.Item.TheVariants.{Peer, Does}
use Rattle.fab_grammar.specs.declared.settings.Setting.{Setting}
use Rattle.fab_grammar.specs.declared.settings.Setting.TheVariants.{Peers, Wish, Capabilities, Selective, File}
use Rattle.fab_grammar.specs.declared.settings.Settings.{Settings}
use Rattle.fab_grammar.specs.declared.verbs.VerbKind.{VerbKind}
use Rattle.fab_grammar.specs.declared.verbs.VerbKind.TheVariants as kind
use Rattle.fab_grammar.specs.declared.verbs.Verb.{Verb}
use Rattle.fab_grammar.specs.declared.verbs.Verb.TheVariants as verb
use Rattle.fab_grammar.specs.Before.{Before, nothing, is_distinct, size_of}
use Rattle.fab_grammar.specs.Capabilities.{caps_of}
use Rattle.fab_grammar.specs.Grammar.{Refusal, read_lines}
use Rattle.fab_grammar.specs.Lines.{op_of, op_size}
use Rattle.fab_grammar.specs.Rules.{Rules, is_late, is_limit, is_set, is_declared, has_id, is_one_too_many, is_refused, is_too_much, setting_rules, peer_rules, call_rules, kind_rules, verb_rules, header_rules, word_rules, why_of, with_setting, with_peer, with_call, with_kind, with_verb, with_words, with_line}
use Rattle.fab_grammar.specs.Settings.{size_of as size_said, caps_setting, selective_setting, payload_setting, a_file, wish_of, setting_of, peer_of, making, wishing}
use Rattle.fab_grammar.specs.Verbs.{verb_of, kind_of}
use Rattle.fab_grammar.specs.Versions.{header_of, most_bytes, most_in_all}
use Rattle.fab_grammar.proofs.PartLemmas.{and_true, or_false, distinct_push}
use Rattle.fab_grammar.proofs.RuleLemmas.{rest_of, first_fails}
use Rattle.fab_spell.specs.Again.{WasRead}
use Rattle.fab_spell.specs.Headings.{SettingRead}
use Rattle.fab_spell.proofs.Said.{both_said, some_said}
use Rattle.fab_spell.proofs.Rules.{all_fail, words_of_text}

-- ---- how many there are
abbrev pub some_count : {A : Type 0} → Option A → ℕ
some_count None = 0
some_count (Some x) = 1

abbrev pub true_count : Bool → ℕ
true_count b = cond b 1 0

abbrev pub made_count : Settings → ℕ
made_count s = some_count s.caps + some_count s.peers + some_count s.lane + some_count s.pool + some_count s.tx + some_count s.rx + some_count s.cq + true_count s.is_selective

some_more : {A : Type 0} (o : Option A) → 1 ≤ some_count o + 1
some_more None = omega arith
some_more (Some x) = omega arith

true_more : (b : Bool) → 1 ≤ true_count b + 1
true_more true = omega arith
true_more false = omega arith

wish_count : (s : Settings) (size : Size) (n : ℕ) → made_count (wishing s size n) ≤ made_count s + 1
wish_count s size.Lane n = omega (arith, some_more s.lane)
wish_count s size.Pool n = omega (arith, some_more s.pool)
wish_count s size.Tx n = omega (arith, some_more s.tx)
wish_count s size.Rx n = omega (arith, some_more s.rx)
wish_count s size.Cq n = omega (arith, some_more s.cq)
wish_count s _ n = omega arith

making_count : (s : Settings) (setting : Setting) → made_count (making s setting) ≤ made_count s + 1
making_count s (Peers n) = omega (arith, some_more s.peers)
making_count s (Wish size n) = wish_count s size n
making_count s (Capabilities caps) = omega (arith, some_more s.caps)
making_count s Selective = omega (arith, true_more s.is_selective)
making_count s (File payload) = omega arith

one_at_most : {A : Type 0} (o : Option A) → some_count o ≤ 1
one_at_most None = omega arith
one_at_most (Some x) = omega arith

-- as many lines as these are needed to say it
abbrev pub needed : Before → ℕ
needed before = some_count before.api + made_count before.settings + length before.payloads + length before.items

pub not_late : (n : ℕ) → is_late n ≡ false → n ≤ 100000
not_late n e = grind (arith, nat_tests)

-- ---- the numbers of payload files
abbrev pub id_of : Payload → ℕ
id_of payload = payload.id

pub any_id : (payloads : List Payload) (id : ℕ) → list_any (λ (p : Payload). eqb p.id id) payloads ≡ list_any (λ j. eqb j id) (map id_of payloads)
any_id [] id = refl
any_id (p ∷ ps) id = ap (λ b. eqb p.id id || b) (any_id ps id)

-- a setting that is no payload file is none
not_file : {A : Type 0} (f : A → Setting) (r : Result A Misread) (payload : Payload) → ((x : A) → f x ≡ File payload → ⊥) → map_ok f r ≡ Ok (File payload) → ⊥
not_file f (Ok x) payload other e =
    let same : f x ≡ File payload = cc in
    other x same
not_file f (Err fault) payload other e = cc

size_no_file : (size : Size) (n : ℕ) (payload : Payload) → Wish size n ≡ File payload → ⊥
size_no_file size n payload e = cc

number_read : (word : List ℕ) (n : ℕ) → read_number word ≡ Ok n → number_of word ≡ Some n
unfolding read_number
number_read word n e = some_said (number_of word) Number n e

file_said : (r : Result (ℕ × List ℕ) Misread) (payload : Payload) → map_ok a_file r ≡ Ok (File payload) → r ≡ Ok (payload.id, payload.name)
file_said (Ok (id, name)) payload e =
    let same : record { id = id; name = name } ≡ payload = cc in
    ap (λ (p : Payload). Ok (p.id, p.name)) same
file_said (Err fault) payload e = cc

payload_declared : (args : List (List ℕ)) (payload : Payload) (payloads : List Payload) → payload_setting args ≡ Ok (File payload) → is_declared payloads args ≡ list_any (λ (p : Payload). eqb p.id payload.id) payloads
unfolding payload_setting
payload_declared (id ∷ name ∷ []) payload payloads e =
    let words = both_said (read_number id) (read_text name) (payload.id, payload.name) (file_said (read_number id & read_text name) payload e) in
    ap (has_id payloads) (number_read id payload.id words.0)
payload_declared _ payload payloads e = cc

-- after the header of a version
module _ (api : Api) where
  -- ---- settings that were made were read
  pub record AllMade (s : Settings) : Type 0 where
    pub caps : IfSome s.caps (λ c. SettingRead api (Capabilities c))
    pub granted : IfSome s.caps (λ c. is_refused api (Ok (Capabilities c)) ≡ false)
    pub peers : IfSome s.peers (λ n. SettingRead api (Peers n))
    pub lane : IfSome s.lane (λ n. SettingRead api (Wish size.Lane n))
    pub pool : IfSome s.pool (λ n. SettingRead api (Wish size.Pool n))
    pub tx : IfSome s.tx (λ n. SettingRead api (Wish size.Tx n))
    pub rx : IfSome s.rx (λ n. SettingRead api (Wish size.Rx n))
    pub cq : IfSome s.cq (λ n. SettingRead api (Wish size.Cq n))
    pub selective : s.is_selective ≡ true → SettingRead api Selective

  wish_made : (s : Settings) (size : Size) (n : ℕ) → AllMade s → SettingRead api (Wish size n) → AllMade (wishing s size n)
  wish_made s size.Lane n m r = record { caps = m.caps; granted = m.granted; peers = m.peers; lane = r; pool = m.pool; tx = m.tx; rx = m.rx; cq = m.cq; selective = m.selective }
  wish_made s size.Pool n m r = record { caps = m.caps; granted = m.granted; peers = m.peers; lane = m.lane; pool = r; tx = m.tx; rx = m.rx; cq = m.cq; selective = m.selective }
  wish_made s size.Tx n m r = record { caps = m.caps; granted = m.granted; peers = m.peers; lane = m.lane; pool = m.pool; tx = r; rx = m.rx; cq = m.cq; selective = m.selective }
  wish_made s size.Rx n m r = record { caps = m.caps; granted = m.granted; peers = m.peers; lane = m.lane; pool = m.pool; tx = m.tx; rx = r; cq = m.cq; selective = m.selective }
  wish_made s size.Cq n m r = record { caps = m.caps; granted = m.granted; peers = m.peers; lane = m.lane; pool = m.pool; tx = m.tx; rx = m.rx; cq = r; selective = m.selective }
  wish_made s _ n m r = m

  setting_made : (s : Settings) (setting : Setting) → AllMade s → SettingRead api setting → is_refused api (Ok setting) ≡ false → AllMade (making s setting)
  setting_made s (Peers n) m r g = record { caps = m.caps; granted = m.granted; peers = r; lane = m.lane; pool = m.pool; tx = m.tx; rx = m.rx; cq = m.cq; selective = m.selective }
  setting_made s (Wish size n) m r g = wish_made s size n m r
  setting_made s (Capabilities caps) m r g = record { caps = r; granted = g; peers = m.peers; lane = m.lane; pool = m.pool; tx = m.tx; rx = m.rx; cq = m.cq; selective = m.selective }
  setting_made s Selective m r g = record { caps = m.caps; granted = m.granted; peers = m.peers; lane = m.lane; pool = m.pool; tx = m.tx; rx = m.rx; cq = m.cq; selective = λ e. r }
  setting_made s (File payload) m r g = m

  -- ---- payload files
  abbrev pub AllFiles : List Payload → Type 0
  AllFiles [] = Unit {0}
  AllFiles (payload ∷ payloads) = SettingRead api (File payload) × AllFiles payloads

  files_more : (payloads : List Payload) (payload : Payload) → AllFiles payloads → SettingRead api (File payload) → AllFiles (payloads ++ payload ∷ [])
  files_more [] payload f r = (r, tt)
  files_more (p ∷ ps) payload f r = (f.0, files_more ps payload f.1 r)

  -- whether a payload file was declared, by its number
  pub file_declared : (verb : Verb) (args : List (List ℕ)) (payload : Payload) (before : Before) → setting_of api verb args ≡ Ok (File payload) → is_set before verb args ≡ list_any (λ (p : Payload). eqb p.id payload.id) before.payloads
  unfolding setting_of wish_of caps_setting selective_setting
  file_declared verb.Payload args payload before e = payload_declared args payload before.payloads e
  file_declared verb.Caps (list ∷ []) payload before e = absurd (not_file Capabilities (caps_of list) payload (λ x s. cc) e)
  file_declared verb.Caps _ payload before e = cc
  file_declared verb.Selective [] payload before e = cc
  file_declared verb.Selective (word ∷ args) payload before e = cc
  file_declared verb.Peers args payload before e = absurd (not_file Peers (size_said api size.Peers args) payload (λ x s. cc) e)
  file_declared verb.Lane args payload before e = absurd (not_file (Wish size.Lane) (size_said api size.Lane args) payload (λ x s. size_no_file size.Lane x payload s) e)
  file_declared verb.Pool args payload before e = absurd (not_file (Wish size.Pool) (size_said api size.Pool args) payload (λ x s. size_no_file size.Pool x payload s) e)
  file_declared verb.Tx args payload before e = absurd (not_file (Wish size.Tx) (size_said api size.Tx args) payload (λ x s. size_no_file size.Tx x payload s) e)
  file_declared verb.Rx args payload before e = absurd (not_file (Wish size.Rx) (size_said api size.Rx args) payload (λ x s. size_no_file size.Rx x payload s) e)
  file_declared verb.Cq args payload before e = absurd (not_file (Wish size.Cq) (size_said api size.Cq args) payload (λ x s. size_no_file size.Cq x payload s) e)
  file_declared _ args payload before e = cc

  -- ---- lines of peers
  abbrev pub AllOps : List Item → Type 0
  AllOps [] = Unit {0}
  AllOps (Peer k ∷ items) = AllOps items
  AllOps (Does line ∷ items) = WasRead (most_bytes api) line.op × AllOps items

  ops_peer : (items : List Item) (k : ℕ) → AllOps items → AllOps (items ++ Peer k ∷ [])
  ops_peer [] k a = tt
  ops_peer (Peer j ∷ items) k a = ops_peer items k a
  ops_peer (Does line ∷ items) k a = (a.0, ops_peer items k a.1)

  ops_line : (items : List Item) (line : Line) → AllOps items → WasRead (most_bytes api) line.op → AllOps (items ++ Does line ∷ [])
  ops_line [] line a r = (r, tt)
  ops_line (Peer j ∷ items) line a r = ops_line items line a r
  ops_line (Does other ∷ items) line a r = (a.0, ops_line items line a.1 r)

  -- ---- all that is said
  -- what so many lines said
  pub record Said (before : Before) (count : ℕ) : Type 0 where
    pub made : AllMade before.settings
    pub files : AllFiles before.payloads
    pub distinct : is_distinct (map id_of before.payloads) ≡ true
    pub few_files : length before.payloads ≤ 64
    pub ops : AllOps before.items
    pub size : sum_by size_of before.items ≤ most_in_all api
    pub needed : needed before ≤ count
    pub few : count ≤ 100000

  -- a line that says nothing
  idle : (before : Before) (count : ℕ) → Said before count → is_late (count + 1) ≡ false → Said before (count + 1)
  idle before count s late = record { made = s.made; files = s.files; distinct = s.distinct; few_files = s.few_files; ops = s.ops; size = s.size; needed = omega (arith, s.needed); few = not_late (count + 1) late }

  header_said : (before : Before) (count : ℕ) (named : Option Api) → Said before count → before.api ≡ None → is_late (count + 1) ≡ false → Said (record before { api = named }) (count + 1)
  header_said before count named s none late = record { made = s.made; files = s.files; distinct = s.distinct; few_files = s.few_files; ops = s.ops; size = s.size; needed = omega (arith, s.needed, ap (some_count {A = Api}) none, one_at_most named); few = not_late (count + 1) late }

  -- ---- a setting
  made_said : (before : Before) (count : ℕ) (setting : Setting) → Said before count → SettingRead api setting → is_refused api (Ok setting) ≡ false → is_late (count + 1) ≡ false → Said (record before { settings = making before.settings setting }) (count + 1)
  made_said before count setting s r g late = record {
    made = setting_made before.settings setting s.made r g;
    files = s.files;
    distinct = s.distinct;
    few_files = s.few_files;
    ops = s.ops;
    size = s.size;
    needed = omega (arith, s.needed, making_count before.settings setting);
    few = not_late (count + 1) late;
  }

  file_taken : (before : Before) (count : ℕ) (payload : Payload) → Said before count → SettingRead api (File payload) → list_any (λ (p : Payload). eqb p.id payload.id) before.payloads ≡ false → is_one_too_many before (Ok (File payload)) ≡ false → is_late (count + 1) ≡ false → Said (record before { payloads = before.payloads ++ payload ∷ [] }) (count + 1)
  file_taken before count payload s r new few late =
      let fewer : length before.payloads < 64 = grind (arith, nat_tests) in
      let more : length (before.payloads ++ payload ∷ []) ≡ length before.payloads + 1 = length-append before.payloads (payload ∷ []) in
      record {
        made = s.made;
        files = files_more before.payloads payload s.files r;
        distinct = ap is_distinct (map-append id_of before.payloads (payload ∷ [])) ∙ distinct_push (map id_of before.payloads) payload.id s.distinct (sym (any_id before.payloads payload.id) ∙ new);
        few_files = omega arith;
        ops = s.ops;
        size = s.size;
        needed = omega (arith, s.needed);
        few = not_late (count + 1) late;
      }

  setting_said : (before : Before) (count : ℕ) (verb : Verb) (args : List (List ℕ)) (said : Result Setting Misread) → Said before count → kind_of verb ≡ kind.Setting → list_all is_word args ≡ true → setting_of api verb args ≡ said → is_late (count + 1) ≡ false → is_set before verb args ≡ false → is_one_too_many before said ≡ false → is_refused api said ≡ false → Said (with_setting before said) (count + 1)
  setting_said before count verb args (Err fault) s k w e late set many refused = idle before count s late
  setting_said before count verb args (Ok (File payload)) s k w e late set many refused =
      file_taken before count payload s (record { verb = verb; args = args; kind = k; words = w; reads = e }) (sym (file_declared verb args payload before e) ∙ set) many late
  setting_said before count verb args (Ok (Peers n)) s k w e late set many refused =
      made_said before count (Peers n) s (record { verb = verb; args = args; kind = k; words = w; reads = e }) refused late
  setting_said before count verb args (Ok (Wish size n)) s k w e late set many refused =
      made_said before count (Wish size n) s (record { verb = verb; args = args; kind = k; words = w; reads = e }) refused late
  setting_said before count verb args (Ok (Capabilities caps)) s k w e late set many refused =
      made_said before count (Capabilities caps) s (record { verb = verb; args = args; kind = k; words = w; reads = e }) refused late
  setting_said before count verb args (Ok Selective) s k w e late set many refused =
      made_said before count Selective s (record { verb = verb; args = args; kind = k; words = w; reads = e }) refused late

  setting_kept : (before : Before) (count : ℕ) (verb : Verb) (args : List (List ℕ)) → Said before count → kind_of verb ≡ kind.Setting → list_all is_word args ≡ true → first_of (setting_rules api before (count + 1) verb args) ≡ None → Said (with_setting before (setting_of api verb args)) (count + 1)
  unfolding setting_rules
  setting_kept before count verb args s k w e =
      let said = setting_of api verb args in
      let none = all_fail (setting_rules api before (count + 1) verb args) e in
      let limit = or_false (is_limit said || is_late (count + 1)) (is_one_too_many before said) none.1.1.1.1.0 in
      setting_said before count verb args said s k w refl (or_false (is_limit said) (is_late (count + 1)) limit.0).1 none.1.0 limit.1 none.1.1.1.1.1.0

  -- ---- a peer, and a line of one
  peer_said : (before : Before) (count : ℕ) (said : Result ℕ Misread) → Said before count → is_late (count + 1) ≡ false → Said (with_peer before said) (count + 1)
  peer_said before count (Err fault) s late = idle before count s late
  peer_said before count (Ok k) s late =
      let more : length (before.items ++ Peer k ∷ []) ≡ length before.items + 1 = length-append before.items (Peer k ∷ []) in
      record {
        made = s.made;
        files = s.files;
        distinct = s.distinct;
        few_files = s.few_files;
        ops = ops_peer before.items k s.ops;
        size = omega (arith, s.size, sum_by_push size_of before.items (Peer k));
        needed = omega (arith, s.needed);
        few = not_late (count + 1) late;
      }

  peer_kept : (before : Before) (count : ℕ) (args : List (List ℕ)) → Said before count → first_of (peer_rules before (count + 1) args) ≡ None → Said (with_peer before (peer_of args)) (count + 1)
  unfolding peer_rules
  peer_kept before count args s e =
      let none = all_fail (peer_rules before (count + 1) args) e in
      peer_said before count (peer_of args) s (or_false (is_limit (peer_of args)) (is_late (count + 1)) none.1.1.1.1.0).1

  call_said : (before : Before) (count : ℕ) (verb : Verb) (args : List (List ℕ)) (said : Result LineOp Misread) → Said before count → kind_of verb ≡ kind.Call → list_all is_word args ≡ true → op_of (most_bytes api) verb args ≡ said → is_late (count + 1) ≡ false → is_too_much api before said ≡ false → Said (with_call before (count + 1) said) (count + 1)
  call_said before count verb args (Err fault) s k w e late much = idle before count s late
  call_said before count verb args (Ok op) s k w e late much =
      let line : Line = record { number = count + 1; op = op } in
      let more : length (before.items ++ Does line ∷ []) ≡ length before.items + 1 = length-append before.items (Does line ∷ []) in
      let little : sum_by size_of before.items + op_size op ≤ most_in_all api = grind (arith, nat_tests) in
      record {
        made = s.made;
        files = s.files;
        distinct = s.distinct;
        few_files = s.few_files;
        ops = ops_line before.items line s.ops (record { verb = verb; args = args; kind = k; words = w; reads = e });
        size = omega (arith, little, sum_by_push size_of before.items (Does line));
        needed = omega (arith, s.needed);
        few = not_late (count + 1) late;
      }

  call_kept : (before : Before) (count : ℕ) (verb : Verb) (args : List (List ℕ)) → Said before count → kind_of verb ≡ kind.Call → list_all is_word args ≡ true → first_of (call_rules api before (count + 1) verb args) ≡ None → Said (with_call before (count + 1) (op_of (most_bytes api) verb args)) (count + 1)
  unfolding call_rules
  call_kept before count verb args s k w e =
      let said = op_of (most_bytes api) verb args in
      let none = all_fail (call_rules api before (count + 1) verb args) e in
      let limit = or_false (is_limit said || is_late (count + 1)) (is_too_much api before said) none.1.1.1.0 in
      call_said before count verb args said s k w refl (or_false (is_limit said) (is_late (count + 1)) limit.0).1 limit.1

  -- ---- a line
  kind_kept : (before : Before) (count : ℕ) (k : VerbKind) (verb : Verb) (args : List (List ℕ)) → Said before count → kind_of verb ≡ k → list_all is_word args ≡ true → first_of (kind_rules k api before (count + 1) verb args) ≡ None → Said (with_kind k api before (count + 1) verb args) (count + 1)
  kind_kept before count kind.Setting verb args s k w e = setting_kept before count verb args s k w e
  kind_kept before count kind.Peer verb args s k w e = peer_kept before count args s e
  kind_kept before count kind.Call verb args s k w e = call_kept before count verb args s k w e

  verb_kept : (before : Before) (count : ℕ) (verb : Option Verb) (args : List (List ℕ)) → Said before count → list_all is_word args ≡ true → first_of (verb_rules api before (count + 1) verb args) ≡ None → Said (with_verb api before (count + 1) verb args) (count + 1)
  verb_kept before count None args s w e = cc
  verb_kept before count (Some verb) args s w e =
      kind_kept before count (kind_of verb) verb args s refl w e

-- ---- which version the header names
setting_version : (before : Before) (said : Result Setting Misread) → (with_setting before said).api ≡ before.api
setting_version before (Ok (File payload)) = refl
setting_version before (Ok (Peers n)) = refl
setting_version before (Ok (Wish size n)) = refl
setting_version before (Ok (Capabilities caps)) = refl
setting_version before (Ok Selective) = refl
setting_version before (Err fault) = refl

peer_version : (before : Before) (said : Result ℕ Misread) → (with_peer before said).api ≡ before.api
peer_version before (Ok k) = refl
peer_version before (Err fault) = refl

call_version : (before : Before) (number : ℕ) (said : Result LineOp Misread) → (with_call before number said).api ≡ before.api
call_version before number (Ok op) = refl
call_version before number (Err fault) = refl

kind_version : (api : Api) (before : Before) (number : ℕ) (k : VerbKind) (verb : Verb) (args : List (List ℕ)) → (with_kind k api before number verb args).api ≡ before.api
kind_version api before number kind.Setting verb args = setting_version before (setting_of api verb args)
kind_version api before number kind.Peer verb args = peer_version before (peer_of args)
kind_version api before number kind.Call verb args = call_version before number (op_of (most_bytes api) verb args)

verb_version : (api : Api) (before : Before) (number : ℕ) (verb : Option Verb) (args : List (List ℕ)) → (with_verb api before number verb args).api ≡ before.api
verb_version api before number None args = refl
verb_version api before number (Some verb) args = kind_version api before number (kind_of verb) verb args

-- any version, before the header; the one that it names, after it
abbrev pub MayBe : Option Api → Api → Type 0
MayBe None api = Unit {0}
MayBe (Some named) api = named ≡ api

abbrev pub AllSaid : Before → ℕ → Type 0
AllSaid before count = (api : Api) → MayBe before.api api → Said api before count

-- ---- a line
version_kept : (before : Before) (count : ℕ) (words args : List (List ℕ)) (verb : Option Verb) (o : Option Api) → before.api ≡ o → AllSaid before count → list_all is_word args ≡ true
    → first_of (elim o as (λ _. Rules) [ None ↦ header_rules (count + 1) words | Some api ↦ verb_rules api before (count + 1) verb args ]) ≡ None
    → AllSaid (elim o as (λ _. Before) [ None ↦ record before { api = header_of words } | Some api ↦ with_verb api before (count + 1) verb args ]) (count + 1)
version_kept before count words args verb None h s w e = λ api may.
    let none = all_fail (header_rules (count + 1) words) e in
    header_said api before count (header_of words) (s api (subst (λ o. MayBe o api) (sym h) tt)) h none.1.0
version_kept before count words args verb (Some named) h s w e = λ api may.
    let same : named ≡ api = subst (λ o. MayBe o api) (verb_version named before (count + 1) verb args ∙ h) may in
    subst (λ v. Said v (with_verb named before (count + 1) verb args) (count + 1)) same
    (verb_kept named before count verb args (s named (subst (λ o. MayBe o named) (sym h) refl)) w e)

words_kept : (before : Before) (count : ℕ) (words : List (List ℕ)) → AllSaid before count → list_all is_word words ≡ true → first_of (word_rules before (count + 1) words) ≡ None → AllSaid (with_words before (count + 1) words) (count + 1)
words_kept before count [] s w e = λ api may.
    let none = all_fail ((is_late (count + 1), why.Limit) ∷ []) e in
    idle api before count (s api may) none.0
words_kept before count (word ∷ args) s w e =
    version_kept before count (word ∷ args) args (verb_of word) before.api refl s (and_true (is_word word) (list_all is_word args) w).1 e

line_kept : (before : Before) (count : ℕ) (line : List ℕ) → AllSaid before count → why_of before (count + 1) line ≡ None → AllSaid (with_line before (count + 1) line) (count + 1)
unfolding why_of with_line
line_kept before count line s e =
    let rules = word_rules before (count + 1) (words_of line) in
    let text : is_text line ≡ true = not_false (is_text line) (first_fails (not (is_text line)) why.NotText rules e) in
    words_kept before count (words_of line) s (words_of_text line text) (rest_of (not (is_text line)) why.NotText rules e)

-- ---- all lines
pub lines_said : (before : Before) (count : ℕ) (lines : List (List ℕ)) (after : Before) → AllSaid before count → read_lines before (count + 1) lines ≡ Ok after → (total : ℕ) × AllSaid after total
unfolding read_lines
lines_said before count [] after s e =
    let same : before ≡ after = cc in
    (count, subst (λ b. AllSaid b count) same s)
lines_said before count (line ∷ lines) after s e =
    by_why (why_of before (count + 1) line) refl (λ none f. lines_said (with_line before (count + 1) line) (count + 1) lines after (line_kept before count line s none) f) e
  where
    by_why : (rules : Option Why) → why_of before (count + 1) line ≡ rules → (why_of before (count + 1) line ≡ None → read_lines (with_line before (count + 1) line) (count + 1 + 1) lines ≡ Ok after → (total : ℕ) × AllSaid after total) → elim rules as (λ _. Result Before Refusal) [ Some why ↦ Err (count + 1, why) | None ↦ read_lines (with_line before (count + 1) line) (count + 1 + 1) lines ] ≡ Ok after → (total : ℕ) × AllSaid after total
    by_why (Some why) r f rest = cc
    by_why None r f rest = f r rest

nothing_made : AllSaid nothing 0
nothing_made = λ api may. record {
  made = record { caps = tt; granted = tt; peers = tt; lane = tt; pool = tt; tx = tt; rx = tt; cq = tt; selective = λ e. cc };
  files = tt;
  distinct = refl;
  few_files = omega arith;
  ops = tt;
  size = omega arith;
  needed = omega arith;
  few = omega arith;
}

pub all_said : (lines : List (List ℕ)) (after : Before) → read_lines nothing 1 lines ≡ Ok after → (total : ℕ) × AllSaid after total
all_said lines after e = lines_said nothing 0 lines after nothing_made e
