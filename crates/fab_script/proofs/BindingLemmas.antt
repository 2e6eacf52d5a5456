-- The first line whose bytes are not there; and a script that was read is sound with its files.
use Rattle.std.proofs.Common.{◌≡◌, ℕ, min, ◌<◌, Bool, true, false, cond, not, ◌&&◌, ◌||◌, eqb, leb, List, [], ◌∷◌, ◌++◌, length, map, fold, Option, Some, None, option_map, sym, ap, subst, ◌∙◌, refl, arith}
use Rattle.std.specs.Prelude.{filter, filter_map, Result, Ok, Err}
use Rattle.std.specs.List.{concat, reduce, list_all, list_any}
use Rattle.std.proofs.lemmas.Bool.Decides.{nat_tests}
use Rattle.std.proofs.lemmas.List.{map-append}
use Rattle.std.proofs.lemmas.List.FromFn.{length-map-range_with_len}
use Rattle.fab_base.specs.Offer.{limits_of, most_peers}
use Rattle.fab_base.specs.declared.caps.Api.{Api}
use Rattle.fab_base.specs.declared.caps.Hints.{Hints}
use Rattle.fab_base.specs.declared.caps.Info.{Info}
use Rattle.fab_base.specs.declared.limits.Size.{Size}
use Rattle.fab_base.specs.declared.limits.Size.TheVariants as size
use Rattle.fab_base.specs.declared.script.Line.{Line}
use Rattle.fab_base.specs.declared.script.LineOp.{LineOp}
use Rattle.fab_base.specs.declared.script.Payload.{Payload}
use Rattle.fab_base.specs.declared.script.Script.{Script}
use Rattle.fab_base.specs.declared.status.Why.{Why}
use Rattle.fab_base.specs.declared.status.Why.TheVariants as why
use Rattle.fab_base.proofs.Lists.{both_empty}
use Rattle.fab_model.specs.Negotiation.{is_refused, granted_info, grant_of, grant, size_of as granted_size}
use Rattle.fab_grammar.specs.declared.settings.Setting.{Setting}
use Rattle.fab_grammar.specs.declared.settings.Setting.TheVariants.{Peers, Wish, Capabilities, Selective, File}
use Rattle.fab_grammar.specs.declared.settings.Settings.{Settings}
use Rattle.fab_grammar.specs.declared.verbs.VerbKind.{VerbKind}
use Rattle.fab_grammar.specs.declared.verbs.VerbKind.TheVariants as kind
use Rattle.fab_grammar.specs.declared.verbs.Verb.{Verb}
use Rattle.fab_grammar.specs.declared.verbs.Verb.TheVariants as verb
use Rattle.fab_grammar.specs.Capabilities.{caps_of}
use Rattle.fab_grammar.specs.Before.{Before, nothing, has_opened, is_distinct, part_of}
use Rattle.fab_grammar.specs.Grammar.{verdict}
use Rattle.fab_grammar.specs.Lines.{op_of}
use Rattle.fab_grammar.specs.Rules.{has_id, is_declared, is_set, is_words, is_number, is_limit, is_late, is_one_too_many, is_refused as is_not_granted, kind_rules, setting_rules, with_setting, with_peer, with_call, with_kind}
use Rattle.fab_grammar.specs.Settings.{a_file, between, wishing, size_of, payload_setting, caps_setting, selective_setting, wish_of, setting_of, peer_of, hints_of}
use Rattle.fab_grammar.specs.Verbs.{kind_of}
use Rattle.fab_grammar.specs.Versions.{version_of, most_bytes}
use Rattle.fab_grammar.proofs.PartLemmas.{and_true, distinct_push}
use Rattle.fab_grammar.proofs.RuleLemmas.{rest_of, first_fails}
use Rattle.fab_words.specs.Misreads.{◌&◌, map_ok}
use Rattle.fab_words.specs.declared.misread.Misread.{Misread}
use Rattle.fab_words.specs.declared.misread.Misread.TheVariants.{Number, Limit}
use Rattle.fab_words.specs.Rows.{lines_of}
use Rattle.fab_words.specs.Words.{first_of, number_of, read_number, read_text}
use Rattle.fab_spell.proofs.Said.{both_said, some_said}
use Rattle.fab_script.proofs.KeptLemmas.{lines_keep, spelt}
use Rattle.fab_script.specs.Bound.{is_inside, lines_outside, at_range, outside, IsSound}

-- ---- the least of several lists

min_three : (a b c : ℕ) → min (min a b) c ≡ min a (min b c)
min_three a b c = omega (arith)

fold_min : (a x : ℕ) (ys : List ℕ) → fold min (min a x) ys ≡ min a (fold min x ys)
fold_min a x [] = refl
fold_min a x (y ∷ ys) = ap (λ m. fold min m ys) (min_three a x y) ∙ fold_min a (min x y) ys

abbrev pub earlier : Option ℕ → Option ℕ → Option ℕ
earlier None b = b
earlier (Some a) None = Some a
earlier (Some a) (Some b) = Some (min a b)

fold_more : (x : ℕ) (xs ys : List ℕ) → Some (fold min x (xs ++ ys)) ≡ earlier (Some (fold min x xs)) (reduce min ys)
fold_more x [] [] = refl
fold_more x [] (y ∷ ys) = ap Some (fold_min x y ys)
fold_more x (z ∷ zs) ys = fold_more (min x z) zs ys

reduce_more : (xs ys : List ℕ) → reduce min (xs ++ ys) ≡ earlier (reduce min xs) (reduce min ys)
reduce_more [] ys = refl
reduce_more (x ∷ xs) ys = fold_more x xs ys

earlier_cons : {X : Type 0} (f : X → Option ℕ) (x : X) (xs : List X) (o : Option ℕ) → f x ≡ o → earlier o (reduce min (filter_map f xs)) ≡ reduce min (filter_map f (x ∷ xs))
earlier_cons f x xs None e = rw (e, filter_map) refl
earlier_cons f x xs (Some a) e = rw (e, filter_map) (sym (reduce_more (a ∷ []) (filter_map f xs)))

-- the least of all is the least of the least of each
pub least_of_all : {X : Type 0} (f : X → List ℕ) (xs : List X) → reduce min (filter_map (λ x. reduce min (f x)) xs) ≡ reduce min (concat (map f xs))
least_of_all f [] = refl
least_of_all f (x ∷ xs) =
    sym (earlier_cons (λ y. reduce min (f y)) x xs (reduce min (f x)) refl) ∙ ap (earlier (reduce min (f x))) (least_of_all f xs) ∙ sym (reduce_more (f x) (concat (map f xs)))

-- ---- nothing is outside

none_of : (xs : List ℕ) → reduce min xs ≡ None → xs ≡ []
none_of [] e = refl
none_of (x ∷ xs) e = cc

unmapped : {B : Type 0} (o : Option ℕ) (f : ℕ → B) → option_map f o ≡ None → o ≡ None
unmapped None f e = refl
unmapped (Some n) f e = cc

module _ (payloads : List Payload) (files : List (List ℕ)) where
  line_inside : (test : Bool) (line : Line) (lines : List Line) → is_inside payloads files line.op ≡ test
      → map (λ (l : Line). l.number) (cond (not test) (line ∷ filter (λ (l : Line). not (is_inside payloads files l.op)) lines) (filter (λ (l : Line). not (is_inside payloads files l.op)) lines)) ≡ []
      → (test ≡ true) × (lines_outside payloads files lines ≡ [])
  line_inside true line lines is e = (refl, e)
  line_inside false line lines is e = cc

  lines_inside : (lines : List Line) → lines_outside payloads files lines ≡ [] → list_all (λ line. is_inside payloads files line.op) lines ≡ true
  lines_inside [] e = refl
  lines_inside (line ∷ lines) e =
      let here = line_inside (is_inside payloads files line.op) line lines refl e in
      rw (here.0, lines_inside lines here.1) refl

  all_inside : (peers : List (List Line)) → concat (map (lines_outside payloads files) peers) ≡ [] → list_all (list_all (λ line. is_inside payloads files line.op)) peers ≡ true
  all_inside [] e = refl
  all_inside (lines ∷ peers) e =
      let both = both_empty (lines_outside payloads files lines) (concat (map (lines_outside payloads files) peers)) e in
      rw (lines_inside lines both.0, all_inside peers both.1) refl

-- the least of the first of each peer is the line that is named
pub first_is_outside : (script : Script) (files : List (List ℕ)) (first : Option ℕ) → reduce min (filter_map (λ lines. reduce min (lines_outside script.payloads files lines)) script.peers) ≡ first → outside script files ≡ option_map at_range first
first_is_outside script files first e = ap (option_map at_range) (sym (least_of_all (lines_outside script.payloads files) script.peers) ∙ e)

-- ---- what the lines before keep: no ID stands twice, and there is a peer

abbrev ids : List Payload → List ℕ
ids payloads = map (λ p. p.id) payloads

record Kept (before : Before) : Type 0 where
  pub distinct : is_distinct (ids before.payloads) ≡ true
  pub some : (n : ℕ) → before.settings.peers ≡ Some n → 0 < n

any_id : (payloads : List Payload) (id : ℕ) → list_any (λ (p : Payload). eqb p.id id) payloads ≡ list_any (λ j. eqb j id) (ids payloads)
any_id [] id = refl
any_id (p ∷ ps) id = ap (λ b. eqb p.id id || b) (any_id ps id)

-- ---- one setting

-- of some peers there is one, and a payload has a new ID
abbrev Fits : List Payload → Setting → Type 0
Fits payloads (Peers n) = 0 < n
Fits payloads (File p) = list_any (λ j. eqb j p.id) (ids payloads) ≡ false
Fits payloads setting = Unit {0}

made : {A : Type 0} (payloads : List Payload) (f : A → Setting) (r : Result A Misread) (s : Setting) → ((x : A) → r ≡ Ok x → Fits payloads (f x)) → map_ok f r ≡ Ok s → Fits payloads s
made payloads f (Ok x) s each e =
    let same : f x ≡ s = cc in
    subst (Fits payloads) same (each x refl)
made payloads f (Err fault) s each e = cc

-- a payload has the number of its word
payload_fits : (args : List (List ℕ)) (payloads : List Payload) (s : Setting) → is_declared payloads args ≡ false → payload_setting args ≡ Ok s → Fits payloads s
unfolding payload_setting read_number
payload_fits (id ∷ name ∷ []) payloads s fresh e =
    made payloads a_file (read_number id & read_text name) s (λ x said.
    let number = some_said (number_of id) Number x.0 (both_said (read_number id) (read_text name) x said).0 in
    sym (any_id payloads x.0) ∙ ap (has_id payloads) (sym number) ∙ fresh) e
payload_fits _ payloads s fresh e = cc

at_least_one : (test : Bool) (n m : ℕ) → (leb 1 n && leb n m) ≡ test → (k : ℕ) → ◌≡◌ {A = Result ℕ Misread} (cond test (Ok n) (Err Limit)) (Ok k) → 0 < k
at_least_one true n m within k e =
    let same : n ≡ k = cc in
    let least = (and_true (leb 1 n) (leb n m) within).0 in
    let one : 0 < n = grind (arith, nat_tests) in
    subst (λ i. 0 < i) same one
at_least_one false n m within k e = cc

between_one : (api : Api) (said : Result ℕ Misread) (k : ℕ) → between (limits_of api size.Peers) said ≡ Ok k → 0 < k
between_one api (Ok n) k e = at_least_one (leb 1 n && leb n (most_peers api)) n (most_peers api) refl k e
between_one api (Err fault) k e = cc

some_peers : (api : Api) (args : List (List ℕ)) (k : ℕ) → size_of api size.Peers args ≡ Ok k → 0 < k
unfolding size_of
some_peers api (word ∷ []) k e = between_one api (read_number word) k e
some_peers api _ k e = cc

wish_fits : (api : Api) (verb : Verb) (args : List (List ℕ)) (payloads : List Payload) (s : Setting) → wish_of api verb args ≡ Ok s → Fits payloads s
unfolding wish_of
wish_fits api verb.Peers args payloads s e = made payloads Peers (size_of api size.Peers args) s (some_peers api args) e
wish_fits api verb.Lane args payloads s e = made payloads (Wish size.Lane) (size_of api size.Lane args) s (λ n said. tt) e
wish_fits api verb.Pool args payloads s e = made payloads (Wish size.Pool) (size_of api size.Pool args) s (λ n said. tt) e
wish_fits api verb.Tx args payloads s e = made payloads (Wish size.Tx) (size_of api size.Tx args) s (λ n said. tt) e
wish_fits api verb.Rx args payloads s e = made payloads (Wish size.Rx) (size_of api size.Rx args) s (λ n said. tt) e
wish_fits api verb.Cq args payloads s e = made payloads (Wish size.Cq) (size_of api size.Cq args) s (λ n said. tt) e
wish_fits api _ args payloads s e = cc

caps_fits : (args : List (List ℕ)) (payloads : List Payload) (s : Setting) → caps_setting args ≡ Ok s → Fits payloads s
unfolding caps_setting
caps_fits (list ∷ []) payloads s e = made payloads Capabilities (caps_of list) s (λ caps said. tt) e
caps_fits _ payloads s e = cc

selective_fits : (args : List (List ℕ)) (payloads : List Payload) (s : Setting) → selective_setting args ≡ Ok s → Fits payloads s
unfolding selective_setting
selective_fits [] payloads s e =
    let same : Selective ≡ s = cc in
    subst (Fits payloads) same tt
selective_fits _ payloads s e = cc

setting_fits : (api : Api) (verb : Verb) (args : List (List ℕ)) (before : Before) (s : Setting) → is_set before verb args ≡ false → setting_of api verb args ≡ Ok s → Fits before.payloads s
unfolding setting_of
setting_fits api verb.Caps args before s fresh e = caps_fits args before.payloads s e
setting_fits api verb.Selective args before s fresh e = selective_fits args before.payloads s e
setting_fits api verb.Payload args before s fresh e = payload_fits args before.payloads s fresh e
setting_fits api verb args before s fresh e = wish_fits api verb args before.payloads s e

wishing_peers : (s : Settings) (size : Size) (n : ℕ) → (wishing s size n).peers ≡ s.peers
wishing_peers s size.Lane n = refl
wishing_peers s size.Pool n = refl
wishing_peers s size.Tx n = refl
wishing_peers s size.Rx n = refl
wishing_peers s size.Cq n = refl
wishing_peers s _ n = refl

with_setting_kept : (before : Before) (said : Result Setting Misread) → Kept before → ((s : Setting) → said ≡ Ok s → Fits before.payloads s) → Kept (with_setting before said)
with_setting_kept before (Ok (File p)) kept fits = record {
  distinct = ap is_distinct (map-append (λ (q : Payload). q.id) before.payloads (p ∷ [])) ∙ distinct_push (ids before.payloads) p.id kept.distinct (fits (File p) refl);
  some = kept.some;
}
with_setting_kept before (Ok (Peers n)) kept fits = record {
  distinct = kept.distinct;
  some = λ k e. (let same : n ≡ k = cc in subst (λ i. 0 < i) same (fits (Peers n) refl));
}
with_setting_kept before (Ok (Wish size n)) kept fits = record { distinct = kept.distinct; some = λ k e. kept.some k (sym (wishing_peers before.settings size n) ∙ e) }
with_setting_kept before (Ok (Capabilities caps)) kept fits = record { distinct = kept.distinct; some = kept.some }
with_setting_kept before (Ok Selective) kept fits = record { distinct = kept.distinct; some = kept.some }
with_setting_kept before (Err fault) kept fits = kept

with_peer_kept : (before : Before) (said : Result ℕ Misread) → Kept before → Kept (with_peer before said)
with_peer_kept before (Ok k) kept = record { distinct = kept.distinct; some = kept.some }
with_peer_kept before (Err fault) kept = kept

with_call_kept : (before : Before) (number : ℕ) (said : Result LineOp Misread) → Kept before → Kept (with_call before number said)
with_call_kept before number (Ok op) kept = record { distinct = kept.distinct; some = kept.some }
with_call_kept before number (Err fault) kept = kept

-- a setting that breaks no rule was not made before
fresh_setting : (api : Api) (before : Before) (number : ℕ) (verb : Verb) (args : List (List ℕ)) → first_of (setting_rules api before number verb args) ≡ None → is_set before verb args ≡ false
unfolding setting_rules
fresh_setting api before number verb args e =
    let said = setting_of api verb args in
    let rest : List (Bool × Why) = (is_words said, why.Words) ∷ (is_number said, why.Number) ∷ (is_limit said || is_late number || is_one_too_many before said, why.Limit) ∷ (is_not_granted api said, why.NoData) ∷ [] in
    first_fails (is_set before verb args) why.Twice rest (rest_of (has_opened before) why.Order ((is_set before verb args, why.Twice) ∷ rest) e)

with_kind_kept : (k : VerbKind) (api : Api) (before : Before) (number : ℕ) (verb : Verb) (args : List (List ℕ)) → Kept before → first_of (kind_rules k api before number verb args) ≡ None → Kept (with_kind k api before number verb args)
with_kind_kept kind.Setting api before number verb args kept e =
    with_setting_kept before (setting_of api verb args) kept (λ s. setting_fits api verb args before s (fresh_setting api before number verb args e))
with_kind_kept kind.Peer api before number verb args kept e = with_peer_kept before (peer_of args) kept
with_kind_kept kind.Call api before number verb args kept e = with_call_kept before number (op_of (most_bytes api) verb args) kept

header_kept : (before : Before) (named : Option Api) → Kept before → Kept (record before { api = named })
header_kept before named kept = record { distinct = kept.distinct; some = kept.some }

-- ---- the script

-- what is granted of some peers is as many
as_wished : (b : Bool) (n : ℕ) → eqb n 0 ≡ b → 0 < n → elim (elim b as (λ _. Option ℕ) [ true ↦ None | false ↦ Some n ]) as (λ _. ℕ) [ None ↦ 32 | Some m ↦ m ] ≡ n
as_wished true n e some =
    let zero : n ≡ 0 = grind (arith, nat_tests) in
    absurd (omega (arith, zero, some))
as_wished false n e some = refl

peers_granted : (api : Api) (refused : Bool) (h : Hints) (n : ℕ) (info : Info) → h.peers ≡ Some n → 0 < n → elim refused as (λ _. Option Info) [ true ↦ None | false ↦ Some (granted_info api h) ] ≡ Some info → n ≡ info.peers
peers_granted api true h n info wish some e = cc
peers_granted api false h n info wish some e =
    let same : granted_info api h ≡ info = cc in
    let as_many : granted_size api size.Peers (Some n) ≡ n = as_wished (eqb n 0) n refl some in
    sym as_many ∙ ap (granted_size api size.Peers) (sym wish) ∙ ap (λ (i : Info). i.peers) same

grants_peers : (api : Api) (h : Hints) (n : ℕ) (info : Info) → h.peers ≡ Some n → 0 < n → grant api (Some h) ≡ Some info → n ≡ info.peers
unfolding grant grant_of
grants_peers api h n info wish some e = peers_granted api (is_refused api h) h n info wish some e

-- and it is granted in the version that is asked
version_granted : (api : Api) (refused : Bool) (h : Hints) (info : Info) → elim refused as (λ _. Option Info) [ true ↦ None | false ↦ Some (granted_info api h) ] ≡ Some info → api ≡ info.api
version_granted api true h info e = cc
version_granted api false h info e =
    let same : granted_info api h ≡ info = cc in
    ap (λ (i : Info). i.api) same

grants_version : (api : Api) (h : Hints) (info : Info) → grant api (Some h) ≡ Some info → api ≡ info.api
unfolding grant grant_of
grants_version api h info e = version_granted api (is_refused api h) h info e

hints_peers : (s : Settings) → (hints_of s).peers ≡ s.peers
unfolding hints_of
hints_peers s = refl

-- what a script has that was read
pub record IsRead (script : Script) : Type 0 where
  pub lists : length script.peers ≡ script.conf.peers
  pub distinct : is_distinct (map (λ p. p.id) script.payloads) ≡ true
  pub version : script.version ≡ version_of script.conf.info.api
  pub granted : grant script.conf.info.api script.conf.hints ≡ Some script.conf.info
  pub peers : script.conf.peers ≡ script.conf.info.peers

pub was_read : (text : List ℕ) (script : Script) → verdict text ≡ Ok script → IsRead script
was_read text script e =
    let s = spelt text script e in
    let kept : Kept s.after =
    lines_keep Kept header_kept (λ api before number verb args kept none. with_kind_kept (kind_of verb) api before number verb args kept none) nothing 1 (lines_of text) s.after (record { distinct = refl; some = λ n none. cc none }) s.lines in
    let same : s.api ≡ s.info.api = grants_version s.api (hints_of s.after.settings) s.info s.granted in
    subst IsRead s.is (record {
      lists = length-map-range_with_len (λ k. part_of k s.after.items) 0 s.count;
      distinct = kept.distinct;
      version = ap version_of same;
      granted = subst (λ api. grant api (Some (hints_of s.after.settings)) ≡ Some s.info) same s.granted;
      peers = grants_peers s.api (hints_of s.after.settings) s.count s.info (hints_peers s.after.settings ∙ s.peers) (kept.some s.count s.peers) s.granted;
    })

-- a script that was read, with one file for each payload, none of whose lines is outside
pub sound_with : (script : Script) (files : List (List ℕ)) → IsRead script → length files ≡ length script.payloads → outside script files ≡ None → IsSound (record { script = script; files = files })
sound_with script files read count none = record {
  complete = record {
    lists = read.lists;
    files = count;
    distinct = read.distinct;
    inside = all_inside script.payloads files script.peers (none_of _ (unmapped _ at_range none));
  };
  version = read.version;
  granted = read.granted;
  peers = read.peers;
}
