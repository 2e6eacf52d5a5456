-- The rows of the peers break no rule.
use Rattle.std.proofs.Common.{◌≡◌, ◌&&◌, ℕ, ◌+◌, ◌^◌, ◌<◌, ◌≤◌, true, false, not, ◌||◌, eqb, ltb, leb, List, [], ◌∷◌, ◌++◌, map, decimal, Some, None, sym, ap, subst, ◌∙◌, refl, arith, append_assoc}
use Rattle.std.specs.Prelude.{Ok, unwrap_or}
use Rattle.std.specs.List.{list_all, list_any, sum_by}
use Rattle.std.proofs.lemmas.Bool.Decides.{nat_tests}
use Rattle.std.proofs.lemmas.List.{append-nil}
use Rattle.std.proofs.lemmas.List.Folds.{list_all-append}
use Rattle.std.proofs.lemmas.List.Sums.{sum_by_push}
use Rattle.fab_base.specs.declared.caps.Api.{Api}
use Rattle.fab_base.specs.declared.script.Line.{Line}
use Rattle.fab_base.specs.declared.script.LineOp.{LineOp}
use Rattle.fab_base.specs.declared.script.Payload.{Payload}
use Rattle.fab_words.specs.Words.{first_of}
use Rattle.fab_words.specs.Written.{is_word}
use Rattle.fab_grammar.specs.declared.items.Item.{Item}
use Rattle.fab_grammar.specs.declared.items.Item.TheVariants.{Peer, Does}
use Rattle.fab_grammar.specs.declared.settings.Settings.{Settings}
use Rattle.fab_grammar.specs.declared.verbs.VerbKind.{VerbKind}
use Rattle.fab_grammar.specs.declared.verbs.VerbKind.TheVariants as kind
use Rattle.fab_grammar.specs.declared.verbs.Verb.{Verb}
use Rattle.fab_grammar.specs.declared.verbs.Verb.TheVariants as verb
use Rattle.fab_grammar.specs.Before.{Before, count_in, has_opened, is_filled, opened_by, size_of}
use Rattle.fab_grammar.specs.Lines.{op_of, op_size}
use Rattle.fab_grammar.specs.Rules.{is_late, is_words, is_number, is_limit, is_again, names_one, is_no_peer, is_too_much, peer_rules, call_rules, kind_rules, with_peer, with_call, with_kind, with_words}
use Rattle.fab_grammar.specs.Settings.{peer_of}
use Rattle.fab_grammar.specs.Verbs.{kind_of}
use Rattle.fab_grammar.specs.Versions.{most_bytes, most_in_all}
use Rattle.fab_grammar.proofs.PartLemmas.{and_true, opened_by-append}
use Rattle.fab_spell.specs.Again.{Again}
use Rattle.fab_spell.specs.Spelling.{verb_for, args_for, row_of}
use Rattle.fab_spell.proofs.Decimals.{number_again, read_number_decimal}
use Rattle.fab_spell.proofs.Numbers.{is_word-decimal}
use Rattle.fab_spell.specs.Print.{item_row, without_number}
use Rattle.fab_spell.proofs.Rules.{none_first}
use Rattle.fab_spell.proofs.Stepping.{Rest, take_row, take_none, verb_row, verb_fits, verb_said}

-- ---- `peer K`
peer_again : (k : ℕ) → k < 2 ^ 64 → peer_of (decimal k ∷ []) ≡ Ok k
unfolding peer_of
peer_again k small = read_number_decimal k small

peer_words : (k : ℕ) → k < 2 ^ 64 → list_all is_word (decimal k ∷ []) ≡ true
peer_words k small = ap (λ b. b && true) (is_word-decimal k)

peer_rule : (before : Before) (number k : ℕ) → k < 2 ^ 64 → list_any (λ j. eqb j k) (opened_by before.items) ≡ false → k < count_in before → is_late number ≡ false → first_of (peer_rules before number (decimal k ∷ [])) ≡ None
unfolding peer_rules
peer_rule before number k small new below late =
    let said = peer_again k small in
    let there : leb (count_in before) k ≡ false = grind (arith, nat_tests) in
    let again : is_again (opened_by before.items) (decimal k ∷ []) ≡ false = ap (names_one (opened_by before.items)) (number_again k small) ∙ new in
    let limit : (is_limit (peer_of (decimal k ∷ [])) || is_late number) ≡ false = ap (λ s. is_limit s || is_late number) said ∙ late in
    none_first (peer_rules before number (decimal k ∷ [])) (again, (ap is_words said, (ap is_number said, (ap (is_no_peer before) said ∙ there, (limit, tt)))))

take_peer : (api : Api) (before : Before) (k : ℕ) (rows : List (List (List ℕ))) (Goal : Before → Type 0) → before.api ≡ Some api → k < 2 ^ 64 → list_any (λ j. eqb j k) (opened_by before.items) ≡ false → k < count_in before
    → Rest (record before { items = before.items ++ Peer k ∷ [] }) rows Goal → Rest before (item_row (Peer k) ∷ rows) Goal
take_peer api before k rows Goal header small new below rest = take_row before (item_row (Peer k)) rows Goal (verb_row verb.Peer (decimal k ∷ []) (peer_words k small)) (λ number late.
    let args : List (List ℕ) = decimal k ∷ [] in
    let next : with_words before number (item_row (Peer k)) ≡ record before { items = before.items ++ Peer k ∷ [] } = verb_said api before number verb.Peer args header ∙ ap (with_peer before) (peer_again k small) in
    (verb_fits api before number verb.Peer args header (peer_rule before number k small new below late), subst (λ b. Rest b rows Goal) (sym next) rest))

-- ---- a line of a peer
call_rule : (api : Api) (before : Before) (number : ℕ) (verb : Verb) (args : List (List ℕ)) (op : LineOp) → op_of (most_bytes api) verb args ≡ Ok op → has_opened before ≡ true → sum_by size_of before.items + op_size op ≤ most_in_all api → is_late number ≡ false → first_of (call_rules api before number verb args) ≡ None
unfolding call_rules
call_rule api before number verb args op said opened few late =
    let little : ltb (most_in_all api) (sum_by size_of before.items + op_size op) ≡ false = grind (arith, nat_tests) in
    let limit : (is_limit (op_of (most_bytes api) verb args) || is_late number || is_too_much api before (op_of (most_bytes api) verb args)) ≡ false =
    ap (λ s. is_limit s || is_late number || is_too_much api before s) said ∙ (ap (λ b. b || is_too_much api before (Ok op)) late ∙ little) in
    none_first (call_rules api before number verb args) (ap not opened, (ap is_words said, (ap is_number said, (limit, tt))))

kind_rule : (api : Api) (k : VerbKind) (before : Before) (number : ℕ) (verb : Verb) (args : List (List ℕ)) → k ≡ kind.Call → first_of (call_rules api before number verb args) ≡ None → first_of (kind_rules k api before number verb args) ≡ None
kind_rule api k before number verb args e none = ap (λ l. first_of (kind_rules l api before number verb args)) e ∙ none

kind_said : (api : Api) (before : Before) (number : ℕ) (verb : Verb) (args : List (List ℕ)) (op : LineOp) → kind_of verb ≡ kind.Call → op_of (most_bytes api) verb args ≡ Ok op → with_kind (kind_of verb) api before number verb args ≡ with_call before number (Ok op)
kind_said api before number verb args op k e = ap (λ l. with_kind l api before number verb args) k ∙ ap (with_call before number) e

-- the line has the number at which it stands
take_call : (api : Api) (before : Before) (op : LineOp) (rows : List (List (List ℕ))) (Goal : Before → Type 0) → before.api ≡ Some api → Again (most_bytes api) op → has_opened before ≡ true → sum_by size_of before.items + op_size op ≤ most_in_all api
    → ((number : ℕ) → Rest (with_call before number (Ok op)) rows Goal) → Rest before (row_of op ∷ rows) Goal
take_call api before op rows Goal header again opened few rest = take_row before (row_of op) rows Goal (verb_row (verb_for op) (args_for op) again.words) (λ number late.
    let v = verb_for op in
    let args = args_for op in
    let rules = call_rule api before number v args op again.reads opened few late in
    let next : with_words before number (row_of op) ≡ with_call before number (Ok op) = verb_said api before number v args header ∙ kind_said api before number v args op again.kind again.reads in
    (verb_fits api before number v args header (kind_rule api (kind_of v) before number v args again.kind rules), subst (λ b. Rest b rows Goal) (sym next) (rest number)))

-- ---- all of them
-- The rules hold of these items: all peers opened so far are below `low`, some is where that is not 0, and the lines so far have this size.
abbrev pub ItemsFit : Api → ℕ → ℕ → ℕ → List Item → Type 0
ItemsFit api n low size [] = Unit {0}
ItemsFit api n low size (Peer k ∷ items) = (low ≤ k) × (k < n) × ItemsFit api n (k + 1) size items
ItemsFit api n low size (Does line ∷ items) = (0 < low) × Again (most_bytes api) line.op × (size + op_size line.op ≤ most_in_all api) × ItemsFit api n low (size + op_size line.op) items

record Opened (done : List Item) (low size : ℕ) : Type 0 where
  pub below : list_all (λ j. ltb j low) (opened_by done) ≡ true
  pub some : 0 < low → is_filled (opened_by done) ≡ true
  pub sum : sum_by size_of done ≡ size

below_more : (ks : List ℕ) (low k : ℕ) → low ≤ k → list_all (λ j. ltb j low) ks ≡ true → list_all (λ j. ltb j (k + 1)) ks ≡ true
below_more [] low k h all = refl
below_more (j ∷ js) low k h all =
    let both = and_true (ltb j low) (list_all (λ i. ltb i low) js) all in
    let here : ltb j (k + 1) ≡ true = less j both.0 in
    rw (here, below_more js low k h both.1) refl
  where
    less : (j : ℕ) → ltb j low ≡ true → ltb j (k + 1) ≡ true
    less j e = grind (arith, nat_tests)

none_same : (ks : List ℕ) (low k : ℕ) → low ≤ k → list_all (λ j. ltb j low) ks ≡ true → list_any (λ j. eqb j k) ks ≡ false
none_same [] low k h all = refl
none_same (j ∷ js) low k h all =
    let both = and_true (ltb j low) (list_all (λ i. ltb i low) js) all in
    let here : eqb j k ≡ false = other j both.0 in
    rw (here, none_same js low k h both.1) refl
  where
    other : (j : ℕ) → ltb j low ≡ true → eqb j k ≡ false
    other j e = grind (arith, nat_tests)

filled_more : (ks : List ℕ) (k : ℕ) → is_filled (ks ++ k ∷ []) ≡ true
filled_more [] k = refl
filled_more (j ∷ js) k = refl

opened_peer : (done : List Item) (low size k : ℕ) → Opened done low size → low ≤ k → Opened (done ++ Peer k ∷ []) (k + 1) size
opened_peer done low size k o h =
    let here : ltb k (k + 1) ≡ true = grind (arith, nat_tests) in
    record {
      below = ap (list_all (λ j. ltb j (k + 1))) (opened_by-append done (Peer k ∷ [])) ∙ (list_all-append (λ j. ltb j (k + 1)) (opened_by done) (k ∷ [])
          ∙ rw (below_more (opened_by done) low k h o.below, here) refl);
      some = λ p. ap is_filled (opened_by-append done (Peer k ∷ [])) ∙ filled_more (opened_by done) k;
      sum = omega (arith, o.sum, sum_by_push size_of done (Peer k));
    }

opened_line : (done : List Item) (low size : ℕ) (line : Line) → Opened done low size → Opened (done ++ Does line ∷ []) low (size + op_size line.op)
opened_line done low size line o =
    let same : opened_by (done ++ Does line ∷ []) ≡ opened_by done = opened_by-append done (Does line ∷ []) ∙ append-nil (opened_by done) in
    record {
      below = ap (list_all (λ j. ltb j low)) same ∙ o.below;
      some = λ p. ap is_filled same ∙ o.some p;
      sum = omega (arith, o.sum, sum_by_push size_of done (Does line));
    }

-- items without the numbers of their lines
abbrev pub plain : Item → Item
plain (Peer k) = Peer k
plain (Does line) = Does (without_number line)

-- what is said in the end: these items, up to the numbers of lines
pub record Ends (api : Api) (s : Settings) (ps : List Payload) (all : List Item) (after : Before) : Type 0 where
  pub header : after.api ≡ Some api
  pub settings : after.settings ≡ s
  pub payloads : after.payloads ≡ ps
  pub items : map plain after.items ≡ map plain all

abbrev pub all_said : Api → Settings → List Payload → List Item → Before
all_said api settings payloads items = record { api = Some api; settings = settings; payloads = payloads; items = items }

-- the items up to here, one of which has another number
same_but_number : (done items : List Item) (line : Line) (number : ℕ) → map plain ((done ++ Does (record { number = number; op = line.op }) ∷ []) ++ items) ≡ map plain (done ++ Does line ∷ items)
same_but_number [] items line number = refl
same_but_number (item ∷ done) items line number = ap (λ l. plain item ∷ l) (same_but_number done items line number)

take_items_after : (api : Api) (settings : Settings) (payloads : List Payload) (n : ℕ) → settings.peers ≡ Some n → n ≤ 4294967296 → (done items all : List Item) (low size : ℕ) → Opened done low size → ItemsFit api n low size items → map plain (done ++ items) ≡ map plain all
    → Rest (all_said api settings payloads done) (map item_row items) (Ends api settings payloads all)
take_items_after api settings payloads n peers few done [] all low size o f e =
    take_none (all_said api settings payloads done) (Ends api settings payloads all) (record { header = refl; settings = refl; payloads = refl; items = sym (ap (map plain) (append-nil done)) ∙ e })
take_items_after api settings payloads n peers few done (Peer k ∷ items) all low size o f e =
    let count : count_in (all_said api settings payloads done) ≡ n = ap (λ p. unwrap_or p 0) peers in
    let small : k < 2 ^ 64 = omega (arith, f.1) in
    let below : k < count_in (all_said api settings payloads done) = omega (arith, f.1) in
    take_peer api (all_said api settings payloads done) k (map item_row items) (Ends api settings payloads all) refl small (none_same (opened_by done) low k f.0 o.below) below
    (take_items_after api settings payloads n peers few (done ++ Peer k ∷ []) items all (k + 1) size (opened_peer done low size k o f.0) f.2 (ap (map plain) (append_assoc done (Peer k ∷ []) items) ∙ e))
take_items_after api settings payloads n peers few done (Does line ∷ items) all low size o f e =
    let fits : sum_by size_of done + op_size line.op ≤ most_in_all api = omega (arith, o.sum, f.2) in
    take_call api (all_said api settings payloads done) line.op (map item_row items) (Ends api settings payloads all) refl f.1 (o.some f.0) fits (λ number.
    let numbered : Line = record { number = number; op = line.op } in
    take_items_after api settings payloads n peers few (done ++ Does numbered ∷ []) items all low (size + op_size line.op) (opened_line done low size numbered o) f.3 (same_but_number done items line number ∙ e))

pub take_items : (api : Api) (settings : Settings) (payloads : List Payload) (n : ℕ) → settings.peers ≡ Some n → n ≤ 4294967296 → (items : List Item) → ItemsFit api n 0 0 items → Rest (all_said api settings payloads []) (map item_row items) (Ends api settings payloads items)
take_items api settings payloads n peers few items f = take_items_after api settings payloads n peers few [] items items 0 0 (record { below = refl; some = λ h. absurd (omega arith); sum = refl }) f refl
