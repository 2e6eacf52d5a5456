-- The text of rows, piece by piece.
use Rattle.std.proofs.Common.{◌≡◌, ℕ, ◌+◌, ◌<◌, List, [], ◌∷◌, ◌++◌, length, drop, get_or, map, Option, Some, None, Result, Ok, Err, OnOk, unwrap_or, sym, ap, ◌∙◌, refl, append_assoc}
use Rattle.std.proofs.lemmas.List.{append-nil, drop_more, map-append}
use Rattle.fab_base.specs.declared.caps.Hints.{Hints}
use Rattle.fab_base.specs.declared.limits.Size.TheVariants as size
use Rattle.fab_base.specs.declared.script.Conf.{Conf}
use Rattle.fab_base.specs.declared.script.Line.{Line}
use Rattle.fab_base.specs.declared.script.Payload.{Payload}
use Rattle.fab_base.specs.declared.script.Script.{Script}
use Rattle.fab_model.specs.Negotiation.{no_hints}
use Rattle.fab_model.specs.Words.{line_of, text_of}
use Rattle.fab_grammar.specs.declared.items.Item.{Item}
use Rattle.fab_grammar.specs.declared.settings.Setting.{Setting}
use Rattle.fab_grammar.specs.declared.settings.Setting.TheVariants.{Peers, File}
use Rattle.fab_spell.specs.Headings.{setting_row}
use Rattle.fab_spell.specs.Print.{asked, header_row, hints_for, item_row, items_of, items_text, part_items, joined, printed, rows_of, selected, settings_for, settings_of, settings_text, sizes, wished}

pub text_of-append : (xs ys : List (List (List ℕ))) → text_of (xs ++ ys) ≡ text_of xs ++ text_of ys
text_of-append [] ys = refl
text_of-append (x ∷ xs) ys =
    ap (λ text. line_of x ++ text) (text_of-append xs ys) ∙ sym (append_assoc (line_of x) (text_of xs) (text_of ys))

pub settings_text-append : (xs ys : List Setting) → settings_text (xs ++ ys) ≡ settings_text xs ++ settings_text ys
settings_text-append xs ys = ap text_of (map-append setting_row xs ys) ∙ text_of-append (map setting_row xs) (map setting_row ys)

pub items_text-append : (xs ys : List Item) → items_text (xs ++ ys) ≡ items_text xs ++ items_text ys
items_text-append xs ys = ap text_of (map-append item_row xs ys) ∙ text_of-append (map item_row xs) (map item_row ys)

-- the texts of these, one after another
abbrev pub pieces_text : List (List Setting) → List ℕ
pieces_text [] = []
pieces_text (settings ∷ others) = settings_text settings ++ pieces_text others

pub joined_text : (all : List (List Setting)) → settings_text (joined all) ≡ pieces_text all
joined_text [] = refl
joined_text (settings ∷ others) = settings_text-append settings (joined others) ∙ ap (λ text. settings_text settings ++ text) (joined_text others)

-- what is written after a step
pub wrote : (from now next : List ℕ) (xs ys : List ℕ) → now ≡ from ++ xs → next ≡ now ++ ys → next ≡ from ++ (xs ++ ys)
wrote from now next xs ys e f = f ∙ (ap (λ text. text ++ ys) e ∙ append_assoc from xs ys)

-- ---- the settings
-- what is written of the sizes, and of all settings but the payload files
pub sizes_text : (h : Hints) → settings_text (sizes h) ≡ pieces_text (wished size.Lane h.lane ∷ wished size.Pool h.pool ∷ wished size.Tx h.tx ∷ wished size.Rx h.rx ∷ wished size.Cq h.cq ∷ [])
sizes_text h = joined_text (wished size.Lane h.lane ∷ wished size.Pool h.pool ∷ wished size.Tx h.tx ∷ wished size.Rx h.rx ∷ wished size.Cq h.cq ∷ [])

five : (a b c d e rest : List ℕ) → (a ++ (b ++ (c ++ (d ++ (e ++ []))))) ++ rest ≡ a ++ (b ++ (c ++ (d ++ (e ++ rest))))
five a b c d e rest =
    append_assoc a (b ++ (c ++ (d ++ (e ++ [])))) rest
    ∙ ap (λ t. a ++ t) (append_assoc b (c ++ (d ++ (e ++ []))) rest
    ∙ ap (λ t. b ++ t) (append_assoc c (d ++ (e ++ [])) rest
    ∙ ap (λ t. c ++ t) (append_assoc d (e ++ []) rest
    ∙ ap (λ t. d ++ t) (append_assoc e [] rest))))

-- the sizes in a row, and what follows them
sizes_then : (h : Hints) (rest : List ℕ) → settings_text (sizes h) ++ rest ≡ settings_text (wished size.Lane h.lane) ++ (settings_text (wished size.Pool h.pool) ++ (settings_text (wished size.Tx h.tx) ++ (settings_text (wished size.Rx h.rx) ++ (settings_text (wished size.Cq h.cq) ++ rest))))
sizes_then h rest =
    ap (λ t. t ++ rest) (sizes_text h)
    ∙ five (settings_text (wished size.Lane h.lane)) (settings_text (wished size.Pool h.pool)) (settings_text (wished size.Tx h.tx)) (settings_text (wished size.Rx h.rx)) (settings_text (wished size.Cq h.cq)) rest

pub settings_for_text : (h : Hints) (conf : Conf) (payloads : List Payload) → settings_text (settings_for h conf payloads) ≡ settings_text (asked h.caps) ++ (settings_text (Peers conf.peers ∷ []) ++ (settings_text (sizes h) ++ (settings_text (selected conf.selective) ++ settings_text (map File payloads))))
settings_for_text h conf payloads =
    let files = settings_text (map File payloads) in
    let rest = settings_text (selected conf.selective) ++ files in
    let all = asked h.caps ∷ (Peers conf.peers ∷ []) ∷ wished size.Lane h.lane ∷ wished size.Pool h.pool ∷ wished size.Tx h.tx ∷ wished size.Rx h.rx ∷ wished size.Cq h.cq ∷ selected conf.selective ∷ map File payloads ∷ [] in
    joined_text all
    ∙ (ap (λ t. settings_text (asked h.caps) ++ (settings_text (Peers conf.peers ∷ []) ++ (settings_text (wished size.Lane h.lane) ++ (settings_text (wished size.Pool h.pool) ++ (settings_text (wished size.Tx h.tx) ++ (settings_text (wished size.Rx h.rx) ++ (settings_text (wished size.Cq h.cq) ++ (settings_text (selected conf.selective) ++ t)))))))) (append-nil files)
    ∙ ap (λ t. settings_text (asked h.caps) ++ (settings_text (Peers conf.peers ∷ []) ++ t)) (sym (sizes_then h rest)))

-- five appends, one for each size
pub sizes_written : {T E : Type 0} (r : Result T E) (h : Hints) (from lane pool tx rx next : List ℕ)
    → lane ≡ from ++ settings_text (wished size.Lane h.lane)
    → pool ≡ lane ++ settings_text (wished size.Pool h.pool)
    → tx ≡ pool ++ settings_text (wished size.Tx h.tx)
    → rx ≡ tx ++ settings_text (wished size.Rx h.rx)
    → OnOk r (next ≡ rx ++ settings_text (wished size.Cq h.cq))
    → OnOk r (next ≡ from ++ settings_text (sizes h))
sizes_written (Err x) h from lane pool tx rx next e1 e2 e3 e4 e5 = tt
sizes_written (Ok x) h from lane pool tx rx next e1 e2 e3 e4 e5 =
    let a = settings_text (wished size.Lane h.lane) in
    let b = settings_text (wished size.Pool h.pool) in
    let c = settings_text (wished size.Tx h.tx) in
    let d = settings_text (wished size.Rx h.rx) in
    let e = settings_text (wished size.Cq h.cq) in
    let two = wrote from lane pool a b e1 e2 in
    let three = wrote from pool tx (a ++ b) c two e3 in
    let four = wrote from tx rx ((a ++ b) ++ c) d three e4 in
    wrote from rx next (((a ++ b) ++ c) ++ d) e four e5
    ∙ ap (λ t. from ++ t) (append_assoc ((a ++ b) ++ c) d e
    ∙ (append_assoc (a ++ b) c (d ++ e)
    ∙ (append_assoc a b (c ++ (d ++ e))
    ∙ (ap (λ t. a ++ (b ++ (c ++ (d ++ t)))) (sym (append-nil e)) ∙ sym (sizes_text h)))))

-- ---- the parts
-- after a part, what is written and the parts that are left are still the whole
pub part_more : (parts : List (List Line)) (i : ℕ) (part : List Line) (now next whole : List ℕ) → i < length parts → part ≡ get_or parts i part → now ++ items_text (items_of i (drop i parts)) ≡ whole → next ≡ now ++ items_text (part_items i part) → next ++ items_text (items_of (i + 1) (drop (i + 1) parts)) ≡ whole
part_more parts i part now next whole below is so_far wrote =
    let rest = items_text (items_of (i + 1) (drop (i + 1) parts)) in
    let here : items_text (items_of i (drop i parts)) ≡ items_text (part_items i part) ++ rest =
    ap (λ ps. items_text (items_of i ps)) (drop_more parts i part below) ∙ (ap (λ p. items_text (items_of i (p ∷ drop (i + 1) parts))) (sym is) ∙ items_text-append (part_items i part) (items_of (i + 1) (drop (i + 1) parts))) in
    ap (λ text. text ++ rest) wrote ∙ (append_assoc now (items_text (part_items i part)) rest ∙ (ap (λ text. now ++ text) (sym here) ∙ so_far))

-- ---- what the functions write
-- the settings but for the payload files, up to `selective`
abbrev pub up_to_sizes : Hints → ℕ → List ℕ
up_to_sizes h peers = settings_text (asked h.caps) ++ (settings_text (Peers peers ∷ []) ++ settings_text (sizes h))

pub without_hints : (hints : Option Hints) (peers : ℕ) → hints ≡ None → up_to_sizes (unwrap_or hints no_hints) peers ≡ line_of (setting_row (Peers peers))
without_hints hints peers e =
    ap (λ o. up_to_sizes (unwrap_or o no_hints) peers) e
    ∙ (append-nil (settings_text (Peers peers ∷ [])) ∙ append-nil (line_of (setting_row (Peers peers))))

pub with_hints : (hints : Option Hints) (h : Hints) (peers : ℕ) (from asks counts next : List ℕ) → hints ≡ Some h → asks ≡ from ++ settings_text (asked h.caps) → counts ≡ asks ++ line_of (setting_row (Peers peers)) → next ≡ counts ++ settings_text (sizes h) → next ≡ from ++ up_to_sizes (unwrap_or hints no_hints) peers
with_hints hints h peers from asks counts next e a b d =
    let line : counts ≡ asks ++ settings_text (Peers peers ∷ []) = b ∙ ap (λ t. asks ++ t) (sym (append-nil (line_of (setting_row (Peers peers))))) in
    let two = wrote from asks counts (settings_text (asked h.caps)) (settings_text (Peers peers ∷ [])) a line in
    wrote from counts next (settings_text (asked h.caps) ++ settings_text (Peers peers ∷ [])) (settings_text (sizes h)) two d
    ∙ (ap (λ t. from ++ t) (append_assoc (settings_text (asked h.caps)) (settings_text (Peers peers ∷ [])) (settings_text (sizes h)))
    ∙ ap (λ o. from ++ up_to_sizes (unwrap_or o no_hints) peers) (sym e))

conf_text : (h : Hints) (conf : Conf) → up_to_sizes h conf.peers ++ settings_text (selected conf.selective) ≡ settings_text (settings_for h conf [])
conf_text h conf =
    let a = settings_text (asked h.caps) in
    let b = settings_text (Peers conf.peers ∷ []) in
    let d = settings_text (sizes h) in
    let e = settings_text (selected conf.selective) in
    append_assoc a (b ++ d) e ∙ (ap (λ t. a ++ t) (append_assoc b d e) ∙ (ap (λ t. a ++ (b ++ (d ++ t))) (sym (append-nil e)) ∙ sym (settings_for_text h conf [])))

pub conf_written : {T E : Type 0} (r : Result T E) (from now next : List ℕ) (conf : Conf) → now ≡ from ++ up_to_sizes (hints_for conf) conf.peers → OnOk r (next ≡ now ++ settings_text (selected conf.selective)) → OnOk r (next ≡ from ++ settings_text (settings_for (hints_for conf) conf []))
conf_written (Ok x) from now next conf e f =
    wrote from now next (up_to_sizes (hints_for conf) conf.peers) (settings_text (selected conf.selective)) e f ∙ ap (λ t. from ++ t) (conf_text (hints_for conf) conf)
conf_written (Err x) from now next conf e f = tt

-- the payload files follow the other settings
files_text : (h : Hints) (conf : Conf) (payloads : List Payload) → settings_text (settings_for h conf []) ++ settings_text (map File payloads) ≡ settings_text (settings_for h conf payloads)
files_text h conf payloads =
    let a = settings_text (asked h.caps) in
    let b = settings_text (Peers conf.peers ∷ []) in
    let d = settings_text (sizes h) in
    let e = settings_text (selected conf.selective) in
    let f = settings_text (map File payloads) in
    ap (λ t. t ++ f) (sym (conf_text h conf))
    ∙ (append_assoc (up_to_sizes h conf.peers) e f
    ∙ (append_assoc a (b ++ d) (e ++ f) ∙ (ap (λ t. a ++ t) (append_assoc b d (e ++ f)) ∙ sym (settings_for_text h conf payloads))))

-- the header, the settings, and the parts
rows_text : (script : Script) → line_of (header_row script.version) ++ (settings_text (settings_of script) ++ items_text (items_of 0 script.peers)) ≡ printed script
unfolding rows_of
rows_text script = ap (λ t. line_of (header_row script.version) ++ t) (sym (text_of-append (map setting_row (settings_of script)) (map item_row (items_of 0 script.peers))))

pub script_written : {T E : Type 0} (r : Result T E) (from begun set filed next : List ℕ) (script : Script) → begun ≡ from ++ line_of (header_row script.version) → set ≡ begun ++ settings_text (settings_for (hints_for script.conf) script.conf []) → filed ≡ set ++ settings_text (map File script.payloads) → OnOk r (next ≡ filed ++ items_text (items_of 0 script.peers)) → OnOk r (next ≡ from ++ printed script)
script_written (Err x) from begun set filed next script a b d e = tt
script_written (Ok x) from begun set filed next script a b d e =
    let header = line_of (header_row script.version) in
    let conf = settings_text (settings_for (hints_for script.conf) script.conf []) in
    let files = settings_text (map File script.payloads) in
    let items = items_text (items_of 0 script.peers) in
    let settings : filed ≡ begun ++ settings_text (settings_of script) = wrote begun set filed conf files b d ∙ ap (λ t. begun ++ t) (files_text (hints_for script.conf) script.conf script.payloads) in
    let all : next ≡ begun ++ (settings_text (settings_of script) ++ items) = wrote begun filed next (settings_text (settings_of script)) items settings e in
    wrote from begun next header (settings_text (settings_of script) ++ items) a all ∙ ap (λ t. from ++ t) (rows_text script)
