-- Lines seen as what they ask for.
--     ops lines      what each asks for
--     is_simple op   a tagged send with its bytes in it, a receive from a named source or a wait
use Rattle.std.proofs.Common.{Bool, List, Option, [], ap, false, inl, inr, length, map, refl, suc, true, zero, ℕ, ◌&&◌, ◌++◌, ◌+◌, ◌||◌, ◌∙◌, ◌∷◌, ◌≡◌}
use Rattle.std.proofs.lemmas.Bool.{and_parts}
use Rattle.std.specs.List.{cons_option, list_all, list_any}
use Rattle.std.specs.Option.{option_and_then}
use Rattle.std.proofs.Common.{get_or}
use Rattle.std.specs.Prelude.{filter_map, is_some, nat_le}
use Rattle.fab_base.specs.declared.operations.Receive.{Receive}
use Rattle.fab_base.specs.declared.script.Bound.{Bound}
use Rattle.fab_base.specs.declared.script.BytesWord.TheVariants.{File, Hex, Text, Zero}
use Rattle.fab_base.specs.declared.script.BytesWord.{BytesWord}
use Rattle.fab_base.specs.declared.script.Conf.{Conf}
use Rattle.fab_base.specs.declared.script.Line.{Line}
use Rattle.fab_base.specs.declared.script.LineOp.TheVariants.{TRecv, TSend, Wait}
use Rattle.fab_base.specs.declared.script.LineOp.{LineOp}
use Rattle.fab_model.specs.Replay.{bind_line, bind_op, lines_of}
use Rattle.fab_answer.specs.Answer.{waits_for}
use Rattle.fab_answer.specs.Partners.{Message, is_from, message_to, messages, only_where, receive_at, receives}
use Rattle.fab_answer.specs.Settled.{awaited_after, contexts, have_room, is_below_match, is_plain, own_ctx}
use Rattle.fab_answer.proofs.Lists.{In, never}
use Rattle.fab_answer.proofs.peer.Refusals.{waits_op}
use Rattle.fab_workloads.specs.Script.{all_numbered, bound_of, numbered, ops_of}
use Rattle.fab_workloads.specs.declared.workload.Workload.{Workload}

abbrev pub ops : List Line → List LineOp
ops lines = map (λ (line : Line). line.op) lines

-- ---- lists

-- a member of a mapped list, with what stands before and behind it
pub split_map : {X Y : Type 0} (f : X → Y) (xs : List X) (front : List Y) (y : Y) (back : List Y) → map f xs ≡ front ++ y ∷ back
    → (before : List X) × (x : X) × (behind : List X) × (xs ≡ before ++ x ∷ behind) × (map f before ≡ front) × (f x ≡ y)
split_map f [] [] y back e = absurd (cc)
split_map f [] (z ∷ front) y back e = absurd (cc)
split_map f (x ∷ xs) [] y back e = ([], x, xs, refl, refl, cc)
split_map {X} f (x ∷ xs) (z ∷ front) y back e =
    let tail : map f xs ≡ front ++ y ∷ back = cc in
    let ih = split_map f xs front y back tail in
    (x ∷ ih.0, ih.1, ih.2, ap (λ (zs : List X). x ∷ zs) ih.3, (let same : f x ≡ z = cc in let rest = ih.4 in cc), ih.5)

pub in_unmapped : {X Y : Type 0} (f : X → Y) (xs : List X) (y : Y) → In y (map f xs) → (x : X) × In x xs × (f x ≡ y)
in_unmapped f [] y i = never i
in_unmapped f (x ∷ xs) y (inl same) = (x, inl refl, (let e = same in cc))
in_unmapped f (x ∷ xs) y (inr i) = let ih = in_unmapped f xs y i in (ih.0, inr ih.1, ih.2)

-- ---- what lines are made of

pub contexts_are : (lines : List Line) → contexts lines ≡ filter_map own_ctx (ops lines)
contexts_are [] = refl
contexts_are (line ∷ lines) = ap (cons_option (own_ctx line.op)) (contexts_are lines)

pub waits_are : (c : ℕ) (lines : List Line) → list_any (waits_for c) lines ≡ list_any (waits_op c) (ops lines)
waits_are c [] = refl
waits_are c (line ∷ lines) = ap (λ b. waits_op c line.op || b) (waits_are c lines)

abbrev pub room_of : Conf → List ℕ → List LineOp → Bool
room_of conf awaited [] = true
room_of conf awaited (op ∷ rest) = nat_le (length (awaited_after conf op awaited)) conf.info.rx && room_of conf (awaited_after conf op awaited) rest

pub room_are : (conf : Conf) (awaited : List ℕ) (lines : List Line) → have_room conf awaited lines ≡ room_of conf awaited (ops lines)
room_are conf awaited [] = refl
room_are conf awaited (line ∷ lines) = ap (λ b. nat_le (length (awaited_after conf line.op awaited)) conf.info.rx && b) (room_are conf (awaited_after conf line.op awaited) lines)

abbrev pub messages_of : Conf → ℕ → ℕ → List LineOp → List Message
messages_of conf dest at [] = []
messages_of conf dest at (op ∷ rest) = cons_option (message_to conf dest at op) (messages_of conf dest (at + 1) rest)

pub messages_are : (conf : Conf) (dest at : ℕ) (lines : List Line) → messages conf dest at lines ≡ messages_of conf dest at (ops lines)
messages_are conf dest at [] = refl
messages_are conf dest at (line ∷ lines) = ap (cons_option (message_to conf dest at line.op)) (messages_are conf dest (at + 1) lines)

abbrev pub receive_from_op : Conf → ℕ → LineOp → Option Receive
receive_from_op conf source op = option_and_then (λ (r : Receive). only_where (is_from source r) r) (receive_at conf op)

pub receives_are : (conf : Conf) (source : ℕ) (lines : List Line) → receives conf source lines ≡ filter_map (receive_from_op conf source) (ops lines)
receives_are conf source [] = refl
receives_are conf source (line ∷ lines) = ap (cons_option (receive_from_op conf source line.op)) (receives_are conf source lines)

-- ---- simple lines

abbrev pub is_given : BytesWord → Bool
is_given (Hex bytes) = true
is_given (Zero len) = true
is_given (Text bytes) = true
is_given (File id at len) = false

abbrev pub is_simple : LineOp → Bool
is_simple (TSend ctx dest tag word imm level completion fence) = is_given word && is_below_match level
is_simple (TRecv ctx source tag ignore len) = is_some source
is_simple (Wait ctx) = true
is_simple _ = false

pub simple_plain : (op : LineOp) → is_simple op ≡ true → is_plain op ≡ true
simple_plain (TSend ctx dest tag word imm level completion fence) e = (and_parts _ _ e).1
simple_plain (TRecv ctx source tag ignore len) e = e
simple_plain (Wait ctx) e = refl
simple_plain op e = absurd (cc (e))

pub simple_bound : (b : Bound) (op : LineOp) → is_simple op ≡ true → bind_op b op ≡ op
simple_bound b (TSend ctx dest tag (Hex bytes) imm level completion fence) e = refl
simple_bound b (TSend ctx dest tag (Zero len) imm level completion fence) e = refl
simple_bound b (TSend ctx dest tag (Text bytes) imm level completion fence) e = refl
simple_bound b (TSend ctx dest tag (File id at len) imm level completion fence) e = absurd (cc (e))
simple_bound b (TRecv ctx source tag ignore len) e = refl
simple_bound b (Wait ctx) e = refl
simple_bound b op e = absurd (cc (e))

pub bound_ops : (b : Bound) (lines : List Line) → list_all is_simple (ops lines) ≡ true → ops (map (bind_line b) lines) ≡ ops lines
bound_ops b [] e = refl
bound_ops b (line ∷ lines) e =
    let parts = and_parts _ _ e in
    let head = simple_bound b line.op parts.0 in
    let tail = bound_ops b lines parts.1 in
    ap (λ (op : LineOp). op ∷ ops (map (bind_line b) lines)) head ∙ ap (λ (rest : List LineOp). line.op ∷ rest) tail

pub numbered_ops : (first : ℕ) (xs : List LineOp) → ops (numbered first xs) ≡ xs
numbered_ops first [] = refl
numbered_ops first (op ∷ xs) = ap (λ (rest : List LineOp). op ∷ rest) (numbered_ops (first + 1) xs)

pub numbered_at : (first : ℕ) (lists : List (List LineOp)) (p : ℕ) → ops (get_or (all_numbered first lists) p []) ≡ get_or lists p []
numbered_at first [] p = refl
numbered_at first (xs ∷ lists) zero = numbered_ops first xs
numbered_at first (xs ∷ lists) (suc p) = numbered_at (first + length xs) lists p

-- what the lines of a workload's script ask for
pub lines_are : (w : Workload) (file : List ℕ) (p : ℕ) → list_all is_simple (get_or (ops_of w file) p []) ≡ true
    → ops (lines_of (bound_of w file) p) ≡ get_or (ops_of w file) p []
unfolding bound_of
lines_are w file p e =
    let at = numbered_at 1 (ops_of w file) p in
    bound_ops (bound_of w file) (get_or (all_numbered 1 (ops_of w file)) p []) (ap (list_all is_simple) at ∙ e) ∙ at
