-- The words of every entry, result and line are plain, and none but a trace line begins with `trace`.
--     other words      a line that is read back and is no trace line
use Rattle.std.proofs.Common.{◌≡◌, ◌<◌, ◌+◌, ◌/◌, ◌%◌, ℕ, zero, suc, Bool, true, false, ◌&&◌, List, [], ◌∷◌, ◌++◌, map, length, take, Option, Some, None, is_none, refl, subst, ◌∙◌, arith, codes, decimal, eqb, unwrap_or}
use Rattle.std.specs.Prelude.{nat_lt, bytes_eq}
use Rattle.std.specs.List.{list_all}
use Rattle.std.specs.Fmt.{digits, digits_onto, digit_glyph}
use Rattle.std.proofs.lemmas.Bool.{and_parts, and_from, ne_eqb, lt-ltb, ltb-true, cond_both}
use Rattle.std.proofs.lemmas.List.Folds.{list_all-append}
use Rattle.fab_base.specs.declared.faults.Fault.{Fault}
use Rattle.fab_base.specs.declared.faults.Fault.TheVariants.{Again, NoMemory, NoData, Invalid, NoKey, Range, MsgSize, NotSupported, NoEntry, Avail}
use Rattle.fab_base.specs.declared.entries.Entry.{Entry}
use Rattle.fab_base.specs.declared.entries.Entry.TheVariants.{Received, Part, Released, Peeked, Wrote, Updated, Fetched, RemoteData}
use Rattle.fab_base.specs.declared.entries.ErrEntry.{ErrEntry}
use Rattle.fab_base.specs.declared.entries.ErrKind.{ErrKind}
use Rattle.fab_base.specs.declared.entries.ErrKind.TheVariants.{Truncated, NoMsg, Canceled, Access}
use Rattle.fab_base.specs.declared.entries.PeekHow.{PeekHow}
use Rattle.fab_base.specs.declared.entries.PeekHow.TheVariants.{Peek, Claim, Discard}
use Rattle.fab_base.specs.declared.entries.Taken.{Taken}
use Rattle.fab_base.specs.declared.entries.Taken.TheVariants.{Success, Failure}
use Rattle.fab_base.specs.declared.entries.Kept.{Kept}
use Rattle.fab_base.specs.declared.peers.Step.{Step}
use Rattle.fab_base.specs.declared.peers.Step.TheVariants.{Do, Head, Tail, Draw, Final}
use Rattle.fab_base.specs.declared.peers.LineResult.{LineResult}
use Rattle.fab_base.specs.declared.peers.LineResult.TheVariants.{Refused, Waited, Index, Bytes}
use Rattle.fab_base.specs.declared.script.Line.{Line}
use Rattle.fab_base.specs.declared.script.LineOp.{LineOp}
use Rattle.fab_base.specs.declared.script.LineOp.TheVariants.{Send, TSend, Inject, TInject, Recv, TRecv, MRecv, Take, DropClaimed, Cancel, Write, WInject, Atomic, Fetch, Compare, Reg, Close, Put, Show, Insert, Remove, Wait, Count, Reach}
use Rattle.fab_model.specs.Peers.{ctx_of}
use Rattle.fab_model.specs.Words.{Word, hex_digit, hex, hex_or_dash}
use Rattle.fab_model.specs.Report.{fault_name, verb_of, ctx_word, named, received_words, len_words, how_word, entry_words, placed, error_words, taken_words, kept_words, result_words, done_lines, stuck_line, amount_line, step_word, trace_in}
use Rattle.fab_model.proofs.Pieces.{plain, readable}

-- ---- digits

abbrev is_digit : ℕ → Bool
is_digit b = nat_lt 47 b && nat_lt b 58

glyph_digit : (n : ℕ) → is_digit (digit_glyph false (n % 10)) ≡ true
glyph_digit n =
    let low : n % 10 < 10 = omega arith in
    rw (lt-ltb (n % 10) 10 low) (and_from _ _ (lt-ltb 47 (48 + n % 10) (omega arith)) (lt-ltb (48 + n % 10) 58 (omega arith)))

onto_digits : (k n : ℕ) (acc : List ℕ) → list_all is_digit acc ≡ true → list_all is_digit (digits_onto k 10 false n acc) ≡ true
onto_digits zero n acc all = all
onto_digits (suc k) n acc all =
    let more = and_from _ _ (glyph_digit n) all in
    cond_both (eqb (n / 10) 0) _ _ (λ w. list_all is_digit w ≡ true) (λ e. more) (λ e. onto_digits k (n / 10) _ more)

onto_some : (k n : ℕ) (acc : List ℕ) → 0 < length acc → 0 < length (digits_onto k 10 false n acc)
onto_some zero n acc some = some
onto_some (suc k) n acc some = cond_both (eqb (n / 10) 0) _ _ (λ w. 0 < length w) (λ e. omega arith) (λ e. onto_some k (n / 10) _ (omega arith))

decimal_is : (n : ℕ) → digits_onto 64 10 false n [] ≡ decimal n
unfolding digits
decimal_is n = refl

pub decimal_digits : (n : ℕ) → list_all is_digit (decimal n) ≡ true
decimal_digits n = subst (λ w. list_all is_digit w ≡ true) (decimal_is n) (onto_digits 64 n [] refl)

pub decimal_some : (n : ℕ) → 0 < length (decimal n)
decimal_some n = subst (λ w. 0 < length w) (decimal_is n) (cond_both (eqb (n / 10) 0) _ _ (λ w. 0 < length w) (λ e. omega arith) (λ e. onto_some 63 (n / 10) _ (omega arith)))

digits_plain : (word : Word) → list_all is_digit word ≡ true → plain word ≡ true
digits_plain [] all = refl
digits_plain (b ∷ word) all =
    let parts = and_parts (is_digit b) (list_all is_digit word) all in
    let above : 47 < b = ltb-true 47 b (and_parts (nat_lt 47 b) (nat_lt b 58) parts.0).0 in
    and_from _ _ (lt-ltb 32 b (omega arith)) (digits_plain word parts.1)

digits_no_trace : (word : Word) → list_all is_digit word ≡ true → bytes_eq word (codes "trace") ≡ false
digits_no_trace [] all = refl
digits_no_trace (b ∷ word) all =
    let here = (and_parts (is_digit b) (list_all is_digit word) all).0 in
    let below : b < 58 = ltb-true b 58 (and_parts (nat_lt 47 b) (nat_lt b 58) here).1 in
    rw (ne_eqb b 116 (λ e. omega arith)) refl

pub plain_decimal : (n : ℕ) → plain (decimal n) ≡ true
plain_decimal n = digits_plain (decimal n) (decimal_digits n)

-- ---- words

hex_digit_above : (n : ℕ) → nat_lt 32 (hex_digit n) ≡ true
hex_digit_above n = cond_both (nat_lt n 10) _ _ (λ b. nat_lt 32 b ≡ true) (λ e. lt-ltb 32 (48 + n) (omega arith)) (λ e. lt-ltb 32 (87 + n) (omega arith))

plain_hex : (bytes : List ℕ) → plain (hex bytes) ≡ true
plain_hex [] = refl
plain_hex (x ∷ bytes) = and_from _ _ (hex_digit_above (x / 16)) (and_from _ _ (hex_digit_above (x % 16)) (plain_hex bytes))

plain_bytes : (bytes : List ℕ) → plain (hex_or_dash bytes) ≡ true
plain_bytes [] = refl
plain_bytes (x ∷ bytes) = plain_hex (x ∷ bytes)

plain_fault : (fault : Fault) → plain (fault_name fault) ≡ true
plain_fault (Again busy) = refl
plain_fault NoMemory = refl
plain_fault NoData = refl
plain_fault Invalid = refl
plain_fault NoKey = refl
plain_fault Range = refl
plain_fault MsgSize = refl
plain_fault NotSupported = refl
plain_fault NoEntry = refl
plain_fault Avail = refl

plain_verb : (op : LineOp) → plain (verb_of op) ≡ true
unfolding verb_of
plain_verb (Send ctx dest word imm level completion fence) = refl
plain_verb (TSend ctx dest tag word imm level completion fence) = refl
plain_verb (Inject dest word imm) = refl
plain_verb (TInject dest tag word imm) = refl
plain_verb (Recv a b c) = refl
plain_verb (TRecv a b c d e) = refl
plain_verb (MRecv a b c d) = refl
plain_verb (LineOp.Peek a b c d) = refl
plain_verb (LineOp.Claim a b c d) = refl
plain_verb (LineOp.Discard a b c d) = refl
plain_verb (Take a b) = refl
plain_verb (DropClaimed a) = refl
plain_verb (Cancel a) = refl
plain_verb (LineOp.Read a b c d e) = refl
plain_verb (Write a b c d e f g h) = refl
plain_verb (WInject a b c d e) = refl
plain_verb (Atomic a b c d e f g h i) = refl
plain_verb (Fetch a b c d e f g h) = refl
plain_verb (Compare a b c d e f g h) = refl
plain_verb (Reg a b c) = refl
plain_verb (Close a) = refl
plain_verb (Put a b c) = refl
plain_verb (Show a) = refl
plain_verb (Insert a) = refl
plain_verb (Remove a) = refl
plain_verb (Wait a) = refl
plain_verb (Count a) = refl
plain_verb (Reach a b) = refl

plain_ctx : (ctx : Option ℕ) → plain (ctx_word ctx) ≡ true
plain_ctx None = refl
plain_ctx (Some ctx) = plain_decimal ctx

plain_how : (how : PeekHow) → plain (how_word how) ≡ true
plain_how Peek = refl
plain_how Claim = refl
plain_how Discard = refl

plain_step : (step : Step) → plain (step_word step) ≡ true
plain_step Do = refl
plain_step (Head s) = plain_decimal s
plain_step (Tail s) = plain_decimal s
plain_step (Step.Sent t) = plain_decimal t
plain_step Draw = refl
plain_step Step.Read = refl
plain_step Final = refl

-- ---- lists of words

abbrev plains : List Word → Bool
plains words = list_all plain words

-- the same as a record, so that the words are found
record Plains (words : List Word) : Type 0 where
  all : plains words ≡ true

both : {xs ys : List Word} → Plains xs → Plains ys → Plains (xs ++ ys)
both {xs} {ys} p q = record { all = list_all-append plain xs ys ∙ and_from _ _ p.all q.all }

plain_named : (name : Word) (n : Option ℕ) → plain name ≡ true → Plains (named name n)
plain_named name None p = record { all = refl }
plain_named name (Some n) p = record { all = rw (p, plain_decimal n) refl }

plain_received : (tag : Option ℕ) → Plains (received_words tag)
plain_received None = record { all = refl }
plain_received (Some tag) = record { all = refl }

plain_len : (len : ℕ) (bytes : List ℕ) → Plains (len_words len bytes)
plain_len len bytes = record { all = rw (plain_decimal len, plain_bytes bytes) refl }

plain_placed : (len olen : ℕ) (bytes : List ℕ) → Plains (codes "len" ∷ decimal len ∷ codes "olen" ∷ decimal olen ∷ codes "bytes" ∷ hex_or_dash bytes ∷ [])
plain_placed len olen bytes = record { all = rw (plain_decimal len, plain_decimal olen, plain_bytes bytes) refl }

plain_entry : (entry : Entry) (kept : List ℕ) → Plains (entry_words entry kept)
plain_entry (Entry.Sent ctx false buf) kept = record { all = refl }
plain_entry (Entry.Sent ctx true buf) kept = record { all = refl }
plain_entry (Received ctx source tag imm len buf) kept =
    both (both (both (both (plain_received tag) (plain_named (codes "from") (Some source) refl)) (plain_named (codes "tag") tag refl)) (plain_named (codes "data") imm refl)) (plain_len len (take len buf))
plain_entry (Part ctx source imm at len) kept =
    both (both (both (both (plain_received None) (plain_named (codes "from") (Some source) refl)) (plain_named (codes "data") imm refl)) (plain_named (codes "at") (Some at) refl)) (plain_len len kept)
plain_entry (Released ctx used buf) kept = record { all = rw (plain_decimal used) refl }
plain_entry (Peeked ctx how source tag imm len) kept =
    let first : Plains (codes "FI_TAGGED" ∷ codes "FI_RECV" ∷ how_word how ∷ []) = record { all = rw (plain_how how) refl } in
    both (both (both (both first (plain_named (codes "from") (Some source) refl)) (plain_named (codes "tag") (Some tag) refl)) (plain_named (codes "data") imm refl)) (plain_named (codes "len") (Some len) refl)
plain_entry (Entry.Read ctx buf) kept = record { all = (plain_len (length buf) buf).all }
plain_entry (Wrote ctx buf) kept = record { all = refl }
plain_entry (Updated ctx) kept = record { all = refl }
plain_entry (Fetched ctx old) kept = record { all = (plain_len (length old) old).all }
plain_entry (RemoteData source imm) kept = record { all = (both (plain_named (codes "from") (Some source) refl) (plain_named (codes "data") (Some imm) refl)).all }

plain_error : (kind : ErrKind) (e : ErrEntry) (kept : List ℕ) → Plains (error_words kind e kept)
plain_error Truncated e kept =
    let first : Plains (codes "FI_ETRUNC" ∷ []) = record { all = refl } in
    both (both (both (both (both first (plain_named (codes "from") e.source refl)) (plain_named (codes "tag") e.tag refl)) (plain_named (codes "data") e.imm refl)) (plain_named (codes "at") e.at refl))
    (plain_placed e.len e.olen (placed e kept))
plain_error NoMsg e kept = record { all = refl }
plain_error Canceled e kept = record { all = refl }
plain_error ErrKind.NoKey e kept = record { all = refl }
plain_error Access e kept = record { all = refl }
plain_error ErrKind.Range e kept = record { all = refl }

plain_taken : (taken : Taken) (kept : List ℕ) → plains (taken_words taken kept) ≡ true
unfolding taken_words
plain_taken (Success entry) kept = (plain_entry entry kept).all
plain_taken (Failure e) kept = (plain_error e.kind e kept).all

plain_kept : (k : Kept) → plains (kept_words k) ≡ true
plain_kept k = and_from _ _ (plain_ctx (ctx_of k.entry)) (plain_taken k.entry (unwrap_or k.bytes []))

plain_result : (outcome : LineResult) → plains (result_words outcome) ≡ true
unfolding result_words
plain_result LineResult.Done = refl
plain_result (Refused fault) = rw (plain_fault fault) refl
plain_result (Waited k) = plain_kept k
plain_result (Index None) = refl
plain_result (Index (Some index)) = rw (plain_decimal index) refl
plain_result (Bytes bytes) = rw (plain_bytes bytes) refl
plain_result (LineResult.Count ok err) = rw (plain_decimal ok, plain_decimal err) refl

pub plain_steps : (steps : List Step) → plains (map step_word steps) ≡ true
plain_steps [] = refl
plain_steps (step ∷ steps) = and_from _ _ (plain_step step) (plain_steps steps)

-- ---- lines

abbrev pub other : List Word → Bool
other words = readable words && is_none (trace_in words)

pub other_line : (word : Word) (words : List Word) → plain word ≡ true → bytes_eq word (codes "trace") ≡ false → plains words ≡ true → other (word ∷ words) ≡ true
other_line word words p differs ps = rw (p, ps, trace_in, differs) refl

pub other_numbered : (word : Word) (n : ℕ) → plain word ≡ true → bytes_eq word (codes "trace") ≡ false → other (word ∷ decimal n ∷ []) ≡ true
other_numbered word n p differs = other_line word (decimal n ∷ []) p differs (rw (plain_decimal n) refl)

pub others_done : (lines : List Line) (results : List LineResult) → list_all other (done_lines lines results) ≡ true
others_done [] results = refl
others_done (line ∷ lines) [] = refl
others_done (line ∷ lines) (outcome ∷ results) =
    and_from _ _ (other_line (decimal line.number) (verb_of line.op ∷ result_words outcome) (plain_decimal line.number) (digits_no_trace (decimal line.number) (decimal_digits line.number)) (and_from _ _ (plain_verb line.op) (plain_result outcome)))
    (others_done lines results)

pub others_stuck : (line : Option Line) → list_all other (stuck_line line) ≡ true
others_stuck None = refl
others_stuck (Some line) = and_from _ _ (other_line (codes "stuck") (codes "at" ∷ decimal line.number ∷ []) refl refl (rw (plain_decimal line.number) refl)) refl

pub others_left : (kept : List Kept) → list_all other (map (λ k. codes "left" ∷ kept_words k) kept) ≡ true
others_left [] = refl
others_left (k ∷ kept) = and_from _ _ (other_line (codes "left") (kept_words k) refl refl (plain_kept k)) (others_left kept)

pub others_amount : (word : Word) (n : ℕ) → plain word ≡ true → bytes_eq word (codes "trace") ≡ false → list_all other (amount_line word n) ≡ true
others_amount word n p differs = go (eqb n 0)
  where
    go : (none : Bool) → list_all other (elim none [ true ↦ [] | false ↦ (word ∷ decimal n ∷ []) ∷ [] ]) ≡ true
    go true = refl
    go false = and_from _ _ (other_numbered word n p differs) refl
