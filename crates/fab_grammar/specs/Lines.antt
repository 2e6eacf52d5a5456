-- What one line asks for.
--     op_of most verb args      what a line that a peer does asks for, of the words after its verb: at most so many bytes
--     op_size op                the bytes that it sends, or makes room for
use Rattle.std.specs.Prelude.{ℕ, Bool, true, false, if◌then◌else◌, List, [], ◌∷◌, codes, bytes_eq, find, Option, Some, None, Result, Ok, Err, ok_or}
use Rattle.fab_base.specs.declared.entries.Class.{Class}
use Rattle.fab_base.specs.declared.entries.Class.TheVariants as class
use Rattle.fab_base.specs.declared.items.Access.{Access}
use Rattle.fab_base.specs.declared.script.BytesWord.{BytesWord}
use Rattle.fab_base.specs.declared.script.LineOp.{LineOp}
use Rattle.fab_base.specs.declared.script.LineOp.TheVariants as op
use Rattle.fab_words.specs.declared.misread.Misread.{Misread}
use Rattle.fab_words.specs.declared.misread.Misread.TheVariants.{Words}
use Rattle.fab_grammar.specs.declared.verbs.Verb.{Verb}
use Rattle.fab_grammar.specs.declared.verbs.Verb.TheVariants as verb
use Rattle.fab_grammar.specs.Atomics.{atomic_of, fetch_of, compare_of}
use Rattle.fab_words.specs.Bytes.{read_bytes, bytes_size}
use Rattle.fab_words.specs.Misreads.{◌&◌, map_ok}
use Rattle.fab_grammar.specs.Sends.{read_target, send_of, tsend_of, inject_of, tinject_of, mrecv_of, write_of, winject_of}
use Rattle.fab_words.specs.Words.{read_number, read_index, read_up_to, read_source, read_text}

-- the bytes that a line sends, or makes room for; values of atomics do not count
abbrev pub op_size : LineOp → ℕ
op_size (op.Send ctx dest bytes imm level completion fence) = bytes_size bytes
op_size (op.TSend ctx dest tag bytes imm level completion fence) = bytes_size bytes
op_size (op.Inject dest bytes imm) = bytes_size bytes
op_size (op.TInject dest tag bytes imm) = bytes_size bytes
op_size (op.Recv ctx source len) = len
op_size (op.TRecv ctx source tag ignore len) = len
op_size (op.MRecv ctx source len min) = len
op_size (op.Take ctx len) = len
op_size (op.Read ctx dest key at len) = len
op_size (op.Write ctx dest key at bytes imm completion fence) = bytes_size bytes
op_size (op.WInject dest key at bytes imm) = bytes_size bytes
op_size (op.Reg key access bytes) = bytes_size bytes
op_size (op.Put key at bytes) = bytes_size bytes
op_size _ = 0

-- `trecv C SRC TAG IGNORE LEN`
abbrev pub a_trecv : (((ℕ × Option ℕ) × ℕ) × ℕ) × ℕ → LineOp
a_trecv ((((ctx, source), tag), ignore), len) = op.TRecv ctx source tag ignore len

unfoldable pub trecv_of : ℕ → List (List ℕ) → Result LineOp Misread
trecv_of most (ctx ∷ source ∷ tag ∷ ignore ∷ len ∷ []) =
    map_ok a_trecv (read_number ctx & read_source source & read_number tag & read_number ignore & read_up_to most len)
trecv_of most _ = Err Words

-- `recv C SRC LEN`
abbrev pub a_recv : (ℕ × Option ℕ) × ℕ → LineOp
a_recv ((ctx, source), len) = op.Recv ctx source len

unfoldable pub recv_of : ℕ → List (List ℕ) → Result LineOp Misread
recv_of most (ctx ∷ source ∷ len ∷ []) = map_ok a_recv (read_number ctx & read_source source & read_up_to most len)
recv_of most _ = Err Words

-- `peek`, `claim` and `discard C SRC TAG IGNORE`
abbrev pub Look : Type 0
Look = ((ℕ × Option ℕ) × ℕ) × ℕ

unfoldable pub look_of : List (List ℕ) → Result Look Misread
look_of (ctx ∷ source ∷ tag ∷ ignore ∷ []) = read_number ctx & read_source source & read_number tag & read_number ignore
look_of _ = Err Words

abbrev pub a_peek : Look → LineOp
a_peek (((ctx, source), tag), ignore) = op.Peek ctx source tag ignore

abbrev pub a_claim : Look → LineOp
a_claim (((ctx, source), tag), ignore) = op.Claim ctx source tag ignore

abbrev pub a_discard : Look → LineOp
a_discard (((ctx, source), tag), ignore) = op.Discard ctx source tag ignore

-- `take C LEN`
abbrev pub a_take : ℕ × ℕ → LineOp
a_take (ctx, len) = op.Take ctx len

unfoldable pub take_of : ℕ → List (List ℕ) → Result LineOp Misread
take_of most (ctx ∷ len ∷ []) = map_ok a_take (read_number ctx & read_up_to most len)
take_of most _ = Err Words

-- one number: the context of `drop` and `cancel`, the key of `close` and `show`
unfoldable pub number_line : List (List ℕ) → Result ℕ Misread
number_line (word ∷ []) = read_number word
number_line _ = Err Words

-- `remove I`
unfoldable pub remove_of : List (List ℕ) → Result LineOp Misread
remove_of (index ∷ []) = map_ok op.Remove (read_index index)
remove_of _ = Err Words

-- `insert NAME`
unfoldable pub insert_of : List (List ℕ) → Result LineOp Misread
insert_of (name ∷ []) = map_ok op.Insert (read_text name)
insert_of _ = Err Words

-- `read C D KEY AT LEN`
abbrev pub a_read : (ℕ × ((ℕ × ℕ) × ℕ)) × ℕ → LineOp
a_read ((ctx, ((dest, key), at)), len) = op.Read ctx dest key at len

unfoldable pub read_of : ℕ → List (List ℕ) → Result LineOp Misread
read_of most (ctx ∷ dest ∷ key ∷ at ∷ len ∷ []) = map_ok a_read (read_number ctx & read_target dest key at & read_up_to most len)
read_of most _ = Err Words

-- `r`, `w`, `rw` or `-`
abbrev pub rights : Bool → Bool → Access
rights read write = record { remote_read = read; remote_write = write }

unfoldable pub read_rights : List ℕ → Result Access Misread
read_rights word =
    if bytes_eq word (codes "r") then Ok (rights true false)
    else if bytes_eq word (codes "w") then Ok (rights false true)
    else if bytes_eq word (codes "rw") then Ok (rights true true)
    else if bytes_eq word (codes "-") then Ok (rights false false)
    else Err Words

-- `reg KEY RIGHTS BYTES`
abbrev pub a_reg : (ℕ × Access) × BytesWord → LineOp
a_reg ((key, access), bytes) = op.Reg key access bytes

unfoldable pub reg_of : ℕ → List (List ℕ) → Result LineOp Misread
reg_of most (key ∷ access ∷ bytes ∷ []) = map_ok a_reg (read_number key & read_rights access & read_bytes most bytes)
reg_of most _ = Err Words

-- `put KEY AT BYTES`
abbrev pub a_put : (ℕ × ℕ) × BytesWord → LineOp
a_put ((key, at), bytes) = op.Put key at bytes

unfoldable pub put_of : ℕ → List (List ℕ) → Result LineOp Misread
put_of most (key ∷ at ∷ bytes ∷ []) = map_ok a_put (read_number key & read_number at & read_bytes most bytes)
put_of most _ = Err Words

-- `wait C`, `wait *`
unfoldable pub wait_of : List (List ℕ) → Result LineOp Misread
wait_of (ctx ∷ []) = if bytes_eq ctx (codes "*") then Ok (op.Wait None) else map_ok (λ n. op.Wait (Some n)) (read_number ctx)
wait_of _ = Err Words

-- the class of a counter
abbrev pub class_name : Class → List ℕ
class_name class.Send = codes "send"
class_name class.Recv = codes "recv"
class_name class.Read = codes "read"
class_name class.Write = codes "write"
class_name class.RemoteRead = codes "remote_read"
class_name class.RemoteWrite = codes "remote_write"

abbrev pub all_classes : List Class
all_classes = class.Send ∷ class.Recv ∷ class.Read ∷ class.Write ∷ class.RemoteRead ∷ class.RemoteWrite ∷ []

unfoldable pub class_named : List ℕ → Option Class
class_named word = find (λ class. bytes_eq word (class_name class)) all_classes

unfoldable pub read_class : List ℕ → Result Class Misread
read_class word = ok_or (class_named word) Words

-- `count CLASS`, `reach CLASS N`
unfoldable pub count_of : List (List ℕ) → Result LineOp Misread
count_of (class ∷ []) = map_ok op.Count (read_class class)
count_of _ = Err Words

abbrev pub a_reach : Class × ℕ → LineOp
a_reach (class, n) = op.Reach class n

unfoldable pub reach_of : List (List ℕ) → Result LineOp Misread
reach_of (class ∷ n ∷ []) = map_ok a_reach (read_class class & read_number n)
reach_of _ = Err Words

unfoldable pub op_of : ℕ → Verb → List (List ℕ) → Result LineOp Misread
op_of most verb.Send args = send_of most args
op_of most verb.TSend args = tsend_of most args
op_of most verb.Inject args = inject_of most args
op_of most verb.TInject args = tinject_of most args
op_of most verb.MRecv args = mrecv_of most args
op_of most verb.Write args = write_of most args
op_of most verb.WInject args = winject_of most args
op_of most verb.Recv args = recv_of most args
op_of most verb.TRecv args = trecv_of most args
op_of most verb.Peek args = map_ok a_peek (look_of args)
op_of most verb.Claim args = map_ok a_claim (look_of args)
op_of most verb.Discard args = map_ok a_discard (look_of args)
op_of most verb.Take args = take_of most args
op_of most verb.DropClaimed args = map_ok op.DropClaimed (number_line args)
op_of most verb.Cancel args = map_ok op.Cancel (number_line args)
op_of most verb.Read args = read_of most args
op_of most verb.Atomic args = atomic_of args
op_of most verb.Fetch args = fetch_of args
op_of most verb.Compare args = compare_of args
op_of most verb.Reg args = reg_of most args
op_of most verb.Close args = map_ok op.Close (number_line args)
op_of most verb.Put args = put_of most args
op_of most verb.Show args = map_ok op.Show (number_line args)
op_of most verb.Insert args = insert_of args
op_of most verb.Remove args = remove_of args
op_of most verb.Wait args = wait_of args
op_of most verb.Count args = count_of args
op_of most verb.Reach args = reach_of args
op_of most _ args = Err Words
