-- The report of a schedule, and the schedule that a report tells.
--     peer_lines p lines results kept pending deferred steps      the lines of one peer's part, as words
--     report_of version all schedule      the report of peers in these states that took these steps, for a script of this version
--     report bound schedule       that of the states in which the replay ends
--     traces text                 the steps that its trace lines tell
use Rattle.std.specs.Prelude.{Bool, slice_get, ℕ, ◌+◌, true, false, ◌==◌, List, [], ◌∷◌, ◌++◌, length, take, Option, Some, None, map, filter_map, codes, decimal, count_by, bytes_eq, unwrap_or}
use Rattle.fab_base.specs.declared.faults.Fault.{Fault}
use Rattle.fab_base.specs.declared.faults.Fault.TheVariants.{Again, NoMemory, NoData, Invalid, NoKey, Range, MsgSize, NotSupported, NoEntry, Avail}
use Rattle.fab_base.specs.declared.entries.Entry.{Entry}
use Rattle.fab_base.specs.declared.entries.Entry.TheVariants.{Received, Part, Released, Peeked, Wrote, Updated, Fetched, RemoteData}
use Rattle.fab_base.specs.declared.entries.ErrEntry.{ErrEntry}
use Rattle.fab_base.specs.declared.entries.ErrKind.{ErrKind}
use Rattle.fab_base.specs.declared.entries.ErrKind.TheVariants.{Truncated, NoMsg, Canceled, Access}
use Rattle.fab_base.specs.declared.entries.PeekHow.{PeekHow}
use Rattle.fab_base.specs.declared.entries.PeekHow.TheVariants.{Peek, Claim, Discard}
use Rattle.fab_base.specs.declared.entries.Taken.{Taken}
use Rattle.fab_base.specs.declared.entries.Taken.TheVariants.{Success, Failure}
use Rattle.fab_base.specs.declared.entries.Kept.{Kept}
use Rattle.fab_base.specs.declared.peers.Step.{Step}
use Rattle.fab_base.specs.declared.peers.Step.TheVariants.{Do, Head, Tail, Sent, Draw, Read, Final}
use Rattle.fab_base.specs.declared.peers.LineResult.{LineResult}
use Rattle.fab_base.specs.declared.peers.LineResult.TheVariants.{Refused, Waited, Index, Bytes}
use Rattle.fab_base.specs.declared.script.Bound.{Bound}
use Rattle.fab_base.specs.declared.script.Line.{Line}
use Rattle.fab_base.specs.declared.script.LineOp.{LineOp}
use Rattle.fab_base.specs.declared.script.LineOp.TheVariants.{Send, TSend, Inject, TInject, Recv, TRecv, MRecv, Take, DropClaimed, Cancel, Write, WInject, Atomic, Fetch, Compare, Reg, Close, Put, Show, Insert, Remove, Wait, Count, Reach}
use Rattle.fab_model.specs.State.{awaits, deferred_count}
use Rattle.fab_model.specs.Peers.{Actor, ctx_of}
use Rattle.fab_model.specs.Replay.{replayed, all_done}
use Rattle.fab_model.specs.Words.{Word, text_of, lines_in, hex_or_dash, read_decimal}

-- ---- words

abbrev pub fault_name : Fault → Word
fault_name (Again busy) = codes "FI_EAGAIN"
fault_name NoMemory = codes "FI_ENOMEM"
fault_name NoData = codes "FI_ENODATA"
fault_name Invalid = codes "FI_EINVAL"
fault_name NoKey = codes "FI_ENOKEY"
fault_name Range = codes "RANGE"
fault_name MsgSize = codes "FI_EMSGSIZE"
fault_name NotSupported = codes "FI_EOPNOTSUPP"
fault_name NoEntry = codes "FI_ENOENT"
fault_name Avail = codes "FI_EAVAIL"

unfoldable pub verb_of : LineOp → Word
verb_of (Send _ _ _ _ _ _ _) = codes "send"
verb_of (TSend _ _ _ _ _ _ _ _) = codes "tsend"
verb_of (Inject _ _ _) = codes "inject"
verb_of (TInject _ _ _ _) = codes "tinject"
verb_of (Recv _ _ _) = codes "recv"
verb_of (TRecv _ _ _ _ _) = codes "trecv"
verb_of (MRecv _ _ _ _) = codes "mrecv"
verb_of (LineOp.Peek _ _ _ _) = codes "peek"
verb_of (LineOp.Claim _ _ _ _) = codes "claim"
verb_of (LineOp.Discard _ _ _ _) = codes "discard"
verb_of (Take _ _) = codes "take"
verb_of (DropClaimed _) = codes "drop"
verb_of (Cancel _) = codes "cancel"
verb_of (LineOp.Read _ _ _ _ _) = codes "read"
verb_of (Write _ _ _ _ _ _ _ _) = codes "write"
verb_of (WInject _ _ _ _ _) = codes "winject"
verb_of (Atomic _ _ _ _ _ _ _ _ _) = codes "atomic"
verb_of (Fetch _ _ _ _ _ _ _ _) = codes "fetch"
verb_of (Compare _ _ _ _ _ _ _ _) = codes "compare"
verb_of (Reg _ _ _) = codes "reg"
verb_of (Close _) = codes "close"
verb_of (Put _ _ _) = codes "put"
verb_of (Show _) = codes "show"
verb_of (Insert _) = codes "insert"
verb_of (Remove _) = codes "remove"
verb_of (Wait _) = codes "wait"
verb_of (Count _) = codes "count"
verb_of (Reach _ _) = codes "reach"

abbrev pub ctx_word : Option ℕ → Word
ctx_word None = codes "*"
ctx_word (Some ctx) = decimal ctx

-- a name and a number, where there is one
abbrev pub named : List ℕ → Option ℕ → List Word
named name None = []
named name (Some n) = name ∷ decimal n ∷ []

abbrev pub received_words : Option ℕ → List Word
received_words None = codes "FI_RECV" ∷ []
received_words (Some tag) = codes "FI_TAGGED" ∷ codes "FI_RECV" ∷ []

abbrev pub len_words : ℕ → List ℕ → List Word
len_words len bytes = codes "len" ∷ decimal len ∷ codes "bytes" ∷ hex_or_dash bytes ∷ []

abbrev pub how_word : PeekHow → Word
how_word Peek = codes "FI_PEEK"
how_word Claim = codes "FI_CLAIM"
how_word Discard = codes "FI_DISCARD"

-- the words of a success, with the bytes that were kept of a part
abbrev pub entry_words : Entry → List ℕ → List Word
entry_words (Entry.Sent ctx false buf) kept = codes "FI_SEND" ∷ []
entry_words (Entry.Sent ctx true buf) kept = codes "FI_TAGGED" ∷ codes "FI_SEND" ∷ []
entry_words (Received ctx source tag imm len buf) kept =
    received_words tag ++ named (codes "from") (Some source) ++ named (codes "tag") tag ++ named (codes "data") imm ++ len_words len (take len buf)
entry_words (Part ctx source imm at len) kept =
    received_words None ++ named (codes "from") (Some source) ++ named (codes "data") imm ++ named (codes "at") (Some at) ++ len_words len kept
entry_words (Released ctx used buf) kept = codes "FI_MULTI_RECV" ∷ codes "used" ∷ decimal used ∷ []
entry_words (Peeked ctx how source tag imm len) kept =
    codes "FI_TAGGED" ∷ codes "FI_RECV" ∷ how_word how ∷ named (codes "from") (Some source)
    ++ named (codes "tag") (Some tag) ++ named (codes "data") imm ++ named (codes "len") (Some len)
entry_words (Entry.Read ctx buf) kept = codes "FI_READ" ∷ len_words (length buf) buf
entry_words (Wrote ctx buf) kept = codes "FI_WRITE" ∷ []
entry_words (Updated ctx) kept = codes "FI_ATOMIC" ∷ codes "FI_WRITE" ∷ []
entry_words (Fetched ctx old) kept = codes "FI_ATOMIC" ∷ codes "FI_READ" ∷ len_words (length old) old
entry_words (RemoteData source imm) kept =
    codes "FI_RMA" ∷ codes "FI_REMOTE_WRITE" ∷ codes "FI_REMOTE_CQ_DATA" ∷ named (codes "from") (Some source) ++ named (codes "data") (Some imm)

-- the bytes placed: in the buffer, or those kept of a part
abbrev pub placed : ErrEntry → List ℕ → List ℕ
placed e kept = elim e.buf [ Some buf ↦ take e.len buf | None ↦ kept ]

abbrev pub error_words : ErrKind → ErrEntry → List ℕ → List Word
error_words Truncated e kept =
    codes "FI_ETRUNC" ∷ named (codes "from") e.source ++ named (codes "tag") e.tag ++ named (codes "data") e.imm ++ named (codes "at") e.at
    ++ (codes "len" ∷ decimal e.len ∷ codes "olen" ∷ decimal e.olen ∷ codes "bytes" ∷ hex_or_dash (placed e kept) ∷ [])
error_words NoMsg e kept = codes "FI_ENOMSG" ∷ []
error_words Canceled e kept = codes "FI_ECANCELED" ∷ []
error_words ErrKind.NoKey e kept = codes "FI_ENOKEY" ∷ []
error_words Access e kept = codes "FI_EACCES" ∷ []
error_words ErrKind.Range e kept = codes "RANGE" ∷ []

unfoldable pub taken_words : Taken → List ℕ → List Word
taken_words (Success entry) kept = entry_words entry kept
taken_words (Failure e) kept = codes "error" ∷ error_words e.kind e kept

abbrev pub kept_words : Kept → List Word
kept_words k = ctx_word (ctx_of k.entry) ∷ taken_words k.entry (unwrap_or k.bytes [])

unfoldable pub result_words : LineResult → List Word
result_words LineResult.Done = codes "ok" ∷ []
result_words (Refused fault) = codes "refused" ∷ fault_name fault ∷ []
result_words (Waited k) = kept_words k
result_words (Index None) = codes "FI_ADDR_NOTAVAIL" ∷ []
result_words (Index (Some index)) = codes "index" ∷ decimal index ∷ []
result_words (Bytes bytes) = hex_or_dash bytes ∷ []
result_words (LineResult.Count ok err) = codes "ok" ∷ decimal ok ∷ codes "err" ∷ decimal err ∷ []

-- ---- lines

abbrev pub done_lines : List Line → List LineResult → List (List Word)
done_lines [] results = []
done_lines (line ∷ lines) [] = []
done_lines (line ∷ lines) (x ∷ results) = (decimal line.number ∷ verb_of line.op ∷ result_words x) ∷ done_lines lines results

abbrev pub stuck_line : Option Line → List (List Word)
stuck_line None = []
stuck_line (Some line) = (codes "stuck" ∷ codes "at" ∷ decimal line.number ∷ []) ∷ []

-- a word and how many there are, where there are any
abbrev pub amount_line : Word → ℕ → List (List Word)
amount_line word n = elim (n == 0) [ true ↦ [] | false ↦ (word ∷ decimal n ∷ []) ∷ [] ]

abbrev pub step_word : Step → Word
step_word Do = codes "D"
step_word (Head s) = 72 ∷ decimal s
step_word (Tail s) = 84 ∷ decimal s
step_word (Sent t) = 83 ∷ decimal t
step_word Draw = codes "M"
step_word Read = codes "R"
step_word Final = codes "X"

-- the lines of one peer's part, of its number, its lines, the results of those done, the entries left, how many operations are pending and deferred, and its steps
unfoldable pub peer_lines : ℕ → List Line → List LineResult → List Kept → ℕ → ℕ → List Step → List (List Word)
peer_lines p lines results kept pending deferred steps =
    (codes "peer" ∷ decimal p ∷ []) ∷ done_lines lines results ++ stuck_line (slice_get lines (length results))
    ++ map (λ k. codes "left" ∷ kept_words k) kept
    ++ amount_line (codes "pending") pending
    ++ amount_line (codes "deferred") deferred
    ++ (codes "trace" ∷ map step_word steps) ∷ []

abbrev pub first_line : ℕ → ℕ → List Word
first_line version peers = codes "fabric" ∷ decimal version ∷ codes "peers" ∷ decimal peers ∷ []

abbrev pub last_line : Bool → List Word
last_line done = codes "end" ∷ elim done [ true ↦ codes "done" | false ↦ codes "stuck" ] ∷ []

-- how many operations of the peer await a reply
abbrev pub pending_of : Actor → ℕ
pending_of a = count_by (awaits a.state.tx) a.state.tx.live

-- how many operations of the peer are not transmitted
abbrev pub deferred_of : Actor → ℕ
deferred_of a = deferred_count a.state.tx

abbrev pub actor_lines : ℕ → Actor → List Step → List (List Word)
actor_lines p a steps = peer_lines p a.lines a.results a.kept (pending_of a) (deferred_of a) steps

unfoldable pub all_lines : ℕ → List Actor → List (List Step) → List (List Word)
all_lines p [] schedule = []
all_lines p (a ∷ rest) [] = actor_lines p a [] ++ all_lines (p + 1) rest []
all_lines p (a ∷ rest) (steps ∷ schedule) = actor_lines p a steps ++ all_lines (p + 1) rest schedule

unfoldable pub report_lines : ℕ → List Actor → List (List Step) → List (List Word)
report_lines version all schedule = first_line version (length all) ∷ all_lines 0 all schedule ++ last_line (all_done all) ∷ []

unfoldable pub report_of : ℕ → List Actor → List (List Step) → List ℕ
report_of version all schedule = text_of (report_lines version all schedule)

unfoldable pub report : Bound → List (List Step) → List ℕ
report bound schedule = report_of bound.script.version (replayed bound schedule).states schedule

-- ---- reading the schedule back

abbrev pub numbered : ℕ → List ℕ → Option Step
numbered letter digits = elim (letter == 72) [
  | true ↦ Some (Head (read_decimal digits))
  | false ↦ elim (letter == 84) [
    | true ↦ Some (Tail (read_decimal digits))
    | false ↦ elim (letter == 83) [ true ↦ Some (Sent (read_decimal digits)) | false ↦ None ]
  ]
]

abbrev pub bare : ℕ → Option Step
bare letter = elim (letter == 68) [
  | true ↦ Some Do
  | false ↦ elim (letter == 77) [
    | true ↦ Some Draw
    | false ↦ elim (letter == 82) [ true ↦ Some Read | false ↦ elim (letter == 88) [ true ↦ Some Final | false ↦ None ] ]
  ]
]

unfoldable pub step_in : Word → Option Step
step_in [] = None
step_in (letter ∷ []) = bare letter
step_in (letter ∷ digit ∷ digits) = numbered letter (digit ∷ digits)

abbrev pub trace_in : List Word → Option (List Step)
trace_in [] = None
trace_in (word ∷ words) = elim (bytes_eq word (codes "trace")) [ true ↦ Some (filter_map step_in words) | false ↦ None ]

unfoldable pub traces : List ℕ → List (List Step)
traces text = filter_map trace_in (lines_in text)
