-- A line of each kind as it is written, each setting and some elements, worked out by the definitions alone: a word left out,
-- changed or exchanged gives another line.
use lib.Utf8.{encode}
use Rattle.std.proofs.Common.{◌≡◌, ℕ, List, [], ◌∷◌, ◌++◌, Some, None, true, false, refl}
use Rattle.std.specs.Fmt.{digits}
use Rattle.std.specs.Prelude.{codes}
use Rattle.std.specs.Str.{is_utf8, chars}
use Rattle.fab_base.specs.declared.caps.Cap.TheVariants as cap
use Rattle.fab_base.specs.declared.caps.Info.{Info}
use Rattle.fab_base.specs.declared.entries.Class.TheVariants as class
use Rattle.fab_base.specs.declared.items.AtomicOp.TheVariants as atom
use Rattle.fab_base.specs.declared.items.Num.TheVariants as num
use Rattle.fab_base.specs.declared.limits.Size.TheVariants as size
use Rattle.fab_base.specs.declared.peers.Level.TheVariants.{Delivery, Transmit}
use Rattle.fab_base.specs.declared.script.BytesWord.TheVariants.{Text, Hex, Zero, File}
use Rattle.fab_base.specs.declared.script.LineOp.TheVariants as op
use Rattle.fab_base.specs.Granted.{with_cap}
use Rattle.fab_grammar.specs.declared.settings.Setting.TheVariants as setting
use Rattle.fab_model.specs.Negotiation.{no_hints}
use Rattle.fab_model.specs.Words.{line_of}
use Rattle.fab_spell.specs.Elements.{values_word}
use Rattle.fab_spell.specs.Headings.{setting_row, caps_word}
use Rattle.fab_spell.specs.Print.{printed, rows_of}
use Rattle.fab_spell.specs.Spelling.{row_of, verb_for, args_for, bytes_word}

-- the words of a line, and its line feed
abbrev line : List ℕ → List ℕ
line words = words ++ 10 ∷ []

-- ---- sends
-- both digits of each byte, remote data, the level, and a fence behind them
send : line_of (row_of (op.Send 1 2 (Hex (104 ∷ 105 ∷ 255 ∷ [])) (Some 9) Delivery true true)) ≡ line (codes "send 1 2 hex:6869ff data=9 level=delivery completion fence")
unfolding digits verb_for args_for bytes_word
send = refl

tagged : line_of (row_of (op.TSend 1 0 7 (Text (codes "hello")) None Transmit false false)) ≡ line (codes "tsend 1 0 7 text:hello")
unfolding digits verb_for args_for bytes_word is_utf8 chars encode
tagged = refl

-- how many zeros
zeros : line_of (row_of (op.Inject 4294967295 (Zero 8) None)) ≡ line (codes "inject 4294967295 zero:8")
unfolding digits verb_for args_for bytes_word
zeros = refl

file : line_of (row_of (op.TInject 0 7 (File 1 0 16) (Some 18446744073709551615))) ≡ line (codes "tinject 0 7 file:1:0:16 data=18446744073709551615")
unfolding digits verb_for args_for bytes_word
file = refl

-- ---- receives, and what is done with unexpected messages
receive : line_of (row_of (op.Recv 1 (Some 3) 16)) ≡ line (codes "recv 1 3 16")
unfolding digits verb_for args_for
receive = refl

any_source : line_of (row_of (op.TRecv 1 None 7 0 16)) ≡ line (codes "trecv 1 * 7 0 16")
unfolding digits verb_for args_for
any_source = refl

-- the index of a source, and the tag before the ignored bits
directed : line_of (row_of (op.TRecv 1 (Some 6) 5 3 16)) ≡ line (codes "trecv 1 6 5 3 16")
unfolding digits verb_for args_for
directed = refl

multi : line_of (row_of (op.MRecv 1 None 64 (Some 8))) ≡ line (codes "mrecv 1 * 64 min=8")
unfolding digits verb_for args_for
multi = refl

peek : line_of (row_of (op.Peek 1 None 7 0)) ≡ line (codes "peek 1 * 7 0")
unfolding digits verb_for args_for
peek = refl

claim : line_of (row_of (op.Claim 2 (Some 0) 7 1)) ≡ line (codes "claim 2 0 7 1")
unfolding digits verb_for args_for
claim = refl

discard : line_of (row_of (op.Discard 3 None 7 2)) ≡ line (codes "discard 3 * 7 2")
unfolding digits verb_for args_for
discard = refl

take : line_of (row_of (op.Take 2 16)) ≡ line (codes "take 2 16")
unfolding digits verb_for args_for
take = refl

drop : line_of (row_of (op.DropClaimed 2)) ≡ line (codes "drop 2")
unfolding digits verb_for args_for
drop = refl

cancel : line_of (row_of (op.Cancel 1)) ≡ line (codes "cancel 1")
unfolding digits verb_for args_for
cancel = refl

-- ---- regions of others, and atomics
read : line_of (row_of (op.Read 1 2 3 4 5)) ≡ line (codes "read 1 2 3 4 5")
unfolding digits verb_for args_for
read = refl

write : line_of (row_of (op.Write 1 2 3 4 (Text []) None true false)) ≡ line (codes "write 1 2 3 4 text: completion")
unfolding digits verb_for args_for bytes_word is_utf8 chars encode
write = refl

inject_write : line_of (row_of (op.WInject 2 3 4 (Text (codes "a")) (Some 5))) ≡ line (codes "winject 2 3 4 text:a data=5")
unfolding digits verb_for args_for bytes_word is_utf8 chars encode
inject_write = refl

atomic : line_of (row_of (op.Atomic 1 2 3 4 atom.Sum num.I16 (1 ∷ 0 ∷ 255 ∷ 255 ∷ []) false true)) ≡ line (codes "atomic 1 2 3 4 FI_SUM i16 1,-1 fence")
unfolding digits verb_for args_for values_word
atomic = refl

-- how many elements a fetch reads
fetch : line_of (row_of (op.Fetch 1 2 3 4 atom.AtomicRead num.U8 [] 4)) ≡ line (codes "fetch 1 2 3 4 FI_ATOMIC_READ u8 *4")
unfolding digits verb_for args_for
fetch = refl

compare : line_of (row_of (op.Compare 1 2 3 4 atom.CswapNe num.U8 (7 ∷ []) (200 ∷ []))) ≡ line (codes "compare 1 2 3 4 FI_CSWAP_NE u8 7 200")
unfolding digits verb_for args_for values_word
compare = refl

-- ---- a peer's own regions, addresses, completions and counters
register : line_of (row_of (op.Reg 1 (record { remote_read = true; remote_write = false }) (Zero 64))) ≡ line (codes "reg 1 r zero:64")
unfolding digits verb_for args_for bytes_word
register = refl

put : line_of (row_of (op.Put 1 8 (Text (codes "a")))) ≡ line (codes "put 1 8 text:a")
unfolding digits verb_for args_for bytes_word is_utf8 chars encode
put = refl

show : line_of (row_of (op.Show 1)) ≡ line (codes "show 1")
unfolding digits verb_for args_for
show = refl

close : line_of (row_of (op.Close 1)) ≡ line (codes "close 1")
unfolding digits verb_for args_for
close = refl

insert : line_of (row_of (op.Insert (codes "fi_sockaddr:1"))) ≡ line (codes "insert fi_sockaddr:1")
unfolding digits verb_for args_for
insert = refl

remove : line_of (row_of (op.Remove 1)) ≡ line (codes "remove 1")
unfolding digits verb_for args_for
remove = refl

wait : line_of (row_of (op.Wait (Some 1))) ≡ line (codes "wait 1")
unfolding digits verb_for args_for
wait = refl

wait_for_any : line_of (row_of (op.Wait None)) ≡ line (codes "wait *")
unfolding digits verb_for args_for
wait_for_any = refl

count : line_of (row_of (op.Count class.RemoteWrite)) ≡ line (codes "count remote_write")
unfolding digits verb_for args_for
count = refl

reach : line_of (row_of (op.Reach class.Send 2)) ≡ line (codes "reach send 2")
unfolding digits verb_for args_for
reach = refl

-- ---- settings
capabilities : line_of (setting_row (setting.Capabilities (with_cap cap.Msg (with_cap cap.LocalComm no_hints.caps)))) ≡ line (codes "caps FI_MSG,FI_LOCAL_COMM")
unfolding digits caps_word
capabilities = refl

peers : line_of (setting_row (setting.Peers 2)) ≡ line (codes "peers 2")
unfolding digits
peers = refl

wish : line_of (setting_row (setting.Wish size.Cq 64)) ≡ line (codes "cq 64")
unfolding digits
wish = refl

selective : line_of (setting_row setting.Selective) ≡ line (codes "selective")
selective = refl

payload : line_of (setting_row (setting.File (record { id = 7; name = codes "data/words" }))) ≡ line (codes "payload 7 data/words")
unfolding digits
payload = refl

-- no hints are written as none that ask for something
no_wish : (granted : Info) → printed (record { version = 1; conf = record { hints = None; info = granted; peers = 1; selective = false }; payloads = []; peers = [] }) ≡ line (codes "fabric 1") ++ line (codes "peers 1")
unfolding digits rows_of
no_wish granted = refl

-- ---- elements, the lowest byte of each first
plain : values_word num.U16 (1 ∷ 0 ∷ 0 ∷ 1 ∷ 255 ∷ 255 ∷ []) ≡ codes "1,256,65535"
unfolding digits values_word
plain = refl

signed : values_word num.I8 (0 ∷ 127 ∷ 128 ∷ 255 ∷ []) ≡ codes "0,127,-128,-1"
unfolding digits values_word
signed = refl

least : values_word num.I64 (0 ∷ 0 ∷ 0 ∷ 0 ∷ 0 ∷ 0 ∷ 0 ∷ 128 ∷ []) ≡ codes "-9223372036854775808"
unfolding digits values_word
least = refl
