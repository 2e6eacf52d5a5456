-- The first words of lines.
--     name_of verb      the verb as it is written
--     verb_of word      the verb that is this word; `fabric` is none
--     kind_of verb      a setting, `peer`, or a line that a peer does
use Rattle.std.specs.Prelude.{ℕ, List, [], ◌∷◌, ◌++◌, codes, bytes_eq, find, Option}
use Rattle.fab_grammar.specs.declared.verbs.VerbKind.{VerbKind}
use Rattle.fab_grammar.specs.declared.verbs.VerbKind.TheVariants as kind
use Rattle.fab_grammar.specs.declared.verbs.Verb.{Verb}
use Rattle.fab_grammar.specs.declared.verbs.Verb.TheVariants as verb

abbrev pub name_of : Verb → List ℕ
name_of verb.Peers = codes "peers"
name_of verb.Caps = codes "caps"
name_of verb.Lane = codes "lane"
name_of verb.Pool = codes "pool"
name_of verb.Tx = codes "tx"
name_of verb.Rx = codes "rx"
name_of verb.Cq = codes "cq"
name_of verb.Selective = codes "selective"
name_of verb.Payload = codes "payload"
name_of verb.Peer = codes "peer"
name_of verb.Send = codes "send"
name_of verb.TSend = codes "tsend"
name_of verb.Inject = codes "inject"
name_of verb.TInject = codes "tinject"
name_of verb.Recv = codes "recv"
name_of verb.TRecv = codes "trecv"
name_of verb.MRecv = codes "mrecv"
name_of verb.Peek = codes "peek"
name_of verb.Claim = codes "claim"
name_of verb.Discard = codes "discard"
name_of verb.Take = codes "take"
name_of verb.DropClaimed = codes "drop"
name_of verb.Cancel = codes "cancel"
name_of verb.Read = codes "read"
name_of verb.Write = codes "write"
name_of verb.WInject = codes "winject"
name_of verb.Atomic = codes "atomic"
name_of verb.Fetch = codes "fetch"
name_of verb.Compare = codes "compare"
name_of verb.Reg = codes "reg"
name_of verb.Close = codes "close"
name_of verb.Put = codes "put"
name_of verb.Show = codes "show"
name_of verb.Insert = codes "insert"
name_of verb.Remove = codes "remove"
name_of verb.Wait = codes "wait"
name_of verb.Count = codes "count"
name_of verb.Reach = codes "reach"

abbrev pub settings : List Verb
settings = verb.Peers ∷ verb.Caps ∷ verb.Lane ∷ verb.Pool ∷ verb.Tx ∷ verb.Rx ∷ verb.Cq ∷ verb.Selective ∷ verb.Payload ∷ []

abbrev pub calls : List Verb
calls = verb.Send ∷ verb.TSend ∷ verb.Inject ∷ verb.TInject ∷ verb.Recv ∷ verb.TRecv ∷ verb.MRecv ∷ verb.Peek ∷ verb.Claim ∷ verb.Discard ∷ verb.Take ∷ verb.DropClaimed ∷ verb.Cancel ∷ verb.Read ∷ verb.Write ∷ verb.WInject ∷ verb.Atomic ∷ verb.Fetch ∷ verb.Compare ∷ verb.Reg ∷ verb.Close ∷ verb.Put ∷ verb.Show ∷ verb.Insert ∷ verb.Remove ∷ verb.Wait ∷ verb.Count ∷ verb.Reach ∷ []

abbrev pub all_verbs : List Verb
all_verbs = settings ++ verb.Peer ∷ calls

unfoldable pub verb_of : List ℕ → Option Verb
verb_of word = find (λ verb. bytes_eq word (name_of verb)) all_verbs

abbrev pub kind_of : Verb → VerbKind
kind_of verb.Peers = kind.Setting
kind_of verb.Caps = kind.Setting
kind_of verb.Lane = kind.Setting
kind_of verb.Pool = kind.Setting
kind_of verb.Tx = kind.Setting
kind_of verb.Rx = kind.Setting
kind_of verb.Cq = kind.Setting
kind_of verb.Selective = kind.Setting
kind_of verb.Payload = kind.Setting
kind_of verb.Peer = kind.Peer
kind_of _ = kind.Call
