-- The replay of a schedule.
--     opening bound      all peers as they start
--     replayed bound schedule      the moment at which the replay ends
--     Lawful bound schedule      no step is left over
--     at_rest all, is_drained all      tests of the peers' states
use Rattle.std.specs.Prelude.{◌≡◌, ℕ, ◌+◌, Bool, true, false, not, ◌&&◌, ◌==◌, List, [], ◌∷◌, length, take, drop, Some, None, slice_index, slice_index_or, map, replicate}
use Rattle.std.specs.List.{list_all, list_any}
use Rattle.fab_base.specs.declared.peers.Step.{Step}
use Rattle.fab_base.specs.declared.script.Bound.{Bound}
use Rattle.fab_base.specs.declared.script.BytesWord.{BytesWord}
use Rattle.fab_base.specs.declared.script.BytesWord.TheVariants.{Text, Hex, Zero, File}
use Rattle.fab_base.specs.declared.script.Conf.{Conf}
use Rattle.fab_base.specs.declared.script.Line.{Line}
use Rattle.fab_base.specs.declared.script.LineOp.{LineOp}
use Rattle.fab_base.specs.declared.script.LineOp.TheVariants.{Send, TSend, Inject, TInject, Write, WInject, Reg, Put}
use Rattle.fab_base.specs.declared.script.Payload.{Payload}
use Rattle.fab_model.specs.State.{State, accepted_for, awaits, nothing_counted}
use Rattle.fab_model.specs.Receiving.{draw_due}
use Rattle.fab_model.specs.Calls.{upto}
use Rattle.fab_model.specs.Orders.{Moment, replay, steps_left}
use Rattle.fab_model.specs.Peers.{Actor, fabric, do_next, is_finished}
use Rattle.fab_model.specs.Views.{rule}

-- ---- the lines of a bound script

-- the bytes of the payload file under this number
abbrev pub payload : List Payload → List (List ℕ) → ℕ → List ℕ
payload [] files id = []
payload (p ∷ ps) [] id = []
payload (p ∷ ps) (file ∷ files) id = elim (p.id == id) [ true ↦ file | false ↦ payload ps files id ]

-- a word that names bytes of a file, as those bytes
abbrev pub bind_word : Bound → BytesWord → BytesWord
bind_word bound (File id at len) = Hex (take len (drop at (payload bound.script.payloads bound.files id)))
bind_word bound (Text bytes) = Text bytes
bind_word bound (Hex bytes) = Hex bytes
bind_word bound (Zero n) = Zero n

abbrev pub bind_op : Bound → LineOp → LineOp
bind_op b (Send ctx dest word imm level completion fence) = Send ctx dest (bind_word b word) imm level completion fence
bind_op b (TSend ctx dest tag word imm level completion fence) = TSend ctx dest tag (bind_word b word) imm level completion fence
bind_op b (Inject dest word imm) = Inject dest (bind_word b word) imm
bind_op b (TInject dest tag word imm) = TInject dest tag (bind_word b word) imm
bind_op b (Write ctx dest key at word imm completion fence) = Write ctx dest key at (bind_word b word) imm completion fence
bind_op b (WInject dest key at word imm) = WInject dest key at (bind_word b word) imm
bind_op b (Reg key access word) = Reg key access (bind_word b word)
bind_op b (Put key at word) = Put key at (bind_word b word)
bind_op b op = op

abbrev pub bind_line : Bound → Line → Line
bind_line b line = record line { op = bind_op b line.op }

abbrev pub lines_of : Bound → ℕ → List Line
lines_of b p = map (bind_line b) (slice_index_or b.script.peers p [])

-- ---- the opening

abbrev pub fresh : Conf → State
fresh conf = record {
  caps = conf.info.caps;
  selective = conf.selective;
  most_tx = conf.info.tx;
  most_rx = conf.info.rx;
  most_message = conf.info.message;
  av = map Some (upto conf.peers);
  regions = [];
  rx = record {
    posted = [];
    closing = [];
    coming = replicate conf.peers None;
    unexpected = [];
    claimed = [];
    heads = replicate conf.peers 0;
    tails = replicate conf.peers 0;
  };
  tx = record { accepted = replicate conf.peers []; sent = replicate conf.peers 0; live = []; held = replicate conf.peers []; ops = 0 };
  cq = record { written = []; taken_out = 0; size = conf.info.cq };
  counters = replicate 6 nothing_counted;
  calls = 0;
}

-- a peer with these lines at the start
abbrev pub newly : Conf → List Line → Actor
newly conf lines = record { state = fresh conf; lines = lines; results = []; kept = [] }

unfoldable pub opening : Bound → List Actor
opening b = map (λ p. newly b.script.conf (lines_of b p)) (upto b.script.conf.peers)

-- ---- the replay

abbrev pub start : Bound → List (List Step) → Moment Actor Step
start bound schedule = record { states = opening bound; left = schedule }

unfoldable pub replayed : Bound → List (List Step) → Moment Actor Step
replayed bound schedule = replay (rule fabric) (start bound schedule)

-- No step is left over. A peer that has no list takes no steps, and a list beyond the peers may be empty: who gets a
-- schedule from elsewhere asks besides that it has one list for each peer.
abbrev pub Lawful : Bound → List (List Step) → Type 0
Lawful bound schedule = steps_left (replayed bound schedule) ≡ 0

-- ---- rest

-- what s accepted for p, what of it is sent and what of it is whole at p are as many
abbrev pub agree : ℕ → ℕ → Actor → Actor → Bool
agree p s a sender =
    (slice_index a.state.rx.tails s == length (accepted_for sender.state.tx p)) && (slice_index sender.state.tx.sent p == length (accepted_for sender.state.tx p))

abbrev pub agree_all : ℕ → ℕ → Actor → List Actor → Bool
agree_all p s a [] = true
agree_all p s a (sender ∷ rest) = agree p s a sender && agree_all p (s + 1) a rest

abbrev pub can_do : Actor → Bool
can_do a = elim (do_next a) [ None ↦ false | Some _ ↦ true ]

abbrev pub is_idle : List Actor → ℕ → Actor → Bool
is_idle all p a = agree_all p 0 a all && (a.state.cq.taken_out == length a.state.cq.written) && not (draw_due a.state.rx) && not (can_do a)

abbrev pub all_idle : List Actor → ℕ → List Actor → Bool
all_idle all p [] = true
all_idle all p (a ∷ rest) = is_idle all p a && all_idle all (p + 1) rest

-- nothing is on its way, no entry is unread, no draw is due, and no line can be done
unfoldable pub at_rest : List Actor → Bool
at_rest all = all_idle all 0 all

abbrev pub all_done : List Actor → Bool
all_done all = list_all is_finished all

abbrev pub is_empty : {X : Type 0} → List X → Bool
is_empty [] = true
is_empty (x ∷ xs) = false

-- at rest with all lines done, nothing posted and nothing that awaits a reply
unfoldable pub is_drained : List Actor → Bool
is_drained all = at_rest all && all_done all && list_all (λ (a : Actor). is_empty a.state.rx.posted && not (list_any (awaits a.state.tx) a.state.tx.live)) all
