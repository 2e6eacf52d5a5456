-- Texts that are not the report of the script of one tagged message: a wrong byte, a step too many, a step too few.
use Rattle.std.specs.Prelude.{List, [], ◌∷◌, ℕ, Some, None, false, codes, refl}
use Rattle.fab_base.specs.declared.peers.Level.{Level}
use Rattle.fab_base.specs.declared.script.Bound.{Bound}
use Rattle.fab_base.specs.declared.script.BytesWord.TheVariants.{Text}
use Rattle.fab_base.specs.declared.script.LineOp.{LineOp}
use Rattle.fab_model.specs.Machine.{machine}
use Rattle.fab_model.proofs.Refusals.{no_rest, other_report, step_left}
use Rattle.fab_model.proofs.Scripts.{Shows, line, script_of}

abbrev pub script : Bound
script = script_of (
    (line 4 (LineOp.TRecv 1 None 7 0 16) ∷ line 5 (LineOp.Wait (Some 1)) ∷ [])
    ∷ (line 7 (LineOp.TSend 2 0 7 (Text (codes "hello")) None Level.Transmit false false) ∷ [])
    ∷ []
    )

-- the report from which those below differ
abbrev pub right : List ℕ
right = codes "fabric 1 peers 2\npeer 0\n4 trecv ok\n5 wait 1 FI_TAGGED FI_RECV from 1 tag 7 len 5 bytes 68656c6c6f\ntrace D H1 T1 R D\npeer 1\n7 tsend ok\nleft 2 FI_TAGGED FI_SEND\ntrace D S0 R\nend done\n"

pub right_shown : Shows script right
unfolding machine
right_shown = record { report_is = refl; lawful = refl; rest = refl }

abbrev pub wrong_byte : List ℕ
wrong_byte = codes "fabric 1 peers 2\npeer 0\n4 trecv ok\n5 wait 1 FI_TAGGED FI_RECV from 1 tag 7 len 5 bytes 68656c6c6e\ntrace D H1 T1 R D\npeer 1\n7 tsend ok\nleft 2 FI_TAGGED FI_SEND\ntrace D S0 R\nend done\n"

pub wrong_byte_refused : Shows script wrong_byte → ⊥
unfolding machine
wrong_byte_refused = other_report script wrong_byte refl

-- a line too many for peer 0
abbrev pub line_too_many : List ℕ
line_too_many = codes "fabric 1 peers 2\npeer 0\n4 trecv ok\n5 wait 1 FI_TAGGED FI_RECV from 1 tag 7 len 5 bytes 68656c6c6f\ntrace D H1 T1 R D D\npeer 1\n7 tsend ok\nleft 2 FI_TAGGED FI_SEND\ntrace D S0 R\nend done\n"

pub line_too_many_refused : Shows script line_too_many → ⊥
unfolding machine
line_too_many_refused = step_left script line_too_many 0 refl

-- a read too many for peer 1
abbrev pub read_too_many : List ℕ
read_too_many = codes "fabric 1 peers 2\npeer 0\n4 trecv ok\n5 wait 1 FI_TAGGED FI_RECV from 1 tag 7 len 5 bytes 68656c6c6f\ntrace D H1 T1 R D\npeer 1\n7 tsend ok\nleft 2 FI_TAGGED FI_SEND\ntrace D S0 R R\nend done\n"

pub read_too_many_refused : Shows script read_too_many → ⊥
unfolding machine
read_too_many_refused = step_left script read_too_many 0 refl

-- a line too few for peer 0: its wait is not done
abbrev pub line_too_few : List ℕ
line_too_few = codes "fabric 1 peers 2\npeer 0\n4 trecv ok\n5 wait 1 FI_TAGGED FI_RECV from 1 tag 7 len 5 bytes 68656c6c6f\ntrace D H1 T1 R\npeer 1\n7 tsend ok\nleft 2 FI_TAGGED FI_SEND\ntrace D S0 R\nend done\n"

pub line_too_few_refused : Shows script line_too_few → ⊥
unfolding machine
line_too_few_refused = other_report script line_too_few refl

-- the same, told as it is: a line that can be done is not done
abbrev pub line_not_done : List ℕ
line_not_done = codes "fabric 1 peers 2\npeer 0\n4 trecv ok\nstuck at 5\nleft 1 FI_TAGGED FI_RECV from 1 tag 7 len 5 bytes 68656c6c6f\ntrace D H1 T1 R\npeer 1\n7 tsend ok\nleft 2 FI_TAGGED FI_SEND\ntrace D S0 R\nend stuck\n"

pub line_not_done_refused : Shows script line_not_done → ⊥
unfolding machine
line_not_done_refused = no_rest script line_not_done refl

-- a read too few for peer 1: its entry is not read
abbrev pub read_too_few : List ℕ
read_too_few = codes "fabric 1 peers 2\npeer 0\n4 trecv ok\n5 wait 1 FI_TAGGED FI_RECV from 1 tag 7 len 5 bytes 68656c6c6f\ntrace D H1 T1 R D\npeer 1\n7 tsend ok\ntrace D S0\nend done\n"

pub read_too_few_refused : Shows script read_too_few → ⊥
unfolding machine
read_too_few_refused = no_rest script read_too_few refl

-- an item that is not transmitted: the steps behind it are left over
abbrev pub item_not_sent : List ℕ
item_not_sent = codes "fabric 1 peers 2\npeer 0\n4 trecv ok\n5 wait 1 FI_TAGGED FI_RECV from 1 tag 7 len 5 bytes 68656c6c6f\ntrace D H1 T1 R D\npeer 1\n7 tsend ok\nleft 2 FI_TAGGED FI_SEND\ntrace D R\nend done\n"

pub item_not_sent_refused : Shows script item_not_sent → ⊥
unfolding machine
item_not_sent_refused = step_left script item_not_sent 3 refl
