-- A line: there is one, a wait has an entry, a count is reached, and a call is not told to come again.
use Rattle.std.specs.Prelude.{[], ◌∷◌, Some, None, true, false, codes, refl}
use Rattle.fab_base.specs.declared.entries.Class.{Class}
use Rattle.fab_base.specs.declared.peers.Level.{Level}
use Rattle.fab_base.specs.declared.script.Bound.{Bound}
use Rattle.fab_base.specs.declared.script.BytesWord.TheVariants.{Text}
use Rattle.fab_base.specs.declared.script.LineOp.{LineOp}
use Rattle.fab_model.specs.Machine.{machine}
use Rattle.fab_model.specs.Report.{traces}
use Rattle.fab_model.proofs.Refusals.{Refuses, refuses, sized}
use Rattle.fab_model.proofs.Scripts.{script_of, line}

-- a receive and a wait for it
abbrev pub script : Bound
script = script_of (
    (line 4 (LineOp.TRecv 1 None 7 0 4) ∷ line 5 (LineOp.Wait (Some 1)) ∷ [])
    ∷ []
    ∷ []
    )

pub no_line : Refuses script (traces (codes "trace\ntrace D\n")) 1 (false ∷ [])
unfolding machine
no_line = refuses _ _ _ _ 0 refl refl

pub no_entry : Refuses script (traces (codes "trace D D\ntrace\n")) 0 (true ∷ false ∷ [])
unfolding machine
no_entry = refuses _ _ _ _ 0 refl refl

-- an entry that is written, and not read
abbrev pub unread : Bound
unread = script_of (
    (line 4 (LineOp.TSend 1 0 7 (Text (codes "ab")) None Level.Transmit false false) ∷ line 5 (LineOp.Wait (Some 1)) ∷ [])
    ∷ []
    )

pub not_read : Refuses unread (traces (codes "trace D S0 D\n")) 0 (true ∷ false ∷ [])
unfolding machine
not_read = refuses _ _ _ _ 0 refl refl

-- a message that is not transmitted counts as none
abbrev pub counted : Bound
counted = script_of (
    (line 4 (LineOp.TSend 1 0 7 (Text (codes "ab")) None Level.Transmit false false) ∷ line 5 (LineOp.Reach Class.Send 1) ∷ [])
    ∷ []
    )

pub not_reached : Refuses counted (traces (codes "trace D D\n")) 0 (true ∷ false ∷ [])
unfolding machine
not_reached = refuses _ _ _ _ 0 refl refl

-- two transmit calls, and one may be under way
abbrev pub transmits : Bound
transmits = sized 1 256 1024 (script_of (
    (line 4 (LineOp.TInject 0 7 (Text (codes "ab")) None) ∷ line 5 (LineOp.TInject 0 7 (Text (codes "cd")) None) ∷ [])
    ∷ []
    ))

pub tx_full : Refuses transmits (traces (codes "trace D D\n")) 0 (true ∷ false ∷ [])
unfolding machine
tx_full = refuses _ _ _ _ 0 refl refl

-- three transmit calls, and two may be under way: one that a fence holds back is
abbrev pub fenced : Bound
fenced = sized 2 256 1024 (script_of (
    (line 4 (LineOp.TSend 1 0 7 (Text (codes "ab")) None Level.Match false false)
    ∷ line 5 (LineOp.TSend 2 0 7 (Text (codes "cd")) None Level.Transmit false true)
    ∷ line 6 (LineOp.TInject 0 7 (Text (codes "e")) None) ∷ [])
    ∷ []
    ))

pub tx_full_of_held : Refuses fenced (traces (codes "trace D D S0 D\n")) 0 (true ∷ false ∷ [])
unfolding machine
tx_full_of_held = refuses _ _ _ _ 0 refl refl

-- two receives, and one may be posted
abbrev pub posts : Bound
posts = sized 64 1 1024 (script_of (
    (line 4 (LineOp.TRecv 1 None 7 0 4) ∷ line 5 (LineOp.TRecv 2 None 7 0 4) ∷ [])
    ∷ []
    ))

pub rx_full : Refuses posts (traces (codes "trace D D\n")) 0 (true ∷ true ∷ true ∷ false ∷ [])
unfolding machine
rx_full = refuses _ _ _ _ 0 refl refl

-- a receive and a look behind a draw that is due
abbrev pub draws : Bound
draws = script_of (
    (line 4 (LineOp.MRecv 1 None 8 (Some 4)) ∷ line 5 (LineOp.TRecv 2 None 7 0 4) ∷ [])
    ∷ (line 7 (LineOp.Inject 0 (Text (codes "ab")) None) ∷ [])
    ∷ (line 9 (LineOp.Inject 0 (Text (codes "ab")) None) ∷ [])
    ∷ []
    )

pub post_behind_draw : Refuses draws (traces (codes "trace H1 T1 D D\ntrace D S0\ntrace\n")) 0 (true ∷ false ∷ true ∷ true ∷ [])
unfolding machine
post_behind_draw = refuses _ _ _ _ 0 refl refl

-- a look behind a draw that is due
abbrev pub looks : Bound
looks = script_of (
    (line 4 (LineOp.MRecv 1 None 8 (Some 4)) ∷ line 5 (LineOp.Peek 2 None 7 0) ∷ [])
    ∷ (line 7 (LineOp.Inject 0 (Text (codes "ab")) None) ∷ [])
    ∷ []
    )

pub look_behind_draw : Refuses looks (traces (codes "trace H1 T1 D D\ntrace D S0\n")) 0 (true ∷ false ∷ true ∷ [])
unfolding machine
look_behind_draw = refuses _ _ _ _ 0 refl refl

-- two looks, and room for one entry
abbrev pub crowded : Bound
crowded = sized 64 256 1 (script_of (
    (line 4 (LineOp.Peek 1 None 7 0) ∷ line 5 (LineOp.Peek 2 None 7 0) ∷ [])
    ∷ []
    ))

pub look_without_room : Refuses crowded (traces (codes "trace D D\n")) 0 (true ∷ true ∷ false ∷ [])
unfolding machine
look_without_room = refuses _ _ _ _ 0 refl refl

-- a receive that would take a message at once, and no room for its entry
abbrev pub takes : Bound
takes = sized 64 256 1 (script_of (
    (line 4 (LineOp.Peek 1 None 7 0) ∷ line 5 (LineOp.TRecv 2 None 7 0 4) ∷ [])
    ∷ (line 7 (LineOp.TInject 0 7 (Text (codes "ab")) None) ∷ [])
    ∷ []
    ))

pub post_without_room : Refuses takes (traces (codes "trace H1 T1 D D\ntrace D S0\n")) 0 (true ∷ true ∷ false ∷ true ∷ [])
unfolding machine
post_without_room = refuses _ _ _ _ 0 refl refl

-- a claimed message, and a draw that is due
abbrev pub claims : Bound
claims = script_of (
    (line 4 (LineOp.Claim 1 None 7 0) ∷ line 5 (LineOp.MRecv 2 None 8 (Some 4)) ∷ line 6 (LineOp.Take 1 4) ∷ [])
    ∷ (line 8 (LineOp.TInject 0 7 (Text (codes "ab")) None) ∷ line 9 (LineOp.Inject 0 (Text (codes "cd")) None) ∷ [])
    ∷ []
    )

pub take_behind_draw : Refuses claims (traces (codes "trace H1 T1 H1 T1 D D D\ntrace D D S0 S0\n")) 0 (true ∷ false ∷ true ∷ [])
unfolding machine
take_behind_draw = refuses _ _ _ _ 0 refl refl

-- a claimed message that is dropped, and a draw that is due
abbrev pub drops : Bound
drops = script_of (
    (line 4 (LineOp.Claim 1 None 7 0) ∷ line 5 (LineOp.MRecv 2 None 8 (Some 4)) ∷ line 6 (LineOp.DropClaimed 1) ∷ [])
    ∷ (line 8 (LineOp.TInject 0 7 (Text (codes "ab")) None) ∷ line 9 (LineOp.Inject 0 (Text (codes "cd")) None) ∷ [])
    ∷ []
    )

pub drop_behind_draw : Refuses drops (traces (codes "trace H1 T1 H1 T1 D D D\ntrace D D S0 S0\n")) 0 (true ∷ false ∷ true ∷ [])
unfolding machine
drop_behind_draw = refuses _ _ _ _ 0 refl refl

-- a receive that is cancelled, and a draw that is due
abbrev pub cancels : Bound
cancels = script_of (
    (line 4 (LineOp.TRecv 1 None 7 0 4) ∷ line 5 (LineOp.MRecv 2 None 8 (Some 4)) ∷ line 6 (LineOp.Cancel 1) ∷ [])
    ∷ (line 8 (LineOp.Inject 0 (Text (codes "ab")) None) ∷ [])
    ∷ []
    )

pub cancel_behind_draw : Refuses cancels (traces (codes "trace H1 T1 D D D\ntrace D S0\n")) 0 (true ∷ false ∷ true ∷ [])
unfolding machine
cancel_behind_draw = refuses _ _ _ _ 0 refl refl

-- a claimed message that is taken, and room for one entry
abbrev pub claims_one : Bound
claims_one = sized 64 256 1 (script_of (
    (line 4 (LineOp.Claim 1 None 7 0) ∷ line 5 (LineOp.Take 1 4) ∷ [])
    ∷ (line 7 (LineOp.TInject 0 7 (Text (codes "ab")) None) ∷ [])
    ∷ []
    ))

pub take_without_room : Refuses claims_one (traces (codes "trace H1 T1 D D\ntrace D S0\n")) 0 (true ∷ true ∷ false ∷ [])
unfolding machine
take_without_room = refuses _ _ _ _ 0 refl refl

-- a claimed message that is dropped, and room for one entry
abbrev pub drops_one : Bound
drops_one = sized 64 256 1 (script_of (
    (line 4 (LineOp.Claim 1 None 7 0) ∷ line 5 (LineOp.DropClaimed 1) ∷ [])
    ∷ (line 7 (LineOp.TInject 0 7 (Text (codes "ab")) None) ∷ [])
    ∷ []
    ))

pub drop_without_room : Refuses drops_one (traces (codes "trace H1 T1 D D\ntrace D S0\n")) 0 (true ∷ true ∷ false ∷ [])
unfolding machine
drop_without_room = refuses _ _ _ _ 0 refl refl

-- a receive that is cancelled, and room for one entry
abbrev pub cancels_one : Bound
cancels_one = sized 64 256 1 (script_of (
    (line 4 (LineOp.Peek 1 None 7 0) ∷ line 5 (LineOp.TRecv 2 None 7 0 4) ∷ line 6 (LineOp.Cancel 2) ∷ [])
    ∷ []
    ))

pub cancel_without_room : Refuses cancels_one (traces (codes "trace D D D\n")) 0 (true ∷ true ∷ false ∷ [])
unfolding machine
cancel_without_room = refuses _ _ _ _ 0 refl refl
