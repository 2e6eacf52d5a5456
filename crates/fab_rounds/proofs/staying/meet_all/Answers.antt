use Rattle.std.proofs.Common.{rules, arith, ◌<◌, ◌∙◌, ap, length}
use Rattle.fab_ep.specs.Value.{seen}
use Rattle.fab_peer.specs.Turns.{told}
use Rattle.fab_meeting.specs.Seats.{account_of}
use Rattle.fab_rounds.specs.Rounds.{between}
use Rattle.fab_rounds.proofs.Carried.{as_many, same_told}
use Rattle.fab_rounds.proofs.Seated.{ready, are_some, all_back, made_within, stayed}
use Rattle.fab_rounds.proofs.staying.meet_all.Goals as goal

pub live_all-requires-clause-ready : goal.live_all-requires-clause-ready
live_all-requires-clause-ready g c = λ l o. ready (λ p. p.seat) c.args.meeting.now c.seat_all-room.new.peers c.args.seats.items c.seat_all-room.ensures.seats c.requires.seats.0

pub unseat_all-seats-requires-clause-seated : goal.unseat_all-seats-requires-clause-seated
unseat_all-seats-requires-clause-seated g c = are_some (λ p. p.seat) c.args.meeting.now c.live_all.new.peers c.live_all.ensures.seated

pub index-requires : goal.index-requires
index-requires g c = let l = as_many (λ p. p.seat) c.live_all.new.peers c.unseat_all-seats.result.items c.unseat_all-seats.ensures.seats in let m = c.live_all.auto.peers in let n = c.seat_all-room.auto.peers in let s = c.requires.some.0 in omega arith

pub gather-requires : goal.gather-requires
gather-requires g c = all_back (λ p. p.seat) c.args.meeting.now c.seat_all-room.new.peers c.live_all.new.peers c.args.seats.items c.unseat_all-seats.result.items
    (search rules) c.seat_all-room.ensures.seats c.requires.seats.0 c.live_all.ensures.seated c.live_all.ensures.place c.unseat_all-seats.ensures.seats

pub returns-clause-within : goal.returns-clause-within
returns-clause-within g c =
    let some : 0 < length c.live_all.new.peers = (let m = c.live_all.auto.peers in let n = c.seat_all-room.auto.peers in let s = c.requires.some.0 in omega arith) in
    made_within (λ p. p.seat) c.live_all.new.peers c.unseat_all-seats.result.items c.unseat_all-seats.ensures.seats some c.made-made.result c.index.result.now (c.made-made.ensures ∙ ap (λ s. length (account_of s).said) c.index.ensures)
    c.args.limit c.live_all.ensures.within

pub returns-clause-ran : goal.returns-clause-ran
returns-clause-ran g c =
    let some : 0 < length c.live_all.new.peers = (let m = c.live_all.auto.peers in let n = c.seat_all-room.auto.peers in let s = c.requires.some.0 in omega arith) in
    let start = same_told (λ p. between (told (seen g.P.Port) p.peer) p.moved p.failed) c.args.peers.now c.seat_all-room.new.peers (search rules) (λ k d near. let e = c.seat_all-room.ensures.same k d near in (λ j. between (told (seen g.P.Port) (e.0 j)) (e.1 j) (e.2 j))) in
    let end = same_told (λ p. between (told (seen g.P.Port) p.peer) p.moved p.failed) c.live_all.new.peers c.unseat_all-seats.new.peers (search rules) (λ k d near. let e = c.unseat_all-seats.ensures.same k d near in (λ j. between (told (seen g.P.Port) (e.0 j)) (e.1 j) (e.2 j))) in
    stayed (λ p. p.seat) c.live_all.new.peers c.unseat_all-seats.result.items c.unseat_all-seats.ensures.seats some c.made-made.result c.index.result.now (c.made-made.ensures ∙ ap (λ s. length (account_of s).said) c.index.ensures)
    (λ p. between (told (seen g.P.Port) p.peer) p.moved p.failed) c.args.peers.now c.seat_all-room.new.peers c.unseat_all-seats.new.peers (search rules) start end c.live_all.ensures.life c.gather.ensures
