use Rattle.std.proofs.Common.{◌<◌, ◌∙◌, refl, slice_index_or, slice_set, length, length-set, arith}
use Rattle.fab_finish.proofs.Joining.{got}
use Rattle.fab_finish.proofs.Carried.{none_left, none_joined, wide_q, may_come, carried_joined, carried_actors, carried_schedules, carried_others, carried_one}
use Rattle.fab_finish.proofs.Freight.{carried_less}
use Rattle.fab_finish.proofs.Wanting.{stays_all}
use Rattle.fab_finish.proofs.carrying.carry_one.Goals as goal

pub take_out-requires : goal.take_out-requires
take_out-requires g c =
    let own = c.requires.joined.own c.args.from (slice_index_or c.args.peers.now c.args.from c.index-peers-from.result) (got c.args.peers.now c.args.from c.index-peers-from.result c.requires.from) in
    omega (arith, c.requires.to, own.lanes)

pub returns-in_default-clause-joined : goal.returns-in_default-clause-joined
returns-in_default-clause-joined g c =
    let a = slice_index_or c.args.peers.now c.args.from c.index-peers-from.result in
    none_joined c.args.peers.now c.args.from a c.take_out.new.self (got c.args.peers.now c.args.from c.index-peers-from.result c.requires.from) c.in_default.ensures.none.1 c.requires.joined

pub returns-in_default-clause-none : goal.returns-in_default-clause-none
returns-in_default-clause-none g c e =
    let a = slice_index_or c.args.peers.now c.args.from c.index-peers-from.result in
    none_left c.args.peers.now c.args.from c.args.to a c.take_out.new.self c.requires.from c.in_default.ensures.none.0 c.in_default.ensures.none.1

pub bring-requires-clause-below : goal.bring-requires-clause-below
bring-requires-clause-below g c =
    let ps = c.args.peers.now in
    let a = slice_index_or c.args.peers.now c.args.from c.index-peers-from.result in
    let mid = slice_set ps c.args.from (record a { endpoint = c.take_out.new.self }) in
    let is_a = got ps c.args.from c.index-peers-from.result c.requires.from in
    let within : c.args.to < length mid = omega (arith, c.requires.to, length-set ps c.args.from (record a { endpoint = c.take_out.new.self })) in
    let q = slice_index_or mid c.args.to c.index-peers-to.result in
    let is_q = got mid c.args.to c.index-peers-to.result within in
    wide_q ps c.args.from c.args.to a q c.take_out.new.self c.take_out.new.self c.in-Some.frame c.requires.joined is_a c.requires.to c.take_out.ensures.rest c.in-Some.ensures.some c.in-Some.ensures.port is_q c.requires.from

pub bring-requires-clause-continues : goal.bring-requires-clause-continues
bring-requires-clause-continues g c =
    let ps = c.args.peers.now in
    let a = slice_index_or c.args.peers.now c.args.from c.index-peers-from.result in
    let mid = slice_set ps c.args.from (record a { endpoint = c.take_out.new.self }) in
    let is_a = got ps c.args.from c.index-peers-from.result c.requires.from in
    let within : c.args.to < length mid = omega (arith, c.requires.to, length-set ps c.args.from (record a { endpoint = c.take_out.new.self })) in
    let q = slice_index_or mid c.args.to c.index-peers-to.result in
    let is_q = got mid c.args.to c.index-peers-to.result within in
    may_come ps c.args.from c.args.to a q c.take_out.new.self c.take_out.new.self c.in-Some.frame c.requires.joined is_a c.requires.to c.take_out.ensures.rest c.in-Some.ensures.some c.in-Some.ensures.port is_q

pub returns-in-Ok-clause-joined : goal.returns-in-Ok-clause-joined
returns-in-Ok-clause-joined g c =
    let ps = c.args.peers.now in
    let a = slice_index_or c.args.peers.now c.args.from c.index-peers-from.result in
    let mid = slice_set ps c.args.from (record a { endpoint = c.take_out.new.self }) in
    let is_a = got ps c.args.from c.index-peers-from.result c.requires.from in
    let within : c.args.to < length mid = omega (arith, c.requires.to, length-set ps c.args.from (record a { endpoint = c.take_out.new.self })) in
    let q = slice_index_or mid c.args.to c.index-peers-to.result in
    let is_q = got mid c.args.to c.index-peers-to.result within in
    carried_joined ps c.args.from c.args.to a q c.take_out.new.self c.bring.new.self c.in-Some.frame c.requires.joined is_a c.requires.to c.take_out.ensures.rest c.in-Some.ensures.some c.in-Some.ensures.port is_q c.bring.ensures.rest c.in-Ok.ensures.ok c.bring.ensures.taken c.requires.from

pub returns-in-Ok-clause-actors : goal.returns-in-Ok-clause-actors
returns-in-Ok-clause-actors g c =
    let ps = c.args.peers.now in
    let a = slice_index_or c.args.peers.now c.args.from c.index-peers-from.result in
    let mid = slice_set ps c.args.from (record a { endpoint = c.take_out.new.self }) in
    let is_a = got ps c.args.from c.index-peers-from.result c.requires.from in
    let within : c.args.to < length mid = omega (arith, c.requires.to, length-set ps c.args.from (record a { endpoint = c.take_out.new.self })) in
    let q = slice_index_or mid c.args.to c.index-peers-to.result in
    let is_q = got mid c.args.to c.index-peers-to.result within in
    carried_actors ps c.args.from c.args.to a q c.take_out.new.self c.bring.new.self c.in-Some.frame c.requires.joined is_a c.requires.to c.take_out.ensures.rest c.in-Some.ensures.some c.in-Some.ensures.port is_q c.bring.ensures.rest c.in-Ok.ensures.ok c.bring.ensures.taken c.requires.from

pub returns-in-Ok-clause-schedules : goal.returns-in-Ok-clause-schedules
returns-in-Ok-clause-schedules g c =
    let ps = c.args.peers.now in
    let a = slice_index_or c.args.peers.now c.args.from c.index-peers-from.result in
    let mid = slice_set ps c.args.from (record a { endpoint = c.take_out.new.self }) in
    let is_a = got ps c.args.from c.index-peers-from.result c.requires.from in
    let within : c.args.to < length mid = omega (arith, c.requires.to, length-set ps c.args.from (record a { endpoint = c.take_out.new.self })) in
    let q = slice_index_or mid c.args.to c.index-peers-to.result in
    let is_q = got mid c.args.to c.index-peers-to.result within in
    carried_schedules ps c.args.from c.args.to a q c.take_out.new.self c.bring.new.self c.in-Some.frame c.requires.joined is_a c.requires.to c.take_out.ensures.rest c.in-Some.ensures.some c.in-Some.ensures.port is_q c.bring.ensures.rest c.in-Ok.ensures.ok c.bring.ensures.taken c.requires.from

pub returns-in-Ok-clause-others : goal.returns-in-Ok-clause-others
returns-in-Ok-clause-others g c =
    let ps = c.args.peers.now in
    let a = slice_index_or c.args.peers.now c.args.from c.index-peers-from.result in
    let mid = slice_set ps c.args.from (record a { endpoint = c.take_out.new.self }) in
    let is_a = got ps c.args.from c.index-peers-from.result c.requires.from in
    let within : c.args.to < length mid = omega (arith, c.requires.to, length-set ps c.args.from (record a { endpoint = c.take_out.new.self })) in
    let q = slice_index_or mid c.args.to c.index-peers-to.result in
    let is_q = got mid c.args.to c.index-peers-to.result within in
    carried_others ps c.args.from c.args.to a q c.take_out.new.self c.bring.new.self c.in-Some.frame c.requires.joined is_a c.requires.to c.take_out.ensures.rest c.in-Some.ensures.some c.in-Some.ensures.port is_q c.bring.ensures.rest c.in-Ok.ensures.ok c.bring.ensures.taken c.requires.from

pub returns-in-Ok-clause-one : goal.returns-in-Ok-clause-one
returns-in-Ok-clause-one g c e =
    let ps = c.args.peers.now in
    let a = slice_index_or c.args.peers.now c.args.from c.index-peers-from.result in
    let mid = slice_set ps c.args.from (record a { endpoint = c.take_out.new.self }) in
    let is_a = got ps c.args.from c.index-peers-from.result c.requires.from in
    let within : c.args.to < length mid = omega (arith, c.requires.to, length-set ps c.args.from (record a { endpoint = c.take_out.new.self })) in
    let q = slice_index_or mid c.args.to c.index-peers-to.result in
    let is_q = got mid c.args.to c.index-peers-to.result within in
    carried_one ps c.args.from c.args.to a q c.take_out.new.self c.bring.new.self c.in-Some.frame c.requires.joined is_a c.requires.to c.take_out.ensures.rest c.in-Some.ensures.some c.in-Some.ensures.port is_q c.bring.ensures.rest c.in-Ok.ensures.ok c.bring.ensures.taken c.requires.from

pub returns-in-Ok-clause-less : goal.returns-in-Ok-clause-less
returns-in-Ok-clause-less g c =
    let ps = c.args.peers.now in
    let a = slice_index_or c.args.peers.now c.args.from c.index-peers-from.result in
    let mid = slice_set ps c.args.from (record a { endpoint = c.take_out.new.self }) in
    let is_a = got ps c.args.from c.index-peers-from.result c.requires.from in
    let within : c.args.to < length mid = omega (arith, c.requires.to, length-set ps c.args.from (record a { endpoint = c.take_out.new.self })) in
    let q = slice_index_or mid c.args.to c.index-peers-to.result in
    let is_q = got mid c.args.to c.index-peers-to.result within in
    let wide = wide_q ps c.args.from c.args.to a q c.take_out.new.self c.take_out.new.self c.in-Some.frame c.requires.joined is_a c.requires.to c.take_out.ensures.rest c.in-Some.ensures.some c.in-Some.ensures.port is_q c.requires.from in
    carried_less ps c.args.from c.args.to a q c.take_out.new.self c.bring.new.self c.in-Some.frame c.requires.joined is_a c.requires.to c.take_out.ensures.rest c.in-Some.ensures.some c.in-Some.ensures.port is_q c.bring.ensures.rest c.in-Ok.ensures.ok c.requires.from wide

pub returns-in-Err-clause-schedules : goal.returns-in-Err-clause-schedules
returns-in-Err-clause-schedules g c =
    let ps = c.args.peers.now in
    let a = slice_index_or c.args.peers.now c.args.from c.index-peers-from.result in
    let m = record a { endpoint = c.take_out.new.self } in
    let mid = slice_set ps c.args.from m in
    let is_a = got ps c.args.from c.index-peers-from.result c.requires.from in
    let within : c.args.to < length mid = omega (arith, c.requires.to, length-set ps c.args.from m) in
    let q = slice_index_or mid c.args.to c.index-peers-to.result in
    let is_q = got mid c.args.to c.index-peers-to.result within in
    stays_all mid c.args.to q (record q { endpoint = c.bring.new.self }) is_q refl ∙ stays_all ps c.args.from a m is_a refl
