use Rattle.std.proofs.Common.{rules, ◌≡◌, List, length, sym, ap, ◌∙◌, subst, arith}
use Rattle.std.specs.Prelude.{Vec}
use Rattle.std.specs.declared.alloc.Global.{Global}
use Rattle.fab_base.proofs.Lists.{written_back}
use Rattle.fab_link.specs.Plain.{Plain}
use Rattle.fab_queue.specs.Ends.{Out, In}
use Rattle.fab_queue.specs.Ports.{Queued}
use Rattle.fab_queue.specs.Gather.{AreAll, AreSuccessors, AreAllRooms, AreApart, ReceivesAll, ReceivedAll, Gathered}
use Rattle.fab_queue.proofs.Coming.{few_ports, receives, gathered, merged}
use Rattle.fab_queue.proofs.gathering.gather.Goals as goal

pub rooms-requires : goal.rooms-requires
rooms-requires g c = subst AreAll (sym c.as_slice-2.ensures.value) c.requires

pub overflow_cast-len : goal.overflow_cast-len
overflow_cast-len g c =
    let succ = subst (λ (z : List Queued). AreSuccessors z c.in-Ok.plain.items) c.as_slice.ensures.value c.in-Ok.ensures in
    let few = few_ports c.args.ports.items c.in-Ok.plain.items c.requires succ in let l : c.len.result ≡ length c.args.ports.items = search rules in omega (arith, few, l)

pub overflow_cast-len-2 : goal.overflow_cast-len-2
overflow_cast-len-2 g c =
    let succ = subst (λ (z : List Queued). AreSuccessors z c.in-Ok.plain.items) c.as_slice.ensures.value c.in-Ok.ensures in
    let few = few_ports c.args.ports.items c.in-Ok.plain.items c.requires succ in let l : c.len-2.result ≡ length c.args.ports.items = search rules in omega (arith, few, l)

pub index-requires : goal.index-requires
index-requires g c = let some = c.requires.some in let o = c.args.ports.ok in omega (arith, some, o)

pub take_apart-requires : goal.take_apart-requires
take_apart-requires g c =
    let l : c.len.result ≡ length c.args.ports.items = search rules in let m : c.len-2.result ≡ length c.args.ports.items = search rules in
    (ap length c.as_mut_slice.ensures.value ∙ c.in-Ok-no_lists.ensures.count ∙ l, ap length c.as_mut_slice-2.ensures.value ∙ c.in-Ok-no_lists-2.ensures.count ∙ m)

pub receive_all-requires : goal.receive_all-requires
receive_all-requires g c =
    let ports : List Queued = c.args.ports.items in
    let succ = subst (λ (z : List Queued). AreSuccessors z c.in-Ok.plain.items) c.as_slice.ensures.value c.in-Ok.ensures in
    let room = subst (λ (z : List Queued). AreAllRooms z c.in-Ok-rooms.rooms.items) c.as_slice-2.ensures.value c.in-Ok-rooms.ensures in
    let outs : List (Vec Out Global) = c.take_apart.new.outs in let ins : List (Vec In Global) = c.take_apart.new.ins in let apart : AreApart ports outs ins 0 = c.take_apart.ensures in
    let l : c.len.result ≡ length ports = search rules in let m : c.len-2.result ≡ length ports = search rules in
    let lo : c.in-Ok-no_lists.outs.len ≡ length c.in-Ok-no_lists.outs.items = (let o = c.in-Ok-no_lists.outs.ok in omega arith) in let li : c.in-Ok-no_lists-2.ins.len ≡ length c.in-Ok-no_lists-2.ins.items = (let o = c.in-Ok-no_lists-2.ins.ok in omega arith) in
    let back_o = written_back c.in-Ok-no_lists.outs.items outs c.in-Ok-no_lists.outs.len (apart.outs_count ∙ sym (c.in-Ok-no_lists.ensures.count ∙ l)) lo in
    let back_i = written_back c.in-Ok-no_lists-2.ins.items ins c.in-Ok-no_lists-2.ins.len (apart.ins_count ∙ sym (c.in-Ok-no_lists-2.ensures.count ∙ m)) li in
    subst (λ (z : List (Vec Out Global) × List (Vec In Global) × List Plain). ReceivesAll z.0 z.1 c.in-Ok-rooms.rooms.items z.2)
    (λ i. (sym (c.as_mut_slice-3.ensures.value ∙ back_o) i, sym back_i i, sym c.as_mut_slice-4.ensures.value i))
    (receives ports c.in-Ok.plain.items c.in-Ok.plain.items c.in-Ok-rooms.rooms.items outs ins c.requires succ apart room)

pub returns-clause-gathered : goal.returns-clause-gathered
returns-clause-gathered g c =
    let ports : List Queued = c.args.ports.items in
    let succ = subst (λ (z : List Queued). AreSuccessors z c.in-Ok.plain.items) c.as_slice.ensures.value c.in-Ok.ensures in
    let outs : List (Vec Out Global) = c.take_apart.new.outs in let ins : List (Vec In Global) = c.take_apart.new.ins in let apart : AreApart ports outs ins 0 = c.take_apart.ensures in
    let l : c.len.result ≡ length ports = search rules in let m : c.len-2.result ≡ length ports = search rules in
    let lo : c.in-Ok-no_lists.outs.len ≡ length c.in-Ok-no_lists.outs.items = (let o = c.in-Ok-no_lists.outs.ok in omega arith) in let li : c.in-Ok-no_lists-2.ins.len ≡ length c.in-Ok-no_lists-2.ins.items = (let o = c.in-Ok-no_lists-2.ins.ok in omega arith) in
    let back_o = written_back c.in-Ok-no_lists.outs.items outs c.in-Ok-no_lists.outs.len (apart.outs_count ∙ sym (c.in-Ok-no_lists.ensures.count ∙ l)) lo in
    let back_i = written_back c.in-Ok-no_lists-2.ins.items ins c.in-Ok-no_lists-2.ins.len (apart.ins_count ∙ sym (c.in-Ok-no_lists-2.ensures.count ∙ m)) li in
    let after : List Plain = c.receive_all.new.ports in
    let got = subst (λ (z : List (Vec Out Global) × List (Vec In Global) × List Plain). ReceivedAll z.0 z.1 z.2 after) (λ i. ((c.as_mut_slice-3.ensures.value ∙ back_o) i, back_i i, c.as_mut_slice-4.ensures.value i)) c.receive_all.ensures in
    let lp : c.in-Ok.plain.len ≡ length c.in-Ok.plain.items = (let o = c.in-Ok.plain.ok in omega arith) in
    subst (Gathered ports) (sym (written_back c.in-Ok.plain.items after c.in-Ok.plain.len got.count lp)) (gathered ports c.in-Ok.plain.items after c.in-Ok-rooms.rooms.items outs ins c.requires succ apart got)

pub returns-clause-merged : goal.returns-clause-merged
returns-clause-merged g c =
    let ports : List Queued = c.args.ports.items in
    let succ = subst (λ (z : List Queued). AreSuccessors z c.in-Ok.plain.items) c.as_slice.ensures.value c.in-Ok.ensures in
    let outs : List (Vec Out Global) = c.take_apart.new.outs in let ins : List (Vec In Global) = c.take_apart.new.ins in let apart : AreApart ports outs ins 0 = c.take_apart.ensures in
    let l : c.len.result ≡ length ports = search rules in let m : c.len-2.result ≡ length ports = search rules in
    let lo : c.in-Ok-no_lists.outs.len ≡ length c.in-Ok-no_lists.outs.items = (let o = c.in-Ok-no_lists.outs.ok in omega arith) in let li : c.in-Ok-no_lists-2.ins.len ≡ length c.in-Ok-no_lists-2.ins.items = (let o = c.in-Ok-no_lists-2.ins.ok in omega arith) in
    let back_o = written_back c.in-Ok-no_lists.outs.items outs c.in-Ok-no_lists.outs.len (apart.outs_count ∙ sym (c.in-Ok-no_lists.ensures.count ∙ l)) lo in
    let back_i = written_back c.in-Ok-no_lists-2.ins.items ins c.in-Ok-no_lists-2.ins.len (apart.ins_count ∙ sym (c.in-Ok-no_lists-2.ensures.count ∙ m)) li in
    let after : List Plain = c.receive_all.new.ports in
    let got = subst (λ (z : List (Vec Out Global) × List (Vec In Global) × List Plain). ReceivedAll z.0 z.1 z.2 after) (λ i. ((c.as_mut_slice-3.ensures.value ∙ back_o) i, back_i i, c.as_mut_slice-4.ensures.value i)) c.receive_all.ensures in
    merged ports c.in-Ok.plain.items after c.in-Ok-rooms.rooms.items outs ins c.requires succ apart got
