use Rattle.std.proofs.Common.{rules, ◌≡◌, ℕ, ◌<◌, [], ◌∷◌, length, get_or, set, sym, ap, ◌∙◌, subst, arith, length-append}
use Rattle.std.specs.Prelude.{Some, slice_get}
use Rattle.std.proofs.lemmas.Option.{slice_get-get_or}
use Rattle.fab_link.specs.Plain.{Plain}
use Rattle.fab_queue.proofs.Receiving.{ReceivingAll, receiving_all_starts, received_all, all_near, may_receive, all_goes_on}
use Rattle.fab_queue.proofs.emptying.receive_all.Goals as goal

pub loop-own-init : goal.loop-own-init
loop-own-init g c = receiving_all_starts _ _ _ _ c.requires

pub unreachable-requires : goal.unreachable-requires
unreachable-requires g c =
    let k = c.loop-own.invariant in let last = ap length c.in-Some.ensures.items ∙ length-append c.pop.new.self.items (c.in-Some.own ∷ []) in
    let none = (c.in_default-pop.ensures {u = tt}).cases in let o = c.loop-own.rooms.ok in let even = k.even in absurd (omega arith)

pub bounds-ports-reader : goal.bounds-ports-reader
bounds-ports-reader g c =
    let at : c.len-reader.result ≡ length c.pop.new.self.items = search rules in
    subst (λ (n : ℕ). n < length c.loop-own.ports) (sym at) (all_near _ _ _ _ _ _ _ _ _ _ _ _ c.requires c.loop-own.invariant c.in-Some.ensures.items c.in-Some-pop.ensures.items)

pub receive-requires : goal.receive-requires
receive-requires g c =
    let at : c.len-reader.result ≡ length c.pop.new.self.items = search rules in
    let near = all_near _ _ _ _ _ _ _ _ _ _ _ _ c.requires c.loop-own.invariant c.in-Some.ensures.items c.in-Some-pop.ensures.items in
    let p : Plain = get_or c.loop-own.ports c.len-reader.result c.index-ports-reader.result in
    let here : slice_get c.loop-own.ports (length c.pop.new.self.items) ≡ Some p = slice_get-get_or c.loop-own.ports (length c.pop.new.self.items) c.index-ports-reader.result near ∙ (λ k. Some (get_or c.loop-own.ports (sym at k) c.index-ports-reader.result)) in
    may_receive _ _ _ _ _ _ _ _ _ _ _ _ c.requires c.loop-own.invariant c.in-Some.ensures.items c.in-Some-pop.ensures.items p here

pub loop-own-preserved : goal.loop-own-preserved
loop-own-preserved g c =
    let at : c.len-reader.result ≡ length c.pop.new.self.items = search rules in
    let near = all_near _ _ _ _ _ _ _ _ _ _ _ _ c.requires c.loop-own.invariant c.in-Some.ensures.items c.in-Some-pop.ensures.items in
    let p : Plain = get_or c.loop-own.ports c.len-reader.result c.index-ports-reader.result in
    let here : slice_get c.loop-own.ports (length c.pop.new.self.items) ≡ Some p = slice_get-get_or c.loop-own.ports (length c.pop.new.self.items) c.index-ports-reader.result near ∙ (λ k. Some (get_or c.loop-own.ports (sym at k) c.index-ports-reader.result)) in
    subst (λ (n : ℕ). ReceivingAll c.args.outs.now c.receive.new.outs c.args.ins.items c.pop.new.self.items c.args.rooms.items c.pop-in-Some.new.self.items c.args.ports.now (set c.loop-own.ports n c.receive.new.port)) (sym at)
    (all_goes_on _ _ _ _ _ _ _ _ _ _ _ _ c.requires c.loop-own.invariant c.in-Some.ensures.items c.in-Some-pop.ensures.items c.receive.new.outs p c.receive.new.port c.receive.ensures.outs.0 c.receive.ensures.outs.1 here c.receive.ensures.received)

pub returns : goal.returns
returns g c = let none : length c.loop-own.ins.items ≡ 0 = (let e = (c.in_default.ensures {u = tt}).cases in let o = c.loop-own.ins.ok in omega arith) in received_all _ _ _ _ _ _ _ _ c.loop-own.invariant none
