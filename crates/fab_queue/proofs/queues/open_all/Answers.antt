use Rattle.std.proofs.Common.{◌≡◌, ℕ, ◌<◌, List, length, sym, subst, ap, ◌∙◌, rules, arith}
use Rattle.std.specs.Prelude.{Vec}
use Rattle.std.specs.declared.alloc.Global.{Global}
use Rattle.fab_queue.specs.Ends.{Out, In}
use Rattle.fab_queue.specs.Made.{AreEmpty, AreOpened}
use Rattle.fab_queue.proofs.Opening.{opened_more, empty_ends, made}
use Rattle.fab_queue.proofs.Members.{members_at}
use Rattle.fab_queue.proofs.queues.open_all.Goals as goal

pub open-requires-clause-count : goal.open-requires-clause-count
open-requires-clause-count g c =
    let laid = c.requires.1 in let k = c.loop-me.invariant in let me : ℕ = c.loop-me.me in
    let near : me < c.args.peers = search rules in
    let near_out : me < length c.loop-me.outs.items = subst (λ (n : ℕ). me < n) (sym (k.outs_count ∙ laid.rows)) near in
    let near_in : me < length c.loop-me.ins.items = subst (λ (n : ℕ). me < n) (sym (k.ins_count ∙ laid.columns)) near in
    let eo = ap (λ (v : Vec Out Global). v.items) c.replace-own_outs.ensures.value ∙ members_at c.loop-me.outs.items _ _ me near_out c.index_mut.ensures.value ∙ k.outs_left me (omega arith) in
    let ei = ap (λ (v : Vec In Global). v.items) c.replace-own_ins.ensures.value ∙ members_at c.loop-me.ins.items _ _ me near_in c.index_mut-in-loop-me.ensures.value ∙ k.ins_left me (omega arith) in
    let long = ap length eo ∙ laid.each_row me near in
    let few : c.args.peers < 4294967296 = search rules in
    (ap length ei ∙ laid.each_column me near ∙ sym long, subst (λ (n : ℕ). n < 4294967296) (sym long) few)

pub open-requires-clause-empty : goal.open-requires-clause-empty
open-requires-clause-empty g c =
    let laid = c.requires.1 in let k = c.loop-me.invariant in let me : ℕ = c.loop-me.me in
    let near : me < c.args.peers = search rules in
    let near_out : me < length c.loop-me.outs.items = subst (λ (n : ℕ). me < n) (sym (k.outs_count ∙ laid.rows)) near in
    let near_in : me < length c.loop-me.ins.items = subst (λ (n : ℕ). me < n) (sym (k.ins_count ∙ laid.columns)) near in
    let eo = ap (λ (v : Vec Out Global). v.items) c.replace-own_outs.ensures.value ∙ members_at c.loop-me.outs.items _ _ me near_out c.index_mut.ensures.value ∙ k.outs_left me (omega arith) in
    let ei = ap (λ (v : Vec In Global). v.items) c.replace-own_ins.ensures.value ∙ members_at c.loop-me.ins.items _ _ me near_in c.index_mut-in-loop-me.ensures.value ∙ k.ins_left me (omega arith) in
    subst (λ (z : List Out × List In). AreEmpty z.0 z.1) (λ i. (sym eo i, sym ei i)) (empty_ends _ _ _ _ laid me near)

pub loop-me-preserved : goal.loop-me-preserved
loop-me-preserved g c =
    let laid = c.requires.1 in let k = c.loop-me.invariant in let me : ℕ = c.loop-me.me in
    let near : me < c.args.peers = search rules in
    let near_out : me < length c.loop-me.outs.items = subst (λ (n : ℕ). me < n) (sym (k.outs_count ∙ laid.rows)) near in
    let near_in : me < length c.loop-me.ins.items = subst (λ (n : ℕ). me < n) (sym (k.ins_count ∙ laid.columns)) near in
    let eo = ap (λ (v : Vec Out Global). v.items) c.replace-own_outs.ensures.value ∙ members_at c.loop-me.outs.items _ _ me near_out c.index_mut.ensures.value in
    let ei = ap (λ (v : Vec In Global). v.items) c.replace-own_ins.ensures.value ∙ members_at c.loop-me.ins.items _ _ me near_in c.index_mut-in-loop-me.ensures.value in
    rw c.in_ok-push.ensures.items (opened_more c.args.outs.items c.loop-me.outs.items c.args.ins.items c.loop-me.ins.items c.loop-me.all.items me c.replace-own_outs.result _ c.replace-own_ins.result _ c.in_ok-port.port k eo ei c.in_ok-port.ensures)

pub returns : goal.returns
returns g c =
    λ room laid. let at : c.loop-me.me ≡ c.args.peers = omega (arith, c.loop-me-test.false, c.loop-me.auto.me-end) in
    made room c.args.peers c.args.outs.items c.args.ins.items laid c.loop-me.outs.items c.loop-me.ins.items c.loop-me.all.items
    (subst (λ (n : ℕ). AreOpened c.args.outs.items c.loop-me.outs.items c.args.ins.items c.loop-me.ins.items c.loop-me.all.items n) at c.loop-me.invariant)
