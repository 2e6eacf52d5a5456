use Rattle.std.proofs.Common.{rules, ◌≡◌, ℕ, ◌<◌, List, map, length, get_or, sym, ap, ◌∙◌, subst, arith}
use Rattle.std.proofs.lemmas.List.{length-map}
use Rattle.std.specs.Prelude.{Option, None, IfOk}
use Rattle.fab_base.specs.declared.frames.FrameHead.{FrameHead}
use Rattle.fab_link.specs.Plain.{lane_at, fresh_lane}
use Rattle.fab_queue.specs.Ports.{Queued, IsSound}
use Rattle.fab_queue.specs.Gather.{posted_end, taken_end_of, Succeeds}
use Rattle.fab_queue.proofs.Succeeding.{all_succeeds}
use Rattle.fab_queue.proofs.port.QueuePort.successor.Goals as goal

pub overflow_cast-len : goal.overflow_cast-len
overflow_cast-len g c = let few = c.self.invariant.1.few in let l : c.len.result ≡ length c.self.inside.outs.items = search rules in omega (arith, few, l)

pub new_after-requires-clause-out : goal.new_after-requires-clause-out
new_after-requires-clause-out g c =
    let l : c.len.result ≡ length c.self.inside.outs.items = search rules in
    ap length (c.as_slice-3.ensures.value ∙ c.in_ok-posted.ensures ∙ ap (map posted_end) c.as_slice.ensures.value) ∙ length-map c.self.inside.outs.items posted_end ∙ sym l

pub new_after-requires-clause-into : goal.new_after-requires-clause-into
new_after-requires-clause-into g c =
    let l : c.len.result ≡ length c.self.inside.outs.items = search rules in
    ap length (c.as_slice-4.ensures.value ∙ c.in_ok-taken.ensures ∙ ap (map taken_end_of) c.as_slice-2.ensures.value) ∙ length-map c.self.inside.ins.items taken_end_of ∙ c.self.invariant.1.all_ins ∙ sym l

pub returns : goal.returns
returns g c =
    let p : Queued = record { number = c.self.inside.me; outs = c.self.inside.outs.items; ins = c.self.inside.ins.items; moves = c.self.inside.moves } in
    let l : c.len.result ≡ length p.outs = search rules in let new = c.new_after.ensures in let r = c.new_after.result in
    let posted : List (Option FrameHead) = c.as_slice-3.result.now in let taken : List (Option FrameHead) = c.as_slice-4.result.now in
    let posted_is : posted ≡ map posted_end p.outs = c.as_slice-3.ensures.value ∙ c.in_ok-posted.ensures ∙ ap (map posted_end) c.as_slice.ensures.value in
    let taken_is : taken ≡ map taken_end_of p.ins = c.as_slice-4.ensures.value ∙ c.in_ok-taken.ensures ∙ ap (map taken_end_of) c.as_slice-2.ensures.value in
    subst (λ (z : Queued). IfOk r (λ q. Succeeds z q × IsSound z)) c.self.view_is
    (all_succeeds p posted taken c.self.invariant.1 posted_is taken_is r new.number
    (subst (λ (n : ℕ). IfOk r (λ q. length q.lanes ≡ n)) l new.peers)
    (subst (λ (n : ℕ). IfOk r (λ q. (d : ℕ) → d < n → lane_at q d ≡ fresh_lane (get_or posted d None) (get_or taken d None))) l new.lanes)
    new.fresh)
