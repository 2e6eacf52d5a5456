use Rattle.std.proofs.Common.{◌≡◌, ◌++◌, ◌∷◌, [], ap, ◌∙◌, rules, arith}
use Rattle.std.specs.Prelude.{vec_capacity}
use Rattle.fab_queue.specs.declared.lane.Log.{Log}
use Rattle.fab_queue.proofs.Lanes.{gets, inside}
use Rattle.fab_queue.proofs.Draining.{emptying_starts, emptying_goes_on, emptying_wider, has_room, fewer, emptied}
use Rattle.fab_queue.proofs.emptying.empty_lane.Goals as goal

pub len_as-count-requires-clause-rule : goal.len_as-count-requires-clause-rule
len_as-count-requires-clause-rule g c = inside _ _ c.requires.whole.1

pub loop-sent-init : goal.loop-sent-init
loop-sent-init g c = let l = c.len_as-count.ensures in (l.queue.0, emptying_starts _ _ _ c.len_as-count.result _ _ c.requires.whole.0 c.requires.whole.1 l.queue.1 l.rule.0 l.rule.1 c.requires.room)

pub pop_as-requires-clause-rule : goal.pop_as-requires-clause-rule
pop_as-requires-clause-rule g c = let may = c.loop-sent.invariant.1.gets in (gets _ _ may, inside _ _ may)

pub unwrap-requires : goal.unwrap-requires
unwrap-requires g c =
    let one = (c.in-Some.ensures {u = tt}).rule in
    let near = has_room _ _ _ _ c.loop-sent.frames.items (vec_capacity c.loop-sent.frames) c.in-Some.sent c.loop-sent.invariant.1 one in
    c.push.ensures.succeeds (let o = c.loop-sent.frames.ok in omega (arith, near))

pub loop-sent-smaller : goal.loop-sent-smaller
loop-sent-smaller g c = fewer _ _ c.in-Some.sent c.loop-sent.invariant.1.puts (c.in-Some.ensures {u = tt}).rule

pub loop-sent-preserved : goal.loop-sent-preserved
loop-sent-preserved g c =
    let one = (c.in-Some.ensures {u = tt}).rule in
    let same = (c.in-Some.ensures {u = tt}).queue in
    let before = c.loop-sent.invariant.0 in
    let grown : c.push.new.self.items ≡ c.loop-sent.frames.items ++ c.in-Some.sent.frame ∷ [] = search rules in (
      (same.0 ∙ before.0, same.1 ∙ before.1, same.2 ∙ before.2),
      rw grown (emptying_wider _ _ _ _ _ _ c.push.ensures.capacity (emptying_goes_on _ _ _ _ c.loop-sent.frames.items (vec_capacity c.loop-sent.frames) c.in-Some.sent c.loop-sent.invariant.1 one)),
    )

pub returns-clause-pass : goal.returns-clause-pass
returns-clause-pass g c = let same = (c.in_default.ensures {u = tt}).queue in let before = c.loop-sent.invariant.0 in (same.0 ∙ before.0, same.1 ∙ before.1, same.2 ∙ before.2)

pub returns-clause-puts : goal.returns-clause-puts
returns-clause-puts g c = let i = c.loop-sent.invariant.1 in let is = (c.in_default.ensures {u = tt}).rule.0 in (ap (λ (u : Log). u.puts) is ∙ i.puts, ap (λ (u : Log). u.put) is ∙ i.same)

pub returns-clause-inside : goal.returns-clause-inside
returns-clause-inside g c = emptied _ _ _ _ _ c.loop-sent.invariant.1 (c.in_default.ensures {u = tt}).rule.1
