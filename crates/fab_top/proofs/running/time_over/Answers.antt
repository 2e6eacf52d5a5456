use Rattle.std.proofs.Common.{◌≡◌, ◌<◌, ◌+◌, ◌^◌, ℕ, List, map, inl, inr, ap, ◌∙◌, arith}
use Rattle.fab_model.specs.Replay.{all_done}
use Rattle.fab_finish.specs.Joined.{Member, member_actor}
use Rattle.fab_outside.specs.Outside.{Next}
use Rattle.fab_top.proofs.Telling.{comes_to_rest}
use Rattle.fab_top.proofs.running.time_over.Goals as goal

pub returns-clause-rests : goal.returns-clause-rests
returns-clause-rests g c =
    let e = c.in_ok-peers.ensures in
    comes_to_rest c.args.bound.now c.in_ok-peers.peers.items _ e.reached e.rest (c.all_done.ensures ∙ ap (λ (xs : List Member). all_done (map member_actor xs)) c.deref.ensures.value)

-- a count that is far from its end rises
rises : (old new : ℕ) → old + 1 < 2 ^ 64 → Next old new → new ≡ old + 1
rises old new less next = elim next [
  | inl is ↦ is
  | inr past ↦ (let end = past.0 in absurd (omega (arith, less, end)))
]

pub returns-clause-moments : goal.returns-clause-moments
returns-clause-moments g c =
    let none = c.requires.new in
    let before = c.now-before.ensures in
    let after = c.now-after.ensures in
    let given = g.C.Clock.given in
    let first : given c.now-before.new.self ≡ 1 = (let up = rises _ _ (omega (arith, none)) before.given in omega (arith, up, none)) in
    let second : given c.now-after.new.self ≡ 2 = (let up = rises _ _ (omega (arith, first)) after.given in omega (arith, up, first)) in
    (second, after.later (omega (arith, first)) ∙ before.first none, after.last)

pub run_ready-requires-clause-log : goal.run_ready-requires-clause-log
run_ready-requires-clause-log g c κs live = c.requires.sized.log

pub run_ready-requires-clause-peers : goal.run_ready-requires-clause-peers
run_ready-requires-clause-peers g c κs live = c.requires.sized.peers.1
