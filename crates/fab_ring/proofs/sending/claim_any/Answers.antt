use Rattle.std.proofs.Common.{ℕ, ◌≤◌, length, ap, ◌∙◌, subst, arith}
use Rattle.fab_table.specs.declared.kinds.Out.{Out}
use Rattle.fab_table.specs.Seats.{sat, out_of}
use Rattle.fab_ring.specs.Tries.{IsTried, IsTriedFrom}
use Rattle.fab_ring.proofs.Trying.{from_length, missed_behind, missed_before, tried_round, alone_then, out_then, hand_then, none_then, some_then}
use Rattle.fab_ring.proofs.sending.claim_any.Goals as goal

pub returns-in-Some-clause-some : goal.returns-in-Some-clause-some
returns-in-Some-clause-some c = let o : Out = out_of c.args.seat.now 0 c.args.next.now.dest in
    λ c' q there is. let got = c.claim_between-found.ensures.some c' q there (c.in-Some.is ∙ is) in
    (got.0, got.1, got.2, got.3, got.4, (let l = got.6 in let p = c.pool-pool.ensures in omega arith), got.7, missed_behind o c.min-first.result got.1 got.2 got.3 got.8 got.5, got.9)

pub claim_between-requires-clause-alone : goal.claim_between-requires-clause-alone
claim_between-requires-clause-alone c = let f = c.args.fabric.now in let s = c.args.seat.now in let d : ℕ = c.args.next.now.dest in let me : ℕ = c.args.next.now.me in let place : ℕ = c.args.next.now.place in let a = c.requires.alone in let o : Out = out_of s 0 d in
    let n = c.claim_between-found.ensures.none c.in-None.is in let same = c.claim_between-found.ensures.seat in let t = c.claim_between-found.new.seat in
    alone_then f s t me d place a c.requires.below n.1 n.2 n.0 same n.4

pub claim_between-requires-clause-idle : goal.claim_between-requires-clause-idle
claim_between-requires-clause-idle c = let f = c.args.fabric.now in let s = c.args.seat.now in let d : ℕ = c.args.next.now.dest in let me : ℕ = c.args.next.now.me in let place : ℕ = c.args.next.now.place in let a = c.requires.alone in let o : Out = out_of s 0 d in
    let n = c.claim_between-found.ensures.none c.in-None.is in let same = c.claim_between-found.ensures.seat in let t = c.claim_between-found.new.seat in
    ap (λ (z : Out). z.claim) (out_then f s t me d place a c.requires.below n.1 n.2 n.0 same n.4)

pub claim_between-requires-clause-sized : goal.claim_between-requires-clause-sized
claim_between-requires-clause-sized c = let f = c.args.fabric.now in let s = c.args.seat.now in let d : ℕ = c.args.next.now.dest in let me : ℕ = c.args.next.now.me in let place : ℕ = c.args.next.now.place in let a = c.requires.alone in let o : Out = out_of s 0 d in
    let n = c.claim_between-found.ensures.none c.in-None.is in let same = c.claim_between-found.ensures.seat in let t = c.claim_between-found.new.seat in
    ap (λ (z : Out). length z.tried) (out_then f s t me d place a c.requires.below n.1 n.2 n.0 same n.4) ∙ from_length o c.min-first.result c.pool-pool.result n.1 n.2 n.3 ∙ c.requires.sized

pub claim_between-requires-clause-hand : goal.claim_between-requires-clause-hand
claim_between-requires-clause-hand c = let f = c.args.fabric.now in let s = c.args.seat.now in let d : ℕ = c.args.next.now.dest in let me : ℕ = c.args.next.now.me in let place : ℕ = c.args.next.now.place in let a = c.requires.alone in let o : Out = out_of s 0 d in
    let n = c.claim_between-found.ensures.none c.in-None.is in let same = c.claim_between-found.ensures.seat in let t = c.claim_between-found.new.seat in
    (n.0, hand_then f s t me d place a c.requires.below n.1 n.2 n.0 same n.4)

pub returns-in-None-clause-none : goal.returns-in-None-clause-none
returns-in-None-clause-none c = let f = c.args.fabric.now in let s = c.args.seat.now in let d : ℕ = c.args.next.now.dest in let me : ℕ = c.args.next.now.me in let place : ℕ = c.args.next.now.place in let a = c.requires.alone in let o : Out = out_of s 0 d in
    let n = c.claim_between-found.ensures.none c.in-None.is in let same = c.claim_between-found.ensures.seat in let t = c.claim_between-found.new.seat in
    λ is. let m = c.claim_between.ensures.none is in let low : c.min-first.result ≤ c.pool-pool.result = (let e = c.min-first.ensures in omega arith) in (
      m.0,
      m.1,
      m.2,
      subst (λ (z : ℕ). IsTried o z m.1 m.2) c.pool-pool.ensures (tried_round o c.min-first.result c.pool-pool.result n.1 m.1 n.2 m.2 o.writing n.3 (subst (λ (z : Out). IsTriedFrom z 0 c.min-first.result m.1 m.2) (out_then f s t me d place a c.requires.below n.1 n.2 n.0 same n.4) m.3) low),
      none_then f s t me d place a c.requires.below n.1 n.2 n.0 same n.4 (sat c.claim_between.new.seat) m.1 m.2 m.0 m.4,
    )

pub returns-in-None-clause-some : goal.returns-in-None-clause-some
returns-in-None-clause-some c = let f = c.args.fabric.now in let s = c.args.seat.now in let d : ℕ = c.args.next.now.dest in let me : ℕ = c.args.next.now.me in let place : ℕ = c.args.next.now.place in let a = c.requires.alone in let o : Out = out_of s 0 d in
    let n = c.claim_between-found.ensures.none c.in-None.is in let same = c.claim_between-found.ensures.seat in let t = c.claim_between-found.new.seat in
    λ c' q there is. let got = c.claim_between.ensures.some n.0 q (hand_then f s t me d place a c.requires.below n.1 n.2 n.0 same n.4) is in (
      got.0,
      got.1,
      got.2,
      got.3,
      got.4,
      (let l = got.6 in let e = c.min-first.ensures in let p = c.pool-pool.ensures in omega arith),
      got.7,
      missed_before o c.min-first.result c.pool-pool.result got.1 n.1 got.2 n.2 got.3 o.writing n.3 (subst (λ (z : Out). IsTriedFrom z 0 got.1 got.2 got.3) (out_then f s t me d place a c.requires.below n.1 n.2 n.0 same n.4) got.8) got.6,
      some_then f s t me d place a c.requires.below n.1 n.2 n.0 same n.4 (sat c.claim_between.new.seat) got.2 got.0 got.3 q n.0 c' (n.5 c' q there) got.9,
    )
