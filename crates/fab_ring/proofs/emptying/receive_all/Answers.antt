use Rattle.std.proofs.Common.{rules, ◌≡◌, ℕ, ◌<◌, Vec, Global, List, [], ◌∷◌, ◌++◌, length, get_or, sym, refl, ap, ◌∙◌, subst, arith, append-nil, length-set}
use mathlib.Core.Logic.{dite}
use native.Mathlib.Decide.{ℕ_discrete}
use Rattle.std.specs.Prelude.{Some, slice_get, slice_set}
use Rattle.std.proofs.lemmas.Option.{same_Some, slice_get_within, slice_get-get_or}
use Rattle.fab_base.proofs.Lists.{get_set_same, get_set_other}
use Rattle.fab_link.specs.Plain.{Plain}
use Rattle.fab_table.specs.Seats.{part_of}
use Rattle.fab_ring.specs.declared.rooms.Inside.{Inside}
use Rattle.fab_ring.specs.Gather.{Brought}
use Rattle.fab_ring.proofs.Coming.{prefix_less, awaits_each_later, brought_from, brought_later}
use Rattle.fab_ring.proofs.emptying.receive_all.Goals as goal

pub loop-own-init : goal.loop-own-init
loop-own-init c = record {
  same = (refl, refl);
  joined = c.requires.joined;
  left = ([], append-nil c.args.rooms.items);
  count = refl;
  outs = λ k. refl;
  later = λ k low. refl;
  kept = λ r low. refl;
  done = λ r p q w far a b there. absurd (let low = slice_get_within c.args.rooms.items r w there in omega arith);
}

pub receive-requires-clause-port : goal.receive-requires-clause-port
receive-requires-clause-port c =
    let i = c.loop-own.invariant in let s = c.args.seat.now in let t = c.loop-own.seat in let rest : List (Vec Inside Global) = c.pop.new.self.items in let r : ℕ = length rest in let w : Vec Inside Global = c.in-Some.own in
    let popped : c.loop-own.rooms.items ≡ rest ++ w ∷ [] = c.in-Some.ensures.items in let less = prefix_less rest c.loop-own.rooms.items c.args.rooms.items w popped i.left in
    let at : c.len-reader.result ≡ r = search rules in let low : r < length c.loop-own.ports = (let l = slice_get_within c.args.rooms.items r w less.0 in let a = c.requires.awaits.count in let b = c.requires.awaits.ports in let d = i.count in omega arith) in
    let p : Plain = get_or c.loop-own.ports c.len-reader.result c.index-ports-reader.result in let here : slice_get c.loop-own.ports r ≡ Some p = slice_get-get_or c.loop-own.ports r c.index-ports-reader.result low ∙ (λ k. Some (get_or c.loop-own.ports (sym at k) c.index-ports-reader.result)) in
    let there : slice_get c.args.ports.now r ≡ Some p = sym (i.kept r (let l = less.2 in omega arith)) ∙ here in let numbers = c.requires.awaits.numbers r p there in let same_part : part_of t p.number ≡ part_of s p.number = subst (λ (z : ℕ). part_of t z ≡ part_of s z) (sym numbers.0) (i.later r (let l = less.2 in omega arith)) in
    (subst (λ (z : ℕ). z < c.args.fabric.now.peers) (sym numbers.0) (let b = c.requires.awaits.ports in let l = slice_get_within c.args.ports.now r p there in omega arith), numbers.1)

pub receive-requires-clause-awaits : goal.receive-requires-clause-awaits
receive-requires-clause-awaits c =
    let i = c.loop-own.invariant in let s = c.args.seat.now in let t = c.loop-own.seat in let rest : List (Vec Inside Global) = c.pop.new.self.items in let r : ℕ = length rest in let w : Vec Inside Global = c.in-Some.own in
    let popped : c.loop-own.rooms.items ≡ rest ++ w ∷ [] = c.in-Some.ensures.items in let less = prefix_less rest c.loop-own.rooms.items c.args.rooms.items w popped i.left in
    let at : c.len-reader.result ≡ r = search rules in let low : r < length c.loop-own.ports = (let l = slice_get_within c.args.rooms.items r w less.0 in let a = c.requires.awaits.count in let b = c.requires.awaits.ports in let d = i.count in omega arith) in
    let p : Plain = get_or c.loop-own.ports c.len-reader.result c.index-ports-reader.result in let here : slice_get c.loop-own.ports r ≡ Some p = slice_get-get_or c.loop-own.ports r c.index-ports-reader.result low ∙ (λ k. Some (get_or c.loop-own.ports (sym at k) c.index-ports-reader.result)) in
    let there : slice_get c.args.ports.now r ≡ Some p = sym (i.kept r (let l = less.2 in omega arith)) ∙ here in let numbers = c.requires.awaits.numbers r p there in let same_part : part_of t p.number ≡ part_of s p.number = subst (λ (z : ℕ). part_of t z ≡ part_of s z) (sym numbers.0) (i.later r (let l = less.2 in omega arith)) in
    awaits_each_later s t p w.items (c.requires.awaits.each r p w there less.0) same_part i.outs

pub loop-own-preserved : goal.loop-own-preserved
loop-own-preserved c =
    let i = c.loop-own.invariant in let s = c.args.seat.now in let t = c.loop-own.seat in let rest : List (Vec Inside Global) = c.pop.new.self.items in let r : ℕ = length rest in let w : Vec Inside Global = c.in-Some.own in
    let popped : c.loop-own.rooms.items ≡ rest ++ w ∷ [] = c.in-Some.ensures.items in let less = prefix_less rest c.loop-own.rooms.items c.args.rooms.items w popped i.left in
    let at : c.len-reader.result ≡ r = search rules in let low : r < length c.loop-own.ports = (let l = slice_get_within c.args.rooms.items r w less.0 in let a = c.requires.awaits.count in let b = c.requires.awaits.ports in let d = i.count in omega arith) in
    let p : Plain = get_or c.loop-own.ports c.len-reader.result c.index-ports-reader.result in let here : slice_get c.loop-own.ports r ≡ Some p = slice_get-get_or c.loop-own.ports r c.index-ports-reader.result low ∙ (λ k. Some (get_or c.loop-own.ports (sym at k) c.index-ports-reader.result)) in
    let there : slice_get c.args.ports.now r ≡ Some p = sym (i.kept r (let l = less.2 in omega arith)) ∙ here in let numbers = c.requires.awaits.numbers r p there in let same_part : part_of t p.number ≡ part_of s p.number = subst (λ (z : ℕ). part_of t z ≡ part_of s z) (sym numbers.0) (i.later r (let l = less.2 in omega arith)) in
    let u = c.receive.new.seat in let q : Plain = c.receive.new.port in let got = c.receive.ensures.received in let ports : List Plain = slice_set c.loop-own.ports c.len-reader.result q in
    let ports_are : ports ≡ slice_set c.loop-own.ports r q = λ k. slice_set c.loop-own.ports (at k) q in
    record {
      same = (c.receive.ensures.seat.0 ∙ i.same.0, c.receive.ensures.seat.1 ∙ i.same.1);
      joined = c.receive.ensures.joined;
      left = less.1;
      count = length-set c.loop-own.ports c.len-reader.result q ∙ i.count;
      outs = λ k. got.outs k ∙ i.outs k;
      later = λ k before. got.rest k (λ same. let num = numbers.0 in omega arith) ∙ i.later k (let l = less.2 in omega arith);
      kept = λ k before. ap (λ (z : List Plain). slice_get z k) ports_are ∙ get_set_other c.loop-own.ports r k q (λ same. omega arith) ∙ i.kept k (let l = less.2 in omega arith);
      done = λ k a b v far is_a is_b is_v. dite (ℕ_discrete k r)
          (λ same. let as_p : p ≡ a = same_Some p a (sym there ∙ ap (slice_get c.args.ports.now) (sym same) ∙ is_a) in let as_q : q ≡ b = get_set_same c.loop-own.ports r q b (ap (λ (z : List Plain). slice_get z r) (sym ports_are) ∙ ap (slice_get ports) (sym same) ∙ is_b) in
          let as_w : w ≡ v = same_Some w v (sym less.0 ∙ ap (slice_get c.args.rooms.items) (sym same) ∙ is_v) in
          subst (λ (z : Plain × Plain × Vec Inside Global). Brought s u z.0 z.1 z.2.items) (λ j. (as_p j, as_q j, as_w j)) (brought_from s t u p q w.items got.port same_part))
          (λ ne. let was = sym (get_set_other c.loop-own.ports r k q ne) ∙ ap (λ (z : List Plain). slice_get z k) (sym ports_are) ∙ is_b in let num = (c.requires.awaits.numbers k a is_a).0 in
          brought_later s t u a b v.items (i.done k a b v (let l = less.2 in omega arith) is_a was is_v) (got.rest a.number (λ same. ne (sym num ∙ same ∙ numbers.0))) got.outs);
    }

pub returns-clause-received : goal.returns-clause-received
returns-clause-received c = let i = c.loop-own.invariant in let none : length c.loop-own.rooms.items ≡ 0 = (let e = (c.in_default.ensures {u = tt}).cases in let o = c.loop-own.rooms.ok in omega arith) in record {
  count = i.count;
  outs = i.outs;
  each = λ r p q w a b d. i.done r p q w (omega arith) a b d;
}
