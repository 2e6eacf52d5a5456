use Rattle.std.proofs.Common.{◌≡◌, ℕ, List, [], ◌∷◌, ◌++◌, length, sym, ap, ◌∙◌, subst, arith, length-append, append-nil, append_assoc}
use Rattle.fab_table.specs.Seats.{view_of_seat}
use Rattle.fab_table.specs.declared.kinds.View.{View}
use Rattle.fab_ring.specs.declared.port.RingPort.{RingPort}
use Rattle.fab_ring.proofs.Releasing.{Joining, joining_one, joining_more, whole_joined, get_last}
use Rattle.fab_ring.proofs.joining.join_all.Goals as goal

pub loop-port-init : goal.loop-port-init
loop-port-init c = let all = c.requires in let p = c.in-Some.last in let d = c.into_parts-fabric.ensures in let rest : List RingPort = c.pop.new.self.items in
    let whole : c.args.ports.items ≡ rest ++ p ∷ [] = c.in-Some.ensures.items in let there = get_last rest [] c.args.ports.items p (append-nil (rest ++ p ∷ []) ∙ sym whole) in record {
      rest = (p ∷ [], sym whole);
      table = λ f a. d.table ∙ a.tables (length rest) p there;
      of = λ f a. d.of ∙ ap (λ z. z.table.shared.table_id) (a.tables (length rest) p there);
      hand = d.hand;
      joined = joining_one c.args.ports.items (length rest) (view_of_seat c.into_parts-fabric.result.1) p (sym (ap length whole ∙ length-append rest (p ∷ []))) there d.one d.part;
    }

pub join-requires : goal.join-requires
join-requires c = let i = c.loop-port.invariant in let all = c.requires in let p = c.in-Some-pop.port in let d = c.into_parts-table.ensures in let rest : List RingPort = c.pop-in-loop-port.new.self.items in
    let before : c.loop-port.ports.items ≡ rest ++ p ∷ [] = c.in-Some-pop.ensures.items in let there = get_last rest i.rest.0 c.args.ports.items p (ap (λ (z : List RingPort). z ++ i.rest.0) (sym before) ∙ i.rest.1) in
    let same = ap (λ z. z.table.shared.table_id) (sym (c.deref.ensures ∙ i.table all.0 all.1)) in
    (d.of ∙ ap (λ z. z.table.shared.table_id) (all.1.tables (length rest) p there) ∙ same, i.of all.0 all.1 ∙ same, i.hand)

pub loop-port-preserved : goal.loop-port-preserved
loop-port-preserved c = let i = c.loop-port.invariant in let all = c.requires in let p = c.in-Some-pop.port in let d = c.into_parts-table.ensures in let rest : List RingPort = c.pop-in-loop-port.new.self.items in
    let before : c.loop-port.ports.items ≡ rest ++ p ∷ [] = c.in-Some-pop.ensures.items in let whole = ap (λ (z : List RingPort). z ++ i.rest.0) (sym before) ∙ i.rest.1 in let there = get_last rest i.rest.0 c.args.ports.items p whole in
    let after = c.join.ensures.1 in record {
      rest = (p ∷ i.rest.0, sym (append_assoc rest (p ∷ []) i.rest.0) ∙ whole);
      table = i.table;
      of = λ f a. c.join.ensures.0.0 ∙ d.of ∙ ap (λ z. z.table.shared.table_id) (a.tables (length rest) p there);
      hand = ap (λ m. m.1) after ∙ d.hand;
      joined = subst (λ (v : View). Joining c.args.ports.items (length rest) v) (sym (ap (λ m. m.0) after))
          (joining_more c.args.ports.items (length rest) (view_of_seat c.into_parts-table.result.1) (view_of_seat c.loop-port.seat) p there d.one d.part
          (subst (λ (n : ℕ). Joining c.args.ports.items n (view_of_seat c.loop-port.seat)) (ap length before ∙ length-append rest (p ∷ [])) i.joined));
    }

pub returns-clause-whole : goal.returns-clause-whole
returns-clause-whole c = let i = c.loop-port.invariant in λ f a. whole_joined f c.args.ports.items c.loop-port.seat a (i.of f a) i.hand
    (subst (λ (n : ℕ). Joining c.args.ports.items n (view_of_seat c.loop-port.seat)) (let e = (c.in_default-pop.ensures {u = tt}).cases in let o = c.loop-port.ports.ok in omega arith) i.joined)
