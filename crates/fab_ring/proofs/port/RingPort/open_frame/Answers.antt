use Rattle.std.proofs.Common.{◌≡◌, ℕ, ◌<◌, ◌≤◌, [], length, take, get_or, sym, ap, ◌∙◌, subst, arith}
use Rattle.std.specs.Prelude.{Some, None}
use Rattle.std.proofs.lemmas.Option.{slice_get-get_or}
use Rattle.std.specs.Arc.{arc_value}
use Rattle.fab_table.specs.declared.kinds.Command.{Command}
use Rattle.fab_table.specs.declared.kinds.Sent.{Sent}
use Rattle.fab_table.specs.declared.kinds.In.{In}
use Rattle.fab_table.specs.declared.kinds.Part.{Part}
use Rattle.fab_table.specs.Views.{part_at, in_at}
use Rattle.fab_ring.proofs.Facts.{comes_now}
use Rattle.std.proofs.Common.{length-take-le}
use Rattle.std.proofs.lemmas.List.{get_or_default as get_any}
use Rattle.fab_base.proofs.Options.{some_there as something, not_some as no_slot}
use Rattle.fab_link.specs.Frames.{frame}
use Rattle.fab_ring.specs.Ports.{frame_in}
use Rattle.fab_ring.proofs.port.RingPort.open_frame.Goals as goal

pub shared_ref_as_front-result : goal.shared_ref_as_front-result
shared_ref_as_front-result c = let q = c.args.self.now in let f = arc_value q.fabric in let s : ℕ = c.args.src in let near : s < f.peers = c.requires.0 in let p : Part = part_at q.seat.seat.me.0 0 in let u : In = in_at p s in
    let o = something u.opened c.requires.1 in let x : Sent = o.0 in let cmd : Command = c.index-command.result.now in
    let there = slice_get-get_or q.commands.items s cmd (subst (λ (z : ℕ). s < z) (sym q.told.all_commands) near) ∙ (λ i. Some (sym c.index-command.ensures i)) in let tells = q.told.says s cmd x there o.1 in let says = tells.1 in
    let none_named : x.slot ≡ None = sym says.1 ∙ no_slot cmd.slot (c.if-is_none.ensures {u = tt}) in
    subst (λ (z : ℕ). z ≤ 64) (ap (λ t. t.len) (sym says.2)) (tells.0 none_named)

pub returns-then-is_none : goal.returns-then-is_none
returns-then-is_none c = let q = c.args.self.now in let f = arc_value q.fabric in let s : ℕ = c.args.src in let near : s < f.peers = c.requires.0 in let p : Part = part_at q.seat.seat.me.0 0 in let u : In = in_at p s in
    let o = something u.opened c.requires.1 in let x : Sent = o.0 in let cmd : Command = c.index-command.result.now in
    let there = slice_get-get_or q.commands.items s cmd (subst (λ (z : ℕ). s < z) (sym q.told.all_commands) near) ∙ (λ i. Some (sym c.index-command.ensures i)) in let tells = q.told.says s cmd x there o.1 in let says = tells.1 in
    let none_named : x.slot ≡ None = sym says.1 ∙ no_slot cmd.slot (c.if-is_none.ensures {u = tt}) in
    record { lent = (λ i. Some (frame (says.2 i) (says.3 none_named i))) ∙ sym (ap frame_in o.1) }

pub slice_bounds-result-end-2 : goal.slice_bounds-result-end-2
slice_bounds-result-end-2 c = let q = c.args.self.now in let f = arc_value q.fabric in let s : ℕ = c.args.src in let near : s < f.peers = c.requires.0 in let p : Part = part_at q.seat.seat.me.0 0 in let u : In = in_at p s in
    let o = something u.opened c.requires.1 in let x : Sent = o.0 in let cmd : Command = c.index-command.result.now in
    let there = slice_get-get_or q.commands.items s cmd (subst (λ (z : ℕ). s < z) (sym q.told.all_commands) near) ∙ (λ i. Some (sym c.index-command.ensures i)) in let tells = q.told.says s cmd x there o.1 in let says = tells.1 in
    let some_named = something cmd.slot (c.if-is_none.ensures {u = tt}) in let k : ℕ = some_named.0 in let fills = tells.2 k (sym says.1 ∙ some_named.1) in
    let buffer : c.as_slice-buffer.result.now ≡ get_or q.buffers.items s [] = c.as_slice-buffer.ensures ∙ c.index.ensures ∙ get_any q.buffers.items s c.index.result.now [] (subst (λ (z : ℕ). s < z) (sym q.told.all_buffers) near) in
    let few = (comes_now p q.comes s x o.1).0.1 in let len : cmd.head.len ≡ x.frame.head.len = ap (λ t. t.len) says.2 in let sized : length c.as_slice-buffer.result.now ≡ 4096 = ap length buffer ∙ q.told.sizes s near in
    sym (length-take-le cmd.head.len c.as_slice-buffer.result.now (omega arith))

pub returns : goal.returns
returns c = let q = c.args.self.now in let f = arc_value q.fabric in let s : ℕ = c.args.src in let near : s < f.peers = c.requires.0 in let p : Part = part_at q.seat.seat.me.0 0 in let u : In = in_at p s in
    let o = something u.opened c.requires.1 in let x : Sent = o.0 in let cmd : Command = c.index-command.result.now in
    let there = slice_get-get_or q.commands.items s cmd (subst (λ (z : ℕ). s < z) (sym q.told.all_commands) near) ∙ (λ i. Some (sym c.index-command.ensures i)) in let tells = q.told.says s cmd x there o.1 in let says = tells.1 in
    let some_named = something cmd.slot (c.if-is_none.ensures {u = tt}) in let k : ℕ = some_named.0 in let fills = tells.2 k (sym says.1 ∙ some_named.1) in
    let buffer : c.as_slice-buffer.result.now ≡ get_or q.buffers.items s [] = c.as_slice-buffer.ensures ∙ c.index.ensures ∙ get_any q.buffers.items s c.index.result.now [] (subst (λ (z : ℕ). s < z) (sym q.told.all_buffers) near) in
    record { lent = (λ i. Some (frame (says.2 i) (take (says.2 i).len (buffer i)))) ∙ (λ i. Some (frame x.frame.head (fills.1 i))) ∙ sym (ap frame_in o.1) }
