use Rattle.std.proofs.Common.{◌≡◌, ◌∙◌, sym, ap, subst, length, arith}
use Rattle.fab_base.specs.declared.items.Outcome.TheVariants.{Done}
use Rattle.fab_atomics.specs.Operands.{compare_len, operand_len}
use Rattle.fab_rma.specs.Serving.{Serving, outcome_at}
use Rattle.fab_rma.proofs.Performing.{atomic_done, cut, is_there, not_found, part_len, reached_within, served}
use Rattle.fab_rma.proofs.target.Target.change.Goals as goal

pub unreachable-requires : goal.unreachable-requires
unreachable-requires c =
    let done : outcome_at c.self.inside.regions c.args.head.now ≡ Done = subst (λ (s : Serving). outcome_at s.regions c.args.head.now ≡ Done) (sym c.self.view_is) c.requires.judged in
    is_there c.self.inside.regions c.args.head.now done (not_found (λ r. r.bytes) _ c.in_default.ensures)

pub overflow_sub-bytes : goal.overflow_sub-bytes
overflow_sub-bytes c =
    let done : outcome_at c.self.inside.regions c.args.head.now ≡ Done = subst (λ (s : Serving). outcome_at s.regions c.args.head.now ≡ Done) (sym c.self.view_is) c.requires.judged in
    (cut c.self.inside.regions c.args.head.now c.args.atom c.args.bytes.now c.in-Some.range.now c.compared.result c.requires.kind c.requires.atom c.requires.sound c.requires.whole done c.in-Some.ensures c.compared.ensures).within

pub part-requires : goal.part-requires
part-requires c =
    let done : outcome_at c.self.inside.regions c.args.head.now ≡ Done = subst (λ (s : Serving). outcome_at s.regions c.args.head.now ≡ Done) (sym c.self.view_is) c.requires.judged in
    reached_within c.self.inside.regions c.args.head.now c.args.atom c.args.bytes.now c.in-Some.range.now c.compared.result c.requires.kind c.requires.atom c.requires.sound c.requires.whole done c.in-Some.ensures c.compared.ensures

pub change-requires-clause-whole : goal.change-requires-clause-whole
change-requires-clause-whole c =
    let done : outcome_at c.self.inside.regions c.args.head.now ≡ Done = subst (λ (s : Serving). outcome_at s.regions c.args.head.now ≡ Done) (sym c.self.view_is) c.requires.judged in
    let len = part_len c.self.inside.regions c.args.head.now c.args.atom c.args.bytes.now c.in-Some.range.now c.compared.result c.requires.kind c.requires.atom c.requires.sound c.requires.whole done c.in-Some.ensures c.compared.ensures c.part.result.now c.part.ensures in
    let cut = cut c.self.inside.regions c.args.head.now c.args.atom c.args.bytes.now c.in-Some.range.now c.compared.result c.requires.kind c.requires.atom c.requires.sound c.requires.whole done c.in-Some.ensures c.compared.ensures in
    rw len cut.whole

pub change-requires-clause-few : goal.change-requires-clause-few
change-requires-clause-few c =
    let done : outcome_at c.self.inside.regions c.args.head.now ≡ Done = subst (λ (s : Serving). outcome_at s.regions c.args.head.now ≡ Done) (sym c.self.view_is) c.requires.judged in
    let len = part_len c.self.inside.regions c.args.head.now c.args.atom c.args.bytes.now c.in-Some.range.now c.compared.result c.requires.kind c.requires.atom c.requires.sound c.requires.whole done c.in-Some.ensures c.compared.ensures c.part.result.now c.part.ensures in
    let cut = cut c.self.inside.regions c.args.head.now c.args.atom c.args.bytes.now c.in-Some.range.now c.compared.result c.requires.kind c.requires.atom c.requires.sound c.requires.whole done c.in-Some.ensures c.compared.ensures in
    rw len cut.few

pub change-requires-clause-operand : goal.change-requires-clause-operand
change-requires-clause-operand c =
    let done : outcome_at c.self.inside.regions c.args.head.now ≡ Done = subst (λ (s : Serving). outcome_at s.regions c.args.head.now ≡ Done) (sym c.self.view_is) c.requires.judged in
    let len = part_len c.self.inside.regions c.args.head.now c.args.atom c.args.bytes.now c.in-Some.range.now c.compared.result c.requires.kind c.requires.atom c.requires.sound c.requires.whole done c.in-Some.ensures c.compared.ensures c.part.result.now c.part.ensures in
    let cut = cut c.self.inside.regions c.args.head.now c.args.atom c.args.bytes.now c.in-Some.range.now c.compared.result c.requires.kind c.requires.atom c.requires.sound c.requires.whole done c.in-Some.ensures c.compared.ensures in
    c.split_at.ensures.front_len ∙ cut.operand ∙ ap (operand_len c.args.atom.op) (sym len)

pub change-requires-clause-compare : goal.change-requires-clause-compare
change-requires-clause-compare c =
    let done : outcome_at c.self.inside.regions c.args.head.now ≡ Done = subst (λ (s : Serving). outcome_at s.regions c.args.head.now ≡ Done) (sym c.self.view_is) c.requires.judged in
    let len = part_len c.self.inside.regions c.args.head.now c.args.atom c.args.bytes.now c.in-Some.range.now c.compared.result c.requires.kind c.requires.atom c.requires.sound c.requires.whole done c.in-Some.ensures c.compared.ensures c.part.result.now c.part.ensures in
    let cut = cut c.self.inside.regions c.args.head.now c.args.atom c.args.bytes.now c.in-Some.range.now c.compared.result c.requires.kind c.requires.atom c.requires.sound c.requires.whole done c.in-Some.ensures c.compared.ensures in
    let w = cut.within in
    let b = c.split_at.ensures.back_len in
    let l : length c.split_at.result.1.now ≡ c.compared.result = omega (arith, w, b) in
    l ∙ cut.compare ∙ ap (compare_len c.args.atom.op) (sym len)

pub returns : goal.returns
returns c =
    let done : outcome_at c.self.inside.regions c.args.head.now ≡ Done = subst (λ (s : Serving). outcome_at s.regions c.args.head.now ≡ Done) (sym c.self.view_is) c.requires.judged in
    let e = atomic_done c.self.inside.regions c.args.head.now c.args.atom c.args.bytes.now c.in-Some.range.now c.compared.result c.requires.kind c.requires.atom c.requires.sound c.requires.whole done c.in-Some.ensures c.compared.ensures c.part.result.now c.part.ensures
    c.as_slice.result.now c.split_at.result.0.now c.split_at.result.1.now c.split_at.ensures.front c.split_at.ensures.back (ap length c.as_slice.ensures ∙ c.change.ensures.len) (c.as_slice.ensures ∙ c.change.ensures.changed) c.put.new.self c.put.result c.put.ensures.answer c.put.ensures.ok in
    served c.args.head.now c.args.bytes.now _ c.args.self.now c.put.new.self c.self.view_is e
