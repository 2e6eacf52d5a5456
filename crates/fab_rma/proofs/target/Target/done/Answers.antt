use Rattle.std.proofs.Common.{◌≡◌, ◌∙◌, sym, ap, subst, length, ℕ, arith}
use Rattle.std.specs.Prelude.{slice_set}
use Rattle.fab_base.specs.declared.items.Outcome.TheVariants.{Done}
use Rattle.fab_rma.specs.Serving.{Serving, outcome_at}
use Rattle.fab_rma.proofs.Performing.{base_bytes, fetched_bytes, is_write, put_done, read_handed, read_rest, reach_total, written_nothing, wrote}
use Rattle.fab_rma.proofs.target.Target.done.Goals as goal
use Rattle.fab_rma.proofs.target.Target.done.Goals.{then-is_base, else-is_base}

pub returns-in-ReadReq-clause-bytes : goal.returns-in-ReadReq-clause-bytes
returns-in-ReadReq-clause-bytes c = read_handed c.args.self.now.regions c.args.head.now c.args.bytes.now c.requires.judged c.in-ReadReq.is c.hand_back.result c.hand_back.ensures.bytes

pub returns-in-ReadReq-clause-rest : goal.returns-in-ReadReq-clause-rest
returns-in-ReadReq-clause-rest c = c.hand_back.ensures.rest ∙ read_rest c.args.self.now.regions c.args.head.now c.args.bytes.now c.requires.judged c.in-ReadReq.is (slice_set c.args.self.now.rooms c.args.source 0)

pub returns-after-is_base-clause-bytes : goal.returns-after-is_base-clause-bytes
returns-after-is_base-clause-bytes c = elim c.if-is_base.branch [
  | then-is_base w ↦ w.old-is ∙ w.fill-old.ensures.bytes ∙ base_bytes c.args.self.now.regions c.args.head.now c.args.bytes.now c.requires.judged c.in-AtomicReq.is (sym c.is_base.ensures ∙ w.if-is_base.true)
  | else-is_base w ↦ w.old-is ∙ fetched_bytes c.args.self.now.regions c.args.head.now c.args.bytes.now c.requires.judged c.in-AtomicReq.is (sym c.is_base.ensures ∙ w.if-is_base.false) w.hand_back-old.result w.hand_back-old.ensures.bytes
]

pub returns-in_default : goal.returns-in_default
returns-in_default c =
    let kind = is_write c.args.head.now.kind c.requires.request c.in_default.not-ReadReq c.in_default.not-AtomicReq in
    let done : outcome_at c.self-in_default.inside.regions c.args.head.now ≡ Done = subst (λ (s : Serving). outcome_at s.regions c.args.head.now ≡ Done) (sym c.self-in_default.view_is) c.requires.judged in
    let put = put_done c.self-in_default.inside.regions c.put.new.self c.args.head.now c.args.bytes.now c.put.result done (c.requires.whole ∙ sym (reach_total c.args.head.now kind)) c.put.ensures.answer c.put.ensures.ok in
    record {
      bytes = c.fill.ensures.bytes ∙ sym (written_nothing c.args.self.now.regions c.args.head.now c.args.bytes.now c.requires.judged kind);
      few = (let l = ap length c.fill.ensures.bytes in omega (arith, l));
      rest = wrote c.args.head.now c.args.bytes.now _ c.args.self.now c.put.new.self _ c.args.source c.self-in_default.view_is c.requires.judged kind put (ap (λ (n : ℕ). slice_set c.self-in_default.inside.rooms.items c.args.source n) c.fill.ensures.used);
    }
