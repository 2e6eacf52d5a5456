-- The calls of the lines that ask another peer for something.
use Rattle.std.proofs.Common.{◌≡◌, ℕ, Bool, true, false, List, [], length, Option, Some, None, sym, ap, ◌∙◌}
use Rattle.std.specs.Prelude.{replicate}
use Rattle.std.proofs.lemmas.List.{length-replicate}
use Rattle.fab_base.specs.declared.items.AtomicOp.{AtomicOp}
use Rattle.fab_base.specs.declared.items.Num.{Num}
use Rattle.fab_base.specs.declared.items.Form.TheVariants.{Base, Fetch as FetchForm, Compare as CompareForm}
use Rattle.fab_base.specs.declared.items.Kind.TheVariants.{WriteReq, ReadReq}
use Rattle.fab_base.specs.declared.script.BytesWord.{BytesWord}
use Rattle.fab_base.specs.declared.script.LineOp.TheVariants.{Read, Write, WInject, Atomic, Fetch, Compare}
use Rattle.fab_model.specs.Calls.{call_of, word_bytes, request, atomic, fetched}
use Rattle.fab_model.specs.Peers.{do_line, call_line}
use Rattle.fab_face.specs.Answers.{atom}
use Rattle.fab_peer.specs.Turns.{Told, actor_in, next_op}
use Rattle.fab_peer.proofs.Paths.{living}
use Rattle.fab_peer.proofs.Calling.{IsCalled, next_is}

as_many : (len : ℕ) (buf : List ℕ) → buf ≡ replicate len 0 → len ≡ length buf
as_many len buf is = sym (ap length is ∙ length-replicate {A = ℕ} len 0)

module _ {Home : Type 0} (a : Told Home) where
  pub calls_read : (ctx dest key at len : ℕ) (buf : List ℕ) → next_op a ≡ Some (Read ctx dest key at len) → buf ≡ replicate len 0
      → IsCalled a.lines a.results a.kept (request ReadReq (Some ctx) dest key at (length buf) [] None true false (Some buf))
  unfolding do_line call_of
  calls_read ctx dest key at len buf next is = (
    (λ m. next_is (actor_in (living m a.lines a.results a.kept)) _ next
        ∙ ap (λ bs. call_line (actor_in (living m a.lines a.results a.kept)) (request ReadReq (Some ctx) dest key at len [] None true false (Some bs))) (sym is)
        ∙ ap (λ n. call_line (actor_in (living m a.lines a.results a.kept)) (request ReadReq (Some ctx) dest key at n [] None true false (Some buf))) (as_many len buf is)),
    tt,
  )

  pub calls_write : (ctx dest key at : ℕ) (word : BytesWord) (imm : Option ℕ) (completion fence : Bool) (buf : List ℕ) → next_op a ≡ Some (Write ctx dest key at word imm completion fence) → buf ≡ word_bytes word
      → IsCalled a.lines a.results a.kept (request WriteReq (Some ctx) dest key at 0 buf imm completion fence (Some buf))
  unfolding do_line call_of
  calls_write ctx dest key at word imm completion fence buf next is = (
    (λ m. next_is (actor_in (living m a.lines a.results a.kept)) _ next
        ∙ ap (λ bs. call_line (actor_in (living m a.lines a.results a.kept)) (request WriteReq (Some ctx) dest key at 0 bs imm completion fence (Some bs))) (sym is)),
    tt,
  )

  pub calls_winject : (dest key at : ℕ) (word : BytesWord) (imm : Option ℕ) (bytes : List ℕ) → next_op a ≡ Some (WInject dest key at word imm) → bytes ≡ word_bytes word
      → IsCalled a.lines a.results a.kept (request WriteReq None dest key at 0 bytes imm false false None)
  unfolding do_line call_of
  calls_winject dest key at word imm bytes next is = (
    (λ m. next_is (actor_in (living m a.lines a.results a.kept)) _ next
        ∙ ap (λ bs. call_line (actor_in (living m a.lines a.results a.kept)) (request WriteReq None dest key at 0 bs imm false false None)) (sym is)),
    tt,
  )

  pub calls_atomic : (ctx dest key at : ℕ) (op : AtomicOp) (num : Num) (values : List ℕ) (completion fence : Bool) (operand : List ℕ) → next_op a ≡ Some (Atomic ctx dest key at op num values completion fence) → operand ≡ values
      → IsCalled a.lines a.results a.kept (atomic ctx dest key at (atom op num Base) (length operand) operand [] completion fence None)
  unfolding do_line call_of
  calls_atomic ctx dest key at op num values completion fence operand next is = (
    (λ m. next_is (actor_in (living m a.lines a.results a.kept)) _ next
        ∙ ap (λ bs. call_line (actor_in (living m a.lines a.results a.kept)) (atomic ctx dest key at (atom op num Base) (length bs) bs [] completion fence None)) (sym is)),
    tt,
  )

  pub calls_fetch : (ctx dest key at : ℕ) (op : AtomicOp) (num : Num) (values : List ℕ) (count : ℕ) (operand buf : List ℕ) → next_op a ≡ Some (Fetch ctx dest key at op num values count) → operand ≡ values
      → buf ≡ replicate (fetched num values count) 0 → IsCalled a.lines a.results a.kept (atomic ctx dest key at (atom op num FetchForm) (length buf) operand [] true false (Some buf))
  unfolding do_line call_of
  calls_fetch ctx dest key at op num values count operand buf next same is = (
    (λ m. next_is (actor_in (living m a.lines a.results a.kept)) _ next
        ∙ ap (λ bs. call_line (actor_in (living m a.lines a.results a.kept)) (atomic ctx dest key at (atom op num FetchForm) (fetched num values count) values [] true false (Some bs))) (sym is)
        ∙ ap (λ n. call_line (actor_in (living m a.lines a.results a.kept)) (atomic ctx dest key at (atom op num FetchForm) n values [] true false (Some buf))) (as_many (fetched num values count) buf is)
        ∙ ap (λ bs. call_line (actor_in (living m a.lines a.results a.kept)) (atomic ctx dest key at (atom op num FetchForm) (length buf) bs [] true false (Some buf))) (sym same)),
    tt,
  )

  pub calls_compare : (ctx dest key at : ℕ) (op : AtomicOp) (num : Num) (values compares operand compare buf : List ℕ) → next_op a ≡ Some (Compare ctx dest key at op num values compares) → operand ≡ values
      → compare ≡ compares → buf ≡ replicate (length values) 0 → IsCalled a.lines a.results a.kept (atomic ctx dest key at (atom op num CompareForm) (length buf) operand compare true false (Some buf))
  unfolding do_line call_of
  calls_compare ctx dest key at op num values compares operand compare buf next same other is = (
    (λ m. next_is (actor_in (living m a.lines a.results a.kept)) _ next
        ∙ ap (λ bs. call_line (actor_in (living m a.lines a.results a.kept)) (atomic ctx dest key at (atom op num CompareForm) (length values) values compares true false (Some bs))) (sym is)
        ∙ ap (λ n. call_line (actor_in (living m a.lines a.results a.kept)) (atomic ctx dest key at (atom op num CompareForm) n values compares true false (Some buf))) (as_many (length values) buf is)
        ∙ ap (λ bs. call_line (actor_in (living m a.lines a.results a.kept)) (atomic ctx dest key at (atom op num CompareForm) (length buf) bs compares true false (Some buf))) (sym same)
        ∙ ap (λ bs. call_line (actor_in (living m a.lines a.results a.kept)) (atomic ctx dest key at (atom op num CompareForm) (length buf) operand bs true false (Some buf))) (sym other)),
    tt,
  )
