-- No operation is of a call that posted a multi-receive, whatever is accepted, let out, transmitted or answered.
use Rattle.std.proofs.Common.{◌≡◌, inl, inr, ℕ, ◌+◌, ◌&&◌, Bool, true, false, List, [], ◌∷◌, ◌++◌, length, set, length-set, get_or-set_same, get_or-set_other, Option, Some, None, refl, sym, subst, arith}
use Rattle.std.specs.Prelude.{find, All}
use Rattle.std.proofs.lemmas.Bool.{cases_eq, cases_lt}
use Rattle.std.proofs.lemmas.List.{get_or_past}
use Rattle.std.proofs.lemmas.List.Elements.{All-append, All-cons, All-nil, All-tail}
use Rattle.fab_base.specs.declared.items.ItemHead.{ItemHead}
use Rattle.fab_base.specs.declared.operations.Held.{Held}
use Rattle.fab_base.specs.declared.operations.Operation.{Operation}
use Rattle.fab_model.specs.Matching.{remove_first}
use Rattle.fab_model.specs.State.{Transmitting, held_for}
use Rattle.fab_model.specs.Sending.{accepting, answering, ending, going_on, held_back, is_busy, let_out, letting_out, operation_at, operations_from, transmitting}
use Rattle.fab_tx.specs.Transit.{answered, finds_answered, transmitted}
use Rattle.fab_tx.proofs.Steps.{transmitted_none, transmitted_some}
use Rattle.fab_tx.proofs.Answering.{answered_none, answered_some}
use Rattle.fab_core.specs.Lent.{AreApart, IsOther}

module _ (known : List (ℕ × ℕ)) (calls : ℕ) where
  abbrev IsOtherLive : Operation → Type 0
  IsOtherLive o = IsOther known calls o.call

  abbrev IsOtherHeld : Held → Type 0
  IsOtherHeld h = IsOther known calls h.call

  -- ---- lists of operations

  others_fewer : (test : Operation → Bool) (ops : List Operation) → All IsOtherLive ops → All IsOtherLive (remove_first test ops)
  others_fewer test [] all = all
  others_fewer test (o ∷ ops) all = by (test o) refl (others_fewer test ops (All-tail IsOtherLive o ops all))
    where
      by : (b : Bool) → test o ≡ b → All IsOtherLive (remove_first test ops) → All IsOtherLive (remove_first test (o ∷ ops))
      by true is more = rw (is, remove_first) (All-tail IsOtherLive o ops all)
      by false is more = rw (is, remove_first) (All-cons IsOtherLive o (remove_first test ops) (all 0 o (omega arith)) more)

  -- of a list whose members fit, the one that is found does
  pub other_found : (test : Operation → Bool) (ops : List Operation) (o : Operation) → All IsOtherLive ops → find test ops ≡ Some o → IsOther known calls o.call
  other_found test [] o all e = absurd (cc)
  other_found test (x ∷ ops) o all e = by (test x) refl (λ rest. other_found test ops o (All-tail IsOtherLive x ops all) rest)
    where
      by : (b : Bool) → test x ≡ b → (find test ops ≡ Some o → IsOtherLive o) → IsOtherLive o
      by true is more = let both : Some x ≡ Some o = rw is at e in let same : x ≡ o = cc in subst IsOtherLive same (all 0 x (omega arith))
      by false is more = more (rw is at e)

  outs : (busy : Bool) (held : List Held) → All IsOtherHeld held → All IsOtherHeld (let_out busy held)
  outs busy [] all = all
  outs busy (h ∷ held) all = by (busy && h.fence) refl (outs true held (All-tail IsOtherHeld h held all))
    where
      by : (b : Bool) → (busy && h.fence) ≡ b → All IsOtherHeld (let_out true held) → All IsOtherHeld (let_out busy (h ∷ held))
      by true is more = rw (is, let_out) (All-nil IsOtherHeld)
      by false is more = rw (is, let_out) (All-cons IsOtherHeld h (let_out true held) (all 0 h (omega arith)) more)

  backs : (busy : Bool) (held : List Held) → All IsOtherHeld held → All IsOtherHeld (held_back busy held)
  backs busy [] all = all
  backs busy (h ∷ held) all = by (busy && h.fence) refl (backs true held (All-tail IsOtherHeld h held all))
    where
      by : (b : Bool) → (busy && h.fence) ≡ b → All IsOtherHeld (held_back true held) → All IsOtherHeld (held_back busy (h ∷ held))
      by true is more = rw (is, held_back) all
      by false is more = rw (is, held_back) more

  lives : (t place : ℕ) (out : List Held) → All IsOtherHeld out → All IsOtherLive (operations_from t place out)
  lives t place [] all = All-nil IsOtherLive
  lives t place (h ∷ out) all = All-cons IsOtherLive (operation_at t place h) (operations_from t (place + 1) out) (all 0 h (omega arith)) (lives t (place + 1) out (All-tail IsOtherHeld h out all))

  -- ---- what goes out, and what is held back

  letting_apart : (t : ℕ) (held : List Held) (tx : Transmitting) → All IsOtherHeld held → AreApart known calls tx → AreApart known calls (letting_out t held tx)
  unfolding letting_out
  letting_apart t held tx all is = (
    All-append IsOtherLive tx.live _ is.0 (lives t _ (let_out (is_busy tx t) held) (outs (is_busy tx t) held all)),
    λ k. elim (cases_eq k t) [
      | inl same ↦ elim (cases_lt t (length tx.held)) [
        | inl within ↦ rw (same, get_or-set_same tx.held t (held_back (is_busy tx t) held) [] within) (backs (is_busy tx t) held all)
        | inr past ↦ rw (same, get_or_past (set tx.held t (held_back (is_busy tx t) held)) t [] (omega (arith, past, length-set tx.held t (held_back (is_busy tx t) held)))) (All-nil IsOtherHeld)
      ]
      | inr other ↦ rw (get_or-set_other tx.held t k (held_back (is_busy tx t) held) [] other) (is.1 k)
    ],
  )

  going_apart : (t : ℕ) (tx : Transmitting) → AreApart known calls tx → AreApart known calls (going_on t tx)
  going_apart t tx is = letting_apart t (held_for tx t) tx (is.1 t) is

  -- ---- calls and ends

  pub accepting_apart : (t : ℕ) (h : Held) (tx : Transmitting) → IsOther known calls h.call → AreApart known calls tx → AreApart known calls (accepting t h tx)
  unfolding accepting
  accepting_apart t h tx this is = letting_apart t (held_for tx t ++ h ∷ []) (record tx { ops = tx.ops + 1 })
      (All-append IsOtherHeld (held_for tx t) (h ∷ []) (is.1 t) (All-cons IsOtherHeld h [] this (All-nil IsOtherHeld))) is

  pub transmitted_apart : (dest : ℕ) (tx : Transmitting) → AreApart known calls tx → AreApart known calls (transmitted dest tx)
  unfolding transmitting
  transmitted_apart dest tx is = by (ending dest tx) refl
    where
      fewer : AreApart known calls (transmitting dest tx)
      fewer = (others_fewer _ tx.live is.0, is.1)

      by : (o : Option Operation) → ending dest tx ≡ o → AreApart known calls (transmitted dest tx)
      by None e = subst (AreApart known calls) (sym (transmitted_none dest tx e)) fewer
      by (Some o) e = subst (AreApart known calls) (sym (transmitted_some dest tx o e)) (going_apart dest (transmitting dest tx) fewer)

  pub answered_apart : (source : ℕ) (reply : ItemHead) (tx : Transmitting) → AreApart known calls tx → AreApart known calls (answered source reply tx)
  unfolding answering
  answered_apart source reply tx is = by (finds_answered source reply tx) refl
    where
      by : (o : Option Operation) → finds_answered source reply tx ≡ o → AreApart known calls (answered source reply tx)
      by None e = subst (AreApart known calls) (sym (answered_none tx source reply e)) is
      by (Some o) e = subst (AreApart known calls) (sym (answered_some tx source reply o e)) (going_apart source (answering source reply tx) (others_fewer _ tx.live is.0, is.1))
