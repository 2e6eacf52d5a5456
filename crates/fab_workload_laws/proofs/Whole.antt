-- Lines that an answer does: any but a wait once the lines before it are done, and a wait once its message is sent too.
--     Agree bound m           of each peer, the lines left are those after the lines done
--     one_more                a line that can be done once those before it are, is done
--     call_done, wait_done    what a call, and a wait, comes to
use Rattle.std.proofs.Common.{Bool, List, None, Option, Some, [], ap, ap₂, arith, drop, false, get_or, get_or-set_other, get_or-set_same, inl, inr, length, length-append, length-set, option_map, refl, set, slice_get, subst, sym, take, true, ℕ, ◌++◌, ◌+◌, ◌<◌, ◌∙◌, ◌∷◌, ◌≡◌, ◌≢◌, ◌≤◌, ◌⊎◌}
use Rattle.std.proofs.Math.Seq.{drop-append_seam, take-append_seam}
use Rattle.std.proofs.lemmas.Bool.{cases_eq, cases_lt, lt-ltb}
use Rattle.std.proofs.lemmas.List.{length-map}
use Rattle.std.proofs.lemmas.Option.{slice_get-get_or, slice_get-map, slice_get_within}
use Rattle.std.specs.List.{list_any}
use Rattle.std.specs.Option.{option_and_then}
use Rattle.std.specs.Prelude.{find}
use Rattle.fab_base.specs.declared.faults.Fault.{Fault}
use Rattle.fab_base.specs.declared.operations.Receive.{Receive}
use Rattle.fab_base.specs.declared.peers.LineResult.TheVariants.{Refused}
use Rattle.fab_base.specs.declared.peers.LineResult.{LineResult}
use Rattle.fab_base.specs.declared.script.Bound.{Bound}
use Rattle.fab_base.specs.declared.script.Line.{Line}
use Rattle.fab_base.specs.declared.script.LineOp.TheVariants.{TRecv, TSend, Wait}
use Rattle.fab_base.specs.declared.script.LineOp.{LineOp}
use Rattle.fab_model.specs.Calls.{call_of, upto}
use Rattle.fab_model.specs.Laws.{AtEnd}
use Rattle.fab_model.specs.Orders.{Moment, steps_left, turn}
use Rattle.fab_model.specs.Replay.{lines_of}
use Rattle.fab_model.proofs.Confluence.{replay_keeps}
use Rattle.fab_model.proofs.Turns.{moved, replay_ends, slice_get-set_other, slice_get-set_same, turn_is, turn_taken}
use Rattle.fab_answer.specs.Answer.{answered, answering, comes, done, entry_after, is_waited, makes, received_after, received_by, received_entry, result_of, unanswered, waited, waits_for}
use Rattle.fab_answer.specs.Partners.{Message, partner, receive_at}
use Rattle.fab_answer.specs.Settled.{refusal}
use Rattle.fab_answer.proofs.Lists.{drop_at, drop_get, length-upto, map_is, upto_at}
use Rattle.fab_answer.proofs.answer.Passes.{answering_commutes}
pub use Rattle.fab_answer.proofs.peers.Reaches.{none_done}
use Rattle.fab_workloads.specs.Lines.{receive}

-- ---- lists by peer

pub upto_get : (n p : ℕ) → p < n → slice_get (upto n) p ≡ Some p
upto_get n p lt =
    let there = slice_get-get_or (upto n) p 0 (omega (arith, lt, length-upto n)) in
    there ∙ ap Some (upto_at n p (get_or (upto n) p 0) there)

-- ---- where the answer ends

module _ (bound : Bound) where
  abbrev pub peers : ℕ
  peers = bound.script.conf.peers

  abbrev pub end : Moment (List LineResult) Line
  end = answered bound

  abbrev pub Agree : Moment (List LineResult) Line → Type 0
  Agree m = (length m.states ≡ peers) × (length m.left ≡ peers) × ((p : ℕ) → p < peers → slice_get m.left p ≡ Some (drop (done m.states p) (lines_of bound p)))

  pub agree_start : Agree (unanswered bound)
  agree_start = (
    length-map (upto peers) (λ p. let none : List LineResult = [] in none) ∙ length-upto peers,
    length-map (upto peers) (lines_of bound) ∙ length-upto peers,
    λ p lt. slice_get-map (lines_of bound) (upto peers) p ∙ ap (option_map (lines_of bound)) (upto_get peers p lt)
        ∙ ap (λ n. Some (drop n (lines_of bound p))) (sym (ap length (none_done (upto peers) p))),
  )

  pub agree_turn : (m x : Moment (List LineResult) Line) (p : ℕ) → Agree m → turn (answering bound) m p ≡ Some x → Agree x
  agree_turn m x p agree t = subst Agree (sym is.5) (length-set m.states p is.2 ∙ agree.0, length-set m.left p is.1 ∙ agree.1, λ q lt. at q lt (cases_eq p q))
    where
      is : (a : Line) × (rest : List Line) × (s : List LineResult) × (slice_get m.left p ≡ Some (a ∷ rest)) × (answering bound m.states p a ≡ Some s) × (x ≡ moved m p s rest)
      is = turn_is (answering bound) m x p t

      told : (o : LineResult) × (result_of bound m.states p is.0.op ≡ Some o) × (get_or m.states p [] ++ o ∷ [] ≡ is.2)
      told = map_is _ _ is.2 is.4

      own : p < peers
      own = omega (arith, slice_get_within m.left p (is.0 ∷ is.1) is.3, agree.1)

      more : done (set m.states p is.2) p ≡ done m.states p + 1
      more = omega (arith, ap length (get_or-set_same m.states p is.2 [] (omega (arith, own, agree.0))), ap length told.2, length-append (get_or m.states p []) (told.0 ∷ []))

      cut : drop (done m.states p) (lines_of bound p) ≡ is.0 ∷ is.1
      cut = let e : Some (drop (done m.states p) (lines_of bound p)) ≡ Some (is.0 ∷ is.1) = sym (agree.2 p own) ∙ is.3 in cc

      rest : is.1 ≡ drop (done m.states p + 1) (lines_of bound p)
      rest = ap (drop 1) (sym cut ∙ drop_at (lines_of bound p) (done m.states p) is.0 (drop_get (lines_of bound p) (done m.states p) is.0 is.1 cut))

      at : (q : ℕ) → q < peers → (p ≡ q) ⊎ (p ≢ q) → slice_get (set m.left p is.1) q ≡ Some (drop (done (set m.states p is.2) q) (lines_of bound q))
      at q lt (inl same) = subst (λ k. slice_get (set m.left p is.1) k ≡ Some (drop (done (set m.states p is.2) k) (lines_of bound k))) same (
          slice_get-set_same m.left p is.1 (omega (arith, own, agree.1)) ∙ ap Some (rest ∙ ap (λ n. drop n (lines_of bound p)) (sym more))
          )
      at q lt (inr differ) = slice_get-set_other m.left p q is.1 differ ∙ agree.2 q lt
          ∙ ap (λ (rs : List LineResult). Some (drop (length rs) (lines_of bound q))) (sym (get_or-set_other m.states p q is.2 [] (λ e. differ (sym e))))

  pub agree_end : Agree end
  agree_end = replay_keeps (turn (answering bound)) Agree agree_turn (length (unanswered bound).left) (steps_left (unanswered bound)) (unanswered bound) agree_start

  at_end : AtEnd (turn (answering bound)) end
  at_end = replay_ends (answering bound) (λ all. ℕ) (answering_commutes bound) (unanswered bound) 0

  -- ---- one line more

  pub one_more : (p : ℕ) (front back : List Line) (line : Line) → p < peers → lines_of bound p ≡ front ++ line ∷ back → length front ≤ done end.states p
      → (done end.states p ≡ length front → (x : LineResult) × (result_of bound end.states p line.op ≡ Some x)) → length front + 1 ≤ done end.states p
  one_more p front back line lt lines le does = elim (cases_lt (length front) (done end.states p)) [ inl less ↦ omega (arith, less) | inr more ↦ absurd (stuck (omega (arith, le, more))) ]
    where
      stuck : done end.states p ≡ length front → ⊥
      stuck same =
          let x = does same in
          let here : slice_get end.left p ≡ Some (line ∷ back) = agree_end.2 p lt ∙ ap Some (ap₂ (λ n (ls : List Line). drop n ls) same lines ∙ drop-append_seam front (line ∷ back)) in
          let taken = turn_taken (answering bound) end p line back (get_or end.states p [] ++ x.0 ∷ []) here
          (ap (option_map (λ (o : LineResult). get_or end.states p [] ++ o ∷ [])) x.1) in
          let none = at_end p in
          absurd (cc (taken, none))

  -- ---- calls and waits

  abbrev pub is_call : LineOp → Bool
  is_call (TSend ctx dest tag bytes imm level completion fence) = true
  is_call (TRecv ctx source tag ignore len) = true
  is_call _ = false

  either : (o : Option Fault) → (x : LineResult) × (elim o [ None ↦ Some LineResult.Done | Some fault ↦ Some (Refused fault) ] ≡ Some x)
  either None = (LineResult.Done, refl)
  either (Some fault) = (Refused fault, refl)

  pub call_done : (all : List (List LineResult)) (p : ℕ) (op : LineOp) → is_call op ≡ true → (x : LineResult) × (result_of bound all p op ≡ Some x)
  call_done all p (TSend ctx dest tag bytes imm level completion fence) e = either (refusal bound.script.conf (TSend ctx dest tag bytes imm level completion fence))
  call_done all p (TRecv ctx source tag ignore len) e = either (refusal bound.script.conf (TRecv ctx source tag ignore len))
  call_done all p op e = absurd (cc (e))

  pub wait_done : (all : List (List LineResult)) (p s c tag len : ℕ) (front back : List Line) (own : Line) (r : Receive) (m : Message)
      → lines_of bound p ≡ front ++ back → done all p ≡ length front → list_any (waits_for c) front ≡ false
      → find (makes bound.script.conf c) front ≡ Some own → own.op ≡ receive c s tag len → receive_at bound.script.conf (receive c s tag len) ≡ Some r
      → r.want.source ≡ Some s → r.ctx ≡ c → partner bound p s c ≡ Some m → m.at < done all s
      → (x : LineResult) × (result_of bound all p (Wait (Some c)) ≡ Some x)
  unfolding call_of
  wait_done all p s c tag len front back own r m lines same none found is posts from ctx pair sent =
      (waited (received_entry r s m), ap (λ b. elim b [ true ↦ None | false ↦ option_map waited (comes bound all p c) ]) unwaited ∙ ap (option_map waited) come)
    where
      first : take (done all p) (lines_of bound p) ≡ front
      first = ap₂ (λ n (ls : List Line). take n ls) same lines ∙ take-append_seam front back

      unwaited : is_waited bound all p c ≡ false
      unwaited = ap (list_any (waits_for c)) first ∙ none

      received : received_by bound all p r ≡ Some (received_entry r s m)
      received = ap (option_and_then (λ source. received_after all source r (partner bound p source r.ctx))) from
          ∙ ap (λ k. received_after all s r (partner bound p s k)) ctx
          ∙ ap (received_after all s r) pair
          ∙ ap (λ b. elim b [ true ↦ Some (received_entry r s m) | false ↦ None ]) (lt-ltb m.at (done all s) sent)

      entry : entry_after bound all p (receive c s tag len) ≡ Some (received_entry r s m)
      entry = ap (option_and_then (received_by bound all p)) posts ∙ received

      come : comes bound all p c ≡ Some (received_entry r s m)
      come = ap (λ (ls : List Line). option_and_then (λ (line : Line). entry_after bound all p line.op) (find (makes bound.script.conf c) ls)) first
          ∙ ap (option_and_then (λ (line : Line). entry_after bound all p line.op)) found
          ∙ ap (entry_after bound all p) is
          ∙ entry
