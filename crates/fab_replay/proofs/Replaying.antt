-- The replay, turn by turn.
use Rattle.std.proofs.Common.{◌≡◌, ℕ, zero, suc, ◌+◌, ◌<◌, Bool, true, false, cond, List, [], ◌∷◌, ◌++◌, length, map, drop, get_or, set, slice_get, Option, Some, None, MatchOption, Result, Ok, Err, IfOk, refl, sym, ap, ap₂, subst, ◌∙◌, arith, inl, inr, add-one}
use Rattle.std.proofs.Math.Seq.{map-set_same}
use Rattle.std.proofs.lemmas.Bool.{cases_lt}
use Rattle.std.proofs.lemmas.List.{length-map, map-set, length-set}
use Rattle.std.proofs.lemmas.Option.{slice_get-map, slice_get_read}
use Rattle.fab_base.specs.declared.peers.Step.{Step}
use Rattle.fab_base.specs.declared.script.Bound.{Bound}
use Rattle.fab_base.proofs.Lists.{drop_first as first_left}
use Rattle.fab_model.specs.Laws.{Run}
use Rattle.fab_model.specs.Orders.{Moment, turn, lowest, replay, replay_for, steps_left}
use Rattle.fab_model.specs.Peers.{Actor, fabric}
use Rattle.fab_model.specs.Views.{rule, seen}
use Rattle.fab_model.proofs.Confluence.{lowest_some}
use Rattle.fab_model.proofs.Turns.{turn_taken, turn_is, run_uses}
use Rattle.fab_replay.specs.declared.turns.Peer.{Peer}
use Rattle.fab_replay.specs.Seen.{actor_of, actors_of, steps_of, left_of, moment_of, Took}

-- ---- what is left of a list

nothing_left : {X : Type 0} (xs : List X) (k : ℕ) → slice_get xs k ≡ None → drop k xs ≡ []
nothing_left [] zero e = refl
nothing_left [] (suc k) e = refl
nothing_left (x ∷ xs) zero e = absurd (cc)
nothing_left (x ∷ xs) (suc k) e = nothing_left xs k e

pub took_true : {S : Type 0} (b : Bool) (x y : S) (o : Option S) → b ≡ true → Took b x y o → o ≡ Some y
took_true true x y o e t = t
took_true false x y o e t = absurd (cc)

pub took_false : {S : Type 0} (b : Bool) (x y : S) (o : Option S) → b ≡ false → Took b x y o → (o ≡ None) × (y ≡ x)
took_false true x y o e t = absurd (cc)
took_false false x y o e t = t

-- ---- one peer's turn

module _ (bound : Bound) (peers : List Peer) (p : ℕ) (peer : Peer) (within : p < length peers) (is : peer ≡ get_or peers p peer) where
  pub here : slice_get peers p ≡ Some peer
  here = slice_get_read peers (length peers) p peer refl within is

  pub actor_here : slice_get (actors_of bound peers) p ≡ Some (actor_of bound peer.actor)
  actor_here = slice_get-map (λ (q : Peer). actor_of bound q.actor) peers p ∙ rw here refl

  left_here : slice_get (map left_of peers) p ≡ Some (left_of peer)
  left_here = slice_get-map left_of peers p ∙ rw here refl

  -- a peer without a step has no turn
  pub no_step : slice_get peer.steps peer.taken ≡ None → turn (rule fabric) (moment_of bound peers) p ≡ None
  no_step none = let gone : slice_get (map left_of peers) p ≡ Some [] = left_here ∙ ap Some (nothing_left peer.steps peer.taken none) in rw gone refl

  module _ (step : Step) (next : slice_get peer.steps peer.taken ≡ Some step) where
    next_left : slice_get (map left_of peers) p ≡ Some (step ∷ drop (suc peer.taken) peer.steps)
    next_left = left_here ∙ ap Some (first_left peer.steps peer.taken step next)

    ruled : rule fabric (actors_of bound peers) p step ≡ fabric.step (seen fabric (actors_of bound peers) p) (actor_of bound peer.actor) step
    ruled = rw actor_here refl

    moment_with : (states : List Actor) (left : List (List Step)) → Moment Actor Step
    moment_with states left = record { states = states; left = left }

    took_it : (after : Peer) → fabric.step (seen fabric (actors_of bound peers) p) (actor_of bound peer.actor) step ≡ Some (actor_of bound after.actor) → after.taken ≡ peer.taken + 1 → after.steps ≡ peer.steps
        → turn (rule fabric) (moment_of bound peers) p ≡ Some (moment_of bound (set peers p after))
    took_it after stands taken steps =
        let rest : left_of after ≡ drop (suc peer.taken) peer.steps = ap₂ (λ (k : ℕ) (xs : List Step). drop k xs) (taken ∙ add-one peer.taken) steps in
        turn_taken (rule fabric) (moment_of bound peers) p step (drop (suc peer.taken) peer.steps) (actor_of bound after.actor) next_left (ruled ∙ stands)
        ∙ ap₂ (λ (states : List Actor) (left : List (List Step)). let m : Moment Actor Step = record { states = states; left = left } in Some m)
        (sym (map-set (λ (q : Peer). actor_of bound q.actor) peers p after)) (sym (map-set left_of peers p after ∙ ap (λ l. set (map left_of peers) p l) rest))

    left_it : (after : Peer) → fabric.step (seen fabric (actors_of bound peers) p) (actor_of bound peer.actor) step ≡ None → actor_of bound after.actor ≡ actor_of bound peer.actor → after.taken ≡ peer.taken + 0 → after.steps ≡ peer.steps
        → (turn (rule fabric) (moment_of bound peers) p ≡ None) × (moment_of bound (set peers p after) ≡ moment_of bound peers)
    left_it after stands same taken steps = (
      (let gone : rule fabric (actors_of bound peers) p step ≡ None = ruled ∙ stands in rw (next_left, gone) refl),
      (let rest : left_of after ≡ left_of (get_or peers p peer) = ap₂ (λ (k : ℕ) (xs : List Step). drop k xs) (omega arith) steps ∙ ap left_of is in
          ap₂ (λ (states : List Actor) (left : List (List Step)). let m : Moment Actor Step = record { states = states; left = left } in m)
          (map-set_same (λ (q : Peer). actor_of bound q.actor) peers p after peer (same ∙ ap (λ (q : Peer). actor_of bound q.actor) is))
          (map-set_same left_of peers p after peer rest)),
    )

    pub stepped : {E : Type 0} (r : Result Bool E) (after : Peer) (x : Option Actor) → x ≡ fabric.step (seen fabric (actors_of bound peers) p) (actor_of bound peer.actor) step
        → IfOk r (λ took. Took took (actor_of bound peer.actor) (actor_of bound after.actor) x) → IfOk r (λ took. after.taken ≡ peer.taken + cond took 1 0) → after.steps ≡ peer.steps
        → IfOk r (λ took. Took took (moment_of bound peers) (moment_of bound (set peers p after)) (turn (rule fabric) (moment_of bound peers) p))
    stepped (Ok true) after x led took taken steps = took_it after (sym led ∙ took) taken steps
    stepped (Ok false) after x led took taken steps = left_it after (sym led ∙ took.0) took.1 taken steps
    stepped (Err e) after x led took taken steps = tt

  pub same_steps : (after : Peer) → after.steps ≡ peer.steps → steps_of (set peers p after) ≡ steps_of peers
  same_steps after steps = map-set_same (λ (q : Peer). q.steps) peers p after peer (steps ∙ ap (λ (q : Peer). q.steps) is)

-- ---- the lowest that can

pub lowest_is : {M : Type 0} (gives : ℕ → Option M) (n k : ℕ) (x : M) → k < n → lowest gives k ≡ None → gives k ≡ Some x → lowest gives n ≡ Some x
lowest_is gives zero k x lt none here = absurd (omega arith)
lowest_is gives (suc n) k x lt none here = elim (cases_lt k n) [
  | inl before ↦ let f = lowest_is gives n k x before none here in rw f refl
  | inr behind ↦
      let same : k ≡ n = omega arith in
      let f : lowest gives n ≡ None = ap (lowest gives) (sym same) ∙ none in
      rw f (ap gives (sym same) ∙ here)
]

-- ---- all turns

module _ {S Step : Type 0} (rule : List S → ℕ → Step → Option S) (m x : Moment S Step) (n : ℕ) (many : n ≡ length m.left) (goes : lowest (turn rule m) n ≡ Some x) where
  taker : (p : ℕ) × (turn rule m p ≡ Some x)
  taker = lowest_some (turn rule m) n x goes

  uses : suc (steps_left x) ≡ steps_left m
  uses = let e = run_uses rule (taker.0 ∷ []) m x (x, taker.1, refl) in omega (arith, e)

  pub fewer : steps_left x < steps_left m
  fewer = omega (arith, uses)

  as_many : length x.left ≡ length m.left
  as_many =
      let t = turn_is rule m x taker.0 taker.1 in
      ap (λ (y : Moment S Step). length y.left) (t.5) ∙ length-set m.left taker.0 t.1

  pub goes_on : replay rule m ≡ replay rule x
  goes_on =
      let first : lowest (turn rule m) (length m.left) ≡ Some x = ap (lowest (turn rule m)) (sym many) ∙ goes in
      ap (λ k. replay_for (turn rule) (length m.left) k m) (sym uses)
      ∙ rw (first, replay_for) (ap (λ k. replay_for (turn rule) k (steps_left x) x) (sym as_many))

-- where no peer can take its next step the replay is over
over : {S Step : Type 0} (rule : List S → ℕ → Step → Option S) (m : Moment S Step) (turns : ℕ) → lowest (turn rule m) (length m.left) ≡ None → replay_for (turn rule) (length m.left) turns m ≡ m
over rule m zero none = refl
over rule m (suc turns) none = rw (none, replay_for) refl

pub ended : {S Step : Type 0} (rule : List S → ℕ → Step → Option S) (m : Moment S Step) (n : ℕ) → n ≡ length m.left → lowest (turn rule m) n ≡ None → replay rule m ≡ m
ended rule m n many none = over rule m (steps_left m) (ap (lowest (turn rule m)) (sym many) ∙ none)

pub peers_left : (bound : Bound) (peers : List Peer) → length peers ≡ length (moment_of bound peers).left
peers_left bound peers = sym (length-map peers left_of)

-- the step of the peer, read twice
pub same_step : (peers : List Peer) (p : ℕ) (a b : Peer) (step : Step) → slice_get peers p ≡ Some a → slice_get peers p ≡ Some b → slice_get a.steps a.taken ≡ Some step → slice_get b.steps b.taken ≡ Some step
same_step peers p a b step first second next = let same : a ≡ b = cc in subst (λ (q : Peer). slice_get q.steps q.taken ≡ Some step) same next

-- one turn more behind an order of turns
pub one_more_turn : {M : Type 0} (turn : M → ℕ → Option M) (order : List ℕ) (p : ℕ) (m x y : M) → Run turn m order x → turn x p ≡ Some y → Run turn m (order ++ p ∷ []) y
one_more_turn turn [] p m x y run goes = (y, ap (λ z. turn z p) run ∙ goes, refl)
one_more_turn turn (q ∷ order) p m x y run goes = (run.0, run.1, one_more_turn turn order p run.0 x y run.2 goes)

-- what holds of the peer that took the turn
pub taker_is : (A : Type 0) (B : ℕ → Type 0) (taker : Option ℕ) (p : ℕ) → taker ≡ Some p → MatchOption taker A B → B p
taker_is A B None p e m = absurd (cc)
taker_is A B (Some q) p e m = let same : q ≡ p = cc in subst B same m

-- what holds where no peer took one
pub no_taker : (A : Type 0) (B : ℕ → Type 0) (taker : Option ℕ) → taker ≡ None → MatchOption taker A B → A
no_taker A B None e m = m
no_taker A B (Some q) e m = absurd (cc)
