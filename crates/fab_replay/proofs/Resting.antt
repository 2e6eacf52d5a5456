-- States at rest, in two parts.
use Rattle.std.proofs.Common.{◌≡◌, ℕ, zero, suc, ◌+◌, ◌<◌, Bool, true, false, not, ◌&&◌, List, [], ◌∷◌, length, drop, get_or, set, slice_get, Some, None, Result, Ok, Err, IfOk, refl, sym, ap, ◌∙◌, arith, add-one}
use Rattle.std.specs.List.{list_all}
use Rattle.std.proofs.Math.Seq.{drop-cons, map-set_same}
use Rattle.std.proofs.lemmas.Option.{slice_get_within, get_or_from_slice_get}
use Rattle.fab_base.specs.declared.script.Bound.{Bound}
use Rattle.fab_model.specs.Peers.{Actor, do_next}
use Rattle.fab_model.specs.Replay.{agree, agree_all, can_do, is_idle, all_idle, at_rest}
use Rattle.fab_replay.specs.declared.turns.Peer.{Peer}
use Rattle.fab_replay.specs.Seen.{actor_of, actors_of}
use Rattle.fab_replay.specs.Rest.{is_still, all_still}
use Rattle.fab_replay.proofs.Judging.{drop_peer}

regroup : (a b c d : Bool) → ((a && b) && (c && d)) ≡ ((a && c) && (b && d))
regroup true true c d = refl
regroup true false true d = refl
regroup true false false d = refl
regroup false b c d = refl

in_parts : (all : List Actor) (p : ℕ) (rest : List Actor) → all_idle all p rest ≡ (all_still all p rest && list_all (λ a. not (can_do a)) rest)
in_parts all p [] = refl
in_parts all p (a ∷ rest) =
    ap (λ b. is_idle all p a && b) (in_parts all (p + 1) rest)
    ∙ regroup (is_still all p a) (not (can_do a)) (all_still all (p + 1) rest) (list_all (λ a. not (can_do a)) rest)

pub rests : (all : List Actor) (still can : Bool) → still ≡ all_still all 0 all → still ≡ true → can ≡ list_all (λ a. not (can_do a)) all → can ≡ at_rest all
unfolding at_rest
rests all still can s holds c = c ∙ ap (λ b. b && list_all (λ a. not (can_do a)) all) (sym (sym s ∙ holds)) ∙ sym (in_parts all 0 all)

pub rests_not : (all : List Actor) (still : Bool) → still ≡ all_still all 0 all → still ≡ false → false ≡ at_rest all
unfolding at_rest
rests_not all still s fails = ap (λ b. b && list_all (λ a. not (can_do a)) all) (sym (sym s ∙ fails)) ∙ sym (in_parts all 0 all)

-- ---- one peer after another

here : (peers : List Peer) (k : ℕ) (x : Peer) → k < length peers → x ≡ get_or peers k x → drop k peers ≡ x ∷ drop (k + 1) peers
here peers k x within is = drop_peer peers k x within ∙ ap (λ y. y ∷ drop (k + 1) peers) (sym is)

module _ (bound : Bound) (peers : List Peer) (k : ℕ) (x : Peer) (within : k < length peers) (is : x ≡ get_or peers k x) where
  pub agree_more : (p : ℕ) (a : Actor) (whole : Bool) → agree p k a (actor_of bound x.actor) ≡ true → agree_all p k a (actors_of bound (drop k peers)) ≡ whole → agree_all p (k + 1) a (actors_of bound (drop (k + 1) peers)) ≡ whole
  agree_more p a whole e so_far = ap (λ b. b && agree_all p (k + 1) a (actors_of bound (drop (k + 1) peers))) (sym e) ∙ sym (ap (λ rest. agree_all p k a (actors_of bound rest)) (here peers k x within is)) ∙ so_far

  pub agree_not : (p : ℕ) (a : Actor) (whole : Bool) → agree p k a (actor_of bound x.actor) ≡ false → agree_all p k a (actors_of bound (drop k peers)) ≡ whole → false ≡ whole
  agree_not p a whole e so_far = ap (λ b. b && agree_all p (k + 1) a (actors_of bound (drop (k + 1) peers))) (sym e) ∙ sym (ap (λ rest. agree_all p k a (actors_of bound rest)) (here peers k x within is)) ∙ so_far

  pub still_more : (all : List Actor) (whole : Bool) → is_still all k (actor_of bound x.actor) ≡ true → all_still all k (actors_of bound (drop k peers)) ≡ whole → all_still all (k + 1) (actors_of bound (drop (k + 1) peers)) ≡ whole
  still_more all whole e so_far = ap (λ b. b && all_still all (k + 1) (actors_of bound (drop (k + 1) peers))) (sym e) ∙ sym (ap (λ rest. all_still all k (actors_of bound rest)) (here peers k x within is)) ∙ so_far

  pub still_not : (all : List Actor) (whole : Bool) → is_still all k (actor_of bound x.actor) ≡ false → all_still all k (actors_of bound (drop k peers)) ≡ whole → false ≡ whole
  still_not all whole e so_far = ap (λ b. b && all_still all (k + 1) (actors_of bound (drop (k + 1) peers))) (sym e) ∙ sym (ap (λ rest. all_still all k (actors_of bound rest)) (here peers k x within is)) ∙ so_far

-- ---- what can be done

cannot : (a : Actor) → do_next a ≡ None → not (can_do a) ≡ true
cannot a none = rw (none, can_do) refl

can : (a b : Actor) → do_next a ≡ Some b → not (can_do a) ≡ false
can a b some = rw (some, can_do) refl

abbrev pub none_of : List Actor → Bool
none_of all = list_all (λ a. not (can_do a)) all

drop_actor : (all : List Actor) (k : ℕ) (a : Actor) → slice_get all k ≡ Some a → drop k all ≡ a ∷ drop (k + 1) all
drop_actor all k a e = rw add-one (drop-cons all k a (slice_get_within all k a e) ∙ ap (λ b. b ∷ drop (suc k) all) (get_or_from_slice_get all k a a e))

pub none_more : (all : List Actor) (k : ℕ) (a : Actor) (whole : Bool) → slice_get all k ≡ Some a → do_next a ≡ None → none_of (drop k all) ≡ whole → none_of (drop (k + 1) all) ≡ whole
none_more all k a whole there none so_far = ap (λ b. b && none_of (drop (k + 1) all)) (sym (cannot a none)) ∙ sym (ap none_of (drop_actor all k a there)) ∙ so_far

pub none_not : (all : List Actor) (k : ℕ) (a b : Actor) (whole : Bool) → slice_get all k ≡ Some a → do_next a ≡ Some b → none_of (drop k all) ≡ whole → false ≡ whole
none_not all k a b whole there some so_far = ap (λ c. c && none_of (drop (k + 1) all)) (sym (can a b some)) ∙ sym (ap none_of (drop_actor all k a there)) ∙ so_far

pub same_after : (bound : Bound) (peers : List Peer) (k : ℕ) (x after : Peer) → x ≡ get_or peers k x → actor_of bound after.actor ≡ actor_of bound x.actor → actors_of bound (set peers k after) ≡ actors_of bound peers
same_after bound peers k x after is same = map-set_same (λ (q : Peer). actor_of bound q.actor) peers k after x (same ∙ ap (λ (q : Peer). actor_of bound q.actor) is)

pub peer_at : (peers : List Peer) (k : ℕ) → k < length peers → (x : Peer) × (x ≡ get_or peers k x)
peer_at [] k lt = absurd (omega arith)
peer_at (x ∷ peers) zero lt = (x, refl)
peer_at (x ∷ peers) (suc k) lt = peer_at peers k (omega arith)

pub rests_ok : {E : Type 0} (r : Result Bool E) (all : List Actor) (still : Bool) → still ≡ all_still all 0 all → still ≡ true → IfOk r (λ n. n ≡ none_of all) → IfOk r (λ n. n ≡ at_rest all)
rests_ok (Ok b) all still s holds is = rests all still b s holds is
rests_ok (Err e) all still s holds is = tt
