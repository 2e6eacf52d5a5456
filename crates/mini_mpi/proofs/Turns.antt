-- Receives that wait, each tried in its turn.
--     Turns k old new      the first k that waited were tried, and those of them that were refused for now stand behind the others
use Rattle.std.proofs.Common.{◌≡◌, ℕ, ◌+◌, ◌<◌, List, [], ◌∷◌, ◌++◌, length, inl, inr, refl, sym, ap, ◌∙◌, subst, append_assoc, length-append, arith}
use Rattle.std.proofs.lemmas.List.{append-nil}
use Rattle.mini_mpi.specs.Going.{PostsEach, Rank, TakesTurn, TriesAll, left_of, never_of}
use Rattle.mini_mpi.specs.declared.begun.Receiving.{Receiving}
use Rattle.mini_mpi_parts.specs.declared.ended.Ended.{Ended}
use Rattle.mini_mpi.specs.Requests.{End}
use Rattle.mini_mpi.proofs.Going.{tries_on}

module _ {Home : Type 0} where
  pub record Turns (k : ℕ) (old new : Rank Home) : Type 0 where
    pub done : List Receiving
    pub rest : List Receiving
    pub kept : List Receiving
    pub never : List (Ended End)
    pub waited : old.receives ≡ done ++ rest
    pub count : length done ≡ k
    pub queue : new.receives ≡ rest ++ kept
    pub tries : TriesAll done old.seen new.seen kept never
    pub sends : new.sends ≡ old.sends
    pub ended : new.ended ≡ old.ended ++ never

  pub none_yet : (r : Rank Home) → Turns 0 r r
  none_yet r = record {
    done = [];
    rest = r.receives;
    kept = [];
    never = [];
    waited = refl;
    count = refl;
    queue = sym (append-nil r.receives);
    tries = (refl, refl, refl);
    sends = refl;
    ended = sym (append-nil r.ended);
  }

  -- a turn of the first in the queue, where one that was not tried is left
  after : (k : ℕ) (a b c : Rank Home) (t : Turns k a b) (rest : List Receiving) → t.rest ≡ rest → k < length a.receives → TakesTurn b c → Turns (k + 1) a c
  after k a b c t [] none below turn =
      let all = ap length (t.waited ∙ ap (λ (xs : List Receiving). t.done ++ xs) none) in
      let long = length-append t.done [] in
      let count = t.count in
      absurd (omega (arith, all, long, count, below))
  after k a b c t (next ∷ rest) is below (inl (empty, same)) = absurd (cc (empty, t.queue, is))
  after k a b c t (next ∷ rest) is below (inr one) =
      let front : one.receive ∷ one.behind ≡ next ∷ (rest ++ t.kept) = sym one.first ∙ t.queue ∙ ap (λ (xs : List Receiving). xs ++ t.kept) is in
      let its : one.receive ≡ next = search (front) in
      let others : one.behind ≡ rest ++ t.kept = search (front) in
      record {
        done = t.done ++ one.receive ∷ [];
        rest = rest;
        kept = t.kept ++ left_of one.tried [];
        never = t.never ++ never_of one.receive.id one.tried;
        waited = t.waited ∙ ap (λ (xs : List Receiving). t.done ++ xs) (is ∙ ap (λ (r : Receiving). r ∷ rest) (sym its)) ∙ sym (append_assoc t.done (one.receive ∷ []) rest);
        count = length-append t.done (one.receive ∷ []) ∙ ap (λ (n : ℕ). n + 1) t.count;
        queue = one.receives ∙ ap (λ (xs : List Receiving). xs ++ left_of one.tried []) others ∙ append_assoc rest t.kept (left_of one.tried []);
        tries = tries_on t.done one.receive a.seen b.seen c.seen t.kept t.never one.tried t.tries one.tries;
        sends = one.sends ∙ t.sends;
        ended = one.ended ∙ ap (λ (xs : List (Ended End)). xs ++ never_of one.receive.id one.tried) t.ended ∙ append_assoc a.ended t.never (never_of one.receive.id one.tried);
      }

  pub one_more : (k : ℕ) (a b c : Rank Home) → Turns k a b → k < length a.receives → TakesTurn b c → Turns (k + 1) a c
  one_more k a b c t below turn = after k a b c t t.rest refl below turn

  -- all had their turn
  ends : (k : ℕ) (a b : Rank Home) (t : Turns k a b) (rest : List Receiving) → t.rest ≡ rest → k ≡ length a.receives → PostsEach a b
  ends k a b t [] none all = record {
    never = t.never;
    tries =
        let whole : a.receives ≡ t.done = t.waited ∙ ap (λ (xs : List Receiving). t.done ++ xs) none ∙ append-nil t.done in
        let left : b.receives ≡ t.kept = t.queue ∙ ap (λ (xs : List Receiving). xs ++ t.kept) none in
        subst (λ (xs : List Receiving). TriesAll xs a.seen b.seen b.receives t.never) (sym whole)
        (subst (λ (xs : List Receiving). TriesAll t.done a.seen b.seen xs t.never) (sym left) t.tries);
    sends = t.sends;
    ended = t.ended;
  }
  ends k a b t (next ∷ rest) is all =
      let long = ap length (t.waited ∙ ap (λ (xs : List Receiving). t.done ++ xs) is) in
      let sum = length-append t.done (next ∷ rest) in
      let count = t.count in
      absurd (omega (arith, all, long, sum, count))

  pub all_had : (k : ℕ) (a b : Rank Home) → Turns k a b → k ≡ length a.receives → PostsEach a b
  all_had k a b t all = ends k a b t t.rest refl all
