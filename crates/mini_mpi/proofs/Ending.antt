-- Ends of requests, one after another.
use Rattle.std.proofs.Common.{◌≡◌, ℕ, Bool, List, [], ◌∷◌, ◌++◌, append_assoc, Result, Ok, Err, inl, inr, refl, sym, ap, ◌∙◌, subst}
use Rattle.std.specs.Prelude.{Vec}
use Rattle.std.proofs.lemmas.List.{map-append}
use Rattle.std.specs.declared.alloc.Global.{Global}
use Rattle.mini_mpi.specs.Going.{Rank}
use Rattle.mini_mpi.specs.Requests.{AllEnd, End, IsFirst, completions}
use Rattle.mini_mpi.specs.Waiting.{Awaits, AwaitsAll, AwaitsEnd, EndAll, Joins, ids_of}
use Rattle.mini_mpi.specs.declared.begun.Begun.{Begun}
use Rattle.mini_mpi.specs.declared.ended.Completed.{Completed}
use Rattle.mini_mpi.specs.declared.ended.Request.{Request}
use Rattle.mini_mpi.specs.declared.errors.Failed.{Failed}

module _ {Home : Type 0} where
  -- how memory lacks is left out
  pub awaited : (fixed : Bool) (id : ℕ) (a b : Rank Home) (begun : Begun) (end : End) → AwaitsEnd fixed id a b begun end → Awaits fixed id a b end
  awaited fixed id a b begun end w = record {
    mid = w.mid;
    goes = w.goes;
    gives = elim w.gives [ inl gives ↦ inl gives | inr lacking ↦ inr (lacking.0, lacking.1) ];
  }

  pub awaits_on : (fixed : Bool) (ids : List ℕ) (id : ℕ) (a b c : Rank Home) (ends : List End) (end : End) → AwaitsAll fixed ids a b ends → Awaits fixed id b c end
      → AwaitsAll fixed (ids ++ id ∷ []) a c (ends ++ end ∷ [])
  awaits_on fixed [] id a b c ends end (none, same) awaits =
      (c, end, [], subst (λ (r : Rank Home). Awaits fixed id r c end) same awaits, (refl, refl), ap (λ (xs : List End). xs ++ end ∷ []) none)
  awaits_on fixed (first ∷ ids) id a b c ends end (mid, its, rest, one, all, is) awaits =
      (mid, its, rest ++ end ∷ [], one, awaits_on fixed ids id mid b c rest end all awaits, ap (λ (xs : List End). xs ++ end ∷ []) is)

all_complete : (before : List Completed) (one : Completed) → completions before ++ Ok one ∷ [] ≡ completions (before ++ one ∷ [])
all_complete [] one = refl
all_complete (first ∷ before) one = ap (λ (xs : List End). Ok first ∷ xs) (all_complete before one)

first_still : (ends : List End) (end : End) (failed : Failed) → IsFirst ends failed → IsFirst (ends ++ end ∷ []) failed
first_still ends end failed (before, behind, is) =
    (before, behind ++ end ∷ [], ap (λ (xs : List End). xs ++ end ∷ []) is ∙ append_assoc (completions before) (Err failed ∷ behind) (end ∷ []))

pub joins : (ends : List End) (end : End) (all answer : Result (Vec Completed Global) Failed) → AllEnd ends all → Joins all end answer → AllEnd (ends ++ end ∷ []) answer
joins ends (Ok one) (Ok before) (Ok all) are is =
    ap (λ (xs : List End). xs ++ Ok one ∷ []) are ∙ all_complete before.items one ∙ ap completions (sym is)
joins ends (Ok one) (Ok before) (Err failed) are is = inr is
joins ends (Err failed) (Ok before) answer are is =
    subst (AllEnd (ends ++ Err failed ∷ [])) (sym is) (inl (before.items, [], ap (λ (xs : List End). xs ++ Err failed ∷ []) are))
joins ends end (Err failed) answer (inl first) is = subst (AllEnd (ends ++ end ∷ [])) (sym is) (inl (first_still ends end failed first))
joins ends end (Err failed) answer (inr lacking) is = subst (AllEnd (ends ++ end ∷ [])) (sym is) (inr lacking)

-- one more request has ended
module _ {Home : Type 0} where
  pub all_ended : (fixed : Bool) (requests : List Request) (request : Request) (a b c : Rank Home) (end : End) (all answer : Result (Vec Completed Global) Failed) → EndAll fixed (ids_of requests) a b all
      → Awaits fixed request.id b c end → Joins all end answer → EndAll fixed (ids_of (requests ++ request ∷ [])) a c answer
  all_ended fixed requests request a b c end all answer each awaits join = record {
    ends = each.ends ++ end ∷ [];
    awaited = subst (λ (ids : List ℕ). AwaitsAll fixed ids a c (each.ends ++ end ∷ [])) (sym (map-append (λ (r : Request). r.id) requests (request ∷ [])))
        (awaits_on fixed (ids_of requests) request.id a b c each.ends end each.awaited awaits);
    told = joins each.ends end all answer each.told join;
  }
