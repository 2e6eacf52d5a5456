-- Waits for requests.
--     fresh_of begun, ids_of requests     the number of the next request; those of these
--     Gives id mid new end                an end of this request is kept, and it is given and taken out
--     AwaitsEnd fixed id old new begun end     the rank goes on until it is; or memory lacks, and this is so
--     Awaits fixed id old new end         the same, where it is not told how memory lacks
--     AwaitsAll fixed ids old new ends    the same of one request after another
--     EndAll fixed ids old new answer     all of them ended, and their buffers come in their order, or the first failure
--     SendsAndWaits                       the send is begun, and its end is awaited
--     Joins all end answer                what is given of all ends, once there is one more
use Rattle.std.specs.Prelude.{◌≡◌, ◌⊎◌, ℕ, ◌+◌, ◌%◌, ◌^◌, Bool, List, [], ◌∷◌, ◌++◌, map, Some, Result, Ok, Err, Vec}
use Rattle.std.specs.declared.alloc.Global.{Global}
use Rattle.mini_mpi.specs.Going.{Goes, LacksMemory, Rank}
use Rattle.mini_mpi.specs.Posting.{BeginsSend}
use Rattle.mini_mpi.specs.Requests.{AllEnd, End, EndsAs, at_of, lacks}
use Rattle.mini_mpi.specs.declared.begun.Begun.{Begun}
use Rattle.mini_mpi.specs.declared.begun.Sending.{Sending}
use Rattle.mini_mpi.specs.declared.ended.Completed.{Completed}
use Rattle.mini_mpi.specs.declared.ended.Request.{Request}
use Rattle.mini_mpi.specs.declared.errors.Failed.{Failed}

abbrev pub fresh_of : Begun → ℕ
fresh_of begun = (begun.last + 1) % 2 ^ 63

abbrev pub ids_of : List Request → List ℕ
ids_of requests = map (λ request. request.id) requests

abbrev pub Joins : Result (Vec Completed Global) Failed → End → Result (Vec Completed Global) Failed → Type 0
Joins (Ok before) (Ok one) (Ok all) = all.items ≡ before.items ++ one ∷ []
Joins (Ok before) (Ok one) (Err failed) = failed ≡ lacks
Joins (Ok before) (Err failed) answer = answer ≡ Err failed
Joins (Err failed) end answer = answer ≡ Err failed

module _ {Home : Type 0} where
  pub record Gives (id : ℕ) (mid new : Rank Home) (end : End) : Type 0 where
    pub at : ℕ
    pub found : at_of id mid.ended ≡ Some at
    pub ends : EndsAs mid.ended at end new.ended
    pub same : new ≡ record mid { ended = new.ended }

  pub record AwaitsEnd (fixed : Bool) (id : ℕ) (old new : Rank Home) (begun : Begun) (end : End) : Type 0 where
    pub mid : Rank Home
    pub goes : Goes fixed old mid
    pub gives : Gives id mid new end ⊎ ((end ≡ Err lacks) × (new ≡ mid) × LacksMemory fixed old new begun)

  pub record Awaits (fixed : Bool) (id : ℕ) (old new : Rank Home) (end : End) : Type 0 where
    pub mid : Rank Home
    pub goes : Goes fixed old mid
    pub gives : Gives id mid new end ⊎ ((end ≡ Err lacks) × (new ≡ mid))

  abbrev pub AwaitsAll : Bool → List ℕ → Rank Home → Rank Home → List End → Type 0
  AwaitsAll fixed [] old new ends = (ends ≡ []) × (new ≡ old)
  AwaitsAll fixed (id ∷ ids) old new ends = (mid : Rank Home) × (end : End) × (rest : List End) × Awaits fixed id old mid end × AwaitsAll fixed ids mid new rest × (ends ≡ end ∷ rest)

  pub record EndAll (fixed : Bool) (ids : List ℕ) (old new : Rank Home) (answer : Result (Vec Completed Global) Failed) : Type 0 where
    pub ends : List End
    pub awaited : AwaitsAll fixed ids old new ends
    pub told : AllEnd ends answer

  pub record SendsAndWaits (fixed : Bool) (send : Sending) (old new : Rank Home) (back : List ℕ) : Type 0 where
    pub begun : Rank Home
    pub end : Completed
    pub begins : BeginsSend fixed send old.sends begun.sends old.seen begun.seen
    pub others : (begun.receives ≡ old.receives) × (begun.ended ≡ old.ended)
    pub awaits : Awaits fixed send.id begun new (Ok end)
    pub gives : back ≡ end.buf
