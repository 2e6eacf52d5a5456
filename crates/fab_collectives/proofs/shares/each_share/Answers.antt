use Rattle.std.proofs.Common.{◌≡◌, ℕ, ◌+◌, ◌-◌, List, ◌++◌, length, map, ap, ap₂, ◌∙◌, arith}
use Rattle.std.specs.List.{range_with_len}
use Rattle.fab_collectives.specs.Routes.{share_of}
use Rattle.fab_collectives.proofs.shares.each_share.Goals as goal

pub returns : goal.returns
returns c = let work = c.args.work in let len = length c.args.own.now in let count : work.rank - 0 ≡ work.rank = omega arith in
    let f : ℕ → List ℕ = λ s. share_of work len c.as_slice-bytes.result.now s in
    c.in_ok-append_behind.ensures
    ∙ ap (λ (xs : List (List ℕ)). xs ++ map f (range_with_len (work.rank + 1) (work.peers - (work.rank + 1))))
    (c.in_ok-append_shares.ensures ∙ ap₂ (λ (xs : List (List ℕ)) (n : ℕ). xs ++ map f (range_with_len 0 n)) c.new-all.ensures.items count)
    ∙ ap (λ (joined : List ℕ). map (λ s. share_of work len joined s) (range_with_len 0 work.rank) ++ map (λ s. share_of work len joined s) (range_with_len (work.rank + 1) (work.peers - (work.rank + 1))))
    (c.as_slice-bytes.ensures ∙ c.in_ok-joined.ensures)
