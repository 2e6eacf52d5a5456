-- Messages joined one after another, and the first bytes of what was joined.
use Rattle.std.proofs.Common.{◌≡◌, ℕ, suc, ◌+◌, ◌-◌, ◌*◌, ◌≤◌, min, List, [], ◌++◌, length, map, take, drop, slice_index_or, ap, ap₂, sym, ◌∙◌, arith, append-nil, append_assoc}
use Rattle.std.proofs.lemmas.List.{drop_min, take_min}
use Rattle.std.specs.List.{range_with_len}
use Rattle.fab_topology.specs.declared.kinds.Topology.{Topology}
use Rattle.fab_topology.specs.Rounds.{distance}
use Rattle.fab_collectives.specs.Routes.{heard_within}

-- a number that is cut at no less than the length takes as much
pub take_within : (n most : ℕ) (xs : List ℕ) → length xs ≤ most → take (min (min n most) (length xs)) xs ≡ take n xs
take_within n most xs fits = let same : min (min n most) (length xs) ≡ min n (length xs) = omega arith in
    ap (λ (k : ℕ). take k xs) same ∙ take_min n xs

pub drop_within : (n most : ℕ) (xs : List ℕ) → length xs ≤ most → drop (min (min n most) (length xs)) xs ≡ drop n xs
drop_within n most xs fits = let same : min (min n most) (length xs) ≡ min n (length xs) = omega arith in
    ap (λ (k : ℕ). drop k xs) same ∙ drop_min n xs

-- one message more of those that a round waits for
pub told_more : (topology : Topology) (len : ℕ) (received : List (List ℕ)) (own : List ℕ) (w k ahead : ℕ) (old new : List ℕ)
    → old ≡ own ++ heard_within topology len received w k → ahead ≡ w - distance topology k → new ≡ old ++ take (ahead * len) (slice_index_or received k [])
    → new ≡ own ++ heard_within topology len received w (k + 1)
told_more topology len received own w k ahead old new was is made = let next : suc k ≡ k + 1 = omega arith in
    made ∙ ap₂ (λ (xs ys : List ℕ). xs ++ ys) was (ap (λ (n : ℕ). take (n * len) (slice_index_or received k [])) is)
    ∙ append_assoc own (heard_within topology len received w k) (take ((w - distance topology k) * len) (slice_index_or received k []))
    ∙ ap (λ (n : ℕ). own ++ heard_within topology len received w n) next

-- nothing is appended yet, or at all
pub none_yet : (f : ℕ → List ℕ) (old : List (List ℕ)) (a n : ℕ) → n ≡ 0 → old ≡ old ++ map f (range_with_len a n)
none_yet f old a n none = sym (ap (λ (k : ℕ). old ++ map f (range_with_len a k)) none ∙ append-nil old)
