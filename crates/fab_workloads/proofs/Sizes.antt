-- How many bytes shares have.
use Rattle.std.proofs.Common.{All, List, [], ap, arith, get_or, length, map, refl, take, true, ℕ, ◌*◌, ◌++◌, ◌+◌, ◌<◌, ◌∙◌, ◌∷◌, ◌≡◌, ◌≤◌}
use Rattle.std.proofs.lemmas.Bool.Decides.{nat_tests}
use Rattle.std.proofs.lemmas.Bool.{and_parts}
use Rattle.std.proofs.lemmas.List.Elements.{All-head, All-tail}
use Rattle.std.proofs.lemmas.List.Sums.{sum_by-cons, sum_by-take-le, sum_by_push}
use Rattle.std.proofs.lemmas.List.{take_more}
use Rattle.std.specs.Prelude.{nat_le, sum_by}
use Rattle.fab_base.specs.declared.script.BytesWord.{BytesWord}
use Rattle.fab_model.specs.Calls.{word_bytes}
use Rattle.fab_words.specs.Bytes.{bytes_size}
use Rattle.fab_workloads.specs.Grammar.{a_round, are_short, bytes_before}
use Rattle.fab_workloads.specs.Reading.{IsSized}
use Rattle.fab_fold.specs.declared.coll.Coll.{Coll}
use Rattle.fab_workloads.specs.declared.round.Round.{Round}

pub one_size : (shares : List BytesWord) (k : ℕ) (d : BytesWord) → k < length shares → sum_by bytes_size (take (k + 1) shares) ≡ sum_by bytes_size (take k shares) + bytes_size (get_or shares k d)
one_size shares k d lt = ap (sum_by bytes_size) (take_more shares k d lt) ∙ sum_by_push bytes_size (take k shares) (get_or shares k d)

size_short : (share : BytesWord) → nat_le (bytes_size share) 4096 ≡ true → bytes_size share ≤ 4096
size_short share e = grind (arith, nat_tests, e)

pub all_few : (shares : List BytesWord) → are_short shares ≡ true → sum_by bytes_size shares ≤ 4096 * length shares
all_few [] short = omega arith
all_few (share ∷ shares) short =
    let parts = and_parts _ _ short in
    omega (arith, sum_by-cons bytes_size share shares, size_short share parts.0, all_few shares parts.1)

pub part_few : (shares : List BytesWord) (k : ℕ) → are_short shares ≡ true → length shares ≤ 32 → sum_by bytes_size (take k shares) ≤ 131_072
part_few shares k short few = omega (arith, sum_by-take-le bytes_size shares k, all_few shares short, few)

sized_sum : (shares : List BytesWord) → All IsSized shares → sum_by length (map word_bytes shares) ≡ sum_by bytes_size shares
sized_sum [] sized = refl
sized_sum (share ∷ shares) sized = omega (
  arith,
  sum_by-cons length (word_bytes share) (map word_bytes shares),
  sum_by-cons bytes_size share shares,
  All-head IsSized share shares sized,
  sized_sum shares (All-tail IsSized share shares sized),
)

pub bytes_more : (rounds : List Round) (number : ℕ) (coll : Coll) (shares : List BytesWord) → All IsSized shares
    → bytes_before (rounds ++ a_round number coll shares ∷ []) ≡ bytes_before rounds + sum_by bytes_size shares
bytes_more rounds number coll shares sized =
    sum_by_push (λ (round : Round). sum_by length round.shares) rounds (a_round number coll shares) ∙ ap (λ n. bytes_before rounds + n) (sized_sum shares sized)
