-- Shares that are read one after another.
use Rattle.std.proofs.Common.{List, None, Option, Some, [], ap, append_assoc, append-nil, refl, sym, ◌++◌, ◌∷◌, ◌≡◌}
use Rattle.std.specs.List.{cons_option}
use Rattle.std.specs.Prelude.{Err, Ok, Result}
use Rattle.std.specs.Result.{result_ok}
use Rattle.fab_base.specs.declared.script.BytesWord.{BytesWord}
use Rattle.fab_words.specs.Misreads.{first_misread, map_ok, ◌&◌}
use Rattle.fab_words.specs.declared.misread.Misread.TheVariants.{Limit, Number, Words}
use Rattle.fab_words.specs.declared.misread.Misread.{Misread}
use Rattle.fab_workloads.specs.Grammar.{one_more}
use Rattle.fab_workloads.specs.Reading.{unless, with_fault, with_share}

abbrev Shares : Type 0
Shares = Result (List BytesWord) Misread

-- those that were read, and those that are left
abbrev pub joined : Shares → Shares → Shares
joined (Ok xs) (Ok ys) = Ok (xs ++ ys)
joined (Ok xs) (Err g) = Err g
joined (Err f) (Ok ys) = Err f
joined (Err f) (Err g) = Err (first_misread f g)

pub joined_none : (b : Shares) → joined (Ok []) b ≡ b
joined_none (Ok ys) = refl
joined_none (Err g) = refl

pub first_of_three : (f g h : Misread) → first_misread f (first_misread g h) ≡ first_misread (first_misread f g) h
first_of_three Words g h = refl
first_of_three Number Words h = refl
first_of_three Number Number Words = refl
first_of_three Number Number Number = refl
first_of_three Number Number Limit = refl
first_of_three Number Limit h = refl
first_of_three Limit g h = refl

-- a share is read of the next word
pub one_read : (wrong : Option Misread) (shares : List BytesWord) (said : Result BytesWord Misread) (rest : Shares)
    → joined (unless wrong shares) (map_ok one_more (said & rest)) ≡ joined (unless (with_fault wrong said) (with_share shares said)) rest
one_read None shares (Ok share) (Ok rest) = ap Ok (sym (append_assoc shares (share ∷ []) rest))
one_read None shares (Ok share) (Err g) = refl
one_read None shares (Err f) (Ok rest) = refl
one_read None shares (Err f) (Err g) = refl
one_read (Some w) shares (Ok share) (Ok rest) = refl
one_read (Some w) shares (Ok share) (Err g) = refl
one_read (Some w) shares (Err f) (Ok rest) = refl
one_read (Some w) shares (Err f) (Err g) = ap Err (first_of_three w f g)

pub one_kept : (shares : List BytesWord) (said : Result BytesWord Misread) (rest : List BytesWord) → shares ++ cons_option (result_ok said) rest ≡ with_share shares said ++ rest
one_kept shares (Ok share) rest = sym (append_assoc shares (share ∷ []) rest)
one_kept shares (Err f) rest = refl

pub none_left : (wrong : Option Misread) (shares : List BytesWord) → joined (unless wrong shares) (Ok []) ≡ unless wrong shares
none_left None shares = ap Ok (append-nil shares)
none_left (Some w) shares = refl
