-- What is said together, each says.
use Rattle.std.proofs.Common.{◌≡◌, ℕ, List, Bool, true, false, cond, Option, Some, None, ap, refl}
use Rattle.std.specs.Prelude.{Result, Ok, Err, ok_or}
use Rattle.std.specs.Str.{is_utf8}
use Rattle.fab_words.specs.declared.misread.Misread.{Misread}
use Rattle.fab_words.specs.declared.misread.Misread.TheVariants.{Words}
use Rattle.fab_words.specs.Misreads.{◌&◌, map_ok}
use Rattle.fab_words.specs.Words.{read_text}

pub both_said : {A B : Type 0} (a : Result A Misread) (b : Result B Misread) (p : A × B) → (a & b) ≡ Ok p → (a ≡ Ok p.0) × (b ≡ Ok p.1)
both_said {A} {B} (Ok a) (Ok b) p e =
    let same : ◌≡◌ {A = A × B} (a, b) p = cc in
    (ap (λ q. Ok q.0) same, ap (λ q. Ok q.1) same)
both_said (Ok a) (Err g) p e = cc
both_said (Err f) (Ok b) p e = cc
both_said (Err f) (Err g) p e = cc

pub said_by : {A B : Type 0} (f : A → B) (r : Result A Misread) (y : B) → map_ok f r ≡ Ok y → (x : A) × (r ≡ Ok x) × (f x ≡ y)
said_by f (Ok x) y e = (x, refl, cc)
said_by f (Err fault) y e = cc

pub some_said : {A : Type 0} (o : Option A) (fault : Misread) (x : A) → ok_or o fault ≡ Ok x → o ≡ Some x
some_said (Some y) fault x e = cc
some_said None fault x e = cc

-- what is said where a test holds
pub said_if : {A : Type 0} (test : Bool) (r : Result A Misread) (fault : Misread) (x : A) → cond test r (Err fault) ≡ Ok x → (test ≡ true) × (r ≡ Ok x)
said_if true r fault x e = (refl, e)
said_if false r fault x e = cc

-- a text is its word
pub text_said : (word text : List ℕ) → read_text word ≡ Ok text → text ≡ word
unfolding read_text
text_said word text e = by (is_utf8 word) e
  where
    by : (b : Bool) → cond b (Ok word) (Err Words) ≡ Ok text → text ≡ word
    by true f = cc
    by false f = cc
