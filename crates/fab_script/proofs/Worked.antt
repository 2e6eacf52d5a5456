-- Files that fit a script or don't, the last of what may be and one more, worked out by the definitions alone. Which line of a
-- text is named, and whose lines are whose, stands in the rows of fab_grammar.
use Rattle.std.proofs.Common.{◌≡◌, ℕ, List, [], ◌∷◌, None, true, false, refl}
use Rattle.std.specs.Prelude.{codes, Ok}
use Rattle.fab_base.specs.declared.caps.Api.TheVariants.{One, Two}
use Rattle.fab_base.specs.declared.script.BytesWord.TheVariants.{Hex, File}
use Rattle.fab_base.specs.declared.script.LineOp.TheVariants.{Put, TRecv}
use Rattle.fab_base.specs.declared.script.Payload.{Payload}
use Rattle.fab_base.specs.declared.script.Script.{Script}
use Rattle.fab_grammar.specs.declared.items.Item.TheVariants.{Does}
use Rattle.fab_grammar.specs.Before.{Before, nothing}
use Rattle.fab_grammar.specs.Rules.{is_late, is_too_much}
use Rattle.fab_model.specs.Replay.{bind_word}
use Rattle.fab_script.specs.Bound.{is_inside}

-- one payload file, of five bytes
abbrev declared : List Payload
declared = record { id = 1; name = codes "f" } ∷ []

abbrev files : List (List ℕ)
files = (97 ∷ 98 ∷ 99 ∷ 100 ∷ 101 ∷ []) ∷ []

-- a range that ends with the file, and one that is a byte longer
inside : is_inside declared files (Put 1 0 (File 1 3 2)) ≡ true
inside = refl

longer : is_inside declared files (Put 1 0 (File 1 3 3)) ≡ false
longer = refl

-- the bytes of a range, from its place on
part : (script : Script) → bind_word (record { script = record script { payloads = declared }; files = files }) (File 1 1 3) ≡ Hex (98 ∷ 99 ∷ 100 ∷ [])
part script = refl

-- the last line that may be, and the next one
last : is_late 100000 ≡ false
last = refl

late : is_late 100001 ≡ true
late = refl

-- two lines with all the bytes that may be, but for one
abbrev before : Before
before = record nothing { items = Does (record { number = 4; op = TRecv 1 None 7 0 33554432 }) ∷ Does (record { number = 5; op = TRecv 2 None 7 0 33554431 }) ∷ [] }

full : is_too_much One before (Ok (TRecv 3 None 7 0 1)) ≡ false
full = refl

too_much : is_too_much One before (Ok (TRecv 3 None 7 0 2)) ≡ true
too_much = refl

-- and as many of the second version
abbrev before_two : Before
before_two = record nothing { items = Does (record { number = 4; op = TRecv 1 None 7 0 300000000 }) ∷ Does (record { number = 5; op = TRecv 2 None 7 0 299999999 }) ∷ [] }

full_two : is_too_much Two before_two (Ok (TRecv 3 None 7 0 1)) ≡ false
full_two = refl

too_much_two : is_too_much Two before_two (Ok (TRecv 3 None 7 0 2)) ≡ true
too_much_two = refl
