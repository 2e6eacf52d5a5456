use Rattle.std.proofs.Common.{◌≡◌, ◌<◌, ◌^◌, true, take}
use Rattle.std.specs.Char.{is_digit}
use Rattle.std.specs.List.{list_all}
use Rattle.std.specs.Str.Parse.{digits_value}
use Rattle.fab_words.proofs.words.numeral.Given as goal

-- what is read so far are digits, and their value fits
abbrev pub invariant-loop-byte : goal.invariant-loop-byte
invariant-loop-byte l = record {
  digits : list_all (λ digit. is_digit digit l.radix) (take l.byte-index l.digits) ≡ true;
  value : l.value ≡ digits_value l.radix (take l.byte-index l.digits);
  fits : l.value < 2 ^ 64;
}
