use Rattle.std.proofs.Common.{◌≡◌, ℕ, ◌<◌, ◌^◌, take, get_or}
use Rattle.std.specs.Int.{IsInRange}
use Rattle.std.specs.Str.Parse.{digits_value}
use Rattle.fab_av.proofs.names.number.Given as goal

-- what is read so far are digits, and their value fits
abbrev pub invariant-loop-byte : goal.invariant-loop-byte
invariant-loop-byte l = record {
  digits : (k : ℕ) → k < l.byte-index → IsInRange 48 57 (get_or l.digits k 0);
  value : l.value ≡ digits_value 10 (take l.byte-index l.digits);
  fits : l.value < 2 ^ 32;
}
