use Rattle.std.proofs.Common.{◌≡◌, true, take}
use Rattle.std.specs.List.{list_all}
use Rattle.fab_model.specs.Words.{read_decimal}
use Rattle.fab_report.specs.Reading.{is_digit}
use Rattle.fab_report.proofs.reading.peer_in.Given as goal

-- what is read so far are digits, and this is their number
abbrev pub invariant-loop-byte : goal.invariant-loop-byte
invariant-loop-byte l = record {
  digits : list_all is_digit (take l.byte-index l.digits) ≡ true;
  value : l.number ≡ read_decimal (take l.byte-index l.digits);
}
