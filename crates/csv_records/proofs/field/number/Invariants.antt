use Rattle.std.proofs.Common.{◌≡◌, ◌<◌, ◌^◌, drop}
use Rattle.std.specs.List.{list_all}
use Rattle.csv_records.specs.Field.{digits_from, is_digit}
use Rattle.csv_records.proofs.field.number.Given as goal

-- the digits that are left go on from the number
abbrev pub invariant-loop-byte : goal.invariant-loop-byte
invariant-loop-byte l = record {
  number : digits_from l.number (drop l.byte-index l.field) ≡ digits_from 0 l.field;
  digits : list_all is_digit (drop l.byte-index l.field) ≡ list_all is_digit l.field;
  small : l.number < 10 ^ l.byte-index;
}
