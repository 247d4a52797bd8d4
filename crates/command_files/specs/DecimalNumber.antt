-- The numbers that words spell.
use Rattle.std.specs.Prelude.{ℕ, ◌^◌, List, Option, Some, None, ◌&&◌, nat_lt, bytes_eq, decimal, if◌then◌else◌}
use Rattle.std.specs.Str.Parse.{digits_value}

-- the number of which the word is the decimal, where it is below 2^64
abbrev pub decimal_number : List ℕ → Option ℕ
decimal_number word = if nat_lt (digits_value 10 word) (2 ^ 64) && bytes_eq (decimal (digits_value 10 word)) word then Some (digits_value 10 word) else None
