-- What a field of a CSV file spells: a number is 1 to 10 ASCII digits, with leading zeros.
use Rattle.std.specs.List.{list_all}
use Rattle.std.specs.Prelude.{ℕ, List, length, Bool, ◌&&◌, nat_le}
pub use Rattle.te_model.specs.Digits.{digits_from}

abbrev pub is_digit : ℕ → Bool
is_digit c = nat_le 48 c && nat_le c 57

-- 1 to 10 ASCII digits
abbrev pub is_number : List ℕ → Bool
is_number field = nat_le 1 (length field) && nat_le (length field) 10 && list_all is_digit field

-- a number from low to high
abbrev pub is_number_within : ℕ → ℕ → List ℕ → Bool
is_number_within low high field = is_number field && nat_le low (digits_from 0 field) && nat_le (digits_from 0 field) high
