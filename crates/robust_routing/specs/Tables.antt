-- Tables of small numbers.
use Rattle.std.specs.Prelude.{ℕ, ◌+◌, ◌-◌, ◌*◌, ◌^◌, List, min, slice_index, slice_set}

-- rows of numbers, one row after another, all of one width
pub record NumberTable : Type 0 where
  pub width : ℕ
  pub numbers : List ℕ

-- where the number of a row and a column stands
abbrev pub place_in : NumberTable → ℕ → ℕ → ℕ
place_in t row column = row * t.width + column

-- the number there, or 0 outside
abbrev pub number_in : NumberTable → ℕ → ℕ → ℕ
number_in t row column = slice_index t.numbers (place_in t row column)

-- the table with this number there, or the greatest one of 32 bits where it is greater
abbrev pub with_number : NumberTable → ℕ → ℕ → ℕ → NumberTable
with_number t row column n =
    record { width = t.width; numbers = slice_set t.numbers (place_in t row column) (min n (2 ^ 32 - 1)) }
