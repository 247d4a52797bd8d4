-- Reading the lines of a table from left to right.
use Rattle.std.specs.Prelude.{ℕ, suc, Bool, List, [], ◌∷◌, ◌++◌, take, codes, bytes_eq, Result, Ok, Err, slice_index, ◌==◌, if◌then◌else◌}
use Rattle.std.specs.Char.{is_ascii_digit}
use Rattle.cert_text.specs.LineEnds.{read_line_end_after}
use Rattle.cert_text.specs.Place.{Place, ◌>>=◌}
use Rattle.cert_text.specs.Reading.{read_number, read_name, read_next_number, read_many}
use Rattle.number_tables.specs.declared.line.NumLine.{NumLine}
use Rattle.number_tables.specs.Table.{is_word}

-- how many spaces stand before the first line feed
abbrev pub spaces_in_line : List ℕ → ℕ
spaces_in_line [] = 0
spaces_in_line (b ∷ bs) = if b == 10 then 0 else (if b == 32 then suc (spaces_in_line bs) else spaces_in_line bs)

-- the line `end` and its line feed stand next
abbrev pub begins_with_end : List ℕ → Bool
begins_with_end bytes = bytes_eq (take 4 bytes) (codes "end\n")

-- a word of a table
unfoldable pub read_word_token : Place → Result (List ℕ × Place) ℕ
read_word_token p = do
  w ← read_name p
  if is_word w.0 then Ok w else Err w.1.line

-- the numbers of the line after those of front, and the line feed
unfoldable pub read_last : List ℕ → Place → Result (List ℕ × Place) ℕ
read_last front p = do
  xs ← read_many (spaces_in_line p.rest) read_next_number p
  read_line_end_after (front ++ xs.0) xs.1

-- a line that a number begins
unfoldable pub read_numbers_line : Place → Result (NumLine × Place) ℕ
read_numbers_line p = do
  first ← read_number p
  all ← read_last (first.0 ∷ []) first.1
  Ok (record { word = []; numbers = all.0 }, all.1)

-- a line that a word begins
unfoldable pub read_word_line : Place → Result (NumLine × Place) ℕ
read_word_line p = do
  w ← read_word_token p
  all ← read_last [] w.1
  Ok (record { word = w.0; numbers = all.0 }, all.1)

-- a line of a table
unfoldable pub read_line : Place → Result (NumLine × Place) ℕ
read_line p = if is_ascii_digit (slice_index p.rest 0) then read_numbers_line p else read_word_line p
