-- Tables, the common form of small files: a first line, lines of a word and numbers, and an end.
use Rattle.std.specs.Prelude.{ℕ, ◌++◌, Bool, not, ◌&&◌, List, [], ◌∷◌, length, map, codes, bytes_eq, nat_le, ◌==◌, IsTrue, if◌then◌else◌}
use Rattle.std.specs.List.{flat_map, list_all, AllByRecursion}
use Rattle.te_model.specs.Text.{numbers, words}
use Rattle.cert_text.specs.Fits.{AreWords}
use Rattle.number_tables.specs.declared.line.NumLine.{NumLine}

-- a letter a-z
abbrev pub is_letter : ℕ → Bool
is_letter b = nat_le 97 b && nat_le b 122

-- 1 to 16 letters, and not the word that ends a table
abbrev pub is_word : List ℕ → Bool
is_word w = nat_le 1 (length w) && nat_le (length w) 16 && list_all is_letter w && not (bytes_eq w (codes "end"))

-- a word, or numbers, or both; each number has 64 bits
pub record IsLine (l : NumLine) : Type 0 where
  pub begun : IsTrue (if length l.word == 0 then nat_le 1 (length l.numbers) else is_word l.word)
  pub numbers : AreWords l.numbers

-- lines of a table
abbrev pub AreLines : List NumLine → Type 0
AreLines ls = AllByRecursion IsLine ls

-- the word and the numbers in decimal, one space between two
abbrev pub line_text : NumLine → List ℕ
line_text l = if length l.word == 0 then numbers l.numbers else words l.word l.numbers

-- the first line, the lines, and the end
abbrev pub table_lines : List ℕ → List NumLine → List (List ℕ)
table_lines first ls = first ∷ (map line_text ls ++ codes "end" ∷ [])

-- the file of lines: each ended by a line feed
abbrev pub file_of : List (List ℕ) → List ℕ
file_of lines = flat_map (λ line. line ++ 10 ∷ []) lines

-- the text of a table
abbrev pub table_text : List ℕ → List NumLine → List ℕ
table_text first ls = file_of (table_lines first ls)
