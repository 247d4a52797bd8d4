-- Small files: tables of which each line says what is due after it.
use Rattle.std.specs.Prelude.{◌≡◌, ◌↔◌, ℕ, suc, ◌+◌, List, [], ◌∷◌, Bool, IsTrue, ◌&&◌, ◌⊎◌, Option, Some, None, bytes_eq, ◌==◌, length, if◌then◌else◌}
use Rattle.te_model.specs.Faults.{line_ends, LeavesAt}
use Rattle.number_tables.specs.declared.line.NumLine.{NumLine}
use Rattle.number_tables.specs.Table.{IsLine, AreLines, table_text}

-- nothing more, or a line with this word whose numbers pass a test, after which more may be due by these numbers
pub data Due : Type 0 where
  done : Due
  line : (word : List ℕ) → (test : List ℕ → Bool) → (next : List ℕ → Due) → Due

-- a line of a word, which is empty where there is none, and numbers
abbrev pub word_line : List ℕ → List ℕ → NumLine
word_line word numbers = record { word = word; numbers = numbers }

-- so many numbers
abbrev pub has_count : ℕ → List ℕ → Bool
has_count count numbers = length numbers == count

-- the lines are those that are due
abbrev pub AreDue : Due → List NumLine → Type 0
AreDue done [] = Unit {0}
AreDue done (l ∷ ls) = ⊥
AreDue (line word test next) [] = ⊥
AreDue (line word test next) (l ∷ ls) = (l.word ≡ word) × IsTrue (test l.numbers) × AreDue (next l.numbers) ls

-- a line that is due can always follow, until none is
abbrev pub CanEnd : Due → Type 0
CanEnd done = Unit {0}
CanEnd (line word test next) =
    ((numbers : List ℕ) × IsLine (word_line word numbers) × IsTrue (test numbers))
    × ((numbers : List ℕ) → IsTrue (test numbers) → CanEnd (next numbers))

abbrev pub one_later : Option ℕ → Option ℕ
one_later None = None
one_later (Some k) = Some (suc k)

-- the place of the first line that is not the one that is due, the end of the lines being one
abbrev pub first_undue : Due → List NumLine → Option ℕ
first_undue done [] = None
first_undue done (l ∷ ls) = Some 0
first_undue (line word test next) [] = Some 0
first_undue (line word test next) (l ∷ ls) =
    if bytes_eq l.word word && test l.numbers then one_later (first_undue (next l.numbers) ls) else Some 0

-- lines of a table that are those that are due
abbrev pub AreFile : Due → List NumLine → Type 0
AreFile due ls = AreLines ls × AreDue due ls

-- The bytes leave the small files of this kind at line k: where they are no table there they leave the tables, and else
-- they are a table and leave these files there.
abbrev pub LeavesSmallFiles : List ℕ → Due → List ℕ → ℕ → Type 0
LeavesSmallFiles first due bytes k =
    LeavesAt AreLines (table_text first) bytes k
    ⊎ (((ls : List NumLine) × AreLines ls × (bytes ≡ table_text first ls)) × LeavesAt (AreFile due) (table_text first) bytes k)

-- the first line that is not due is the one at which a table leaves the files; the first line of the file comes before it
abbrev pub FirstUndueLeaves : Type 0
FirstUndueLeaves =
    (first : List ℕ) → line_ends first ≡ 0 → (due : Due) → CanEnd due → (ls : List NumLine) → AreLines ls →
    (first_undue due ls ≡ None ↔ AreDue due ls)
    × ((k : ℕ) → first_undue due ls ≡ Some k → LeavesAt (AreFile due) (table_text first) (table_text first ls) (k + 2))

-- bytes leave the small files of a kind at one line at most, and a file of the kind at none
abbrev pub OneSmallFault : Type 0
OneSmallFault =
    (first : List ℕ) (due : Due) (bytes : List ℕ) →
    ((j k : ℕ) → LeavesSmallFiles first due bytes j → LeavesSmallFiles first due bytes k → j ≡ k)
    × ((ls : List NumLine) → AreFile due ls → bytes ≡ table_text first ls → (k : ℕ) → LeavesSmallFiles first due bytes k → ⊥)

-- and each other file leaves them at a line
abbrev pub SmallFileOrFault : Type 0
SmallFileOrFault =
    (first : List ℕ) → line_ends first ≡ 0 → (due : Due) → CanEnd due → (bytes : List ℕ) →
    ((ls : List NumLine) × AreFile due ls × (bytes ≡ table_text first ls)) ⊎ ((k : ℕ) × LeavesSmallFiles first due bytes k)
