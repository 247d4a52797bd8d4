-- Reading the lines of a table of which each has to be the one that is due.
use Rattle.std.specs.Prelude.{◌≡◌, ℕ, ◌+◌, Bool, IsTrue, List, [], ◌∷◌, length, Result, Ok, Err, Some}
use Rattle.number_tables.specs.declared.due.DueLines.{DueLines}
use Rattle.number_tables.specs.declared.fault.TableFault.{TableFault}
use Rattle.number_tables.specs.declared.fault.TableFault.TheVariants as faults
use Rattle.number_tables.specs.declared.line.NumLine.{NumLine}
use Rattle.number_tables.specs.Due.{Due, done, line, first_undue, word_line}
use Rattle.number_tables.specs.Passing.{StandsBefore, next_number}
use Rattle.number_tables.specs.Table.{AreLines}

-- these lines of a table are left to read
abbrev pub IsBefore : DueLines → List NumLine → Type 0
IsBefore due ls = AreLines ls × StandsBefore due.lines ls

-- the number in the file of the line that is next, counted from 1
abbrev pub next_line : DueLines → ℕ
next_line due = next_number due.lines

-- What is read before these lines: a value that begins them, and the lines after it are left; or these lines leave what is
-- due, and the fault has the number of the first that is not due.
abbrev pub TakesDue : {X : Type 0} → (X → List NumLine → List NumLine → Type 0) → (List NumLine → ℕ → Type 0) → Result X TableFault → DueLines → DueLines → List NumLine → Type 0
TakesDue Begins Leaves (Ok x) before after ls =
    (more : List NumLine) × Begins x ls more × IsBefore after more × (next_line after + length more ≡ next_line before + length ls)
TakesDue Begins Leaves (Err (faults.Shape k)) before after ls = (j : ℕ) × (k ≡ next_line before + j) × Leaves ls j
TakesDue Begins Leaves (Err faults.Memory) before after ls = Unit {0}

-- a line with this word and these numbers
abbrev pub BeginsWithWord : List ℕ → List ℕ → List NumLine → List NumLine → Type 0
BeginsWithWord word numbers ls more = ls ≡ word_line word numbers ∷ more

-- no such line where one is due, whatever its numbers are to be and whatever is due after it
abbrev pub LeavesAtWord : List ℕ → List NumLine → ℕ → Type 0
LeavesAtWord word ls j = (test : List ℕ → Bool) (next : List ℕ → Due) → first_undue (line word test next) ls ≡ Some j

-- a line with this word whose numbers pass the test
abbrev pub BeginsWithLine : List ℕ → (List ℕ → Bool) → List ℕ → List NumLine → List NumLine → Type 0
BeginsWithLine word test numbers ls more = IsTrue (test numbers) × (ls ≡ word_line word numbers ∷ more)

-- no such line where one is due, whatever is due after it
abbrev pub LeavesAtLine : List ℕ → (List ℕ → Bool) → List NumLine → ℕ → Type 0
LeavesAtLine word test ls j = (next : List ℕ → Due) → first_undue (line word test next) ls ≡ Some j

-- a line with this word and one number
abbrev pub BeginsWithNumber : List ℕ → ℕ → List NumLine → List NumLine → Type 0
BeginsWithNumber word number ls more = ls ≡ word_line word (number ∷ []) ∷ more

-- no line, and a line where none is due
abbrev pub BeginsWithEnd : Unit {0} → List NumLine → List NumLine → Type 0
BeginsWithEnd _ ls more = (ls ≡ []) × (more ≡ [])

abbrev pub LeavesAtEnd : List NumLine → ℕ → Type 0
LeavesAtEnd ls j = first_undue done ls ≡ Some j
