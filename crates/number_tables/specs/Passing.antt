-- Tables that are read line by line.
use Rattle.std.specs.Prelude.{◌≡◌, ℕ, ◌+◌, List, [], ◌∷◌, ◌++◌, codes, length, Option, Some, None, Result, Ok, Err}
use Rattle.cert_text.specs.declared.fault.Stop.{Stop}
use Rattle.cert_text.specs.declared.fault.Stop.TheVariants as stops
use Rattle.cert_text.specs.Place.{Place}
use Rattle.number_tables.specs.declared.fault.TableFault.{TableFault}
use Rattle.number_tables.specs.declared.fault.TableFault.TheVariants as faults
use Rattle.number_tables.specs.declared.line.NumLine.{NumLine}
use Rattle.number_tables.specs.declared.lines.TableLines.{TableLines}
use Rattle.number_tables.specs.Leaving.{LeavesAfter, body_lines}
use Rattle.number_tables.specs.Table.{IsLine, AreLines, line_text, file_of}

-- the bytes from this place are a file of some lines, or leave all such files at the line of the fault
abbrev pub PassesLines : {X : Type 0} → (List NumLine → List (List ℕ)) → Result X Stop → Place → Type 0
PassesLines lines_of (Ok x) p = (ls : List NumLine) × AreLines ls × (p.rest ≡ file_of (lines_of ls))
PassesLines lines_of (Err (stops.Shape k)) p = (front : List (List ℕ)) × (k ≡ p.line + length front) × LeavesAfter AreLines lines_of p.rest front
PassesLines lines_of (Err stops.Memory) p = Unit {0}

-- the bytes that are left
abbrev pub bytes_left : TableLines → List ℕ
bytes_left lines = lines.reader.source.bytes.now

-- these lines and the end are what is left
abbrev pub StandsBefore : TableLines → List NumLine → Type 0
StandsBefore lines ls = bytes_left lines ≡ file_of (body_lines ls)

-- the number in the file of the line that is next, counted from 1
abbrev pub next_number : TableLines → ℕ
next_number lines = lines.reader.line

-- the next of these lines, or that there is none, and nothing changes, or want of memory
abbrev pub GivesNext : Result (Option NumLine) TableFault → TableLines → TableLines → List NumLine → Type 0
GivesNext (Ok None) before after ls = (ls ≡ []) × (after ≡ before)
GivesNext (Ok (Some l)) before after ls =
    (more : List NumLine) × (ls ≡ l ∷ more) × StandsBefore after more × (next_number after ≡ next_number before + 1)
GivesNext (Err fault) before after ls = fault ≡ faults.Memory

-- The first line stands at the head of the bytes, and what is behind it is left; or it does not, which is a fault of line 1.
abbrev pub PassesFirst : Result TableLines TableFault → List ℕ → List ℕ → Type 0
PassesFirst (Ok lines) first bytes = (bytes ≡ first ++ 10 ∷ bytes_left lines) × (next_number lines ≡ 2)
PassesFirst (Err fault) first bytes = (fault ≡ faults.Shape 1) × ((left : List ℕ) → ¬ (bytes ≡ first ++ 10 ∷ left))

-- The line `end` stands next, and nothing changes; or a line of a table does, and what is behind it is left; or neither
-- does, and the fault has the number of the line that is next.
abbrev pub TakesNext : Result (Option NumLine) TableFault → TableLines → TableLines → Type 0
TakesNext (Ok None) before after = ((left : List ℕ) × (bytes_left before ≡ codes "end" ++ 10 ∷ left)) × (after ≡ before)
TakesNext (Ok (Some l)) before after =
    IsLine l × (bytes_left before ≡ line_text l ++ 10 ∷ bytes_left after) × (next_number after ≡ next_number before + 1)
TakesNext (Err (faults.Shape k)) before after =
    (k ≡ next_number before)
    × ((left : List ℕ) → ¬ (bytes_left before ≡ codes "end" ++ 10 ∷ left))
    × ((l : NumLine) (left : List ℕ) → IsLine l → ¬ (bytes_left before ≡ line_text l ++ 10 ∷ left))
TakesNext (Err faults.Memory) before after = Unit {0}
