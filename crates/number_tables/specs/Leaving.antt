-- How a reader of lines leaves the files of a set.
use Rattle.std.specs.Prelude.{◌≡◌, ℕ, ◌+◌, List, [], ◌∷◌, ◌++◌, length, map, codes, Result, Ok, Err}
use Rattle.std.specs.declared.vec.Vec.{Vec}
use Rattle.cert_text.specs.declared.cursor.Cursor.{Ghosts}
use Rattle.cert_text.specs.declared.fault.Stop.{Stop}
use Rattle.cert_text.specs.declared.fault.Stop.TheVariants as stops
use Rattle.cert_text.specs.declared.reader.Reader.{Reader}
use Rattle.cert_text.specs.Place.{Place, place}
use Rattle.number_tables.specs.declared.line.NumLine.{NumLine}
use Rattle.number_tables.specs.Table.{AreLines, line_text, file_of}

-- where a reader stands
abbrev pub place_of : {C : Type 0} {cursor : Ghosts C} → Reader C cursor → Place
place_of {cursor = cursor} r = place r.line (cursor.rest r.source)

-- The bytes begin with the lines of front, as a file of the set does; and what is left of them is neither the next line
-- of such a file nor, where one ends there, nothing.
pub record LeavesAfter {X : Type 0} (IsOne : X → Type 0) (lines_of : X → List (List ℕ)) (bytes : List ℕ) (front : List (List ℕ)) : Type 0 where
  pub rest : List ℕ
  pub parts : bytes ≡ file_of front ++ rest
  pub begun : (x : X) × IsOne x × (more : List (List ℕ)) × (lines_of x ≡ front ++ more)
  pub stuck : (x : X) → IsOne x → (line : List ℕ) (more : List (List ℕ)) (left : List ℕ) → lines_of x ≡ front ++ line ∷ more → ¬ (rest ≡ line ++ 10 ∷ left)
  pub unended : (x : X) → IsOne x → lines_of x ≡ front → ¬ (rest ≡ [])

-- the lines after the first one
abbrev pub body_lines : List NumLine → List (List ℕ)
body_lines ls = map line_text ls ++ codes "end" ∷ []

-- what is read from this place: lines whose file it is, or the line at which it leaves all of these files
abbrev pub ReadsLines : {A : Type 0} → (List NumLine → List (List ℕ)) → Result (Vec NumLine A) Stop → Place → Type 0
ReadsLines lines_of (Ok v) p = AreLines v.items × (p.rest ≡ file_of (lines_of v.items))
ReadsLines lines_of (Err (stops.Shape k)) p = (front : List (List ℕ)) × (k ≡ p.line + length front) × LeavesAfter AreLines lines_of p.rest front
ReadsLines lines_of (Err stops.Memory) p = Unit {0}
