-- What the lines of a witness give, one after the other, to a reader of lines that are due.
use Rattle.std.specs.Prelude.{◌≡◌, ℕ, suc, List, [], ◌∷◌, ◌++◌, length, map, flat_map, Some, Result, Ok, Err, IsTrue}
use Rattle.std.specs.List.{list_all}
use Rattle.te_model.specs.declared.limits.TheConstants.{FORMAT_2}
use Rattle.te_model.specs.declared.route.PathShare.{PathShare}
use Rattle.te_model.specs.Shape.{is_shaped_path}
use Rattle.cert_text.specs.Kept.{keep_path}
use Rattle.number_tables.specs.declared.fault.TableFault.{TableFault}
use Rattle.number_tables.specs.declared.fault.TableFault.TheVariants as tables
use Rattle.number_tables.specs.declared.line.NumLine.{NumLine}
use Rattle.number_tables.specs.Due.{Due, first_undue, word_line, LeavesSmallFiles}
use Rattle.ratio_witness.specs.declared.witness.Witness.{Witness}
use Rattle.ratio_witness.specs.Text.{are_shaped_paths, is_path_count, is_shaped_witness, keep_witness, pair_lines, pairs_due, paths_due, share_line, witness_due, witness_first, witness_lines, witness_text}

-- a line with a number of paths
abbrev pub BeginsWithPathCount : ℕ → List NumLine → List NumLine → Type 0
BeginsWithPathCount count ls more = IsTrue (is_path_count (count ∷ [])) × (ls ≡ word_line [] (count ∷ []) ∷ more)

-- a path, of which the wide link numbers are narrowed
abbrev pub BeginsWithPath : PathShare → List NumLine → List NumLine → Type 0
BeginsWithPath kept ls more = (s : PathShare) × (kept ≡ keep_path s) × IsTrue (is_shaped_path FORMAT_2 s) × (ls ≡ share_line s ∷ more)

-- so many paths; or the first line that is not due, whatever is due after them
abbrev pub BeginsWithPaths : ℕ → List PathShare → List NumLine → List NumLine → Type 0
BeginsWithPaths n kept ls more =
    (ss : List PathShare) × (kept ≡ map keep_path ss) × (length ss ≡ n) × IsTrue (list_all (is_shaped_path FORMAT_2) ss)
    × (ls ≡ map share_line ss ++ more)

abbrev pub LeavesAtPaths : ℕ → List NumLine → ℕ → Type 0
LeavesAtPaths n ls j = (next : Due) → first_undue (paths_due n next) ls ≡ Some j

-- the paths of a pair behind their number; or the first line that is not due, however many pairs are due after it
abbrev pub BeginsWithPair : List PathShare → List NumLine → List NumLine → Type 0
BeginsWithPair kept ls more = (ss : List PathShare) × (kept ≡ map keep_path ss) × IsTrue (are_shaped_paths ss) × (ls ≡ pair_lines ss ++ more)

abbrev pub LeavesAtPair : List NumLine → ℕ → Type 0
LeavesAtPair ls j = (n : ℕ) → first_undue (pairs_due (suc n)) ls ≡ Some j

-- the paths of so many pairs; or the first line that is not due, where no more pairs are
abbrev pub BeginsWithRival : ℕ → List (List PathShare) → List NumLine → List NumLine → Type 0
BeginsWithRival n kept ls more =
    (rival : List (List PathShare)) × (kept ≡ map (map keep_path) rival) × (length rival ≡ n) × IsTrue (list_all are_shaped_paths rival)
    × (ls ≡ flat_map pair_lines rival ++ more)

abbrev pub LeavesAtRival : ℕ → List NumLine → ℕ → Type 0
LeavesAtRival n ls j = first_undue (pairs_due n) ls ≡ Some j

-- a witness of so many pairs, and nothing after it
abbrev pub BeginsWithWitness : ℕ → Witness → List NumLine → List NumLine → Type 0
BeginsWithWitness n kept ls more = (w : Witness) × (kept ≡ keep_witness w) × IsTrue (is_shaped_witness n w) × (ls ≡ witness_lines w)

abbrev pub LeavesAtWitness : ℕ → List NumLine → ℕ → Type 0
LeavesAtWitness n ls j = first_undue (witness_due n) ls ≡ Some j

-- the bytes are the file of a witness of so many pairs, or they leave these files at the line of the fault
abbrev pub SpellsWitness : ℕ → Result Witness TableFault → List ℕ → Type 0
SpellsWitness n (Ok kept) bytes = (w : Witness) × (kept ≡ keep_witness w) × IsTrue (is_shaped_witness n w) × (bytes ≡ witness_text w)
SpellsWitness n (Err (tables.Shape k)) bytes = LeavesSmallFiles witness_first (witness_due n) bytes k
SpellsWitness n (Err tables.Memory) bytes = Unit {0}
