-- Reading the lines of hoses and hose certificates, one after the other.
use Rattle.std.specs.Prelude.{◌≡◌, ℕ, ◌+◌, List, [], ◌∷◌, ◌++◌, length, map, codes, Some, IsTrue, All}
use Rattle.std.specs.List.{flat_map}
use Rattle.number_tables.specs.declared.line.NumLine.{NumLine}
use Rattle.number_tables.specs.Due.{Due, first_undue, word_line}
use Rattle.hose_bound.specs.declared.hose.Hose.{Hose}
use Rattle.hose_bound.specs.declared.hose.HoseBlock.{HoseBlock}
use Rattle.hose_bound.specs.Files.{is_shaped_hose, is_shaped_hose_block, is_block_count, hose_lines, hose_block_lines, hose_then, blocks_due}
use Rattle.hose_bound.specs.Reading.{keep_block}

-- the lines of a hose
abbrev pub BeginsWithHose : ℕ → Hose → List NumLine → List NumLine → Type 0
BeginsWithHose nodes h ls more = IsTrue (is_shaped_hose nodes h) × (ls ≡ hose_lines h ++ more)

-- no such lines, whatever is due after them
abbrev pub LeavesAtHose : ℕ → List NumLine → ℕ → Type 0
LeavesAtHose nodes ls j = (next : Due) → first_undue (hose_then nodes next) ls ≡ Some j

-- the line of the number of blocks
abbrev pub BeginsWithBlockCount : ℕ → List NumLine → List NumLine → Type 0
BeginsWithBlockCount count ls more = IsTrue (is_block_count (count ∷ [])) × (ls ≡ word_line (codes "blocks") (count ∷ []) ∷ more)

-- the lines of a block, of which this is kept
abbrev pub BeginsWithBlock : ℕ → HoseBlock → List NumLine → List NumLine → Type 0
BeginsWithBlock nodes kept ls more =
    (b : HoseBlock) × IsTrue (is_shaped_hose_block nodes b) × (kept ≡ keep_block b) × (ls ≡ hose_block_lines b ++ more)

-- no such lines, however many blocks are due after them
abbrev pub LeavesAtBlock : ℕ → List NumLine → ℕ → Type 0
LeavesAtBlock nodes ls j = (count : ℕ) → first_undue (blocks_due nodes (count + 1)) ls ≡ Some j

-- so many blocks
abbrev pub BeginsWithBlocks : ℕ → ℕ → List HoseBlock → List NumLine → List NumLine → Type 0
BeginsWithBlocks nodes count kept ls more =
    (blocks : List HoseBlock) × (length blocks ≡ count) × All (λ b. IsTrue (is_shaped_hose_block nodes b)) blocks
    × (kept ≡ map keep_block blocks) × (ls ≡ flat_map hose_block_lines blocks ++ more)

-- no so many blocks
abbrev pub LeavesAtBlocks : ℕ → ℕ → List NumLine → ℕ → Type 0
LeavesAtBlocks nodes count ls j = first_undue (blocks_due nodes count) ls ≡ Some j
