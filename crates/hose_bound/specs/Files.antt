-- The files of hoses and of hose certificates: tables with the lines that are due for a network of so many nodes.
use Rattle.std.specs.Prelude.{◌≡◌, ℕ, zero, suc, ◌≤◌, Bool, IsTrue, ◌&&◌, List, [], ◌∷◌, ◌++◌, length, codes, slice_index, nat_le, All}
use Rattle.std.specs.List.{flat_map}
use Rattle.te_model.specs.declared.limits.TheConstants.{FORMAT_2}
use Rattle.te_model.specs.Shape.{is_row_of, is_word}
use Rattle.number_tables.specs.declared.line.NumLine.{NumLine}
use Rattle.number_tables.specs.Due.{Due, done, line, has_count, word_line, AreFile, CanEnd}
use Rattle.number_tables.specs.Table.{table_text}
use Rattle.hose_bound.specs.declared.hose.Hose.{Hose}
use Rattle.hose_bound.specs.declared.hose.HoseBlock.{HoseBlock}
use Rattle.hose_bound.specs.declared.hose.HoseCert.{HoseCert}

-- ---- the lines of what a file spells

abbrev pub hose_lines : Hose → List NumLine
hose_lines h = word_line (codes "sent") h.sent ∷ word_line (codes "received") h.received ∷ []

abbrev pub hose_block_lines : HoseBlock → List NumLine
hose_block_lines b = word_line (codes "link") (b.link ∷ []) ∷ word_line (codes "tails") b.tails ∷ word_line (codes "heads") b.heads ∷ []

abbrev pub hose_cert_lines : HoseCert → List NumLine
hose_cert_lines c =
    hose_lines c.hose
    ++ word_line (codes "bound") (c.bound ∷ []) ∷ word_line (codes "blocks") (length c.blocks ∷ []) ∷ flat_map hose_block_lines c.blocks

-- the file of a hose
abbrev pub bounds_text : Hose → List ℕ
bounds_text h = table_text (codes "yates-bounds 1") (hose_lines h)

-- the file of a hose certificate
abbrev pub hose_cert_text : HoseCert → List ℕ
hose_cert_text c = table_text (codes "yates-hose 1") (hose_cert_lines c)

-- ---- what can be written for a network of so many nodes: a number of 64 bits for each node, and no more blocks than a network has links

abbrev pub is_shaped_hose : ℕ → Hose → Bool
is_shaped_hose nodes h = is_row_of nodes h.sent && is_row_of nodes h.received

abbrev pub is_shaped_hose_block : ℕ → HoseBlock → Bool
is_shaped_hose_block nodes b = is_word b.link && is_row_of nodes b.tails && is_row_of nodes b.heads

pub record IsShapedCert (nodes : ℕ) (c : HoseCert) : Type 0 where
  pub hose : IsTrue (is_shaped_hose nodes c.hose)
  pub bound : IsTrue (is_word c.bound)
  pub count : length c.blocks ≤ FORMAT_2.links
  pub blocks : All (λ b. IsTrue (is_shaped_hose_block nodes b)) c.blocks

-- ---- the lines that are due

-- the lines of a hose, and what is due then
abbrev pub hose_then : ℕ → Due → Due
hose_then nodes next = line (codes "sent") (has_count nodes) (λ _. line (codes "received") (has_count nodes) (λ _. next))

abbrev pub bounds_due : ℕ → Due
bounds_due nodes = hose_then nodes done

abbrev pub blocks_due : ℕ → ℕ → Due
blocks_due nodes zero = done
blocks_due nodes (suc c) =
    line (codes "link") (has_count 1) (λ _. line (codes "tails") (has_count nodes) (λ _. line (codes "heads") (has_count nodes) (λ _. blocks_due nodes c)))

abbrev pub is_block_count : List ℕ → Bool
is_block_count numbers = has_count 1 numbers && nat_le (slice_index numbers 0) FORMAT_2.links

abbrev pub bound_then_blocks : ℕ → Due
bound_then_blocks nodes = line (codes "bound") (has_count 1) (λ _. line (codes "blocks") is_block_count (λ numbers. blocks_due nodes (slice_index numbers 0)))

abbrev pub hose_cert_due : ℕ → Due
hose_cert_due nodes = hose_then nodes (bound_then_blocks nodes)

-- The files are those of hoses and of hose certificates of this shape, each of one of them; and each that was begun can be ended.
pub record FilesHaveForms : Type 0 where
  pub hoses : (nodes : ℕ) (h : Hose) → IsTrue (is_shaped_hose nodes h) → AreFile (bounds_due nodes) (hose_lines h)
  pub certs : (nodes : ℕ) (c : HoseCert) → IsShapedCert nodes c → AreFile (hose_cert_due nodes) (hose_cert_lines c)
  pub of_hoses : (nodes : ℕ) (ls : List NumLine) → AreFile (bounds_due nodes) ls → (h : Hose) × IsTrue (is_shaped_hose nodes h) × (ls ≡ hose_lines h)
  pub of_certs : (nodes : ℕ) (ls : List NumLine) → AreFile (hose_cert_due nodes) ls → (c : HoseCert) × IsShapedCert nodes c × (ls ≡ hose_cert_lines c)
  pub hoses_end : (nodes : ℕ) → CanEnd (bounds_due nodes)
  pub certs_end : (nodes : ℕ) → CanEnd (hose_cert_due nodes)
