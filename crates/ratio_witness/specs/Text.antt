-- The file of a witness: a table of numbers, of which each line says what is due after it.
use Rattle.std.specs.Prelude.{◌≡◌, ℕ, zero, suc, ◌+◌, ◌<◌, Bool, ◌&&◌, List, [], ◌∷◌, length, map, flat_map, codes, nat_le, slice_index, ◌==◌, IsTrue, Some}
use Rattle.std.specs.List.{list_all}
use Rattle.te_model.specs.declared.certificate.Head.{Head}
use Rattle.te_model.specs.declared.certificate.RuleFault.{RuleFault}
use Rattle.te_model.specs.declared.limits.TheConstants.{FORMAT_2}
use Rattle.te_model.specs.declared.route.PathShare.{PathShare}
use Rattle.te_model.specs.Shape.{is_count, is_row_of, is_shaped_path, is_word}
use Rattle.te_model.specs.Validity.{IsValidHead}
use Rattle.cert_text.specs.Kept.{keep_path}
use Rattle.number_tables.specs.declared.line.NumLine.{NumLine}
use Rattle.number_tables.specs.Due.{Due, done, line, has_count, word_line}
use Rattle.number_tables.specs.Table.{table_text}
use Rattle.ratio_witness.specs.declared.witness.Witness.{Witness}
use Rattle.ratio_witness.specs.Rules.{KeepsRules, witness_fault}

-- the first line
abbrev pub witness_first : List ℕ
witness_first = codes "yates-witness 1"

-- WEIGHT LEN LINK_1 .. LINK_LEN
abbrev pub share_line : PathShare → NumLine
share_line s = word_line [] (s.weight ∷ length s.links ∷ s.links)

-- K, and the K paths of a pair
abbrev pub pair_lines : List PathShare → List NumLine
pair_lines paths = word_line [] (length paths ∷ []) ∷ map share_line paths

-- the bound, the scale, the matrix, and the rival's paths of each pair
abbrev pub witness_lines : Witness → List NumLine
witness_lines w =
    word_line (codes "bound") (w.bound ∷ [])
    ∷ word_line (codes "scale") (w.x ∷ w.y ∷ [])
    ∷ word_line (codes "demand") w.demand.demand
    ∷ flat_map pair_lines w.rival

-- the file
abbrev pub witness_text : Witness → List ℕ
witness_text w = table_text witness_first (witness_lines w)

-- paths whose counts are within the limits of the second format
abbrev pub are_shaped_paths : List PathShare → Bool
are_shaped_paths paths = is_count 0 FORMAT_2.paths (length paths) && list_all (is_shaped_path FORMAT_2) paths

-- what can be written: numbers of 64 bits, and a demand and a list of paths for each of so many pairs
abbrev pub is_shaped_witness : ℕ → Witness → Bool
is_shaped_witness pairs w =
    is_word w.bound && is_word w.x && is_word w.y && is_row_of pairs w.demand.demand
    && length w.rival == pairs && list_all are_shaped_paths w.rival

-- a witness of the head: it can be written, and its rules hold
pub record IsWitnessOf (h : Head) (w : Witness) : Type 0 where
  pub shaped : IsTrue (is_shaped_witness (length h.routes) w)
  pub rules : KeepsRules h w

-- a count of paths
abbrev pub is_path_count : List ℕ → Bool
is_path_count numbers = has_count 1 numbers && nat_le (slice_index numbers 0) FORMAT_2.paths

-- WEIGHT LEN LINK_1 .. LINK_LEN
abbrev pub is_path_line : List ℕ → Bool
is_path_line numbers =
    is_count 1 FORMAT_2.hops (slice_index numbers 1) && has_count (2 + slice_index numbers 1) numbers

-- so many paths, and what is due then
abbrev pub paths_due : ℕ → Due → Due
paths_due zero next = next
paths_due (suc k) next = line [] is_path_line (λ numbers. paths_due k next)

-- for each pair the number of its paths, and the paths
abbrev pub pairs_due : ℕ → Due
pairs_due zero = done
pairs_due (suc n) = line [] is_path_count (λ numbers. paths_due (slice_index numbers 0) (pairs_due n))

-- the demands of so many pairs, and their paths; before them the scale; and the bound before all
abbrev pub demand_due : ℕ → Due
demand_due pairs = line (codes "demand") (has_count pairs) (λ demand. pairs_due pairs)

abbrev pub scale_due : ℕ → Due
scale_due pairs = line (codes "scale") (has_count 2) (λ scale. demand_due pairs)

-- what is due in the file of a witness of so many pairs
abbrev pub witness_due : ℕ → Due
witness_due pairs = line (codes "bound") (has_count 1) (λ bound. scale_due pairs)

-- what is kept of a witness whose link numbers have no bound: larger ones are kept at 2 ^ 32 - 1
abbrev pub keep_witness : Witness → Witness
keep_witness w =
    record { bound = w.bound; x = w.x; y = w.y; demand = w.demand; rival = map (map keep_path) w.rival }

-- the bytes are a file of what can be written for the head, and f is the first rule that fails of what it spells
pub record IsWitnessRuleFault (h : Head) (bytes : List ℕ) (f : RuleFault) : Type 0 where
  pub spelled : Witness
  pub shaped : IsTrue (is_shaped_witness (length h.routes) spelled)
  pub file : bytes ≡ witness_text spelled
  pub first : witness_fault h spelled ≡ Some f

-- The text of a witness of a valid head is short.
abbrev pub WitnessTextsAreShort : Type 0
WitnessTextsAreShort = (h : Head) (w : Witness) → IsValidHead h → IsWitnessOf h w → length (witness_text w) < 340000000
