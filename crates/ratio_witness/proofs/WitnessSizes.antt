-- How many bytes the text of a witness of a valid head takes.
use Rattle.std.proofs.Common.{◌≡◌, ℕ, ◌+◌, ◌*◌, ◌^◌, ◌<◌, ◌≤◌, true, ◌&&◌, List, [], ◌∷◌, ◌++◌, length, map, arith, lit≤, All, nat_le}
use Rattle.std.specs.Prelude.{codes}
use Rattle.std.specs.List.{flat_map, list_all}
use Rattle.std.proofs.lemmas.Bool.{and_parts, leb-true, ltb-true}
use Rattle.std.proofs.lemmas.List.Elements.{All-from_get_or, All-head, All-tail, All-weaker}
use Rattle.std.proofs.lemmas.List.Sums.{get_or-le-sum_by}
use Rattle.std.proofs.lemmas.Nat.{mul-le}
use Rattle.te_model.specs.declared.certificate.Head.{Head}
use Rattle.te_model.specs.declared.limits.TheConstants.{FORMAT_2}
use Rattle.te_model.specs.declared.route.PathShare.{PathShare}
use Rattle.te_model.specs.Shape.{are_words, is_count, is_shaped_path, is_word}
use Rattle.te_model.specs.Validity.{IsValidHead}
use Rattle.te_model.proofs.Tests.{all_from_tests}
use Rattle.number_tables.specs.declared.line.NumLine.{NumLine}
use Rattle.number_tables.specs.Table.{line_text, table_lines}
use Rattle.text_size.proofs.Widths.{digit_count, length-lines, length-words, line-numbers, size, size-append, widest, width-le, widths-le}
use Rattle.ratio_witness.specs.declared.witness.Witness.{Witness}
use Rattle.ratio_checker.specs.Checked.{IsSimplePath}
use Rattle.ratio_witness.specs.Rules.{rival_paths}
use Rattle.ratio_witness.specs.Text.{are_shaped_paths, pair_lines, share_line, witness_first, witness_lines, witness_text, IsWitnessOf, WitnessTextsAreShort}
use Rattle.ratio_witness.proofs.Ending.{shaped_parts}
use Rattle.ratio_witness.proofs.KeptRules.{can_judge, rules_kept}

record IsShortPath (s : PathShare) : Type 0 where
  pub weight : s.weight ≤ 1000000
  pub hops : length s.links ≤ 127
  pub links : All (λ h. h ≤ 1024) s.links

record AreShortPaths (paths : List PathShare) : Type 0 where
  pub count : length paths ≤ 32
  pub each : All IsShortPath paths

record IsShortWitness (w : Witness) : Type 0 where
  pub bound : w.bound ≤ 10 ^ 19
  pub x : w.x ≤ 2 ^ 36
  pub y : w.y ≤ 2 ^ 36
  pub pairs : length w.demand.demand ≤ 16256
  pub demand : All (λ d. d ≤ 2 ^ 32) w.demand.demand
  pub rivals : length w.rival ≤ 16256
  pub rival : All AreShortPaths w.rival

-- ---- a witness of a valid head

few_hops : (s : PathShare) → is_shaped_path FORMAT_2 s ≡ true → length s.links ≤ 127
few_hops s shaped =
    let first = and_parts (is_word s.weight && is_count 1 FORMAT_2.hops (length s.links)) (are_words s.links) shaped in
    let parts = and_parts (is_word s.weight) (is_count 1 FORMAT_2.hops (length s.links)) first.0 in
    let hops = and_parts (nat_le 1 (length s.links)) (nat_le (length s.links) FORMAT_2.hops) parts.1 in
    leb-true (length s.links) FORMAT_2.hops hops.1

few_paths : (paths : List PathShare) → is_count 0 FORMAT_2.paths (length paths) ≡ true → length paths ≤ 32
few_paths paths count = leb-true (length paths) FORMAT_2.paths (and_parts (nat_le 0 (length paths)) (nat_le (length paths) FORMAT_2.paths) count).1

short_paths : (h : Head) (w : Witness) → IsValidHead h → IsWitnessOf h w → (p : ℕ) → p < length w.rival → AreShortPaths (rival_paths w p)
short_paths h w valid is p below =
    let paths = rival_paths w p in
    let parts = shaped_parts (length h.routes) w is.shaped in
    let inside : p < length h.routes = omega (arith, below, parts.pairs) in
    let can = can_judge h w valid is.rules in
    let shaped : are_shaped_paths paths ≡ true = all_from_tests are_shaped_paths (λ ps. are_shaped_paths ps ≡ true) (λ ps e. e) w.rival parts.rival p [] below in
    let both = and_parts (is_count 0 FORMAT_2.paths (length paths)) (list_all (is_shaped_path FORMAT_2) paths) shaped in
    let hops = all_from_tests (is_shaped_path FORMAT_2) (λ s. length s.links ≤ 127) few_hops paths both.1 in
    let simple : All IsSimplePath paths = can.rival.each p inside in
    let whole = can.rival.whole p inside in
    record {
      count = few_paths paths both.0;
      each = λ k d within. record {
        weight = omega (arith, get_or-le-sum_by (λ s. s.weight) paths k d within, whole);
        hops = hops k d within;
        links = All-weaker (λ h. h < FORMAT_2.links) (λ h. h ≤ 1024) (λ h lt. omega (arith, lt)) _ (simple k d within).links;
      };
    }

short_witness : (h : Head) (w : Witness) → IsValidHead h → IsWitnessOf h w → IsShortWitness w
short_witness h w valid is =
    let parts = shaped_parts (length h.routes) w is.shaped in
    let can = can_judge h w valid is.rules in
    let bound = ltb-true w.bound (10 ^ 19) (rules_kept h w is.rules).bound in
    record {
      bound = omega (arith, bound);
      x = can.x;
      y = can.y;
      pairs = omega (arith, parts.count, can.limits.pairs);
      demand = All-from_get_or (λ d. d ≤ 2 ^ 32) w.demand.demand 0 (λ p below. can.demands p (omega (arith, below, parts.count)));
      rivals = omega (arith, parts.pairs, can.limits.pairs);
      rival = All-from_get_or AreShortPaths w.rival [] (short_paths h w valid is);
    }

-- ---- its lines

-- the bytes of a path's line
unfoldable path_size : ℕ
path_size = widest 1000000 + widest 127 + 127 * widest 1024

-- what the widest numbers take
path_few : path_size ≤ 647
unfolding path_size digit_count
path_few = lit≤ tt

count_few : widest 32 ≤ 3
unfolding digit_count
count_few = lit≤ tt

bound_few : widest (10 ^ 19) ≤ 21
unfolding digit_count
bound_few = lit≤ tt

scale_few : widest (2 ^ 36) ≤ 12
unfolding digit_count
scale_few = lit≤ tt

demand_few : widest (2 ^ 32) ≤ 11
unfolding digit_count
demand_few = lit≤ tt

line_size : (s : PathShare) → IsShortPath s → length (line_text (share_line s)) + 1 ≤ path_size
unfolding path_size
line_size s short =
    omega (
      arith,
      line-numbers s.weight (length s.links ∷ s.links),
      width-le 1000000 s.weight (omega arith) short.weight,
      width-le 127 (length s.links) (omega arith) short.hops,
      widths-le 127 1024 s.links short.hops (omega arith) short.links,
    )

paths_size : (paths : List PathShare) → All IsShortPath paths → size (map line_text (map share_line paths)) ≤ length paths * path_size
paths_size [] short = omega arith
paths_size (s ∷ ss) short = omega (arith, line_size s (All-head IsShortPath s ss short), paths_size ss (All-tail IsShortPath s ss short))

pair_size : (paths : List PathShare) → AreShortPaths paths → size (map line_text (pair_lines paths)) ≤ 20707
pair_size paths short =
    omega (
      arith,
      line-numbers (length paths) [],
      width-le 32 (length paths) (omega arith) short.count,
      count_few,
      paths_size paths short.each,
      mul-le (length paths) path_size 32 647 short.count path_few,
    )

both_size : (a b : List NumLine) → size (map line_text (a ++ b)) ≡ size (map line_text a) + size (map line_text b)
both_size [] b = omega arith
both_size (l ∷ ls) b = omega (arith, both_size ls b)

rival_size : (rival : List (List PathShare)) → All AreShortPaths rival → size (map line_text (flat_map pair_lines rival)) ≤ length rival * 20707
rival_size [] short = omega arith
rival_size (paths ∷ rest) short =
    let one = pair_size paths (All-head AreShortPaths paths rest short) in
    let others = rival_size rest (All-tail AreShortPaths paths rest short) in
    let both = both_size (pair_lines paths) (flat_map pair_lines rest) in
    omega (arith, one, others, both)

witness_size : (w : Witness) → IsShortWitness w → length (witness_text w) < 340000000
witness_size w short =
    let lines = map line_text (witness_lines w) in
    let most = widths-le 16256 (2 ^ 32) w.demand.demand short.pairs (omega arith) short.demand in
    omega (
      arith,
      length-lines (table_lines witness_first (witness_lines w)),
      size-append lines (codes "end" ∷ []),
      length-words (codes "bound") (w.bound ∷ []),
      length-words (codes "scale") (w.x ∷ w.y ∷ []),
      length-words (codes "demand") w.demand.demand,
      width-le (10 ^ 19) w.bound (omega arith) short.bound,
      width-le (2 ^ 36) w.x (omega arith) short.x,
      width-le (2 ^ 36) w.y (omega arith) short.y,
      most,
      bound_few,
      scale_few,
      demand_few,
      rival_size w.rival short.rival,
      short.rivals,
    )

pub witness_texts_are_short : WitnessTextsAreShort
witness_texts_are_short h w valid is = witness_size w (short_witness h w valid is)
