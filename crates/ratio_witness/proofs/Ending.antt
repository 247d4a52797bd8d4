-- Each file of a witness that was begun can be ended, and a witness that can be written has a file.
use Rattle.std.proofs.Common.{◌≡◌, ℕ, zero, suc, ◌^◌, ◌<◌, ◌≤◌, true, ◌&&◌, List, [], ◌∷◌, ◌++◌, length, map, append-nil, None, refl, ap, sym, ◌∙◌, arith, slice_index, ◌==◌, nat_le}
use Rattle.std.specs.Prelude.{codes, replicate}
use Rattle.std.specs.List.{flat_map, list_all}
use Rattle.std.proofs.lemmas.Bool.{and_parts, eq-eqb, eqb-true, le-leb, leb-true, ltb-true}
use Rattle.std.proofs.lemmas.List.{length-replicate}
use Rattle.te_model.specs.declared.limits.TheConstants.{FORMAT_2}
use Rattle.te_model.specs.declared.route.PathShare.{PathShare}
use Rattle.te_model.specs.Shape.{are_words, is_count, is_row_of, is_shaped_path, is_word}
use Rattle.cert_text.specs.Fits.{AreWords}
use Rattle.cert_text.proofs.Shaped.{words_of}
use Rattle.number_tables.specs.declared.line.NumLine.{NumLine}
use Rattle.number_tables.specs.Due.{Due, done, AreFile, CanEnd, has_count, one_later, first_undue, word_line}
use Rattle.number_tables.specs.Table.{AreLines, IsLine}
use Rattle.number_tables.proofs.FirstUndue.{first_undue_leaves}
use Rattle.ratio_witness.specs.declared.witness.Witness.{Witness}
use Rattle.ratio_witness.specs.Text.{are_shaped_paths, demand_due, is_shaped_witness, pair_lines, pairs_due, paths_due, scale_due, share_line, witness_due, witness_first, witness_lines}
use Rattle.ratio_witness.proofs.FirstUndue.{later, later_none, due_first, due_pairs}

-- ---- each file can be ended

pub zero_words : (n : ℕ) → AreWords (replicate n 0)
zero_words zero = tt
zero_words (suc n) = (omega arith, zero_words n)

-- numbers alone
numbers_line : (x : ℕ) (xs : List ℕ) → AreWords (x ∷ xs) → IsLine (record { word = []; numbers = x ∷ xs })
numbers_line x xs words = record { begun = le-leb 1 (length (x ∷ xs)) (omega arith); numbers = words }

paths_can : (k : ℕ) (next : Due) → CanEnd next → CanEnd (paths_due k next)
paths_can zero next can = can
paths_can (suc k) next can =
    ((0 ∷ 1 ∷ 0 ∷ [], numbers_line 0 (1 ∷ 0 ∷ []) (omega arith, (omega arith, (omega arith, tt))), refl), λ numbers is. paths_can k next can)

pairs_can : (n : ℕ) → CanEnd (pairs_due n)
pairs_can zero = tt
pairs_can (suc n) =
    ((0 ∷ [], numbers_line 0 [] (omega arith, tt), refl), λ numbers is. paths_can (slice_index numbers 0) (pairs_due n) (pairs_can n))

pub witness_can : (pairs : ℕ) → CanEnd (witness_due pairs)
witness_can pairs = (
  (0 ∷ [], record { begun = refl; numbers = (omega arith, tt) }, refl),
  λ bound is. (
    (0 ∷ 0 ∷ [], record { begun = refl; numbers = (omega arith, (omega arith, tt)) }, refl),
    λ scale is_scale.
        ((replicate pairs 0, record { begun = refl; numbers = zero_words pairs }, eq-eqb (length (replicate pairs 0)) pairs (length-replicate pairs 0)), λ demand is_demand. pairs_can pairs),
  ),
)

-- ---- the lines of a witness that can be written

pub lines_append : (xs ys : List NumLine) → AreLines xs → AreLines ys → AreLines (xs ++ ys)
lines_append [] ys ax ay = ay
lines_append (x ∷ xs) ys ax ay = (ax.0, lines_append xs ys ax.1 ay)

share_line_is : (s : PathShare) → is_shaped_path FORMAT_2 s ≡ true → IsLine (share_line s)
share_line_is s shaped =
    let first = and_parts (is_word s.weight && is_count 1 FORMAT_2.hops (length s.links)) (are_words s.links) shaped in
    let parts = and_parts (is_word s.weight) (is_count 1 FORMAT_2.hops (length s.links)) first.0 in
    let hops = and_parts (nat_le 1 (length s.links)) (nat_le (length s.links) FORMAT_2.hops) parts.1 in
    let few : length s.links ≤ FORMAT_2.hops = leb-true (length s.links) FORMAT_2.hops hops.1 in
    numbers_line s.weight (length s.links ∷ s.links) (ltb-true s.weight (2 ^ 64) parts.0, (omega (arith, few), words_of s.links first.1))

share_lines_are : (ss : List PathShare) → list_all (is_shaped_path FORMAT_2) ss ≡ true → AreLines (map share_line ss)
share_lines_are [] shaped = tt
share_lines_are (s ∷ ss) shaped =
    let both = and_parts (is_shaped_path FORMAT_2 s) (list_all (is_shaped_path FORMAT_2) ss) shaped in
    (share_line_is s both.0, share_lines_are ss both.1)

pair_lines_are : (ss : List PathShare) → are_shaped_paths ss ≡ true → AreLines (pair_lines ss)
pair_lines_are ss shaped =
    let both = and_parts (is_count 0 FORMAT_2.paths (length ss)) (list_all (is_shaped_path FORMAT_2) ss) shaped in
    let count = and_parts (nat_le 0 (length ss)) (nat_le (length ss) FORMAT_2.paths) both.0 in
    let few : length ss ≤ FORMAT_2.paths = leb-true (length ss) FORMAT_2.paths count.1 in
    (numbers_line (length ss) [] (omega (arith, few), tt), share_lines_are ss both.1)

rival_lines_are : (rival : List (List PathShare)) → list_all are_shaped_paths rival ≡ true → AreLines (flat_map pair_lines rival)
rival_lines_are [] shaped = tt
rival_lines_are (ss ∷ rest) shaped =
    let both = and_parts (are_shaped_paths ss) (list_all are_shaped_paths rest) shaped in
    lines_append (pair_lines ss) (flat_map pair_lines rest) (pair_lines_are ss both.0) (rival_lines_are rest both.1)

-- the parts of what can be written
pub record ShapedParts (n : ℕ) (w : Witness) : Type 0 where
  pub bound : w.bound < 2 ^ 64
  pub x : w.x < 2 ^ 64
  pub y : w.y < 2 ^ 64
  pub count : length w.demand.demand ≡ n
  pub demand : are_words w.demand.demand ≡ true
  pub pairs : length w.rival ≡ n
  pub rival : list_all are_shaped_paths w.rival ≡ true

pub shaped_parts : (n : ℕ) (w : Witness) → is_shaped_witness n w ≡ true → ShapedParts n w
shaped_parts n w shaped =
    let a = is_word w.bound in
    let b = is_word w.x in
    let c = is_word w.y in
    let d = is_row_of n w.demand.demand in
    let e = length w.rival == n in
    let five = and_parts (a && b && c && d && e) (list_all are_shaped_paths w.rival) shaped in
    let four = and_parts (a && b && c && d) e five.0 in
    let three = and_parts (a && b && c) d four.0 in
    let two = and_parts (a && b) c three.0 in
    let one = and_parts a b two.0 in
    let row = and_parts (length w.demand.demand == n) (are_words w.demand.demand) three.1 in
    record {
      bound = ltb-true w.bound (2 ^ 64) one.0;
      x = ltb-true w.x (2 ^ 64) one.1;
      y = ltb-true w.y (2 ^ 64) two.1;
      count = eqb-true (length w.demand.demand) n row.0;
      demand = row.1;
      pairs = eqb-true (length w.rival) n four.1;
      rival = five.1;
    }

pub witness_lines_are : (n : ℕ) (w : Witness) → is_shaped_witness n w ≡ true → AreLines (witness_lines w)
witness_lines_are n w shaped =
    let parts = shaped_parts n w shaped in
    let rival = rival_lines_are w.rival parts.rival in
    (record { begun = refl; numbers = (parts.bound, tt) }, (record { begun = refl; numbers = (parts.x, (parts.y, tt)) }, (record { begun = refl; numbers = words_of w.demand.demand parts.demand }, rival)))

-- behind the first three lines the lines of the pairs are due
pub after_demand : (n bound x y : ℕ) (demand : List ℕ) (more : List NumLine) → length demand ≡ n →
    first_undue (witness_due n) (word_line (codes "bound") (bound ∷ []) ∷ word_line (codes "scale") (x ∷ y ∷ []) ∷ word_line (codes "demand") demand ∷ more)
    ≡ later 3 (first_undue (pairs_due n) more)
unfolding later
after_demand n bound x y demand more count =
    due_first (codes "bound") (has_count 1) (λ b. scale_due n) (bound ∷ []) (word_line (codes "scale") (x ∷ y ∷ []) ∷ word_line (codes "demand") demand ∷ more) refl
    ∙ ap one_later (due_first (codes "scale") (has_count 2) (λ s. demand_due n) (x ∷ y ∷ []) (word_line (codes "demand") demand ∷ more) refl
    ∙ ap one_later (due_first (codes "demand") (has_count n) (λ d. pairs_due n) demand more (eq-eqb (length demand) n count)))

-- behind the paths of all pairs nothing is
pub after_rival : (n : ℕ) (rival : List (List PathShare)) (more : List NumLine) → length rival ≡ n → list_all are_shaped_paths rival ≡ true →
    first_undue (pairs_due n) (flat_map pair_lines rival ++ more) ≡ later (length (flat_map pair_lines rival)) (first_undue done more)
after_rival n rival more count shaped = due_pairs rival 0 n more (omega (arith, count)) shaped

-- each line of a witness that can be written is due
pub witness_none : (n : ℕ) (w : Witness) → is_shaped_witness n w ≡ true → first_undue (witness_due n) (witness_lines w) ≡ None
witness_none n w shaped =
    let parts = shaped_parts n w shaped in
    let rest = flat_map pair_lines w.rival in
    after_demand n w.bound w.x w.y w.demand.demand rest parts.count
    ∙ ap (later 3) (ap (first_undue (pairs_due n)) (sym (append-nil rest)) ∙ after_rival n w.rival [] parts.pairs parts.rival ∙ later_none (length rest))
    ∙ later_none 3

pub witness_file : (n : ℕ) (w : Witness) → is_shaped_witness n w ≡ true → AreFile (witness_due n) (witness_lines w)
witness_file n w shaped =
    let al = witness_lines_are n w shaped in
    (al, (first_undue_leaves witness_first refl (witness_due n) (witness_can n) (witness_lines w) al).0.0 (witness_none n w shaped))
