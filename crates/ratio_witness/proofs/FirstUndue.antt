-- Which line of a witness is the first that is not due.
use Rattle.std.proofs.Common.{◌≡◌, ℕ, zero, suc, ◌+◌, Bool, true, ◌&&◌, cond, List, [], ◌∷◌, ◌++◌, length, map, Option, Some, None, refl, ap, sym, ◌∙◌, arith, append_assoc, length-append, slice_index, nat_le, ◌==◌}
use Rattle.std.specs.Prelude.{bytes_eq}
use Rattle.std.specs.List.{flat_map, list_all}
use Rattle.std.proofs.lemmas.Bool.{and_from, and_parts, eq-eqb}
use Rattle.std.proofs.lemmas.Slice.Eq.{bytes_eq-Decides}
use Rattle.te_model.specs.declared.limits.TheConstants.{FORMAT_2}
use Rattle.te_model.specs.declared.route.PathShare.{PathShare}
use Rattle.te_model.specs.Shape.{are_words, is_count, is_shaped_path, is_word}
use Rattle.number_tables.specs.declared.line.NumLine.{NumLine}
use Rattle.number_tables.specs.Due.{Due, line, one_later, first_undue}
use Rattle.ratio_witness.specs.Text.{are_shaped_paths, is_path_count, is_path_line, pair_lines, pairs_due, paths_due, share_line}

-- so many places later
unfoldable pub later : ℕ → Option ℕ → Option ℕ
later zero o = o
later (suc n) o = one_later (later n o)

pub later_some : (n i : ℕ) → later n (Some i) ≡ Some (n + i)
unfolding later
later_some zero i = ap Some (omega arith)
later_some (suc n) i = ap one_later (later_some n i) ∙ ap Some (omega arith)

pub later_none : (n : ℕ) → later n None ≡ None
unfolding later
later_none zero = refl
later_none (suc n) = ap one_later (later_none n)

pub later_more : (n m : ℕ) (o : Option ℕ) → later n (later m o) ≡ later (n + m) o
unfolding later
later_more zero m o = let same : m ≡ 0 + m = omega arith in ap (λ (k : ℕ). later k o) same
later_more (suc n) m o =
    let next : suc (n + m) ≡ suc n + m = omega arith in
    ap one_later (later_more n m o) ∙ ap (λ (k : ℕ). later k o) next

-- a line that is due
pub due_first : (word : List ℕ) (test : List ℕ → Bool) (next : List ℕ → Due) (numbers : List ℕ) (more : List NumLine) → test numbers ≡ true →
    first_undue (line word test next) (record { word = word; numbers = numbers } ∷ more) ≡ one_later (first_undue (next numbers) more)
due_first word test next numbers more passes =
    let same : bytes_eq word word ≡ true = (bytes_eq-Decides word word).1 refl in
    ap (λ b. cond b (one_later (first_undue (next numbers) more)) (Some 0)) (and_from (bytes_eq word word) (test numbers) same passes)

-- the numbers of a path are those of a line of a path
pub path_is_due : (s : PathShare) → is_shaped_path FORMAT_2 s ≡ true → is_path_line (share_line s).numbers ≡ true
path_is_due s shaped =
    let first = and_parts (is_word s.weight && is_count 1 FORMAT_2.hops (length s.links)) (are_words s.links) shaped in
    let hops = (and_parts (is_word s.weight) (is_count 1 FORMAT_2.hops (length s.links)) first.0).1 in
    and_from (is_count 1 FORMAT_2.hops (length s.links)) (length (share_line s).numbers == 2 + length s.links) hops
    (eq-eqb (length (share_line s).numbers) (2 + length s.links) (omega arith))

-- paths that are due
pub due_paths : (ss : List PathShare) (n m : ℕ) (next : Due) (more : List NumLine) → m ≡ length ss + n → list_all (is_shaped_path FORMAT_2) ss ≡ true →
    first_undue (paths_due m next) (map share_line ss ++ more) ≡ later (length ss) (first_undue (paths_due n next) more)
unfolding later
due_paths [] n m next more e shaped = ap (λ k. first_undue (paths_due k next) more) (e ∙ omega arith)
due_paths (s ∷ ss) n zero next more e shaped = absurd (omega (arith, e))
due_paths (s ∷ ss) n (suc m) next more e shaped =
    let both = and_parts (is_shaped_path FORMAT_2 s) (list_all (is_shaped_path FORMAT_2) ss) shaped in
    due_first [] is_path_line (λ numbers. paths_due m next) (share_line s).numbers (map share_line ss ++ more) (path_is_due s both.0)
    ∙ ap one_later (due_paths ss n m next more (omega (arith, e)) both.1)

-- the number of paths of a pair, and its paths
pub due_pair : (ss : List PathShare) (n : ℕ) (more : List NumLine) → are_shaped_paths ss ≡ true →
    first_undue (pairs_due (suc n)) (pair_lines ss ++ more) ≡ later (suc (length ss)) (first_undue (pairs_due n) more)
unfolding later
due_pair ss n more shaped =
    let both = and_parts (is_count 0 FORMAT_2.paths (length ss)) (list_all (is_shaped_path FORMAT_2) ss) shaped in
    let few = (and_parts (nat_le 0 (length ss)) (nat_le (length ss) FORMAT_2.paths) both.0).1 in
    due_first [] is_path_count (λ numbers. paths_due (slice_index numbers 0) (pairs_due n)) (length ss ∷ []) (map share_line ss ++ more) few
    ∙ ap one_later (due_paths ss 0 (length ss) (pairs_due n) more (omega arith) both.1)

-- how many lines these are
pub pair_line_count : (ss : List PathShare) → length (pair_lines ss) ≡ suc (length ss)
pair_line_count ss = ap suc (count ss)
  where
    count : (ss : List PathShare) → length (map share_line ss) ≡ length ss
    count [] = refl
    count (s ∷ ss) = ap suc (count ss)

-- the paths of pairs that are due
pub due_pairs : (rival : List (List PathShare)) (n m : ℕ) (more : List NumLine) → m ≡ length rival + n → list_all are_shaped_paths rival ≡ true →
    first_undue (pairs_due m) (flat_map pair_lines rival ++ more) ≡ later (length (flat_map pair_lines rival)) (first_undue (pairs_due n) more)
unfolding later
due_pairs [] n m more e shaped = ap (λ k. first_undue (pairs_due k) more) (e ∙ omega arith)
due_pairs (ss ∷ rest) n zero more e shaped = absurd (omega (arith, e))
due_pairs (ss ∷ rest) n (suc m) more e shaped =
    let both = and_parts (are_shaped_paths ss) (list_all are_shaped_paths rest) shaped in
    let others = flat_map pair_lines rest in
    let count : suc (length ss) + length others ≡ length (pair_lines ss ++ others) =
    sym (length-append (pair_lines ss) others ∙ ap (λ k. k + length others) (pair_line_count ss))
    in
    ap (first_undue (pairs_due (suc m))) (append_assoc (pair_lines ss) others more)
    ∙ due_pair ss m (others ++ more) both.0
    ∙ ap (later (suc (length ss))) (due_pairs rest n m more (omega (arith, e)) both.1)
    ∙ later_more (suc (length ss)) (length others) (first_undue (pairs_due n) more)
    ∙ ap (λ k. later k (first_undue (pairs_due n) more)) count
