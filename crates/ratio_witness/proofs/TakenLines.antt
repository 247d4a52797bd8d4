-- What lines that are read one after the other give together, and where they leave what is due.
use Rattle.std.proofs.Common.{◌≡◌, ℕ, suc, ◌+◌, ◌-◌, ◌^◌, ◌<◌, ◌≤◌, Bool, true, false, ◌&&◌, List, [], ◌∷◌, ◌++◌, length, map, drop, Some, Result, Ok, Err, refl, ap, sym, ◌∙◌, subst, arith, append-nil, append_assoc, length-append, slice_index, nat_le}
use Rattle.std.specs.List.{flat_map, list_all}
use Rattle.std.proofs.lemmas.Bool.{and_from, and_parts, eqb-true, le-leb, lt-ltb}
use Rattle.std.proofs.lemmas.List.{length-map, map-append}
use Rattle.std.proofs.lemmas.List.Concat.{flat_map-append}
use Rattle.std.proofs.lemmas.List.Folds.{list_all-append}
use Rattle.te_model.specs.declared.limits.TheConstants.{FORMAT_2}
use Rattle.te_model.specs.declared.route.PathShare.{PathShare}
use Rattle.te_model.specs.Shape.{are_words, is_count, is_shaped_path, is_word}
use Rattle.cert_text.specs.Fits.{AreWords}
use Rattle.cert_text.specs.Kept.{keep_path}
use Rattle.cert_text.specs.Reading.{narrow_number}
use Rattle.cert_text.proofs.Shaped.{test_words}
use Rattle.number_tables.specs.declared.due.DueLines.{DueLines}
use Rattle.number_tables.specs.declared.fault.TableFault.{TableFault}
use Rattle.number_tables.specs.declared.fault.TableFault.TheVariants as tables
use Rattle.number_tables.specs.declared.line.NumLine.{NumLine}
use Rattle.number_tables.specs.Due.{first_undue, has_count, word_line}
use Rattle.number_tables.specs.Table.{AreLines}
use Rattle.number_tables.specs.TakingDue.{BeginsWithLine, BeginsWithWord, IsBefore, LeavesAtLine, LeavesAtWord, TakesDue, next_line}
use Rattle.number_tables.proofs.TakingDue.{after_line, fails_as, fails_behind, line_missed}
use Rattle.ratio_witness.specs.Reading.{BeginsWithPair, BeginsWithPath, BeginsWithPathCount, BeginsWithPaths, BeginsWithRival, LeavesAtPair, LeavesAtPaths, LeavesAtRival}
use Rattle.ratio_witness.specs.Text.{are_shaped_paths, is_path_count, is_path_line, pair_lines, pairs_due, paths_due, share_line}
use Rattle.ratio_witness.proofs.FirstUndue.{later, later_some, due_paths, due_pairs}

-- the next line has the word, and its numbers fail the test
pub numbers_fail : {Y : Type 0} (Begins : Y → List NumLine → List NumLine → Type 0) (word : List ℕ) (test : List ℕ → Bool) (numbers : List ℕ) (k : ℕ)
    (before after last : DueLines) (ls : List NumLine) → test numbers ≡ false → k ≡ next_line before →
    TakesDue (BeginsWithWord word) (LeavesAtWord word) (Ok numbers) before after ls → TakesDue Begins (LeavesAtLine word test) (Err (tables.Shape k)) before last ls
numbers_fail Begins word test numbers k before after last ls fails at t =
    subst (λ (j : ℕ). TakesDue Begins (LeavesAtLine word test) (Err (tables.Shape j)) before last ls) (sym at)
    (fails_as (BeginsWithLine word test) (LeavesAtLine word test) Begins (LeavesAtLine word test) (tables.Shape (next_line before)) before after last ls
    (λ j leaves. leaves) (line_missed before after word test numbers ls fails t))

-- ---- the number of paths of a pair

pub one_number : (ns : List ℕ) → length ns ≡ 1 → ns ≡ slice_index ns 0 ∷ []
one_number [] e = absurd (omega (arith, e))
one_number (n ∷ []) e = refl
one_number (n ∷ m ∷ ns) e = absurd (omega (arith, e))

pub count_read : (numbers : List ℕ) (count : ℕ) (before after : DueLines) (ls : List NumLine) → is_path_count numbers ≡ true → count ≡ slice_index numbers 0 →
    TakesDue (BeginsWithWord []) (LeavesAtWord []) (Ok numbers) before after ls →
    TakesDue BeginsWithPathCount (LeavesAtLine [] is_path_count) (Ok count) before after ls
count_read numbers count before after ls is at t =
    let both = and_parts (has_count 1 numbers) (nat_le (slice_index numbers 0) FORMAT_2.paths) is in
    let one : numbers ≡ count ∷ [] = one_number numbers (eqb-true (length numbers) 1 both.0) ∙ ap (λ n. n ∷ []) (sym at) in
    (t.0, (subst (λ (ns : List ℕ). is_path_count ns ≡ true) one is, t.1 ∙ ap (λ (ns : List ℕ). word_line [] ns ∷ t.0) one), t.2, t.3)

-- ---- a path

pub path_line_long : (ns : List ℕ) → is_path_line ns ≡ true → 2 ≤ length ns
path_line_long ns is =
    let count = (and_parts (is_count 1 FORMAT_2.hops (slice_index ns 1)) (has_count (2 + slice_index ns 1) ns) is).1 in
    let e = eqb-true (length ns) (2 + slice_index ns 1) count in
    omega (arith, e)

path_numbers : (ns : List ℕ) → length ns ≡ 2 + slice_index ns 1 → ns ≡ slice_index ns 0 ∷ length (drop 2 ns) ∷ drop 2 ns
path_numbers [] e = absurd (omega (arith, e))
path_numbers (a ∷ []) e = absurd (omega (arith, e))
path_numbers (a ∷ b ∷ ns) e = ap (λ n. a ∷ n ∷ ns) (omega (arith, e))

-- the path of these numbers
abbrev path_of : List ℕ → PathShare
path_of ns = record { links = drop 2 ns; weight = slice_index ns 0 }

path_shaped : (ns : List ℕ) → is_path_line ns ≡ true → AreWords ns → is_shaped_path FORMAT_2 (path_of ns) ≡ true
path_shaped [] is words = cc
path_shaped (a ∷ []) is words = cc
path_shaped (a ∷ b ∷ ns) is words =
    let both = and_parts (is_count 1 FORMAT_2.hops b) (has_count (2 + b) (a ∷ b ∷ ns)) is in
    let e = eqb-true (length (a ∷ b ∷ ns)) (2 + b) both.1 in
    let same : b ≡ length ns = omega (arith, e) in
    and_from (is_word a && is_count 1 FORMAT_2.hops (length ns)) (are_words ns)
    (and_from (is_word a) (is_count 1 FORMAT_2.hops (length ns)) (lt-ltb a (2 ^ 64) words.0) (ap (is_count 1 FORMAT_2.hops) (sym same) ∙ both.0))
    (test_words ns words.1.1)

-- the numbers of the first of these lines of a table
first_words : (ls more : List NumLine) (numbers : List ℕ) → AreLines ls → ls ≡ word_line [] numbers ∷ more → AreWords numbers
first_words ls more numbers al same = (subst AreLines same al).0.numbers

pub path_read : (numbers : List ℕ) (kept : PathShare) (before after : DueLines) (ls : List NumLine) → AreLines ls → is_path_line numbers ≡ true →
    kept ≡ record { links = map narrow_number (drop 2 numbers); weight = slice_index numbers 0 } →
    TakesDue (BeginsWithWord []) (LeavesAtWord []) (Ok numbers) before after ls → TakesDue BeginsWithPath (LeavesAtLine [] is_path_line) (Ok kept) before after ls
path_read numbers kept before after ls al is same t =
    let both = and_parts (is_count 1 FORMAT_2.hops (slice_index numbers 1)) (has_count (2 + slice_index numbers 1) numbers) is in
    let all = path_numbers numbers (eqb-true (length numbers) (2 + slice_index numbers 1) both.1) in (
      t.0,
      (path_of numbers, same, path_shaped numbers is (first_words ls t.0 numbers al t.1), t.1 ∙ ap (λ (ns : List ℕ). word_line [] ns ∷ t.0) all),
      t.2,
      t.3,
    )

-- ---- the paths of a pair

pub no_paths : (before : DueLines) (ls : List NumLine) → IsBefore before ls → TakesDue (BeginsWithPaths 0) (LeavesAtPaths 0) (Ok []) before before ls
no_paths before ls is = (ls, ([], refl, refl, refl, refl), is, refl)

-- one item more at the end, before the lines that are left
joined_more : {A : Type 0} (ls xs more rest item : List A) → ls ≡ xs ++ more → more ≡ item ++ rest → ls ≡ (xs ++ item) ++ rest
joined_more {A} ls xs more rest item one two = one ∙ ap (λ (ys : List A). xs ++ ys) two ∙ sym (append_assoc xs item rest)

pub one_path_more : (i : ℕ) (kept : List PathShare) (path : PathShare) (before mid after : DueLines) (ls : List NumLine) →
    TakesDue (BeginsWithPaths i) (LeavesAtPaths i) (Ok kept) before mid ls →
    ((more : List NumLine) → IsBefore mid more → TakesDue BeginsWithPath (LeavesAtLine [] is_path_line) (Ok path) mid after more) →
    TakesDue (BeginsWithPaths (i + 1)) (LeavesAtPaths (i + 1)) (Ok (kept ++ path ∷ [])) before after ls
one_path_more i kept path before mid after ls t step =
    let u = step t.0 t.2 in
    let ss = t.1.0 in
    let s = u.1.0 in
    let next = t.3 in
    let last = u.3 in
    let count = t.1.2 in
    let all : map keep_path (ss ++ s ∷ []) ≡ kept ++ path ∷ [] =
    map-append keep_path ss (s ∷ []) ∙ ap (λ (ps : List PathShare). ps ++ keep_path s ∷ []) (sym t.1.1) ∙ ap (λ (p : PathShare). kept ++ p ∷ []) (sym u.1.1)
    in
    let shaped : list_all (is_shaped_path FORMAT_2) (ss ++ s ∷ []) ≡ true =
    list_all-append (is_shaped_path FORMAT_2) ss (s ∷ [])
    ∙ and_from (list_all (is_shaped_path FORMAT_2) ss) (is_shaped_path FORMAT_2 s && true) t.1.3 (and_from (is_shaped_path FORMAT_2 s) true u.1.2 refl)
    in
    let longer : length (ss ++ s ∷ []) ≡ i + 1 = length-append ss (s ∷ []) ∙ ap (λ n. n + 1) count in
    let lines : ls ≡ map share_line (ss ++ s ∷ []) ++ u.0 =
    joined_more ls (map share_line ss) t.0 u.0 (share_line s ∷ []) t.1.4 u.1.3
    ∙ ap (λ (ys : List NumLine). ys ++ u.0) (sym (map-append share_line ss (s ∷ [])))
    in
    (u.0, (ss ++ s ∷ [], sym all, longer, shaped, lines), u.2, omega (arith, next, last))

-- how many lines these are
length_of : (ls front more : List NumLine) (n : ℕ) → length front ≡ n → ls ≡ front ++ more → length ls ≡ n + length more
length_of ls front more n count same = ap length same ∙ length-append front more ∙ ap (λ k. k + length more) count

-- a line that is no path, where one is due
paths_stop : (n rest j : ℕ) (ss : List PathShare) (ls more : List NumLine) → n ≡ length ss + suc rest → list_all (is_shaped_path FORMAT_2) ss ≡ true →
    ls ≡ map share_line ss ++ more → LeavesAtLine [] is_path_line more j → LeavesAtPaths n ls (length ss + j)
paths_stop n rest j ss ls more e shaped same leaves = λ next.
    ap (first_undue (paths_due n next)) same
    ∙ due_paths ss (suc rest) n next more e shaped
    ∙ ap (later (length ss)) (leaves (λ numbers. paths_due rest next))
    ∙ later_some (length ss) j

pub path_fails : (n i : ℕ) (kept : List PathShare) (fault : TableFault) (before mid after : DueLines) (ls : List NumLine) → i < n →
    TakesDue (BeginsWithPaths i) (LeavesAtPaths i) (Ok kept) before mid ls →
    ((more : List NumLine) → IsBefore mid more → TakesDue BeginsWithPath (LeavesAtLine [] is_path_line) (Err fault) mid after more) →
    TakesDue (BeginsWithPaths n) (LeavesAtPaths n) (Err fault) before after ls
path_fails n i kept fault before mid after ls below t step =
    let ss = t.1.0 in
    let count = t.1.2 in
    let rest : n ≡ length ss + suc (n - suc i) = omega (arith, count, below) in
    fails_behind BeginsWithPath (LeavesAtLine [] is_path_line) (BeginsWithPaths n) (LeavesAtPaths n) fault before mid after ls t.0 (length ss) t.3
    (length_of ls (map share_line ss) t.0 (length ss) (length-map ss share_line) t.1.4)
    (λ j leaves. paths_stop n (n - suc i) j ss ls t.0 rest t.1.3 t.1.4 leaves) (step t.0 t.2)

-- the number of the paths is missing
pub count_missing : (ls : List NumLine) (j : ℕ) → LeavesAtLine [] is_path_count ls j → LeavesAtPair ls j
count_missing ls j leaves = λ n. leaves (λ numbers. paths_due (slice_index numbers 0) (pairs_due n))

-- the number of the paths, and the paths
pub pair_read : (count : ℕ) (result : Result (List PathShare) TableFault) (before mid after : DueLines) (ls : List NumLine) →
    TakesDue BeginsWithPathCount (LeavesAtLine [] is_path_count) (Ok count) before mid ls →
    ((more : List NumLine) → IsBefore mid more → TakesDue (BeginsWithPaths count) (LeavesAtPaths count) result mid after more) →
    TakesDue BeginsWithPair LeavesAtPair result before after ls
pair_read count (Ok kept) before mid after ls t step =
    let u = step t.0 t.2 in
    let ss = u.1.0 in
    let few : nat_le (length ss) FORMAT_2.paths ≡ true =
    ap (λ n. nat_le n FORMAT_2.paths) u.1.2 ∙ (and_parts (has_count 1 (count ∷ [])) (nat_le count FORMAT_2.paths) t.1.0).1
    in
    let shaped : are_shaped_paths ss ≡ true =
    and_from (is_count 0 FORMAT_2.paths (length ss)) (list_all (is_shaped_path FORMAT_2) ss)
    (and_from (nat_le 0 (length ss)) (nat_le (length ss) FORMAT_2.paths) (le-leb 0 (length ss) (omega arith)) few) u.1.3
    in
    let lines : ls ≡ pair_lines ss ++ u.0 =
    t.1.1 ∙ ap (λ (ys : List NumLine). word_line [] (count ∷ []) ∷ ys) u.1.4 ∙ ap (λ n. word_line [] (n ∷ []) ∷ (map share_line ss ++ u.0)) (sym u.1.2)
    in
    let next = t.3 in
    let last = u.3 in
    (u.0, (ss, u.1.1, shaped, lines), u.2, omega (arith, next, last))
pair_read count (Err fault) before mid after ls t step =
    fails_behind (BeginsWithPaths count) (LeavesAtPaths count) BeginsWithPair LeavesAtPair fault before mid after ls t.0 1 t.3
    (length_of ls (word_line [] (count ∷ []) ∷ []) t.0 1 refl t.1.1)
    (λ j leaves n.
    ap (first_undue (pairs_due (suc n))) t.1.1
    ∙ after_line [] is_path_count (λ numbers. paths_due (slice_index numbers 0) (pairs_due n)) (count ∷ []) t.0 j t.1.0 (leaves (pairs_due n))
    ∙ ap Some (one_more j))
    (step t.0 t.2)
  where
    one_more : (j : ℕ) → suc j ≡ 1 + j
    one_more j = omega arith

-- ---- the paths of all pairs

pub no_pairs : (before : DueLines) (ls : List NumLine) → IsBefore before ls → TakesDue (BeginsWithRival 0) (LeavesAtRival 0) (Ok []) before before ls
no_pairs before ls is = (ls, ([], refl, refl, refl, refl), is, refl)

pub one_pair_more : (i : ℕ) (kept : List (List PathShare)) (paths : List PathShare) (before mid after : DueLines) (ls : List NumLine) →
    TakesDue (BeginsWithRival i) (LeavesAtRival i) (Ok kept) before mid ls →
    ((more : List NumLine) → IsBefore mid more → TakesDue BeginsWithPair LeavesAtPair (Ok paths) mid after more) →
    TakesDue (BeginsWithRival (i + 1)) (LeavesAtRival (i + 1)) (Ok (kept ++ paths ∷ [])) before after ls
one_pair_more i kept paths before mid after ls t step =
    let u = step t.0 t.2 in
    let rival = t.1.0 in
    let ss = u.1.0 in
    let next = t.3 in
    let last = u.3 in
    let all : map (map keep_path) (rival ++ ss ∷ []) ≡ kept ++ paths ∷ [] =
    map-append (map keep_path) rival (ss ∷ []) ∙ ap (λ (ps : List (List PathShare)). ps ++ map keep_path ss ∷ []) (sym t.1.1)
    ∙ ap (λ (p : List PathShare). kept ++ p ∷ []) (sym u.1.1)
    in
    let shaped : list_all are_shaped_paths (rival ++ ss ∷ []) ≡ true =
    list_all-append are_shaped_paths rival (ss ∷ [])
    ∙ and_from (list_all are_shaped_paths rival) (are_shaped_paths ss && true) t.1.3 (and_from (are_shaped_paths ss) true u.1.2 refl)
    in
    let longer : length (rival ++ ss ∷ []) ≡ i + 1 = length-append rival (ss ∷ []) ∙ ap (λ n. n + 1) t.1.2 in
    let one : pair_lines ss ≡ flat_map pair_lines (ss ∷ []) = sym (append-nil (pair_lines ss)) in
    let lines : ls ≡ flat_map pair_lines (rival ++ ss ∷ []) ++ u.0 =
    joined_more ls (flat_map pair_lines rival) t.0 u.0 (pair_lines ss) t.1.4 u.1.3
    ∙ ap (λ (ys : List NumLine). (flat_map pair_lines rival ++ ys) ++ u.0) one
    ∙ ap (λ (ys : List NumLine). ys ++ u.0) (sym (flat_map-append pair_lines rival (ss ∷ [])))
    in
    (u.0, (rival ++ ss ∷ [], sym all, longer, shaped, lines), u.2, omega (arith, next, last))

pairs_stop : (n rest j : ℕ) (rival : List (List PathShare)) (ls more : List NumLine) → n ≡ length rival + suc rest → list_all are_shaped_paths rival ≡ true →
    ls ≡ flat_map pair_lines rival ++ more → LeavesAtPair more j → LeavesAtRival n ls (length (flat_map pair_lines rival) + j)
pairs_stop n rest j rival ls more e shaped same leaves =
    ap (first_undue (pairs_due n)) same
    ∙ due_pairs rival (suc rest) n more e shaped
    ∙ ap (later (length (flat_map pair_lines rival))) (leaves rest)
    ∙ later_some (length (flat_map pair_lines rival)) j

pub pair_fails : (n i : ℕ) (kept : List (List PathShare)) (fault : TableFault) (before mid after : DueLines) (ls : List NumLine) → i < n →
    TakesDue (BeginsWithRival i) (LeavesAtRival i) (Ok kept) before mid ls →
    ((more : List NumLine) → IsBefore mid more → TakesDue BeginsWithPair LeavesAtPair (Err fault) mid after more) →
    TakesDue (BeginsWithRival n) (LeavesAtRival n) (Err fault) before after ls
pair_fails n i kept fault before mid after ls below t step =
    let rival = t.1.0 in
    let count = t.1.2 in
    let rest : n ≡ length rival + suc (n - suc i) = omega (arith, count, below) in
    fails_behind BeginsWithPair LeavesAtPair (BeginsWithRival n) (LeavesAtRival n) fault before mid after ls t.0 (length (flat_map pair_lines rival)) t.3
    (length_of ls (flat_map pair_lines rival) t.0 (length (flat_map pair_lines rival)) refl t.1.4)
    (λ j leaves. pairs_stop n (n - suc i) j rival ls t.0 rest t.1.3 t.1.4 leaves) (step t.0 t.2)
