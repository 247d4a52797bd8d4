-- The first row whose pair is outside, of rows that are read one after another, and the pairs of a file without one.
use Rattle.std.proofs.Common.{ℕ, suc, ◌+◌, ◌*◌, ◌<◌, ◌≡◌, ◌∙◌, refl, sym, ap, subst, inl, inr, List, [], ◌∷◌, length, get_or, drop, filter, replicate, All, Bool, true, false, not, ◌||◌, ◌==◌, nat_lt, nat_le, is_some, Option, Some, None, Result, Ok, Err, arith}
use Rattle.std.proofs.Math.Bool.{or-false}
use Rattle.std.proofs.lemmas.Bool.{false≢true, or_cases, true_from_ne_false}
use Rattle.std.proofs.lemmas.List.{get_or-replicate}
use Rattle.std.proofs.lemmas.List.Elements.{All-get_or, filter_passes}
use Rattle.te_model.specs.declared.network.Network.{Network}
use Rattle.te_model.specs.declared.route.Pair.{Pair}
use Rattle.te_model.specs.Network.{node_count}
use Rattle.te_model.specs.Counting.{or_else, unless}
use Rattle.te_model.specs.Pairs.{no_pair, AscendPairs, IsNodePair}
use Rattle.csv_records.specs.Rows.{and_then, fold_rows, records_of}
use Rattle.csv_records.proofs.RowFacts.{rows-end, rows-fault, rows-keep, rows-more}
use Rattle.traffic_matrix.specs.declared.entry.Entry.{Entry}
use Rattle.traffic_matrix.specs.declared.series.Series.{Series}
use Rattle.traffic_matrix.specs.declared.fault.MatrixFault.{MatrixFault}
use Rattle.traffic_matrix.specs.declared.fault.MatrixFault.TheVariants as fault
use Rattle.traffic_matrix.specs.Laws.{PairsStayInside}
use Rattle.traffic_matrix.specs.Outside.{AreAmong, first_outside_of, first_row_outside}
use Rattle.traffic_matrix.specs.Pairs.{all_pairs, place_of_pair, same_pair}
use Rattle.traffic_matrix.specs.Rows.{begins_with_header, demand_entry, entries_below, entries_in, latest_step, with_accepted_entry, with_demand_row, series_in}
use Rattle.traffic_matrix.specs.Series.{declared_pairs, demand_in, is_declared, series_of}
use Rattle.traffic_matrix.specs.Shows.{AreMarksOf}
use Rattle.traffic_matrix.specs.Traffic.{has_pair}
use Rattle.traffic_matrix.proofs.LimitLemmas.{entry-said, passed-all}
use Rattle.traffic_matrix.proofs.Reading.{entries-left, header-missing}
use Rattle.traffic_matrix.proofs.PairLists.{pair-is}
use Rattle.traffic_matrix.proofs.PairUnion.{own-of-all, stands, within-wider}
use Rattle.traffic_matrix.proofs.TableLemmas.{place-below}

-- a row that is accepted stands before those before it
row-adds : (names : List (List ℕ)) (before more : List Entry) (row : ℕ) (r : List (List ℕ)) → with_demand_row names before row r ≡ Ok more →
    (e : Entry) × (demand_entry names row r ≡ Ok e) × (more ≡ e ∷ before)
row-adds names before more row r h = go (demand_entry names row r) refl h
  where
    go : (o : Result Entry MatrixFault) → demand_entry names row r ≡ o → and_then (with_accepted_entry before row) o ≡ Ok more →
        (e : Entry) × (demand_entry names row r ≡ Ok e) × (more ≡ e ∷ before)
    go (Err f) e k = cc k
    go (Ok x) e k =
        let (apart, few, same) = passed-all (nat_lt x.step (latest_step before)) (is_some (demand_in before x.step x.pair)) (x.pair.src == x.pair.dst) (nat_le 1024 x.step)
        (fault.Order row) (fault.Repeated row) (fault.SelfPair row) (fault.TooManySteps row) (x ∷ before) more k in
        (x, e, sym same)

outside-first : (pairs : List Pair) (n : ℕ) (e : Entry) (before more : List Entry) → more ≡ e ∷ before → first_row_outside pairs before ≡ Some n →
    first_row_outside pairs more ≡ Some n
outside-first pairs n e before more same found = rw (same, found) refl

-- the first of the rows so far that is outside is the first of all
outside-stays : (names : List (List ℕ)) (pairs : List Pair) (n : ℕ) (so_far all : List Entry) (row : ℕ) (rows : List (List (List ℕ))) →
    first_row_outside pairs so_far ≡ Some n → fold_rows (with_demand_row names) so_far row rows ≡ Ok all → first_row_outside pairs all ≡ Some n
outside-stays names pairs n so_far all row rows found makes =
    rows-keep (with_demand_row names) (λ entries. first_row_outside pairs entries ≡ Some n)
    (λ s t k r p h. let (e, says, same) = row-adds names s t k r h in outside-first pairs n e s t same p) so_far all row rows found makes

-- the rows so far make all entries with the rows that are left, and none of their pairs lacks a mark
pub record SoFar (names : List (List ℕ)) (marks : List Bool) (all : List Entry) (row : ℕ) (rest : List (List (List ℕ))) : Type 0 where
  pub entries : List Entry
  pub goes : fold_rows (with_demand_row names) entries row rest ≡ Ok all
  pub count : row ≡ 1 + length entries
  pub none : (pairs : List Pair) → AreMarksOf (length names) marks pairs → first_row_outside pairs entries ≡ None

module _ (names : List (List ℕ)) (marks : List Bool) (all : List Entry) (row : ℕ) (rows : List (List (List ℕ))) (so_far : SoFar names marks all row rows) where
  -- the next row says something, and is taken
  row-left : (r : List (List ℕ)) (rest : List (List (List ℕ))) → rows ≡ r ∷ rest →
      (e : Entry) × (demand_entry names row r ≡ Ok e) × (fold_rows (with_demand_row names) (e ∷ so_far.entries) (row + 1) rest ≡ Ok all)
  row-left r rest at = go (with_demand_row names so_far.entries row r) refl
    where
      go : (o : Result (List Entry) MatrixFault) → with_demand_row names so_far.entries row r ≡ o →
          (e : Entry) × (demand_entry names row r ≡ Ok e) × (fold_rows (with_demand_row names) (e ∷ so_far.entries) (row + 1) rest ≡ Ok all)
      go (Err f) is =
          let refused = rows-fault (with_demand_row names) so_far.entries row rows r rest f at is in
          let goes = so_far.goes in
          absurd cc
      go (Ok more) is =
          let (e, says, same) = row-adds names so_far.entries more row r is in
          let goes = sym (rows-more (with_demand_row names) so_far.entries more row rows r rest at is) ∙ so_far.goes in
          (e, says, subst (λ (es : List Entry). fold_rows (with_demand_row names) es (row + 1) rest ≡ Ok all) same goes)

  marked : (r : List (List ℕ)) (e : Entry) (pairs : List Pair) → demand_entry names row r ≡ Ok e → AreMarksOf (length names) marks pairs →
      get_or marks (place_of_pair (length names) e.pair) false ≡ has_pair pairs e.pair
  marked r e pairs says are = let (src, dst, small) = entry-said names row r e says in are e.pair (record { src = src; dst = dst })

  pub row-found : (r : List (List ℕ)) (rest : List (List (List ℕ))) (unmarked : Bool) → rows ≡ r ∷ rest →
      ((e : Entry) → demand_entry names row r ≡ Ok e → unmarked ≡ not (get_or marks (place_of_pair (length names) e.pair) false)) → unmarked ≡ true →
      (pairs : List Pair) → AreMarksOf (length names) marks pairs → Some row ≡ first_row_outside pairs all
  row-found r rest unmarked at tells is pairs are =
      let (e, says, goes) = row-left r rest at in
      let lacks : has_pair pairs e.pair ≡ false = unmarks (get_or marks (place_of_pair (length names) e.pair) false) (has_pair pairs e.pair) (sym is ∙ tells e says) (marked r e pairs says are) in
      let found : first_row_outside pairs (e ∷ so_far.entries) ≡ Some (1 + length so_far.entries) = rw (so_far.none pairs are, lacks) refl in
      let number : Some (1 + length so_far.entries) ≡ Some row = ap Some (sym so_far.count) in
      sym (outside-stays names pairs row (e ∷ so_far.entries) all (row + 1) rest (found ∙ number) goes)
    where
      unmarks : (mark has : Bool) → true ≡ not mark → mark ≡ has → has ≡ false
      unmarks false has lack same = sym same
      unmarks true has lack same = absurd (false≢true (sym lack))

  pub row-inside : (r : List (List ℕ)) (rest : List (List (List ℕ))) (unmarked : Bool) → rows ≡ r ∷ rest →
      ((e : Entry) → demand_entry names row r ≡ Ok e → unmarked ≡ not (get_or marks (place_of_pair (length names) e.pair) false)) → unmarked ≡ false →
      SoFar names marks all (row + 1) rest
  row-inside r rest unmarked at tells is =
      let (e, says, goes) = row-left r rest at in
      record {
        entries = e ∷ so_far.entries;
        goes = goes;
        count = omega (arith, so_far.count);
        none = λ pairs are.
            let has : has_pair pairs e.pair ≡ true = marks-it (get_or marks (place_of_pair (length names) e.pair) false) (has_pair pairs e.pair) (sym is ∙ tells e says) (marked r e pairs says are) in
            rw (so_far.none pairs are, has) refl;
      }
    where
      marks-it : (mark has : Bool) → false ≡ not mark → mark ≡ has → has ≡ true
      marks-it true has lack same = sym same
      marks-it false has lack same = absurd (false≢true lack)

  pub rows-inside : rows ≡ [] → (pairs : List Pair) → AreMarksOf (length names) marks pairs → None ≡ first_row_outside pairs all
  rows-inside at pairs are =
      let end : Ok so_far.entries ≡ Ok all = sym (rows-end (with_demand_row names) so_far.entries row rows at) ∙ so_far.goes in
      let same : so_far.entries ≡ all = cc end in
      sym (subst (λ (es : List Entry). first_row_outside pairs es ≡ None) same (so_far.none pairs are))

-- without a row outside the pairs that some row has are among them
none-both : (a b : Option ℕ) → or_else a b ≡ None → (a ≡ None) × (b ≡ None)
none-both None b is = (refl, is)
none-both (Some x) b is = cc is

has-inside : (b : Bool) (n : ℕ) → unless b n ≡ None → b ≡ true
has-inside true n is = refl
has-inside false n is = cc is

declared-inside : (pairs : List Pair) (entries : List Entry) (q : Pair) → first_row_outside pairs entries ≡ None → is_declared entries q ≡ true →
    has_pair pairs q ≡ true
declared-inside pairs [] q none has = absurd (false≢true has)
declared-inside pairs (e ∷ es) q none has =
    let both = none-both (first_row_outside pairs es) (unless (has_pair pairs e.pair) (1 + length es)) none in
    elim (or_cases (same_pair e.pair q) (is_declared es q) has) [
      | inl here ↦ subst (λ (p : Pair). has_pair pairs p ≡ true) (pair-is e.pair q here) (has-inside (has_pair pairs e.pair) (1 + length es) both.1)
      | inr later ↦ declared-inside pairs es q both.0 later
    ]

pub pairs_stay_inside : PairsStayInside
pairs_stay_inside net pairs bytes series makes none = go (entries_in net bytes) makes none
  where
    go : (o : Result (List Entry) MatrixFault) → and_then (λ entries. Ok (series_of (node_count net) entries)) o ≡ Ok series → first_outside_of pairs o ≡ None →
        AreAmong series.pairs.list pairs
    go (Err f) is outside q has = absurd cc
    go (Ok entries) is outside q has =
        let same : series_of (node_count net) entries ≡ series = cc is in
        let list = declared_pairs (node_count net) entries in
        let stands_there = stands list q (subst (λ (s : Series). has_pair s.pairs.list q ≡ true) (sym same) has) in
        let (i, low, at) = stands_there in
        let passes = All-get_or (λ (p : Pair). is_declared entries p ≡ true) list i no_pair low (filter_passes (is_declared entries) (all_pairs (node_count net))) in
        declared-inside pairs entries q outside (subst (λ (p : Pair). is_declared entries p ≡ true) at passes)

-- pairs among others are those of them that are theirs
pub own-among : (n : ℕ) (own pairs : List Pair) → All (IsNodePair n) own → AscendPairs own → All (IsNodePair n) pairs → AscendPairs pairs → AreAmong own pairs →
    own ≡ filter (has_pair own) pairs
own-among n own pairs nodes ascend all_nodes all_ascend among =
    sym (ap (λ (ps : List Pair). filter (has_pair own) ps) (sym (own-of-all n pairs all_nodes all_ascend))
    ∙ (within-wider (has_pair own) (has_pair pairs) among (all_pairs n) ∙ own-of-all n own nodes ascend))

-- ---- a file that is read

-- the rows below its header make its entries
pub read-below : (net : Network) (names : List (List ℕ)) (bytes : List ℕ) (series : Series) (rest : List (List (List ℕ))) → names ≡ net.names →
    series_in net bytes ≡ Ok series → rest ≡ drop 1 (records_of bytes) →
    (entries : List Entry) × (entries_in net bytes ≡ Ok entries) × (entries_below names rest ≡ Ok entries)
read-below net names bytes series rest same makes left = go (entries_in net bytes) refl makes
  where
    headed : (entries : List Entry) → entries_in net bytes ≡ Ok entries → begins_with_header (records_of bytes) ≡ true
    headed entries made = true_from_ne_false (begins_with_header (records_of bytes)) (λ lacks.
        let missing = header-missing net.names (records_of bytes) lacks in
        cc)

    go : (o : Result (List Entry) MatrixFault) → entries_in net bytes ≡ o → and_then (λ entries. Ok (series_of (node_count net) entries)) o ≡ Ok series →
        (entries : List Entry) × (entries_in net bytes ≡ Ok entries) × (entries_below names rest ≡ Ok entries)
    go (Err f) is k = absurd cc
    go (Ok entries) is k = (entries, is, sym (entries-left net.names names (records_of bytes) rest same (headed entries is) left) ∙ is)

-- the rows after the first one
pub after-first : (rows rest : List (List (List ℕ))) (current : List (List ℕ)) (found : Bool) → (found ≡ true → rows ≡ current ∷ rest) → (found ≡ false → rows ≡ []) →
    (found ≡ false → rest ≡ []) → rest ≡ drop 1 rows
after-first rows rest current true is none ended = rw (is refl) refl
after-first rows rest current false is none ended = rw (none refl, ended refl) refl

-- marks of pairs, and no others
pub marks-are : (n : ℕ) (pairs : List Pair) (none marks read : List Bool) → none ≡ replicate (n * n) false →
    ((q : Pair) → IsNodePair n q → get_or marks (place_of_pair n q) false ≡ (has_pair pairs q || get_or none (place_of_pair n q) false)) → read ≡ marks →
    AreMarksOf n read pairs
marks-are n pairs none marks read empty by same q w =
    let unmarked : get_or none (place_of_pair n q) false ≡ false =
    ap (λ (bs : List Bool). get_or bs (place_of_pair n q) false) empty ∙ get_or-replicate (n * n) (place_of_pair n q) false false (place-below n q w)
    in
    ap (λ (bs : List Bool). get_or bs (place_of_pair n q) false) same
    ∙ (by q w ∙ ap (λ (b : Bool). has_pair pairs q || b) unmarked ∙ or-false (has_pair pairs q))
