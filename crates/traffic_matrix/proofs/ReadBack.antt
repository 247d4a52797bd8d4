-- What a series prints reads back as the series.
use Rattle.std.proofs.Common.{ℕ, zero, suc, ◌*◌, ◌/◌, ◌%◌, ◌≤◌, ◌<◌, ◌≡◌, ◌∙◌, refl, sym, ap, inl, inr, List, [], ◌∷◌, length, get_or, map, filter, AllPairs, Bool, true, false, cond, unwrap_or, Some, Ok, arith}
use Rattle.std.specs.List.{range_with_len}
use Rattle.std.proofs.lemmas.List.FromFn.{fill_by_all}
use Rattle.std.proofs.lemmas.List.Kept.{AllPairs-filter}
use Rattle.te_model.proofs.AscendingPairs.{Below, all_ascend}
use Rattle.te_model.proofs.WellFormed.{well_formed_parts}
use Rattle.te_model.specs.declared.network.Network.{Network}
use Rattle.te_model.specs.declared.route.Pair.{Pair}
use Rattle.te_model.specs.declared.demand.Matrix.{Matrix}
use Rattle.te_model.specs.Network.{is_well_formed, node_count}
use Rattle.te_model.specs.Pairs.{no_pair, IsNodePair}
use Rattle.csv_records.specs.Rows.{and_then, records_of}
use Rattle.csv_records.proofs.RowFacts.{after-header}
use Rattle.traffic_matrix.specs.declared.entry.Entry.{Entry}
use Rattle.traffic_matrix.specs.declared.series.Series.{Series}
use Rattle.traffic_matrix.specs.declared.fault.MatrixFault.TheVariants as fault
use Rattle.traffic_matrix.specs.Limits.{IsSeries}
use Rattle.traffic_matrix.specs.Pairs.{place_of_pair, pair_of_place, all_pairs, same_pair}
use Rattle.traffic_matrix.specs.Rows.{is_matrix_header, with_demand_row, series_in}
use Rattle.traffic_matrix.specs.Series.{demand_in, is_declared, step_count, declared_pairs, matrix_of, series_of}
use Rattle.traffic_matrix.specs.Text.{series_text, no_matrix}
use Rattle.traffic_matrix.proofs.LimitLemmas.{All-where, all-ascend}
use Rattle.traffic_matrix.proofs.RowText.{entries_from, fields, header, series-records}
use Rattle.traffic_matrix.proofs.Written.{Written, start, steps-read}
use Rattle.traffic_matrix.proofs.PairLists.{among-all, mem-filter, pair-is, same-lists}

module _ (net : Network) (s : Series) (formed : is_well_formed net ≡ true) (limits : IsSeries (node_count net) s) (after : List Entry) (w : Written net s formed limits (length s.steps) 0 after) where
  pairs-back : 0 < length s.steps → declared_pairs (node_count net) after ≡ s.pairs.list
  pairs-back some =
      let n = node_count net in
      let declared = is_declared after in
      let tested = All-where declared (λ q. Unit {0}) (λ q. declared q ≡ true) (all_pairs n) (λ k d low. tt) (λ q u h. h) in
      same-lists (declared_pairs n after) s.pairs.list (AllPairs-filter Below declared (all_pairs n) (all-ascend n)) (all_ascend s.pairs.list limits.ascending)
      (λ q m. let (i, low, is) = m in
      let yes : declared q ≡ true = rw is at (tested i no_pair low) in
      let (j, inside, same) = w.known q yes in
      (j, inside, pair-is (get_or s.pairs.list j no_pair) q same))
      (λ q m. let (i, low, is) = m in
      let pair = limits.pairs i no_pair low in
      let within : IsNodePair n (get_or s.pairs.list i no_pair) = record { src = pair.src_inside; dst = pair.dst_inside } in
      rw is at (mem-filter declared (all_pairs n) (get_or s.pairs.list i no_pair) (among-all n (get_or s.pairs.list i no_pair) within) (w.has i low (inl some))))

  demands-back : (k : ℕ) → k < length s.steps → (ps : List Pair) (ds : List ℕ) → length ds ≡ length ps
      → ((i : ℕ) → i < length ps → demand_in after k (get_or ps i no_pair) ≡ Some (get_or ds i 0)) → map (λ p. unwrap_or (demand_in after k p) 0) ps ≡ ds
  demands-back k low [] [] e each = refl
  demands-back k low [] (d ∷ ds) e each = absurd (omega arith)
  demands-back k low (p ∷ ps) [] e each = absurd (omega arith)
  demands-back k low (p ∷ ps) (d ∷ ds) e each =
      let first : demand_in after k p ≡ Some d = each 0 (omega arith) in
      rw (first, demands-back k low ps ds (omega arith) (λ i less. each (suc i) (omega arith))) refl

  matrix-back : (k : ℕ) → k < length s.steps → get_or s.steps k no_matrix ≡ matrix_of s.pairs.list after k
  matrix-back k low =
      let matrix = limits.matrices k no_matrix low in
      ap (λ (d : List ℕ). let m : Matrix = record { demand = d } in m)
      (sym (demands-back k low s.pairs.list (get_or s.steps k no_matrix).demand matrix.count (λ i less. w.done k i low less)))

  series-back : 0 < length s.steps → series_of (node_count net) after ≡ s
  series-back some =
      let count = w.count in
      let total : step_count after ≡ length s.steps = omega arith in
      let pairs = pairs-back some in
      let steps : s.steps ≡ map (matrix_of s.pairs.list after) (range_with_len 0 (length s.steps)) = fill_by_all (matrix_of s.pairs.list after) s.steps (length s.steps) no_matrix refl matrix-back in
      rw pairs (ap (λ (r : List Matrix). let x : Series = record { pairs = record { list = s.pairs.list }; steps = r } in x)
      (ap (λ (k : ℕ). map (matrix_of s.pairs.list after) (range_with_len 0 k)) total ∙ sym steps))

-- what is printed reads back, where there is a step and a pair
pub reads-back : (net : Network) (s : Series) → is_well_formed net ≡ true → IsSeries (node_count net) s → 1 ≤ length s.steps → 1 ≤ length s.pairs.list → series_in net (series_text net s) ≡ Ok s
reads-back net s formed limits some pair =
    let names = (well_formed_parts net formed).names in
    let (after, written, goes) = steps-read net s formed limits 0 (length s.steps) 1 [] pair (omega arith) (start net s formed limits) in
    ap (and_then (λ es. Ok (series_of (node_count net) es)))
    (after-header (with_demand_row net.names) is_matrix_header fault.Header [] (records_of (series_text net s)) header (map (fields net.names) (entries_from s 0 (length s.steps))) (series-records net s names limits) refl ∙ goes)
    ∙ ap (λ (x : Series). Ok x) (series-back net s formed limits after written some)
