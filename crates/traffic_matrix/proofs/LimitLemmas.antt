-- A series that was read is within the limits.
use Rattle.std.proofs.Common.{ℕ, suc, ◌+◌, ◌*◌, ◌/◌, ◌^◌, ◌≤◌, ◌<◌, ◌≡◌, ◌≢◌, ◌∙◌, refl, sym, ap, subst, inl, inr, List, [], ◌∷◌, length, get_or, filter, All, AllPairs, Bool, true, false, ◌&&◌, ◌==◌, cond, nat_lt, nat_le, is_some, unwrap_or, Option, Some, None, Result, Ok, Err, arith, if◌then◌else◌}
use Rattle.std.specs.Str.{bytes_eq}
use Rattle.std.specs.List.{position_or_len}
use Rattle.std.proofs.lemmas.Bool.{false≢true, cases_lt, or_cases}
use Rattle.std.proofs.lemmas.Bool.Decides.{nat_tests}
use Rattle.std.proofs.lemmas.List.{get_or-map, length-map}
use Rattle.std.proofs.lemmas.List.Elements.{All-cons}
use Rattle.std.proofs.lemmas.List.FromFn.{get_or-map-range_with_len, length-map-range_with_len}
use Rattle.std.proofs.lemmas.List.Kept.{AllPairs-filter}
use Rattle.std.proofs.Math.Nat.{mul-le-mul_left}
use Rattle.te_model.specs.declared.network.Network.{Network}
use Rattle.te_model.specs.declared.route.Pair.{Pair}
use Rattle.te_model.specs.Network.{node_count}
use Rattle.te_model.specs.Pairs.{no_pair, IsPairAmong, AreDemands}
use Rattle.te_model.proofs.AscendingPairs.{Below, neighbours_ascend}
use Rattle.csv_records.specs.Field.{is_number, is_number_within, digits_from}
use Rattle.csv_records.specs.Rows.{and_then, records_of}
use Rattle.csv_records.proofs.FieldFacts.{within-bounds}
use Rattle.csv_records.proofs.RowFacts.{table-keep}
use Rattle.traffic_matrix.specs.declared.entry.Entry.{Entry}
use Rattle.traffic_matrix.specs.declared.series.Series.{Series}
use Rattle.traffic_matrix.specs.declared.fault.MatrixFault.{MatrixFault}
use Rattle.traffic_matrix.specs.declared.fault.MatrixFault.TheVariants as fault
use Rattle.traffic_matrix.specs.Pairs.{pair_of_place, all_pairs, same_pair}
use Rattle.traffic_matrix.specs.Series.{demand_in, is_declared, step_count, declared_pairs, matrix_of, series_of}
use Rattle.traffic_matrix.specs.Rows.{number_named, entry_between, demand_entry, latest_step, with_accepted_entry, with_demand_row, is_matrix_header, entries_in, series_in}
use Rattle.traffic_matrix.specs.Limits.{IsSeries}
use Rattle.traffic_matrix.specs.Laws.{SeriesAreInRange}
use Rattle.traffic_matrix.proofs.TableLemmas.{pair-parts}

-- what an accepted row says
pub record IsEntry (n : ℕ) (e : Entry) : Type 0 where
  pub pair : IsPairAmong n e.pair
  pub step : e.step < 1024
  pub demand : e.demand ≤ 2 ^ 32

position-below : (names : List (List ℕ)) (name : List ℕ) (v : ℕ) → number_named names name ≡ Some v → v < length names
position-below names name v h = go (nat_lt (position_or_len (bytes_eq name) names) (length names)) refl h
  where
    go : (b : Bool) → nat_lt (position_or_len (bytes_eq name) names) (length names) ≡ b → cond b (Some (position_or_len (bytes_eq name) names)) None ≡ Some v → v < length names
    go true e k = let same : position_or_len (bytes_eq name) names ≡ v = cc k in subst (λ (x : ℕ). x < length names) same (grind (arith, nat_tests))
    go false e k = cc k

-- the nodes and the demand of a row
abbrev pub Said : ℕ → Entry → Type 0
Said n e = (e.pair.src < n) × (e.pair.dst < n) × (e.demand ≤ 2 ^ 32)

between-said : (n row : ℕ) (step demand : List ℕ) (s t : Option ℕ) (e : Entry) → ((v : ℕ) → s ≡ Some v → v < n) → ((v : ℕ) → t ≡ Some v → v < n)
    → entry_between row step demand s t ≡ Ok e → Said n e
between-said n row step demand None t e f g h = cc h
between-said n row step demand (Some s) None e f g h = cc h
between-said n row step demand (Some s) (Some t) e f g h = pick (is_number step) (is_number_within 0 (2 ^ 32) demand) refl h
  where
    pick : (a b : Bool) → is_number_within 0 (2 ^ 32) demand ≡ b
        → ◌≡◌ {A = Result Entry MatrixFault} (if a && b then Ok (record { step = digits_from 0 step; pair = record { src = s; dst = t }; demand = digits_from 0 demand }) else Err (fault.Number row)) (Ok e) → Said n e
    pick true true w k =
        let made : Entry = record { step = digits_from 0 step; pair = record { src = s; dst = t }; demand = digits_from 0 demand } in
        let same : made ≡ e = cc k in
        subst (Said n) same (f s refl, g t refl, (within-bounds 0 (2 ^ 32) demand w).1)
    pick true false w k = cc k
    pick false b w k = cc k

pub entry-said : (names : List (List ℕ)) (row : ℕ) (r : List (List ℕ)) (e : Entry) → demand_entry names row r ≡ Ok e → Said (length names) e
unfolding demand_entry
entry-said names row [] e h = cc h
entry-said names row (a ∷ []) e h = cc h
entry-said names row (a ∷ b ∷ []) e h = cc h
entry-said names row (a ∷ b ∷ c ∷ []) e h = cc h
entry-said names row (a ∷ b ∷ c ∷ d ∷ []) e h =
    between-said (length names) row a d (number_named names b) (number_named names c) e (position-below names b) (position-below names c) h
entry-said names row (a ∷ b ∷ c ∷ d ∷ f ∷ rest) e h = cc h

pub passed-all : (a b c d : Bool) (w x y z : MatrixFault) (v more : List Entry)
    → ◌≡◌ {A = Result (List Entry) MatrixFault} (if a then Err w else if b then Err x else if c then Err y else if d then Err z else Ok v) (Ok more) → (c ≡ false) × (d ≡ false) × (v ≡ more)
passed-all false false false false w x y z v more h = (refl, refl, cc h)
passed-all false false false true w x y z v more h = cc h
passed-all false false true d w x y z v more h = cc h
passed-all false true c d w x y z v more h = cc h
passed-all true b c d w x y z v more h = cc h

row-kept : (names : List (List ℕ)) (before more : List Entry) (row : ℕ) (r : List (List ℕ)) → All (IsEntry (length names)) before → with_demand_row names before row r ≡ Ok more → All (IsEntry (length names)) more
row-kept names before more row r all h = go (demand_entry names row r) refl h
  where
    go : (o : Result Entry MatrixFault) → demand_entry names row r ≡ o → and_then (with_accepted_entry before row) o ≡ Ok more → All (IsEntry (length names)) more
    go (Err f) e k = cc k
    go (Ok x) e k =
        let (src, dst, small) = entry-said names row r x e in
        let (apart, few, same) = passed-all (nat_lt x.step (latest_step before)) (is_some (demand_in before x.step x.pair)) (x.pair.src == x.pair.dst) (nat_le 1024 x.step)
        (fault.Order row) (fault.Repeated row) (fault.SelfPair row) (fault.TooManySteps row) (x ∷ before) more k in
        let differ : x.pair.src ≢ x.pair.dst = grind (arith, nat_tests) in
        let is : IsEntry (length names) x = record { pair = record { src_inside = src; dst_inside = dst; apart = differ }; step = grind (arith, nat_tests); demand = small } in
        subst (All (IsEntry (length names))) same (All-cons (IsEntry (length names)) x before is all)

module _ (n : ℕ) where
  head : (e : Entry) (es : List Entry) → All (IsEntry n) (e ∷ es) → IsEntry n e
  head e es all = all 0 e (omega arith)

  tail : (e : Entry) (es : List Entry) → All (IsEntry n) (e ∷ es) → All (IsEntry n) es
  tail e es all = λ k d low. all (suc k) d (omega arith)

  declared-pair : (entries : List Entry) (p : Pair) → All (IsEntry n) entries → is_declared entries p ≡ true → IsPairAmong n p
  declared-pair [] p all h = absurd (false≢true h)
  declared-pair (e ∷ es) p all h = elim (or_cases (same_pair e.pair p) (is_declared es p) h) [
    | inl here ↦
        let (src, dst) = pair-parts e.pair p here in
        let is = (head e es all).pair in
        record { src_inside = omega (arith, is.src_inside); dst_inside = omega (arith, is.dst_inside); apart = λ same. is.apart (src ∙ same ∙ sym dst) }
    | inr later ↦ declared-pair es p (tail e es all) later
  ]

  few-steps : (entries : List Entry) → All (IsEntry n) entries → step_count entries ≤ 1024
  few-steps [] all = omega arith
  few-steps (e ∷ es) all = let low = (head e es all).step in omega (arith, few-steps es (tail e es all))

  small-demand : (entries : List Entry) (step : ℕ) (p : Pair) → All (IsEntry n) entries → unwrap_or (demand_in entries step p) 0 ≤ 2 ^ 32
  small-demand [] step p all = omega arith
  small-demand (e ∷ es) step p all = go (e.step == step && same_pair e.pair p) (small-demand es step p (tail e es all))
    where
      go : (b : Bool) → unwrap_or (demand_in es step p) 0 ≤ 2 ^ 32 → unwrap_or (if b then Some e.demand else demand_in es step p) 0 ≤ 2 ^ 32
      go true rest = (head e es all).demand
      go false rest = rest

pub All-where : {X : Type 0} (test : X → Bool) (P Q : X → Type 0) (xs : List X) → All P xs → ((x : X) → P x → test x ≡ true → Q x) → All Q (filter test xs)
All-where test P Q [] all each = λ k d low. absurd (omega arith)
All-where test P Q (x ∷ xs) all each = go (test x) refl (All-where test P Q xs (λ k d low. all (suc k) d (omega arith)) each)
  where
    go : (b : Bool) → test x ≡ b → All Q (filter test xs) → All Q (cond b (x ∷ filter test xs) (filter test xs))
    go true e rest = All-cons Q x (filter test xs) (each x (all 0 x (omega arith)) e) rest
    go false e rest = rest

-- places ascend as their pairs do
places-ascend : (n i j : ℕ) → 0 < n → i < j → Below (pair_of_place n i) (pair_of_place n j)
places-ascend n i j some less = elim (cases_lt (i / n) (j / n)) [
  | inl lower ↦ inl lower
  | inr upper ↦ elim (cases_lt (j / n) (i / n)) [
    | inl higher ↦ (let h : n * (j / n + 1) ≤ n * (i / n) = mul-le-mul_left n (omega arith) in absurd (omega arith))
    | inr lower ↦ (let e : i / n ≡ j / n = omega arith in let f : n * (i / n) ≡ n * (j / n) = ap (λ (k : ℕ). n * k) e in inr (e, omega arith))
  ]
]

pub all-ascend : (n : ℕ) → AllPairs Below (all_pairs n)
all-ascend n i j d less low =
    let count = length-map-range_with_len (pair_of_place n) 0 (n * n) in
    let inside : j < n * n = omega arith in
    let at-i = get_or-map-range_with_len (pair_of_place n) 0 (n * n) i i d (omega arith) (omega arith) in
    let at-j = get_or-map-range_with_len (pair_of_place n) 0 (n * n) j j d inside (omega arith) in
    let some : 0 < n = elim (cases_lt 0 n) [ inl positive ↦ positive | inr none ↦ absurd (let e : n ≡ 0 = omega arith in let f : j < 0 = rw e at inside in omega arith) ] in
    rw (at-i, at-j) (places-ascend n i j some less)

-- a series of accepted rows
pub series-limits : (n : ℕ) (entries : List Entry) → All (IsEntry n) entries → IsSeries n (series_of n entries)
series-limits n entries all =
    let pairs = declared_pairs n entries in
    record {
      pairs = All-where (is_declared entries) (λ p. Unit {0}) (IsPairAmong n) (all_pairs n) (λ k d low. tt) (λ p u h. declared-pair n entries p all h);
      ascending = neighbours_ascend pairs (AllPairs-filter Below (is_declared entries) (all_pairs n) (all-ascend n));
      few = omega (arith, length-map-range_with_len (matrix_of pairs entries) 0 (step_count entries), few-steps n entries all);
      matrices = λ k d low.
          let inside : k < step_count entries = omega (arith, length-map-range_with_len (matrix_of pairs entries) 0 (step_count entries)) in
          rw (get_or-map-range_with_len (matrix_of pairs entries) 0 (step_count entries) k k d inside (omega arith))
          (matrix-limits k);
    }
  where
    matrix-limits : (k : ℕ) → AreDemands (length (declared_pairs n entries)) (matrix_of (declared_pairs n entries) entries k).demand
    matrix-limits k = record {
      count = simp length-map;
      small = λ j d low.
          let inside : j < length (declared_pairs n entries) = simp length-map at low in
          rw (get_or-map (λ p. unwrap_or (demand_in entries k p) 0) (declared_pairs n entries) j no_pair d inside) (small-demand n entries k (get_or (declared_pairs n entries) j no_pair) all);
    }

-- a series that was read
pub series-in-range : (net : Network) (bytes : List ℕ) (series : Series) → series_in net bytes ≡ Ok series → IsSeries (node_count net) series
series-in-range net bytes series h = go (entries_in net bytes) refl h
  where
    go : (o : Result (List Entry) MatrixFault) → entries_in net bytes ≡ o → and_then (λ es. Ok (series_of (node_count net) es)) o ≡ Ok series → IsSeries (node_count net) series
    go (Err f) e k = cc k
    go (Ok es) e k =
        let same : series_of (node_count net) es ≡ series = cc k in
        subst (IsSeries (node_count net)) same
        (series-limits (node_count net) es
        (table-keep (with_demand_row net.names) is_matrix_header fault.Header [] (All (IsEntry (node_count net))) (λ s t row r all said. row-kept net.names s t row r all said) es (records_of bytes) (λ k d low. absurd (omega arith)) e))

pub series_are_in_range : SeriesAreInRange
series_are_in_range net bytes series formed h = series-in-range net bytes series h
