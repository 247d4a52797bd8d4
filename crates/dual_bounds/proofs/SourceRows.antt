-- What rows of the sources say of the pairs.
use Rattle.std.proofs.Common.{◌≡◌, ℕ, ◌+◌, ◌*◌, ◌^◌, ◌<◌, ◌≤◌, ◌⊎◌, Bool, true, false, ◌||◌, cond, List, [], ◌∷◌, ◌++◌, Some, length, map, arith, refl, ap, sym, subst, ◌∙◌, inl, inr, ◌==◌, get_or, slice_index, slice_index_or}
use Rattle.std.specs.Prelude.{All, filter, find, unwrap_or}
use Rattle.std.specs.List.{list_any, range_with_len}
use Rattle.std.proofs.lemmas.Bool.{eqb-true, eq-eqb, or_left, or_right}
use Rattle.std.proofs.lemmas.List.{append-nil, get_or-map, length-map, map-id, map_push}
use Rattle.std.proofs.lemmas.List.Elements.{All-nil, All-head, All-tail, All-push, All-filter, All-from_get_or, All-get_or, All-same}
use Rattle.std.proofs.lemmas.List.Folds.{list_any_at}
use Rattle.std.proofs.lemmas.List.FromFn.{filter_of_map_range_with_len_more, get_or-range_with_len, length-range_with_len}
use Rattle.te_model.specs.declared.network.Network.{Network}
use Rattle.te_model.specs.declared.route.PairRoutes.{PairRoutes}
use Rattle.te_model.specs.declared.certificate.Row.{Row}
use Rattle.te_model.specs.Certificate.{row_of, empty_row}
use Rattle.te_model.specs.Laws.{PairsJoinNodes}
use Rattle.te_model.specs.Network.{is_well_formed, node_count, link_count, tail_of, head_of}
use Rattle.te_model.specs.Path.{source_of, destination_of, routes_at, no_routes}
use Rattle.te_model.specs.PathRouting.{IsPathSplit, IsPathRouting}
use Rattle.shortest_path.specs.Paths.{ArePotentials}
use Rattle.te_model.proofs.WellFormed.{links_join}
use Rattle.shortest_path.specs.Pairs.{ArePairDistances}
use Rattle.shortest_path.proofs.PairDistances.{distance_known, path_of_pair}
use Rattle.shortest_path.proofs.PathLengths.{potentials_small}
use Rattle.dual_bounds.specs.Rows.{sends_from, sources_of, potential_in, distance_by, AreSourceRows}
use Rattle.te_model.proofs.WellFormed.{few_nodes}

any_source : (i : ℕ) (rows : List Row) → list_any (λ r. r.source == i) rows ≡ list_any (λ s. s == i) (map (λ r. r.source) rows)
any_source i [] = refl
any_source i (r ∷ rows) = ap (λ b. (r.source == i) || b) (any_source i rows)

-- a filter keeps a number that passes
any_kept : (test : ℕ → Bool) (i : ℕ) (xs : List ℕ) → test i ≡ true → list_any (λ x. x == i) xs ≡ true → list_any (λ x. x == i) (filter test xs) ≡ true
any_kept test i [] passes any = any
any_kept test i (x ∷ xs) passes any = go (x == i) refl any (any_kept test i xs passes)
  where
    kept : (b : Bool) → list_any (λ x. x == i) (filter test xs) ≡ true → list_any (λ x. x == i) (cond b (x ∷ filter test xs) (filter test xs)) ≡ true
    kept true rest = or_right (x == i) (list_any (λ x. x == i) (filter test xs)) rest
    kept false rest = rest

    here : (b : Bool) → b ≡ true → (x == i) ≡ true → list_any (λ x. x == i) (cond b (x ∷ filter test xs) (filter test xs)) ≡ true
    here true is same = or_left (x == i) (list_any (λ x. x == i) (filter test xs)) same
    here false is same = cc

    go : (b : Bool) → (x == i) ≡ b → (b || list_any (λ x. x == i) xs) ≡ true →
        (list_any (λ x. x == i) xs ≡ true → list_any (λ x. x == i) (filter test xs) ≡ true) →
        list_any (λ x. x == i) (cond (test x) (x ∷ filter test xs) (filter test xs)) ≡ true
    go true same any rest = here (test x) (ap test (eqb-true x i same) ∙ passes) same
    go false same any rest = kept (test x) (rest any)

any_below : (n i : ℕ) → i < n → list_any (λ x. x == i) (range_with_len 0 n) ≡ true
any_below n i below =
    list_any_at (λ x. x == i) (range_with_len 0 n) i 0 (omega (arith, below, length-range_with_len 0 n))
    (eq-eqb (get_or (range_with_len 0 n) i 0) i (get_or-range_with_len 0 n i 0 below ∙ omega arith))

-- the source of a pair is among the sources
source_there : (net : Network) (routes : List PairRoutes) (p : ℕ) → PairsJoinNodes net routes → p < length routes →
    list_any (λ x. x == source_of routes p) (sources_of net routes) ≡ true
source_there net routes p nodes below =
    any_kept (sends_from routes) (source_of routes p) (range_with_len 0 (node_count net))
    (list_any_at (λ r. r.pair.src == source_of routes p) routes p no_routes below (eq-eqb (source_of routes p) (source_of routes p) refl))
    (any_below (node_count net) (source_of routes p) (nodes p below).0)

pub sources_inside : (net : Network) (routes : List PairRoutes) → All (λ i. i < node_count net) (sources_of net routes)
sources_inside net routes =
    let n = node_count net in
    All-filter (sends_from routes) (λ i. i < n) (range_with_len 0 n) (All-from_get_or (λ i. i < n) (range_with_len 0 n) 0 (λ i below.
    let inside : i < n = omega (arith, below, length-range_with_len 0 n) in
    omega (arith, get_or-range_with_len 0 n i 0 inside, inside)))

-- one node more
sources_more : (test : ℕ → Bool) (n : ℕ) → filter test (range_with_len 0 (n + 1)) ≡ filter test (range_with_len 0 n) ++ cond (test n) (n ∷ []) []
sources_more test n =
    sym (ap (filter test) (map-id (range_with_len 0 (n + 1))))
    ∙ (filter_of_map_range_with_len_more test (λ (x : ℕ). x) 0 n n (omega arith)
    ∙ ap (λ (xs : List ℕ). filter test xs ++ cond (test n) (n ∷ []) []) (map-id (range_with_len 0 n)))

pub source_added : (test : ℕ → Bool) (n : ℕ) (sources : List ℕ) → sources ≡ filter test (range_with_len 0 n) → test n ≡ true →
    sources ++ n ∷ [] ≡ filter test (range_with_len 0 (n + 1))
source_added test n sources so_far passes =
    ap (λ (xs : List ℕ). xs ++ n ∷ []) so_far
    ∙ (ap (λ b. filter test (range_with_len 0 n) ++ cond b (n ∷ []) []) (sym passes) ∙ sym (sources_more test n))

pub source_left_out : (test : ℕ → Bool) (n : ℕ) (sources : List ℕ) → sources ≡ filter test (range_with_len 0 n) → test n ≡ false →
    sources ≡ filter test (range_with_len 0 (n + 1))
source_left_out test n sources so_far fails =
    so_far
    ∙ (sym (append-nil (filter test (range_with_len 0 n)))
    ∙ (ap (λ b. filter test (range_with_len 0 n) ++ cond b (n ∷ []) []) (sym fails) ∙ sym (sources_more test n)))

pub no_source_rows : (net : Network) (lengths : List ℕ) → AreSourceRows net lengths [] []
no_source_rows net lengths = record { sources_are = refl; potentials_are = All-nil (λ r. ArePotentials net lengths r.source r.potential) }

pub source_row_added : (net : Network) (lengths sources : List ℕ) (rows : List Row) (r : Row) → AreSourceRows net lengths sources rows →
    ArePotentials net lengths r.source r.potential → AreSourceRows net lengths (sources ++ r.source ∷ []) (rows ++ r ∷ [])
source_row_added net lengths sources rows r are potentials = record {
  sources_are = map_push (λ (r : Row). r.source) rows r ∙ ap (λ (xs : List ℕ). xs ++ r.source ∷ []) are.sources_are;
  potentials_are = All-push (λ r. ArePotentials net lengths r.source r.potential) rows r are.potentials_are potentials;
}

-- the sources of rows are nodes of the network
pub rows_inside : (net : Network) (routes : List PairRoutes) (lengths : List ℕ) (rows : List Row) → AreSourceRows net lengths (sources_of net routes) rows →
    All (λ (r : Row). r.source < node_count net) rows
rows_inside net routes lengths rows are =
    let all = All-same (λ i. i < node_count net) (map (λ (r : Row). r.source) rows) (sources_of net routes) are.sources_are (sources_inside net routes) in
    λ k d below.
    subst (λ (i : ℕ). i < node_count net) (get_or-map (λ (r : Row). r.source) rows k d 0 below)
    (all k 0 (omega (arith, below, length-map rows (λ (r : Row). r.source))))

-- a source has its row with its potentials, or there is none, and it is read as zeros
row_found : (net : Network) (lengths : List ℕ) (i : ℕ) (rows : List Row) → All (λ r. ArePotentials net lengths r.source r.potential) rows →
    ArePotentials net lengths i (row_of rows i).potential
    ⊎ ((list_any (λ r. r.source == i) rows ≡ false) × ((row_of rows i).potential ≡ []))
row_found net lengths i [] all = inr (refl, refl)
row_found net lengths i (r ∷ rows) all =
    go (r.source == i) refl (row_found net lengths i rows (All-tail (λ r. ArePotentials net lengths r.source r.potential) r rows all))
  where
    go : (b : Bool) → (r.source == i) ≡ b →
        ArePotentials net lengths i (row_of rows i).potential ⊎ ((list_any (λ r. r.source == i) rows ≡ false) × ((row_of rows i).potential ≡ [])) →
        ArePotentials net lengths i (unwrap_or (cond b (Some r) (find (λ r. r.source == i) rows)) (empty_row i)).potential
        ⊎ (((b || list_any (λ r. r.source == i) rows) ≡ false) × ((unwrap_or (cond b (Some r) (find (λ r. r.source == i) rows)) (empty_row i)).potential ≡ []))
    go true is rest = inl (subst (λ j. ArePotentials net lengths j r.potential) (eqb-true r.source i is)
        (All-head (λ r. ArePotentials net lengths r.source r.potential) r rows all))
    go false is rest = rest

-- the row of a pair's source is there
row_there : (net : Network) (routes : List PairRoutes) (lengths : List ℕ) (rows : List Row) (p : ℕ) → PairsJoinNodes net routes →
    AreSourceRows net lengths (sources_of net routes) rows → p < length routes →
    ArePotentials net lengths (source_of routes p) (row_of rows (source_of routes p)).potential
row_there net routes lengths rows p nodes are below =
    let s = source_of routes p in
    let there : list_any (λ (r : Row). r.source == s) rows ≡ true =
    any_source s rows ∙ ap (list_any (λ x. x == s)) are.sources_are ∙ source_there net routes p nodes below
    in
    elim (row_found net lengths s rows are.potentials_are) [ inl found ↦ found | inr none ↦ let no = none.0 in cc ]

-- what the rows say of the pairs is their distances
pub distances_are : (net : Network) (routes : List PairRoutes) (lengths : List ℕ) (rows : List Row) → IsPathRouting net routes → PairsJoinNodes net routes →
    AreSourceRows net lengths (sources_of net routes) rows → ArePairDistances net lengths routes (distance_by rows routes)
distances_are net routes lengths rows routing nodes are p below =
    let s = source_of routes p in
    let t = destination_of routes p in
    let (links, chain) = path_of_pair net (routes_at routes p) (All-get_or (IsPathSplit net) routes p no_routes below routing) in
    distance_known net lengths s t (row_of rows s).potential links (row_there net routes lengths rows p nodes are below) (nodes p below).1 chain

pub starts : (net : Network) (lengths : List ℕ) (rows : List Row) (i : ℕ) → All (λ r. ArePotentials net lengths r.source r.potential) rows → potential_in rows i i ≡ 0
starts net lengths rows i all = elim (row_found net lengths i rows all) [
  | inl found ↦ found.start
  | inr none ↦ ap (λ (xs : List ℕ). slice_index xs i) none.1
]

pub rises : (net : Network) (lengths : List ℕ) (rows : List Row) (i h : ℕ) → All (λ r. ArePotentials net lengths r.source r.potential) rows → h < link_count net →
    potential_in rows i (head_of net h) ≤ potential_in rows i (tail_of net h) + slice_index lengths h
rises net lengths rows i h all below = elim (row_found net lengths i rows all) [
  | inl found ↦ found.rises h below
  | inr none ↦ let zero : potential_in rows i (head_of net h) ≡ 0 = ap (λ (xs : List ℕ). slice_index xs (head_of net h)) none.1 in omega (arith, zero)
]

-- potentials are at most 2^36
pub row_small : (net : Network) (lengths : List ℕ) (i : ℕ) (potentials : List ℕ) → is_well_formed net ≡ true → All (λ l. l ≤ 2 ^ 28) lengths → i < node_count net →
    ArePotentials net lengths i potentials → (v : ℕ) → slice_index potentials v ≤ 2 ^ 36
row_small net lengths i potentials formed small inside are v =
    let bound : slice_index potentials v ≤ node_count net * 268435456 =
    potentials_small net lengths 268435456 i potentials (links_join net formed) inside small are v
    in
    omega (arith, bound, few_nodes net formed)

pub distance_small : (net : Network) (routes : List PairRoutes) (lengths : List ℕ) (rows : List Row) (p : ℕ) → is_well_formed net ≡ true → PairsJoinNodes net routes →
    All (λ l. l ≤ 2 ^ 28) lengths → AreSourceRows net lengths (sources_of net routes) rows → p < length routes → distance_by rows routes p ≤ 2 ^ 36
distance_small net routes lengths rows p formed nodes small are below =
    row_small net lengths (source_of routes p) (row_of rows (source_of routes p)).potential formed small (nodes p below).0
    (row_there net routes lengths rows p nodes are below) (destination_of routes p)

pub rows_small : (net : Network) (routes : List PairRoutes) (lengths : List ℕ) (rows : List Row) → is_well_formed net ≡ true → All (λ l. l ≤ 2 ^ 28) lengths →
    AreSourceRows net lengths (sources_of net routes) rows → All (λ (r : Row). All (λ x. x ≤ 2 ^ 36) r.potential) rows
rows_small net routes lengths rows formed small are = λ k d below.
    let r = slice_index_or rows k d in
    All-from_get_or (λ x. x ≤ 2 ^ 36) r.potential 0 (λ v in'.
    row_small net lengths r.source r.potential formed small (rows_inside net routes lengths rows are k d below) (are.potentials_are k d below) v)
