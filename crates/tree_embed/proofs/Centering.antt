-- The table of centers has the center of each node at each level.
use Rattle.std.proofs.Common.{◌≡◌, ℕ, ◌+◌, ◌<◌, ◌≤◌, Bool, true, false, cond, List, [], Option, Some, None, length, map, find, unwrap_or, slice_index, slice_index_or, nat_lt, All, arith, refl, ap, sym, ◌∙◌, subst, zero-add}
use Rattle.std.specs.Prelude.{MatchBool}
use Rattle.std.specs.List.{Contains, range_with_len}
use Rattle.std.proofs.lemmas.List.Elements.{All-from_get_or, All-get_or}
use Rattle.std.proofs.lemmas.List.FromFn.{get_or-range_with_len, get_or-map-range_with_len, length-range_with_len, length-map-range_with_len}
use Rattle.std.proofs.lemmas.List.Sorted.{All-permutation, Contains-permutation, length_permutation}
use Rattle.te_model.specs.declared.network.Network.{Network}
use Rattle.te_model.specs.Network.{node_count}
use Rattle.te_model.proofs.WellFormed.{well_formed_parts}
use Rattle.tree_embed.specs.declared.centers.TheConstants.{TOP_LEVEL}
use Rattle.tree_embed.specs.Embedding.{Embedding, IsEmbedding, IsOrder}
use Rattle.tree_embed.specs.Centers.{AreCenters, IsCenter, IsFirst, IsInRadius, radius}
use Rattle.tree_embed.specs.Tables.{AreSums, AreTables, IsSquare, center_in, center_of, is_within}
use Rattle.tree_embed.proofs.Distances.{within_true, within_is, within_itself}
use Rattle.tree_embed.proofs.Firsts.{found_at, found_none}

-- the numbers of nodes in an order are those below their count
pub order_inside : (net : Network) (order : List ℕ) → IsOrder net order → All (λ u. u < node_count net) order
order_inside net order is =
    All-permutation (λ u. u < node_count net) (range_with_len 0 (node_count net)) order is
    (All-from_get_or (λ u. u < node_count net) (range_with_len 0 (node_count net)) 0 (λ k below.
    let few : k < node_count net = omega (arith, length-range_with_len 0 (node_count net)) in
    omega (arith, get_or-range_with_len 0 (node_count net) k 0 few)
    ))

pub order_length : (net : Network) (order : List ℕ) → IsOrder net order → length order ≡ node_count net
order_length net order is =
    length_permutation (range_with_len 0 (node_count net)) order is ∙ length-range_with_len 0 (node_count net)

order_has : (net : Network) (order : List ℕ) → IsOrder net order → (v : ℕ) → v < node_count net → Contains order v
order_has net order is v below =
    Contains-permutation (range_with_len 0 (node_count net)) order v is
    (v, omega (arith, length-range_with_len 0 (node_count net)), get_or-range_with_len 0 (node_count net) v v below ∙ zero-add v)

-- the first node of the order within the radius
first_is : (e : Embedding) (sums : List (List (Option ℕ))) → IsOrder e.network e.order → AreSums e.network e.lengths sums →
    (reach v : ℕ) → v < node_count e.network →
    IsFirst (λ u. IsInRadius e.network e.lengths reach u v) e.order (unwrap_or (find (λ u. is_within sums reach u v) e.order) v)
first_is e sums order are reach v below = go (find (λ u. is_within sums reach u v) e.order) refl
  where
    inside : (k : ℕ) → k < length e.order → slice_index e.order k < node_count e.network
    inside k few = All-get_or (λ u. u < node_count e.network) e.order k 0 few (order_inside e.network e.order order)

    go : (o : Option ℕ) → find (λ u. is_within sums reach u v) e.order ≡ o →
        IsFirst (λ u. IsInRadius e.network e.lengths reach u v) e.order (unwrap_or o v)
    go None is = absurd (found_none (λ u. is_within sums reach u v) e.order v is (order_has e.network e.order order v below)
        (within_itself e.network e.lengths sums are reach v below))
    go (Some c) is =
        let f = found_at (λ u. is_within sums reach u v) e.order c is in
        let c_below : c < node_count e.network = subst (λ u. u < node_count e.network) f.is (inside f.place f.inside) in
        let no : (j : ℕ) → j < f.place → IsInRadius e.network e.lengths reach (slice_index e.order j) v → ⊥ = λ j lt near.
        let yes = within_is e.network e.lengths sums are reach (slice_index e.order j) v (inside j (omega (arith, lt, f.inside))) below near in
        let not = f.before j lt in
        absurd (cc)
        in
        (within_true e.network e.lengths sums are reach c v c_below below f.passes, (f.place, f.inside, f.is, no))

center_is : (e : Embedding) (sums : List (List (Option ℕ))) → IsOrder e.network e.order → AreSums e.network e.lengths sums →
    (level v : ℕ) → v < node_count e.network → IsCenter e level v (center_of sums e.order e.scale level v)
center_is e sums order are level v below = go (nat_lt level TOP_LEVEL)
  where
    go : (b : Bool) →
        MatchBool b (IsFirst (λ u. IsInRadius e.network e.lengths (radius e.scale level) u v) e.order
        (cond b (unwrap_or (find (λ u. is_within sums (radius e.scale level) u v) e.order) v) (slice_index e.order 0)))
        (cond b (unwrap_or (find (λ u. is_within sums (radius e.scale level) u v) e.order) v) (slice_index e.order 0) ≡ slice_index e.order 0)
    go true = first_is e sums order are (radius e.scale level) v below
    go false = refl

center_inside : (e : Embedding) (sums : List (List (Option ℕ))) → IsOrder e.network e.order → 0 < node_count e.network →
    (level v : ℕ) → v < node_count e.network → center_of sums e.order e.scale level v < node_count e.network
center_inside e sums order some level v below = go (nat_lt level TOP_LEVEL)
  where
    inside : (k : ℕ) → k < length e.order → slice_index e.order k < node_count e.network
    inside k few = All-get_or (λ u. u < node_count e.network) e.order k 0 few (order_inside e.network e.order order)

    found : (o : Option ℕ) → find (λ u. is_within sums (radius e.scale level) u v) e.order ≡ o → unwrap_or o v < node_count e.network
    found None is = below
    found (Some c) is =
        let f = found_at (λ u. is_within sums (radius e.scale level) u v) e.order c is in
        subst (λ u. u < node_count e.network) f.is (inside f.place f.inside)

    go : (b : Bool) →
        cond b (unwrap_or (find (λ u. is_within sums (radius e.scale level) u v) e.order) v) (slice_index e.order 0) < node_count e.network
    go true = found (find (λ u. is_within sums (radius e.scale level) u v) e.order) refl
    go false = inside 0 (omega (arith, order_length e.network e.order order, some))

-- the table of centers, a row for each level
abbrev pub center_rows : List (List (Option ℕ)) → List ℕ → ℕ → ℕ → List (List ℕ)
center_rows sums order scale n = map (λ level. map (center_of sums order scale level) (range_with_len 0 n)) (range_with_len 0 (TOP_LEVEL + 1))

row_at : (sums : List (List (Option ℕ))) (order : List ℕ) (scale n level : ℕ) → level ≤ TOP_LEVEL →
    slice_index_or (center_rows sums order scale n) level [] ≡ map (center_of sums order scale level) (range_with_len 0 n)
row_at sums order scale n level few =
    get_or-map-range_with_len (λ level'. map (center_of sums order scale level') (range_with_len 0 n)) 0 (TOP_LEVEL + 1) level level [] (omega arith) (omega arith)

entry_at : (sums : List (List (Option ℕ))) (order : List ℕ) (scale n level v : ℕ) → level ≤ TOP_LEVEL → v < n →
    center_in (center_rows sums order scale n) level v ≡ center_of sums order scale level v
entry_at sums order scale n level v few below =
    ap (λ row. slice_index row v) (row_at sums order scale n level few)
    ∙ get_or-map-range_with_len (center_of sums order scale level) 0 n v v 0 below (omega arith)

pub square_of : (net : Network) (lengths : List ℕ) (sums : List (List (Option ℕ))) → AreSums net lengths sums → IsSquare (length sums) sums
square_of net lengths sums are = record {
  count = refl;
  each = λ t below. (are.each t (omega (arith, below, are.count))).count ∙ sym are.count;
}

tables_of : (e : Embedding) (sums : List (List (Option ℕ))) (rows : List (List ℕ)) → IsEmbedding e → AreSums e.network e.lengths sums →
    rows ≡ center_rows sums e.order e.scale (length sums) → AreTables e sums rows
tables_of e sums rows is are rows_are =
    subst (AreTables e sums) (sym (rows_are ∙ ap (center_rows sums e.order e.scale) are.count)) (record {
      embedding = is;
      sums_are = are;
      table = record {
        levels = omega (arith, length-map-range_with_len (λ level. map (center_of sums e.order e.scale level) (range_with_len 0 (node_count e.network))) 0 (TOP_LEVEL + 1));
        each = λ level few. ap length (row_at sums e.order e.scale (node_count e.network) level few)
            ∙ length-map-range_with_len (center_of sums e.order e.scale level) 0 (node_count e.network);
        inside = λ level v few below. subst (λ c. c < node_count e.network) (sym (entry_at sums e.order e.scale (node_count e.network) level v few below))
            (center_inside e sums is.ordered (omega (arith, (well_formed_parts e.network is.formed).two_nodes)) level v below);
      };
      centers_are = λ level v few below. subst (IsCenter e level v) (sym (entry_at sums e.order e.scale (node_count e.network) level v few below))
          (center_is e sums is.ordered are level v below);
    })

-- the tables of copies
pub tables_made : (net n : Network) (lengths l order o : List ℕ) (scale : ℕ) (sums s : List (List (Option ℕ))) (rows r : List (List ℕ)) →
    IsEmbedding (record { network = net; lengths = lengths; order = order; scale = scale }) → AreSums net lengths sums →
    rows ≡ center_rows sums order scale (length sums) → n ≡ net → l ≡ lengths → o ≡ order → s ≡ sums → r ≡ rows →
    AreTables (record { network = n; lengths = l; order = o; scale = scale }) s r
tables_made net n lengths l order o scale sums s rows r is are rows_are same_n same_l same_o same_s same_r =
    subst (λ x. AreTables (record { network = x; lengths = l; order = o; scale = scale }) s r) (sym same_n)
    (subst (λ x. AreTables (record { network = net; lengths = x; order = o; scale = scale }) s r) (sym same_l)
    (subst (λ x. AreTables (record { network = net; lengths = lengths; order = x; scale = scale }) s r) (sym same_o)
    (subst (λ x. AreTables (record { network = net; lengths = lengths; order = order; scale = scale }) x r) (sym same_s)
    (subst (λ x. AreTables (record { network = net; lengths = lengths; order = order; scale = scale }) sums x) (sym same_r)
    (tables_of (record { network = net; lengths = lengths; order = order; scale = scale }) sums rows is are rows_are)))))

-- at the top level all nodes have one center
pub top_agrees : (e : Embedding) (center : ℕ → ℕ → ℕ) → AreCenters e center → (v w : ℕ) → v < node_count e.network → w < node_count e.network →
    center TOP_LEVEL v ≡ center TOP_LEVEL w
top_agrees e center are v w below_v below_w = are TOP_LEVEL v (omega arith) below_v ∙ sym (are TOP_LEVEL w (omega arith) below_w)
