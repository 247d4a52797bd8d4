-- Best blocks are valid.
use Rattle.std.proofs.Common.{◌≡◌, ℕ, ◌+◌, ◌*◌, ◌^◌, ◌<◌, ◌≤◌, true, ◌&&◌, List, [], ◌∷◌, length, arith, refl, ap, sym, subst, ◌∙◌, get_or, slice_index, nat_le, nat_lt}
use Rattle.std.specs.Prelude.{All}
use Rattle.std.specs.List.{list_all}
use Rattle.std.proofs.lemmas.Bool.{and_parts, and_from, ltb-true, lt-ltb, le-leb, eq-eqb}
use Rattle.std.proofs.lemmas.List.Elements.{All-get_or, All-head, All-tail}
use Rattle.te_model.specs.declared.certificate.Row.{Row}
use Rattle.te_model.specs.declared.certificate.Block.{Block}
use Rattle.te_model.specs.declared.certificate.Head.{Head}
use Rattle.te_model.specs.declared.demand.DemandSet.{DemandSet}
use Rattle.te_model.specs.declared.demand.DemandSet.TheVariants.{All as AllMatrices, Margin, Box}
use Rattle.te_model.specs.declared.units.TheConstants.{SHARE_UNIT}
use Rattle.te_model.specs.Formats.{limits_of}
use Rattle.te_model.specs.Network.{node_count, link_count, is_well_formed}
use Rattle.te_model.specs.Certificate.{empty_row}
use Rattle.te_model.specs.Path.{source_of, destination_of}
use Rattle.te_model.specs.Shape.{is_word, are_words, is_row_of, is_shaped_row, has_one_each}
use Rattle.te_model.specs.Validity.{is_small, rows_ascend, IsValidBlock}
use Rattle.routing.proofs.Splits.{share-le, splits_of}
use Rattle.best_blocks.specs.Best.{needs_row, AreBalanced, IsBalance, IsBestScale, IsBestBlock, IsScaleBetween}
use Rattle.best_blocks.specs.Conditions.{IsRoutingWithin}
use Rattle.best_blocks.proofs.Balances.{asked-small}
use Rattle.shortest_path.proofs.PairDistances.{potentials_count}
use Rattle.te_model.proofs.WellFormed.{links_join}
use Rattle.best_blocks.proofs.Pushed.{all_tests}
use Rattle.te_model.proofs.WellFormed.{few_links, few_nodes}
use Rattle.shortest_path.proofs.PathLengths.{distance_small, potentials_small}

-- rows with ascending sources among n nodes are at most n
rows_few : (n : ℕ) (rows : List Row) → rows_ascend rows ≡ true → All (λ r. r.source < n) rows → length rows ≤ n
rows_few n [] ascend below = omega arith
rows_few n (r ∷ rs) ascend below = let bound = go r rs ascend below in omega (arith, bound)
  where
    go : (r : Row) (rs : List Row) → rows_ascend (r ∷ rs) ≡ true → All (λ r. r.source < n) (r ∷ rs) → r.source + length (r ∷ rs) ≤ n
    go r [] ascend below = omega (arith, All-head (λ r. r.source < n) r [] below)
    go r (s ∷ rs) ascend below =
        let both = and_parts (nat_lt r.source s.source) (rows_ascend (s ∷ rs)) ascend in
        omega (arith, ltb-true r.source s.source both.0, go s rs both.1 (All-tail (λ r. r.source < n) r (s ∷ rs) below))

-- numbers of a bound below 2^64 are words
words_of : (bound : ℕ) (xs : List ℕ) → bound < 2 ^ 64 → ((p : ℕ) → p < length xs → slice_index xs p ≤ bound) → are_words xs ≡ true
words_of bound xs small each = all_tests is_word xs 0 (λ k below. lt-ltb _ _ (omega (arith, each k below, small)))

below_of : (bound : ℕ) (xs : List ℕ) → ((p : ℕ) → p < length xs → slice_index xs p ≤ bound) → list_all (λ x. nat_le x bound) xs ≡ true
below_of bound xs each = all_tests (λ x. nat_le x bound) xs 0 (λ k below. le-leb _ _ (each k below))

scaled_bound : (n : ℕ) → n ≤ 128 → n * 2 ^ 28 ≤ 2 ^ 35
scaled_bound n few = omega (arith, few)

-- the numbers of a best scale are small
pub record IsSmallScale (pairs : ℕ) (wanted : DemandSet) (a b : ℕ) (plus minus : List ℕ) : Type 0 where
  pub a_small : a ≤ 2 ^ 36
  pub b_some : 1 ≤ b
  pub b_small : b ≤ 2 ^ 36
  pub plus_small : (p : ℕ) → p < length plus → slice_index plus p ≤ 2 ^ 36
  pub minus_small : (p : ℕ) → p < length minus → slice_index minus p ≤ 2 ^ 36
  pub plus_each : has_one_each wanted pairs plus ≡ true
  pub minus_each : has_one_each wanted pairs minus ≡ true

-- the same between bounds, where plus and minus have a number for each pair
small_between : (wanted : DemandSet) (lower upper : ℕ → ℕ) (n : ℕ) (shares distance : ℕ → ℕ) (a b : ℕ) (plus minus : List ℕ) →
    ((numbers : List ℕ) → has_one_each wanted n numbers ≡ is_row_of n numbers) → IsScaleBetween lower upper n shares distance a b → AreBalanced n shares distance b plus minus →
    ((p : ℕ) → p < n → shares p ≤ SHARE_UNIT) → ((p : ℕ) → p < n → distance p ≤ 2 ^ 35) → IsSmallScale n wanted a b plus minus
small_between wanted lower upper n shares distance a b plus minus row best balance light near =
    let small = best.balance.small in
    let more : (p : ℕ) → p < length plus → slice_index plus p ≤ 2 ^ 36 = λ p below.
    let inside : p < n = omega (arith, below, balance.added_is.count) in
    omega (arith, balance.added_is.each p inside, asked-small b (shares p) (light p inside), small)
    in
    let less : (p : ℕ) → p < length minus → slice_index minus p ≤ 2 ^ 36 = λ p below.
    let inside : p < n = omega (arith, below, balance.taken_is.count) in
    omega (arith, balance.taken_is.each p inside, near p inside)
    in
    record {
      a_small = omega (arith, best.unit);
      b_some = best.balance.some;
      b_small = small;
      plus_small = more;
      minus_small = less;
      plus_each = row plus ∙ and_from _ _ (eq-eqb (length plus) n balance.added_is.count) (words_of (2 ^ 36) plus (omega arith) more);
      minus_each = row minus ∙ and_from _ _ (eq-eqb (length minus) n balance.taken_is.count) (words_of (2 ^ 36) minus (omega arith) less);
    }

scale_small : (n : ℕ) (wanted : DemandSet) (shares distance : ℕ → ℕ) (a b : ℕ) (plus minus : List ℕ) → IsBestScale wanted n shares distance a b → IsBalance wanted n shares distance b plus minus →
    ((p : ℕ) → p < n → shares p ≤ SHARE_UNIT) → ((p : ℕ) → p < n → needs_row wanted (shares p) ≡ true → distance p ≤ 2 ^ 35) →
    IsSmallScale n wanted a b plus minus
scale_small n AllMatrices shares distance a b plus minus best balance light near =
    let q = best.quotient in
    let a_light = light q.pair q.within in
    let b_near = near q.pair q.within (lt-ltb 0 (shares q.pair) q.positive) in
    let b_some = best.apart q.pair q.within q.positive in
    let no_plus : length plus ≡ 0 = ap (λ (xs : List ℕ). length xs) balance.0 in
    let no_minus : length minus ≡ 0 = ap (λ (xs : List ℕ). length xs) balance.1 in
    record {
      a_small = omega (arith, a_light, q.share_is);
      b_some = omega (arith, b_some, q.distance_is);
      b_small = omega (arith, b_near, q.distance_is);
      plus_small = λ p below. absurd (omega (arith, below, no_plus));
      minus_small = λ p below. absurd (omega (arith, below, no_minus));
      plus_each = eq-eqb (length plus) 0 no_plus;
      minus_each = eq-eqb (length minus) 0 no_minus;
    }
scale_small n (Margin num den base) shares distance a b plus minus best balance light near =
    small_between (Margin num den base) _ _ n shares distance a b plus minus (λ numbers. refl) best balance light (λ p below. near p below refl)
scale_small n (Box lower upper) shares distance a b plus minus best balance light near =
    small_between (Box lower upper) _ _ n shares distance a b plus minus (λ numbers. refl) best balance light (λ p below. near p below refl)

pub best_valid : (h : Head) (e : ℕ) (weights : List ℕ) (block : Block) → is_well_formed h.network ≡ true → IsRoutingWithin h.network h.routes →
    node_count h.network ≤ (limits_of h.format).nodes → e < link_count h.network → length weights ≡ link_count h.network → All (λ w. w ≤ 2 ^ 28) weights →
    IsBestBlock h.network h.routes h.set e weights block → IsValidBlock h block
best_valid h e weights block formed within fits inside count small best =
    let net = h.network in
    let n = node_count net in
    let few = few_nodes net formed in
    let joins = links_join net formed in
    let light : (p : ℕ) → p < length h.routes → best.shares p ≤ SHARE_UNIT = λ p below.
    omega (arith, best.shares_are p below, share-le h.routes p e (splits_of net h.routes within.splits) below)
    in
    let bound = scaled_bound n few in
    let near : (p : ℕ) → p < length h.routes → needs_row h.set (best.shares p) ≡ true → best.distance p ≤ 2 ^ 35 = λ p below needs.
    omega (
      arith,
      bound,
      distance_small net weights (2 ^ 28) (source_of h.routes p) (destination_of h.routes p) (best.distance p) joins
          (within.nodes p below).0 small (best.distances_are p below needs),
    )
    in
    let scale = scale_small (length h.routes) h.set best.shares best.distance block.a block.b block.plus block.minus best.scale best.balance light near in
    let sources : All (λ r. r.source < n) block.rows = λ k d below.
    let (p, in', is, needs) = best.rows_are.needed k d below in subst (λ i. i < n) is (within.nodes p in').0
    in
    let rows_count = rows_few n block.rows best.rows_are.ascending sources in
    let weight : (p : ℕ) → p < length block.weights → slice_index block.weights p ≤ 2 ^ 28 = λ p below.
    subst (λ (ws : List ℕ). slice_index ws p ≤ 2 ^ 28) (sym best.weights_are)
    (All-get_or (λ w. w ≤ 2 ^ 28) weights p 0 (omega (arith, below, ap (λ (xs : List ℕ). length xs) best.weights_are)) small)
    in
    let row_small : (k : ℕ) → k < length block.rows → (v : ℕ) → v < length (get_or block.rows k (empty_row 0)).potential →
    slice_index (get_or block.rows k (empty_row 0)).potential v ≤ 2 ^ 35 = λ k below v in'.
    let r = get_or block.rows k (empty_row 0) in
    omega (arith, bound, potentials_small net weights (2 ^ 28) r.source r.potential joins (sources k (empty_row 0) below) small (best.rows_are.potentials k (empty_row 0) below) v)
    in
    let shaped_rows : list_all (is_shaped_row n) block.rows ≡ true =
    all_tests (is_shaped_row n) block.rows (empty_row 0) (λ k below.
    let r = get_or block.rows k (empty_row 0) in
    and_from _ _ (lt-ltb r.source (2 ^ 64) (omega (arith, sources k (empty_row 0) below, few)))
    (and_from _ _ (eq-eqb (length r.potential) n (potentials_count net weights r.source r.potential (best.rows_are.potentials k (empty_row 0) below)))
    (words_of (2 ^ 35) r.potential (omega arith) (row_small k below))))
    in
    let small_rows : list_all (λ r. nat_lt r.source n && list_all is_small r.potential) block.rows ≡ true =
    all_tests (λ r. nat_lt r.source n && list_all is_small r.potential) block.rows (empty_row 0) (λ k below.
    let r = get_or block.rows k (empty_row 0) in
    and_from _ _ (lt-ltb r.source n (sources k (empty_row 0) below))
    (below_of (2 ^ 36) r.potential (λ v in'. omega (arith, row_small k below v in'))))
    in
    let link : block.link < link_count net = omega (arith, best.link_is, inside) in
    let word_link : is_word block.link ≡ true = lt-ltb _ _ (omega (arith, link, few_links net formed)) in
    let word_a : is_word block.a ≡ true = lt-ltb _ _ (omega (arith, scale.a_small)) in
    let word_b : is_word block.b ≡ true = lt-ltb _ _ (omega (arith, scale.b_small)) in
    let row_of_weights : is_row_of (link_count net) block.weights ≡ true =
    and_from _ _ (eq-eqb (length block.weights) (link_count net) (ap (λ (xs : List ℕ). length xs) best.weights_are ∙ count)) (words_of (2 ^ 28) block.weights (omega arith) weight)
    in
    let most = (limits_of h.format).nodes in
    let count_rows : (nat_le 0 (length block.rows) && nat_le (length block.rows) most) ≡ true =
    and_from _ _ (le-leb 0 (length block.rows) (omega arith)) (le-leb (length block.rows) most (omega (arith, rows_count, fits)))
    in
    let ascending = best.rows_are.ascending in
    record {
      shaped = and_from _ _ (and_from _ _ (and_from _ _ (and_from _ _ (and_from _ _ (and_from _ _ (and_from _ _ word_link word_a) word_b) row_of_weights)
          count_rows) shaped_rows) scale.plus_each) scale.minus_each;
      numbers = and_from _ _ (and_from _ _ (and_from _ _ (lt-ltb block.link (link_count net) link) (le-leb block.a (2 ^ 36) scale.a_small))
          (le-leb 1 block.b scale.b_some)) (le-leb block.b (2 ^ 36) scale.b_small);
      small = and_from _ _ (and_from _ _ (and_from _ _ (and_from _ _ (below_of (2 ^ 28) block.weights weight) small_rows) ascending)
          (below_of (2 ^ 36) block.plus scale.plus_small)) (below_of (2 ^ 36) block.minus scale.minus_small);
    }
