-- The words of a step, and a drawn series within the limits.
use Rattle.std.proofs.Common.{ℕ, ◌*◌, ◌^◌, ◌≤◌, ◌<◌, ◌≡◌, ◌∙◌, refl, List, length, get_or, map, All, Bool, not, ◌==◌, arith, inl, inr}
use Rattle.std.specs.List.{range_with_len}
use Rattle.std.proofs.lemmas.Bool.{cases_lt, eqb-false, not-true}
use Rattle.std.proofs.lemmas.List.{get_or-map, length-map}
use Rattle.std.proofs.lemmas.List.FromFn.{get_or-map-range_with_len, length-map-range_with_len}
use Rattle.std.proofs.lemmas.List.Kept.{AllPairs-filter}
use Rattle.std.proofs.Math.Nat.{mul-le-mul_left}
use Rattle.te_model.specs.declared.route.Pair.{Pair}
use Rattle.te_model.specs.Pairs.{no_pair, IsPairAmong, IsNodePair, AreDemands}
use Rattle.te_model.proofs.AscendingPairs.{Below, neighbours_ascend}
use Rattle.te_model.proofs.Tests.{get_or_past}
use Rattle.traffic_matrix.specs.declared.series.Series.{Series}
use Rattle.random_words.specs.Words.{generator}
use Rattle.traffic_matrix.specs.Pairs.{pair_of_place, all_pairs}
use Rattle.traffic_matrix.specs.Gravity.{every_pair, size_at, sizes_in, gravity_matrix, gravity_of}
use Rattle.traffic_matrix.specs.Limits.{IsSeries}
use Rattle.traffic_matrix.proofs.DemandLemmas.{pair-within}
use Rattle.traffic_matrix.proofs.LimitLemmas.{All-where, all-ascend}

pub all-within : (n : ℕ) → All (IsNodePair n) (all_pairs n)
all-within n k d low =
    let inside : k < n * n = omega (arith, length-map-range_with_len (pair_of_place n) 0 (n * n)) in
    rw (get_or-map-range_with_len (pair_of_place n) 0 (n * n) k k d inside (omega arith)) (pair-within n k inside)

small-size : (n seed step k : ℕ) → get_or (sizes_in n seed step) k 0 ≤ 100
small-size n seed step k =
    let size = size_at (generator seed 1 (step * n)) in
    let count = length-map-range_with_len size 0 n in
    elim (cases_lt k n) [
      | inl inside ↦ rw (get_or-map-range_with_len size 0 n k k 0 inside (omega arith)) (omega arith)
      | inr past ↦ rw (get_or_past (sizes_in n seed step) k 0 (omega arith)) (omega arith)
    ]

product-small : (a b : ℕ) → a ≤ 100 → b ≤ 100 → a * b ≤ 2 ^ 32
product-small a b low small = let h : a * b ≤ a * 100 = mul-le-mul_left a small in omega arith

matrix-limits : (n seed k : ℕ) → AreDemands (length (every_pair n)) (gravity_matrix n seed k).demand
matrix-limits n seed k = record {
  count = simp length-map;
  small = λ j d low.
      let sizes = sizes_in n seed k in
      let inside : j < length (every_pair n) = simp length-map at low in
      rw (get_or-map (λ p. get_or sizes p.src 0 * get_or sizes p.dst 0) (every_pair n) j no_pair d inside)
      (product-small _ _ (small-size n seed k (get_or (every_pair n) j no_pair).src) (small-size n seed k (get_or (every_pair n) j no_pair).dst));
}

-- a drawn series
pub gravity-in-range : (n seed steps : ℕ) → steps ≤ 1024 → IsSeries n (gravity_of n seed steps)
gravity-in-range n seed steps few =
    let test : Pair → Bool = λ p. not (p.src == p.dst) in
    record {
      pairs = All-where test (IsNodePair n) (IsPairAmong n) (all_pairs n) (all-within n) (λ p w h. record { src_inside = w.src; dst_inside = w.dst; apart = eqb-false p.src p.dst (not-true (p.src == p.dst) h) });
      ascending = neighbours_ascend (every_pair n) (AllPairs-filter Below test (all_pairs n) (all-ascend n));
      few = omega (arith, length-map-range_with_len (gravity_matrix n seed) 0 steps);
      matrices = λ k d low.
          let inside : k < steps = omega (arith, length-map-range_with_len (gravity_matrix n seed) 0 steps) in
          rw (get_or-map-range_with_len (gravity_matrix n seed) 0 steps k k d inside (omega arith)) (matrix-limits n seed k);
    }

-- the pairs and the matrices that were made
pub series-is : (n m seed k steps : ℕ) (series : Series) → series ≡ record { pairs = record { list = every_pair n }; steps = map (gravity_matrix n seed) (range_with_len 0 k) } → n ≡ m → k ≡ steps → series ≡ gravity_of m seed steps
series-is n m seed k steps series made e f = made ∙ rw (e, f) refl

pub within-count : (pairs pairs' : List Pair) (n m : ℕ) → pairs ≡ pairs' → n ≡ m → All (IsNodePair m) pairs' → All (IsNodePair n) pairs
within-count pairs pairs' n m e f all = rw (e, f) all
