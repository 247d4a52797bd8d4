-- What became of the traffic of a step, for each pair and in total.
use Rattle.std.specs.Prelude.{ℕ, ◌≡◌, ◌+◌, ◌^◌, ◌<◌, Bool, List, length, map, slice_index, sum_by}
use Rattle.std.specs.List.{range_with_len}
use Rattle.te_model.specs.declared.network.Network.{Network}
use Rattle.te_model.specs.declared.route.PairRoutes.{PairRoutes}
use Rattle.te_model.specs.Network.{link_count}
use Rattle.flow_sim.specs.declared.result.PairResult.{PairResult}
use Rattle.flow_sim.specs.declared.result.StepResult.{StepResult}
use Rattle.flow_sim.specs.Step.{over_pair, delivery, lost_failed, lost_full, link_traffic}
use Rattle.flow_sim.specs.Traffic.{step_setting, lost_no_path}

-- all that was offered was delivered or lost
abbrev pub IsConserved : PairResult → Type 0
IsConserved p = p.offered ≡ p.delivered + p.lost_full + p.lost_failed + p.lost_no_path

-- each amount is below 2^64
pub record FitsWords (p : PairResult) : Type 0 where
  pub offered : p.offered < 2 ^ 64
  pub delivered : p.delivered < 2 ^ 64
  pub lost_full : p.lost_full < 2 ^ 64
  pub lost_failed : p.lost_failed < 2 ^ 64
  pub lost_no_path : p.lost_no_path < 2 ^ 64

-- the sums of two results, field by field
abbrev pub sum_of_results : PairResult → PairResult → PairResult
sum_of_results a b = record {
  offered = a.offered + b.offered;
  delivered = a.delivered + b.delivered;
  lost_full = a.lost_full + b.lost_full;
  lost_failed = a.lost_failed + b.lost_failed;
  lost_no_path = a.lost_no_path + b.lost_no_path;
}

-- the sums over the pairs, field by field
abbrev pub sums_of : List PairResult → PairResult
sums_of pairs = record {
  offered = sum_by (λ p. p.offered) pairs;
  delivered = sum_by (λ p. p.delivered) pairs;
  lost_full = sum_by (λ p. p.lost_full) pairs;
  lost_failed = sum_by (λ p. p.lost_failed) pairs;
  lost_no_path = sum_by (λ p. p.lost_no_path) pairs;
}

-- the five amounts are the sums over the pairs
pub record IsSummed (served : List ℕ) (pairs : List PairResult) (result : StepResult) : Type 0 where
  pub carried : result.carried ≡ served
  pub per_pair : result.per_pair ≡ pairs
  pub offered : result.offered ≡ sum_by (λ p. p.offered) pairs
  pub delivered : result.delivered ≡ sum_by (λ p. p.delivered) pairs
  pub lost_full : result.lost_full ≡ sum_by (λ p. p.lost_full) pairs
  pub lost_failed : result.lost_failed ≡ sum_by (λ p. p.lost_failed) pairs
  pub lost_no_path : result.lost_no_path ≡ sum_by (λ p. p.lost_no_path) pairs

-- the result of pair p, from what was delivered and lost of each pair's demand on links
abbrev pub pair_result_of : List PairRoutes → List ℕ → (ℕ → ℕ) → (ℕ → ℕ) → (ℕ → ℕ) → ℕ → PairResult
pair_result_of rates demand delivered lost_full lost_failed p = record {
  offered = slice_index demand p;
  delivered = delivered p;
  lost_full = lost_full p;
  lost_failed = lost_failed p;
  lost_no_path = lost_no_path rates demand p;
}

-- what became of the demand of pair p
abbrev pub pair_result : Network → List Bool → List PairRoutes → List ℕ → ℕ → PairResult
pair_result net failed rates demand =
    let s = step_setting net failed rates demand in
    pair_result_of rates demand (over_pair s (delivery s)) (over_pair s (lost_full s)) (over_pair s (lost_failed s))

abbrev pub pair_results : Network → List Bool → List PairRoutes → List ℕ → List PairResult
pair_results net failed rates demand = map (pair_result net failed rates demand) (range_with_len 0 (length rates))

-- what each link serves in the step
abbrev pub all_carried : Network → List Bool → List PairRoutes → List ℕ → List ℕ
all_carried net failed rates demand = map (link_traffic (step_setting net failed rates demand)) (range_with_len 0 (link_count net))
