-- The envelope of a series is within the limits.
use Rattle.std.proofs.Common.{ℕ, ◌+◌, ◌^◌, ◌≤◌, ◌<◌, ◌≡◌, ◌∙◌, sym, ap, List, [], ◌∷◌, length, get_or, take, max, min, arith, slice_index}
use Rattle.std.specs.Prelude.{All}
use Rattle.std.specs.List.{fold}
use Rattle.std.proofs.Math.Nat.{min-le_left}
use Rattle.std.proofs.lemmas.List.Sums.{fold_more}
use Rattle.std.proofs.lemmas.List.Elements.{All-get_or, All-head, All-tail}
use Rattle.std.proofs.lemmas.List.FromFn.{get_or-map-range_with_len, length-map-range_with_len}
use Rattle.te_model.specs.declared.demand.Matrix.{Matrix}
use Rattle.te_model.specs.Pairs.{AreDemands}
use Rattle.best_blocks.specs.Conditions.{IsSetWithin}
use Rattle.traffic_matrix.specs.declared.series.Series.{Series}
use Rattle.traffic_matrix.specs.Limits.{IsSeries}
use Rattle.experiment.specs.Envelope.{envelope_of, greatest_demand, least_demand}

-- one step more, of which the demand is joined to what is so far
pub demand_more : (join : ℕ → ℕ → ℕ) (first : ℕ) (steps : List Matrix) (p i so_far demand result : ℕ) (step : Matrix) → i < length steps →
    step ≡ get_or steps i step → so_far ≡ fold (λ d step. join d (slice_index step.demand p)) first (take i steps) →
    demand ≡ slice_index step.demand p → result ≡ join so_far demand →
    result ≡ fold (λ d step. join d (slice_index step.demand p)) first (take (i + 1) steps)
demand_more join first steps p i so_far demand result step inside at is read joined =
    joined ∙ ap (λ d. join d demand) is
    ∙ ap (join (fold (λ d (step : Matrix). join d (slice_index step.demand p)) first (take i steps))) (read ∙ ap (λ (step : Matrix). slice_index step.demand p) at)
    ∙ sym (fold_more (λ d (step : Matrix). join d (slice_index step.demand p)) first steps i step inside)

-- what is the least of more numbers is no more
least_below : (steps : List Matrix) (p x : ℕ) → fold (λ least step. min least (slice_index step.demand p)) x steps ≤ x
least_below [] p x = omega arith
least_below (m ∷ ms) p x =
    let rest = least_below ms p (min x (slice_index m.demand p)) in
    let first = min-le_left x (slice_index m.demand p) in
    omega (arith, rest, first)

-- the greatest of numbers within a limit is within it
greatest_within : (pairs : ℕ) (steps : List Matrix) (p x : ℕ) → p < pairs → All (λ m. AreDemands pairs m.demand) steps → x ≤ 2 ^ 32 →
    fold (λ greatest step. max greatest (slice_index step.demand p)) x steps ≤ 2 ^ 32
greatest_within pairs [] p x below all small = small
greatest_within pairs (m ∷ ms) p x below all small =
    let matrix = All-head (λ (s : Matrix). AreDemands pairs s.demand) m ms all in
    let demand : slice_index m.demand p ≤ 2 ^ 32 = All-get_or (λ d. d ≤ 2 ^ 32) m.demand p 0 (omega (arith, below, matrix.count)) matrix.small in
    greatest_within pairs ms p (max x (slice_index m.demand p)) below (All-tail (λ (s : Matrix). AreDemands pairs s.demand) m ms all) (omega (arith, small, demand))

pub envelope_within : (n : ℕ) (series : Series) → IsSeries n series → IsSetWithin (length series.pairs.list) (envelope_of series)
envelope_within n series is = record {
  lower_count = length-map-range_with_len (least_demand series.steps) 0 (length series.pairs.list);
  upper_count = length-map-range_with_len (greatest_demand series.steps) 0 (length series.pairs.list);
  each = λ p below.
      let pairs = length series.pairs.list in
      let low = get_or-map-range_with_len (least_demand series.steps) 0 pairs p p 0 below (omega arith) in
      let high = get_or-map-range_with_len (greatest_demand series.steps) 0 pairs p p 0 below (omega arith) in
      let order = least_below series.steps p (greatest_demand series.steps p) in
      let most = greatest_within pairs series.steps p 0 below is.matrices (omega arith) in
      (omega (arith, low, high, order), omega (arith, high, most));
}
