-- The usage in the middle of those of all links (after Freund and Schapire, Adaptive game playing using multiplicative weights, 1999).
use Rattle.std.specs.Prelude.{ℕ, ◌-◌, ◌*◌, ◌/◌, List, max, min, slice_index}
use Rattle.te_model.specs.declared.network.Network.{Network}
use Rattle.te_model.specs.declared.units.TheConstants.{RATIO_UNIT}
use Rattle.te_model.specs.Counting.{greatest_below, sum_below}
use Rattle.te_model.specs.Inequalities.{capacity_by}
use Rattle.te_model.specs.Network.{link_count}
use Rattle.multiplicative_lengths.specs.Growth.{usage_of}
use Rattle.centred_steps.specs.declared.usage_spread.UsageSpread.{UsageSpread}

-- the sum of the loads of the first n links by their weights
abbrev pub weighted_load : ℕ → List ℕ → List ℕ → ℕ
weighted_load n weights loads = sum_below n (λ h. slice_index weights h * slice_index loads h)

-- the greatest usage of a link
abbrev pub most_used : Network → List ℕ → ℕ
most_used net loads = greatest_below (link_count net) (usage_of net loads)

-- the mean of the usages, each by the weight and the capacity of its link, in millionths, rounded down
abbrev pub mean_of : Network → List ℕ → List ℕ → ℕ
mean_of net weights loads = weighted_load (link_count net) weights loads * RATIO_UNIT / max 1 (capacity_by net weights)

-- that mean, and how far the greatest usage lies above it, at least 1
abbrev pub spread_by : Network → List ℕ → List ℕ → UsageSpread
spread_by net weights loads =
    let mean = min (mean_of net weights loads) (most_used net loads) in
    record { mean = mean; deviation = max 1 (most_used net loads - mean) }
