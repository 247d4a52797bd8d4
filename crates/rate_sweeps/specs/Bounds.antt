-- The loads of a sweep, the bound from below that they give (after Garg and Könemann, 2007), and what the sweep counts.
use Rattle.std.specs.Prelude.{ℕ, ◌*◌, ◌/◌, ◌^◌, List, [], length, max, min, slice_index, slice_index_or}
use Rattle.te_model.specs.declared.network.Network.{Network}
use Rattle.te_model.specs.Counting.{sum_below}
use Rattle.multiplicative_lengths.specs.Growth.{for_each_link}
use Rattle.centred_steps.specs.declared.usage_spread.UsageSpread.{UsageSpread}
use Rattle.centred_steps.specs.Loads.{times_on}

-- the demand of pair p as often as its path takes link e
abbrev pub load_of_pair : List ℕ → List (List ℕ) → ℕ → ℕ → ℕ
load_of_pair demand paths e p = slice_index demand p * times_on (slice_index_or paths p []) e

-- the load of each link where the pairs take these paths, at most 2^66
abbrev pub sweep_loads : Network → List ℕ → List (List ℕ) → List ℕ
sweep_loads net demand paths = for_each_link net (λ e. min (2 ^ 66) (sum_below (length paths) (load_of_pair demand paths e)))

-- what a sweep counts: the more, the nearer the greatest usage is to the middle
abbrev pub weight_by : UsageSpread → ℕ
weight_by spread = min 30000 (max 1 (spread.mean * 100 / spread.deviation))
