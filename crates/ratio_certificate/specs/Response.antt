-- The numbers of a response to weights of a link, and the rows that it reads.
use Rattle.std.specs.Prelude.{◌≡◌, ℕ, ◌^◌, ◌<◌, ◌≤◌, length}
use Rattle.te_model.specs.declared.network.Network.{Network}
use Rattle.te_model.specs.Network.{node_count}
use Rattle.best_blocks.specs.declared.metric.Metric.{Metric}
use Rattle.best_blocks.specs.declared.scaling.Scale.{Scale}
use Rattle.best_blocks.specs.Rows.{distances_from}

-- the metric has a row from node v to every node
abbrev pub HasRow : Network → Metric → ℕ → Type 0
HasRow net m v = (v < length m.rows) × (length (distances_from m.rows v) ≡ node_count net)

-- the numbers of a scale are within those of blocks
abbrev pub IsSmallScale : Scale → Type 0
IsSmallScale scale = (scale.a ≤ 2 ^ 36) × (scale.b ≤ 2 ^ 36)
