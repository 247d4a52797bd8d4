-- The demands of the rows that were read.
use Rattle.std.specs.Prelude.{ℕ, ◌≡◌, Bool, false, List, slice_index_or, vec_len}
use Rattle.te_model.specs.declared.route.Pair.{Pair}
use Rattle.te_model.specs.Pairs.{IsNodePair}
use Rattle.traffic_matrix.specs.declared.entry.Entry.{Entry}
use Rattle.traffic_matrix.specs.declared.demands.Demands.{Demands}
use Rattle.traffic_matrix.specs.Series.{demand_in, is_declared, step_count}
use Rattle.traffic_matrix.specs.Rows.{latest_step}
use Rattle.traffic_matrix.specs.Pairs.{place_of_pair}
use Rattle.traffic_matrix.specs.Table.{demand_at, declared_at}
use Rattle.traffic_matrix.specs.Traffic.{has_pair}

-- the table holds what the rows say of a step
pub record ShowsStep (entries : List Entry) (d : Demands) (step : ℕ) : Type 0 where
  pub demands : (pair : Pair) → IsNodePair d.table.nodes pair → demand_at d.table step pair ≡ demand_in entries step pair

-- the table holds what the rows say
pub record Shows (entries : List Entry) (d : Demands) : Type 0 where
  pub latest : d.latest ≡ latest_step entries
  pub steps : vec_len d.table.steps ≡ step_count entries
  pub demands : (step : ℕ) (pair : Pair) → IsNodePair d.table.nodes pair → demand_at d.table step pair ≡ demand_in entries step pair
  pub declared : (pair : Pair) → IsNodePair d.table.nodes pair → declared_at d.table pair ≡ is_declared entries pair

-- of the places of pairs of n nodes those are marked whose pairs stand in the list
abbrev pub AreMarksOf : ℕ → List Bool → List Pair → Type 0
AreMarksOf n marks pairs = (pair : Pair) → IsNodePair n pair → slice_index_or marks (place_of_pair n pair) false ≡ has_pair pairs pair
