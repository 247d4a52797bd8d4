-- That weights have a metric: the distances from the marked nodes, and what these say of each pair.
use Rattle.std.proofs.Common.{◌≡◌, ℕ, ◌+◌, ◌^◌, ◌<◌, ◌≤◌, Bool, true, false, List, [], ◌∷◌, ◌++◌, Option, length, arith, refl}
use Rattle.std.specs.Prelude.{All}
use Rattle.te_model.specs.declared.network.Network.{Network}
use Rattle.te_model.specs.declared.route.PairRoutes.{PairRoutes}
use Rattle.te_model.specs.Network.{is_well_formed, link_count, node_count}
use Rattle.te_model.proofs.Choices.{step_by_step}
use Rattle.te_model.proofs.WellFormed.{links_join}
use Rattle.shortest_path.proofs.Existence.{all_distances_exist}
use Rattle.best_blocks.specs.declared.metric.Metric.{Metric}
use Rattle.best_blocks.specs.Metric.{distance_in, IsMetric}
use Rattle.best_blocks.specs.Rows.{is_marked, AreRowsFrom}
use Rattle.best_blocks.proofs.Growing.{values_exist}
use Rattle.best_blocks.proofs.RowsFrom.{no_rows_from, row_pushed}

-- the distances from the marked nodes
pub rows_exist : (net : Network) (weights : List ℕ) (marks : List Bool) → is_well_formed net ≡ true →
    (rows : List (List (Option ℕ))) × AreRowsFrom (node_count net) net weights marks rows
rows_exist net weights marks formed =
    step_by_step (λ k (rows : List (List (Option ℕ))). AreRowsFrom k net weights marks rows) (node_count net) ([], no_rows_from net weights marks) step (node_count net)
    (omega arith)
  where
    step : (k : ℕ) (rows : List (List (Option ℕ))) → k < node_count net → AreRowsFrom k net weights marks rows →
        (next : List (List (Option ℕ))) × AreRowsFrom (k + 1) net weights marks next
    step k rows below are = go (is_marked marks k) refl
      where
        go : (b : Bool) → is_marked marks k ≡ b → (next : List (List (Option ℕ))) × AreRowsFrom (k + 1) net weights marks next
        go true marked =
            let (row, is) = all_distances_exist net weights k (links_join net formed) below in
            (rows ++ row ∷ [], row_pushed k net weights marks rows row are (λ same. is) (λ other. absurd cc))
        go false unmarked = (rows ++ [] ∷ [], row_pushed k net weights marks rows [] are (λ other. absurd cc) (λ same. refl))

pub metric_exists : (net : Network) (routes : List PairRoutes) (marks : List Bool) (weights : List ℕ) → is_well_formed net ≡ true →
    length weights ≡ link_count net → All (λ w. w ≤ 2 ^ 28) weights → (m : Metric) × IsMetric net routes marks m × (m.weights ≡ weights)
metric_exists net routes marks weights formed count small =
    let (rows, are) = rows_exist net weights marks formed in
    let (distances, values) = values_exist (length routes) (distance_in rows routes) in (
      record { weights = weights; rows = rows; distances = distances },
      record { count = count; small = small; rows_are = are; distances_are = values },
      refl,
    )
