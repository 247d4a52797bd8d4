-- Steps of a series that are given the same, and the rows of its steps by the marks of failed links.
use Rattle.std.specs.Prelude.{ℕ, ◌≡◌, ◌<◌, Bool, List, [], length, Option, slice_index_or}
use Rattle.te_model.specs.declared.network.Network.{Network}
use Rattle.te_model.specs.declared.route.Pair.{Pair}
use Rattle.te_model.specs.declared.route.PairRoutes.{PairRoutes}
use Rattle.traffic_matrix.specs.declared.traffic.Traffic.{Traffic}
use Rattle.traffic_matrix.specs.Traffic.{predicted_in, sent_in}
use Rattle.plan.specs.declared.recovery.Recovery.{Recovery}
use Rattle.series_simulation.specs.declared.step_row.StepRow.{StepRow}
use Rattle.series_simulation.specs.Rows.{IsStepRow}
use Rattle.series_simulation.specs.Simulation.{IsConservedStep}

-- two steps have the same failed links, by the marks of each step, the same demands and the same predictions
abbrev pub AreAlike : List (List Bool) → Traffic → ℕ → ℕ → Type 0
AreAlike marks traffic one other =
    (slice_index_or marks one [] ≡ slice_index_or marks other []) × (sent_in traffic one ≡ sent_in traffic other)
    × (predicted_in traffic one ≡ predicted_in traffic other)

module _ {Plan Note : Type 0} (limit : ℕ) (is_plan : Network → List Pair → Plan → Type 0)
    (relates : Network → List Pair → Plan → List ℕ → List PairRoutes → Note → Type 0) (low : Note → Option ℕ)
    (path_set : Plan → Option (List PairRoutes)) (adapts : Network → List PairRoutes → List ℕ → List PairRoutes → Option ℕ → Type 0) where
  -- the row of one of the steps of the traffic, that of its number, by the marks of each step and the plan
  pub record IsRowIn (net : Network) (marks : List (List Bool)) (traffic : Traffic) (recovery : Recovery) (plan : Plan) (row : StepRow) : Type 0 where
    pub below : row.step < length traffic.sent.steps
    pub is_row : IsStepRow limit is_plan relates low path_set adapts net (slice_index_or marks row.step []) traffic.sent.pairs.list
        (predicted_in traffic row.step) (sent_in traffic row.step) recovery plan row
    pub conserved : IsConservedStep (sent_in traffic row.step) row.result
