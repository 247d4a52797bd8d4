-- What a step is given, and the step that comes of it.
use Rattle.std.specs.Prelude.{ℕ, ◌≡◌, ◌<◌, List, Option, filter, length}
use Rattle.te_model.specs.declared.network.Network.{Network}
use Rattle.te_model.specs.declared.route.Pair.{Pair}
use Rattle.te_model.specs.declared.route.PairRoutes.{PairRoutes}
use Rattle.te_model.specs.Network.{link_count, node_count}
use Rattle.local_recovery.specs.Rates.{IsRates}
use Rattle.traffic_matrix.specs.Traffic.{IsTraffic, predicted_in, sent_in}
use Rattle.series_simulation.specs.declared.step_input.StepInput.{StepInput}
use Rattle.series_simulation.specs.declared.step_row.SimulatedStep.{SimulatedStep}
use Rattle.series_simulation.specs.Connected.{TellsPaths, connects}
use Rattle.series_simulation.specs.Rows.{IsStep}
use Rattle.series_simulation.specs.Simulation.{IsConservedStep}

-- what was prepared for the network, traffic there, a mark for each link, and the number of a step of the traffic
pub record IsStepInput {Plan : Type 0} (is_plan : Network → List Pair → Plan → Type 0) (net : Network) (input : StepInput Plan) : Type 0 where
  pub traffic : IsTraffic (node_count net) input.traffic.now
  pub marks : length input.failed.now ≡ link_count net
  pub tells : TellsPaths net (connects input.prepared.now.reach)
  pub planned : is_plan net (filter (connects input.prepared.now.reach) input.traffic.now.sent.pairs.list) input.prepared.now.plan
  pub step : input.step < length input.traffic.now.sent.steps

module _ {Plan Note : Type 0} (limit : ℕ) (is_plan : Network → List Pair → Plan → Type 0)
    (relates : Network → List Pair → Plan → List ℕ → List PairRoutes → Note → Type 0) (low : Note → Option ℕ)
    (path_set : Plan → Option (List PairRoutes)) (adapts : Network → List PairRoutes → List ℕ → List PairRoutes → Option ℕ → Type 0) where
  -- the step, with rates that stand in the network, and of which nothing vanishes
  pub record IsStepFor (net : Network) (input : StepInput Plan) (made : SimulatedStep) : Type 0 where
    pub number : made.row.step ≡ input.step
    pub is_step : IsStep limit is_plan relates low path_set adapts net input.failed.now input.traffic.now.sent.pairs.list (predicted_in input.traffic.now input.step)
        (sent_in input.traffic.now input.step) input.recovery input.prepared.now.plan made.rates.routes made.row
    pub rates : IsRates net made.rates.routes
    pub conserved : IsConservedStep (sent_in input.traffic.now input.step) made.row.result
