-- What the lines of a step add up to, and that they exist, as statements.
use Rattle.std.specs.Prelude.{◌≡◌, ℕ, ◌<◌, IsTrue, List, length, sum_by}
use Rattle.te_model.specs.declared.network.Network.{Network}
use Rattle.te_model.specs.Counting.{greatest_below}
use Rattle.te_model.specs.Network.{is_well_formed, link_count, node_count}
use Rattle.local_recovery.specs.Rates.{pairs_of}
use Rattle.flow_sim.specs.Asked.{AsksNearLoad}
use Rattle.failure.specs.declared.outage.Failures.{Failures}
use Rattle.traffic_matrix.specs.declared.traffic.Traffic.{Traffic}
use Rattle.traffic_matrix.specs.Traffic.{IsTraffic, sent_in}
use Rattle.plan.specs.declared.experiment.Experiment.{Experiment}
use Rattle.plan.specs.declared.scheme_name.SchemeName.{SchemeName}
use Rattle.plan.specs.Plan.{InRange}
use Rattle.series_simulation.specs.declared.step_row.SimulatedStep.{SimulatedStep}
use Rattle.series_simulation.specs.declared.step_row.StepRow.{StepRow}
use Rattle.series_simulation.specs.Rows.{step_row_at}
use Rattle.series_simulation.specs.Simulation.{utilisation_on}
use Rattle.experiment.specs.Schemes.{AreSchemeRows}
use Rattle.step_detail.specs.declared.breakdown.Breakdown.{Breakdown}
use Rattle.step_detail.specs.Breakdown.{IsBreakdown, IsSchemeStep}

-- the columns of the lines give the row of the step: there is one pair result for each pair, and their amounts sum to those of the row; the
-- greatest utilisation of a link by what it carries is the row's peak; and each link is asked what the weights of the paths ask of the
-- demands, to one unit a path
pub record AgreesWithRow (net : Network) (traffic : Traffic) (k : ℕ) (step : SimulatedStep) : Type 0 where
  pub pairs : pairs_of step.rates.routes ≡ traffic.sent.pairs.list
  pub results : length step.row.result.per_pair ≡ length step.rates.routes
  pub offered : sum_by (λ p. p.offered) step.row.result.per_pair ≡ step.row.result.offered
  pub delivered : sum_by (λ p. p.delivered) step.row.result.per_pair ≡ step.row.result.delivered
  pub lost_full : sum_by (λ p. p.lost_full) step.row.result.per_pair ≡ step.row.result.lost_full
  pub lost_failed : sum_by (λ p. p.lost_failed) step.row.result.per_pair ≡ step.row.result.lost_failed
  pub lost_no_path : sum_by (λ p. p.lost_no_path) step.row.result.per_pair ≡ step.row.result.lost_no_path
  pub peak : greatest_below (link_count net) (utilisation_on net step.row.result.carried) ≡ step.row.peak
  pub asked : AsksNearLoad step.rates.routes (sent_in traffic k)

-- of each scheme and step
abbrev pub StepsAgreeWithRows : Type 0
StepsAgreeWithRows =
    (name : SchemeName) (plan : Experiment) (net : Network) (traffic : Traffic) (failures : Failures) (k : ℕ) → InRange plan →
    IsTrue (is_well_formed net) → IsTraffic (node_count net) traffic → k < length traffic.sent.steps → (step : SimulatedStep) →
    IsSchemeStep name plan net traffic failures k step → AgreesWithRow net traffic k step

-- the row of each step stands in rows that a report may have
abbrev pub StepsStandInReports : Type 0
StepsStandInReports =
    (name : SchemeName) (plan : Experiment) (net : Network) (traffic : Traffic) (failures : Failures) (k : ℕ) → InRange plan →
    IsTrue (is_well_formed net) → IsTraffic (node_count net) traffic → k < length traffic.sent.steps → (step : SimulatedStep) →
    IsSchemeStep name plan net traffic failures k step →
    (rows : List StepRow) × AreSchemeRows name plan net traffic failures rows × (step_row_at rows k ≡ step.row)

-- each step of a series can be broken down
abbrev pub BreakdownsExist : Type 0
BreakdownsExist =
    (breakdown : Breakdown) (plan : Experiment) (net : Network) (traffic : Traffic) (failures : Failures) (k : ℕ) → InRange plan →
    IsTrue (is_well_formed net) → IsTraffic (node_count net) traffic → k < length traffic.sent.steps →
    (text : List ℕ) × IsBreakdown breakdown plan net traffic failures k text
