-- That there are published files and reports, what predictions change of these, and how rates that are chosen anew compare, as statements.
use Rattle.std.specs.Prelude.{ℕ, ◌≡◌, ◌≤◌, ◌↔◌, Bool, IsTrue, List, true}
use Rattle.std.specs.List.{list_any}
use Rattle.te_model.specs.declared.network.Network.{Network}
use Rattle.te_model.specs.declared.route.Pair.{Pair}
use Rattle.te_model.specs.Network.{is_well_formed, link_count, node_count}
use Rattle.routing.specs.Utilisation.{parts}
use Rattle.scheme.specs.Reach.{AllReached}
use Rattle.racke_mix.specs.declared.racke.RackePlan.{RackePlan}
use Rattle.semi_oblivious.specs.declared.semi.SemiPlan.{SemiPlan}
use Rattle.failure.specs.declared.outage.Failures.{Failures}
use Rattle.traffic_matrix.specs.declared.series.Series.{Series}
use Rattle.traffic_matrix.specs.declared.traffic.Traffic.{Traffic}
use Rattle.traffic_matrix.specs.Limits.{IsSeries}
use Rattle.traffic_matrix.specs.Traffic.{IsTraffic, known_traffic}
use Rattle.plan.specs.declared.experiment.Experiment.{Experiment}
use Rattle.plan.specs.declared.recovery.Recovery.TheVariants.{Adapt}
use Rattle.plan.specs.declared.scheme_name.SchemeName.{SchemeName}
use Rattle.plan.specs.Plan.{InRange}
use Rattle.plan.specs.Words.{is_oblivious}
use Rattle.series_simulation.specs.declared.step_row.StepRow.{StepRow}
use Rattle.series_simulation.specs.Connected.{TellsPaths, demands_of}
use Rattle.series_simulation.specs.StandingPaths.{standing_demands, standing_routes}
use Rattle.experiment.specs.Published.{IsPublished}
use Rattle.experiment.specs.Report.{IsReport}
use Rattle.experiment.specs.Schemes.{AreSchemeRows, IsRowBy, semi_scheme}

-- where each declared pair has a path, there is a file that a plan publishes
abbrev pub PublicationsExist : Type 0
PublicationsExist =
    (plan : Experiment) (net : Network) (series : Series) → InRange plan → IsTrue (is_well_formed net) → 1 ≤ link_count net →
    IsSeries (node_count net) series → AllReached net series.pairs.list → (text : List ℕ) × IsPublished plan net series text

-- there is a report of a plan's schemes
abbrev pub ReportsExist : Type 0
ReportsExist =
    (plan : Experiment) (net : Network) (traffic : Traffic) (failures : Failures) → InRange plan → IsTrue (is_well_formed net) →
    IsTraffic (node_count net) traffic → (text : List ℕ) × IsReport plan net traffic failures text

-- an oblivious scheme has just the rows that it has without predictions
abbrev pub PredictionsChangeNoOblivious : Type 0
PredictionsChangeNoOblivious =
    (name : SchemeName) (plan : Experiment) (net : Network) (traffic : Traffic) (failures : Failures) (rows : List StepRow) → is_oblivious name ≡ true →
    AreSchemeRows name plan net traffic failures rows ↔ AreSchemeRows name plan net (known_traffic traffic.sent) failures rows

-- where some link has failed, the rates that `smore` chooses anew for what is sent have no greater utilisation than the rates of its fixed paths
-- have, scaled to those that stand
abbrev pub AdaptedIsNoGreaterThanScaled : Type 0
AdaptedIsNoGreaterThanScaled =
    (trees seed budget : ℕ) (net : Network) (failed : List Bool) (pairs : List Pair) (demand : List ℕ) (plan : SemiPlan RackePlan) (row : StepRow) →
    list_any (λ mark. mark) failed ≡ true → IsRowBy (semi_scheme trees seed budget) net failed pairs demand Adapt plan row →
    (has_path : Pair → Bool) × TellsPaths net has_path
    × (row.parts ≤ parts net (standing_routes failed plan.fixed.routes) (standing_demands failed plan.fixed.routes (demands_of has_path pairs demand)))
