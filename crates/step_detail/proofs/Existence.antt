-- Each step of a series can be broken down.
use Rattle.std.proofs.Common.{◌≡◌, ℕ, ◌<◌, List, [], ◌∷◌, ◌++◌, Option, None, true, length, refl}
use Rattle.std.specs.List.{AllZip}
use Rattle.te_model.specs.declared.network.Network.{Network}
use Rattle.te_model.specs.Network.{is_well_formed, node_count}
use Rattle.te_model.specs.Pairs.{no_pair, pair_at}
use Rattle.te_model.proofs.Choices.{list_exists}
use Rattle.shortest_path.specs.Costs.{costs_of}
use Rattle.shortest_path.specs.Paths.{IsDistance}
use Rattle.shortest_path.proofs.Existence.{distances_exist}
use Rattle.shortest_path.proofs.Sound.{has_costs}
use Rattle.failure.specs.declared.outage.Failures.{Failures}
use Rattle.failure.specs.Series.{marks_of}
use Rattle.traffic_matrix.specs.declared.traffic.Traffic.{Traffic}
use Rattle.traffic_matrix.specs.Traffic.{IsTraffic, sent_in}
use Rattle.plan.specs.declared.experiment.Experiment.{Experiment}
use Rattle.plan.specs.declared.scheme_name.SchemeName.{SchemeName}
use Rattle.plan.specs.Plan.{InRange}
use Rattle.series_simulation.specs.declared.step_row.SimulatedStep.{SimulatedStep}
use Rattle.series_simulation.proofs.Existence.{steps_exist}
use Rattle.experiment.specs.Schemes.{meaning_of}
use Rattle.experiment.proofs.SchemePlans.{name_routings}
use Rattle.step_detail.specs.Breakdown.{IsSchemeStep, header_of, lines_of_schemes}
use Rattle.step_detail.specs.Laws.{BreakdownsExist}
use Rattle.step_detail.specs.Pairs.{AreLeastCosts}

-- each pair has a least cost or none
least_costs_exist : (net : Network) (traffic : Traffic) → is_well_formed net ≡ true → IsTraffic (node_count net) traffic →
    (least : List (Option ℕ)) × AreLeastCosts net traffic.sent.pairs.list least
least_costs_exist net traffic formed is =
    let pairs = traffic.sent.pairs.list in
    let costs = has_costs net formed in
    let (least, count, each) = list_exists
    (λ p cost. IsDistance net (costs_of net) (pair_at pairs p).src (pair_at pairs p).dst cost) None (length pairs) (λ p below.
    let pair = is.sent.pairs p no_pair below in
    distances_exist net (costs_of net) formed costs.count (pair_at pairs p).src (pair_at pairs p).dst pair.src_inside pair.dst_inside) in
    (least, record { count = count; each = each })

-- the step of each scheme
steps_of_schemes : (plan : Experiment) (net : Network) (traffic : Traffic) (failures : Failures) (k : ℕ) → InRange plan → is_well_formed net ≡ true →
    IsTraffic (node_count net) traffic → k < length traffic.sent.steps → (names : List SchemeName) →
    (steps : List SimulatedStep) × AllZip (λ name step. IsSchemeStep name plan net traffic failures k step) names steps
steps_of_schemes plan net traffic failures k range formed is below [] = ([], tt)
steps_of_schemes plan net traffic failures k range formed is below (name ∷ names) =
    let scheme = meaning_of name plan in
    let can = name_routings plan range name in
    let (first, is_step) =
    steps_exist scheme.limit scheme.is_plan scheme.relates scheme.low scheme.path_set scheme.adapts can.plans can.routings can.adaptations can.few net formed traffic is failures
    plan.recovery k below
    in
    let (rest, are) = steps_of_schemes plan net traffic failures k range formed is below names in
    (first ∷ rest, (is_step, are))

pub breakdowns_exist : BreakdownsExist
breakdowns_exist breakdown plan net traffic failures k range formed is below =
    let (steps, are) = steps_of_schemes plan net traffic failures k range formed is below plan.schemes in
    let (least, are_least) = least_costs_exist net traffic formed is in (
      header_of breakdown ++ lines_of_schemes breakdown net (marks_of net failures k) (sent_in traffic k) least plan.schemes steps,
      record { steps = steps; are_steps = are; least = least; are_least = λ by_pairs. are_least; text_is = refl },
    )
