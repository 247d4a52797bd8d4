-- There is a summary of each drawn network of 2 to 64 nodes.
use Rattle.std.proofs.Common.{ℕ, List, length, arith, refl, sym, subst}
use Rattle.std.specs.Prelude.{All as Each}
use Rattle.std.proofs.lemmas.List.Elements.{All-get_or}
use Rattle.te_model.specs.declared.demand.DemandSet.TheVariants.{All}
use Rattle.te_model.specs.declared.network.Network.{Network}
use Rattle.te_model.specs.declared.route.Pair.{Pair}
use Rattle.te_model.specs.Network.{node_count}
use Rattle.te_model.specs.Pairs.{IsPairAmong, no_pair}
use Rattle.random_network.specs.Drawn.{IsConnected, network_of}
use Rattle.random_network.proofs.Connected.{drawn_networks_are_formed}
use Rattle.random_network.proofs.Formed.{nodes_are}
use Rattle.failure.specs.Series.{no_failures}
use Rattle.traffic_matrix.specs.declared.series.Series.{Series}
use Rattle.traffic_matrix.specs.Gravity.{every_pair, gravity_of}
use Rattle.traffic_matrix.specs.Limits.{IsSeries}
use Rattle.traffic_matrix.specs.Traffic.{known_traffic}
use Rattle.traffic_matrix.proofs.GravityLemmas.{gravity-in-range}
use Rattle.plan.specs.declared.recovery.Recovery.TheVariants.{Keep}
use Rattle.scheme.specs.Reach.{AllReached}
use Rattle.racke_mix.proofs.Existence.{racke_plans_exist}
use Rattle.series_simulation.specs.declared.step_row.StepRow.{StepRow}
use Rattle.series_simulation.proofs.Existence.{step_rows_exist}
use Rattle.series_simulation.proofs.SeriesLemmas.{series_pairs}
use Rattle.experiment.proofs.Existence.{made_file_exists}
use Rattle.experiment.proofs.SchemePlans.{least_routings}
use Rattle.generation.specs.Laws.{SummariesExist}
use Rattle.generation.specs.Summary.{AreDrawnRows, IsDrawnFile, IsSummary, least_paths, summary_text}

-- pairs of a connected network all have a path
reached : (net : Network) (pairs : List Pair) → IsConnected net → Each (IsPairAmong (node_count net)) pairs → AllReached net pairs
reached net pairs connected are p below = connected _ (All-get_or (IsPairAmong (node_count net)) pairs p no_pair below are)

-- the lines of a drawn file and of drawn rows
summary_from : (n seed : ℕ) (file : List ℕ) → IsDrawnFile seed (network_of n seed) (every_pair n) file → (rows : List StepRow) → AreDrawnRows n seed rows →
    (text : List ℕ) × IsSummary n seed text
summary_from n seed file published rows driven = (
  summary_text (network_of n seed) (length (every_pair n)) published.made.certificate.head.ratio rows,
  record { file = file; published = published; rows = rows; driven = driven; text_is = refl },
)

pub summaries_exist : SummariesExist
summaries_exist n seed some few =
    let net = network_of n seed in
    let series : Series = gravity_of n seed 3 in
    let pairs = every_pair n in
    let (formed, links, connected) = drawn_networks_are_formed n seed some few in
    let is : IsSeries (node_count net) series = subst (λ m. IsSeries m series) (sym (nodes_are n seed)) (gravity-in-range n seed 3 (omega arith)) in
    let are = series_pairs net series formed is in
    let (rounds, routes, mix) = racke_plans_exist net formed 4 seed (omega arith) (omega arith) pairs are (reached net pairs connected is.pairs) in
    let (file, made) =
    made_file_exists net pairs 32 routes All formed links are is.ascending (omega arith) (omega arith)
    mix.routing.routing tt
    in
    let (rows, driven_rows) =
    step_rows_exist least_paths.limit least_paths.is_plan least_paths.relates least_paths.low least_paths.path_set least_paths.adapts least_routings.plans least_routings.routings
    least_routings.adaptations least_routings.few net formed (known_traffic series) (record { sent = is; predicted = tt }) no_failures Keep
    in
    summary_from n seed file (record { rounds = rounds; routes = routes; mix = mix; made = made }) rows driven_rows
