-- There are published files and reports.
use Rattle.std.proofs.Common.{◌≡◌, ◌∙◌, ℕ, ◌≤◌, List, [], ◌∷◌, ◌++◌, Some, true, length, arith, ap, refl, sym, subst}
use Rattle.std.proofs.lemmas.Bool.{false≢true}
use Rattle.std.proofs.lemmas.List.{length-map}
use Rattle.std.specs.List.{AllZip}
use Rattle.te_model.specs.declared.network.Network.{Network}
use Rattle.te_model.specs.declared.route.Pair.{Pair}
use Rattle.te_model.specs.declared.route.PairRoutes.{PairRoutes}
use Rattle.te_model.specs.Network.{is_well_formed, link_count, node_count}
use Rattle.te_model.specs.declared.certificate.Certificate.{Certificate}
use Rattle.te_model.specs.declared.demand.DemandSet.{DemandSet}
use Rattle.te_model.specs.Pairs.{AscendPairs}
use Rattle.te_model.specs.Text.{text}
use Rattle.routing.specs.Routes.{IsRoutingOf}
use Rattle.routing.proofs.Splits.{splits_of}
use Rattle.path_budget.specs.Budget.{trimmed_routes}
use Rattle.path_budget.proofs.Trimming.{trimmed_has_few, trimmed_routing}
use Rattle.scheme.specs.Reach.{AllReached, ArePairsOf}
use Rattle.best_blocks.specs.Conditions.{IsSetWithin}
use Rattle.ratio_certificate.proofs.OffersOfAll.{made_certificates_exist}
use Rattle.failure.specs.declared.outage.Failures.{Failures}
use Rattle.traffic_matrix.specs.declared.series.Series.{Series}
use Rattle.traffic_matrix.specs.declared.traffic.Traffic.{Traffic}
use Rattle.traffic_matrix.specs.Limits.{IsSeries}
use Rattle.traffic_matrix.specs.Traffic.{IsTraffic}
use Rattle.plan.specs.declared.experiment.Experiment.{Experiment}
use Rattle.plan.specs.declared.scheme_name.SchemeName.{SchemeName}
use Rattle.plan.specs.declared.scheme_name.SchemeName.TheVariants.{Spf, Ecmp, Ksp, Mcf, Racke, Smore, Valiant, Robust}
use Rattle.plan.specs.Plan.{InRange}
use Rattle.plan.specs.Words.{is_oblivious}
use Rattle.series_simulation.specs.declared.step_row.StepRow.{StepRow}
use Rattle.series_simulation.proofs.Existence.{step_rows_exist}
use Rattle.series_simulation.proofs.SeriesLemmas.{series_pairs}
use Rattle.experiment.specs.Laws.{PublicationsExist, ReportsExist}
use Rattle.ratio_certificate.specs.Offers.{IsMadeWithinAll}
use Rattle.experiment.specs.Published.{IsMadeByPlan, IsMadeFile, published_set, seed_count, with_seed}
use Rattle.experiment.specs.Report.{lines_of_schemes}
use Rattle.experiment.specs.Schemes.{AreSchemeRows, meaning_of}
use Rattle.experiment.specs.Text.{header}
use Rattle.experiment.proofs.PublishedSets.{set_within}
use Rattle.experiment.proofs.RoutingWithin.{routing_within}
use Rattle.experiment.proofs.SchemePlans.{name_routings}
use Rattle.experiment.proofs.Seeds.{best_exists, range_with_seed, some_seed}

-- what an oblivious scheme's plan keeps is a routing
kept_routing : (plan : Experiment) (name : SchemeName) → is_oblivious name ≡ true → (net : Network) (pairs : List Pair) (p : (meaning_of name plan).Plan) →
    (meaning_of name plan).is_plan net pairs p → (routes : List PairRoutes) × ((meaning_of name plan).fixed p ≡ Some routes) × IsRoutingOf net pairs routes
kept_routing plan Spf oblivious net pairs p is = (p.routing.routes, refl, is.routing)
kept_routing plan Ecmp oblivious net pairs p is = (p.routing.routes, refl, is.routing)
kept_routing plan Ksp oblivious net pairs p is = (p.routing.routes, refl, is.routing)
kept_routing plan Mcf oblivious net pairs p is = absurd (false≢true oblivious)
kept_routing plan Racke oblivious net pairs p is = (p.routing.routes, refl, is.routing.routing)
kept_routing plan Smore oblivious net pairs p is = absurd (false≢true oblivious)
kept_routing plan Valiant oblivious net pairs p is = (p.routing.routes, refl, is.routing)
kept_routing plan Robust oblivious net pairs p is = (p.routing.routes, refl, is.routing)

-- a certificate of the heaviest paths of a routing
made_certificate_exists : (net : Network) (pairs : List Pair) (budget : ℕ) (routes : List PairRoutes) (set : DemandSet) →
    is_well_formed net ≡ true → 1 ≤ link_count net → ArePairsOf net pairs → AscendPairs pairs → 1 ≤ budget → budget ≤ 32 → IsRoutingOf net pairs routes →
    IsSetWithin (length pairs) set → (certificate : Certificate) × IsMadeWithinAll net (trimmed_routes budget routes) set certificate
made_certificate_exists net pairs budget routes set formed some are ascend some_kept few_kept of within_limits =
    let kept = trimmed_routes budget routes in
    let kept_of = trimmed_routing budget net pairs routes some_kept of in
    let few = trimmed_has_few budget routes some_kept (splits_of net routes of.splits) in
    let within = routing_within net pairs kept formed are ascend kept_of (λ k d below. let at = few k d below in omega (arith, at, few_kept)) in
    let count : length pairs ≡ length kept =
    ap (λ (ps : List Pair). length ps) (sym kept_of.in_order) ∙ length-map kept (λ (r : PairRoutes). r.pair)
    in
    made_certificates_exist net kept set formed some within (subst (λ n. IsSetWithin n set) count within_limits)

-- its file
pub made_file_exists : (net : Network) (pairs : List Pair) (budget : ℕ) (routes : List PairRoutes) (set : DemandSet) →
    is_well_formed net ≡ true → 1 ≤ link_count net → ArePairsOf net pairs → AscendPairs pairs → 1 ≤ budget → budget ≤ 32 → IsRoutingOf net pairs routes →
    IsSetWithin (length pairs) set → (file : List ℕ) × IsMadeFile net (trimmed_routes budget routes) set file
made_file_exists net pairs budget routes set formed some are ascend some_kept few_kept of within_limits =
    let (certificate, made) = made_certificate_exists net pairs budget routes set formed some are ascend some_kept few_kept of within_limits in
    (text certificate, record { certificate = certificate; made = made.made; text_is = refl })

-- a certificate by the plan
by_plan_exists : (plan : Experiment) (net : Network) (series : Series) → InRange plan → is_well_formed net ≡ true → 1 ≤ link_count net →
    IsSeries (node_count net) series → AllReached net series.pairs.list → (certificate : Certificate) × IsMadeByPlan plan net series certificate
by_plan_exists plan net series range formed some is reached =
    let pairs = series.pairs.list in
    let has = name_routings plan range plan.publish in
    let (p, planned) = has.plans net formed pairs (series_pairs net series formed is) reached in
    let (routes, kept, of) = kept_routing plan plan.publish range.publish net pairs p planned in
    let (certificate, made) =
    made_certificate_exists net pairs plan.budget routes (published_set plan series) formed some (series_pairs net series formed is)
    is.ascending range.budget_low range.budget_high of (set_within (node_count net) plan series range is)
    in (
      certificate,
      record {
        routes = routes;
        routing = record { plan = p; planned = planned; kept = kept };
        made = made.made;
        all_matrices = made.all_matrices;
      },
    )

pub publications_exist : PublicationsExist
publications_exist plan net series range formed some is reached =
    let (list, best, made, first) =
    best_exists plan net series (λ seed. by_plan_exists (with_seed plan seed) net series (range_with_seed plan seed range) formed some is reached)
    (seed_count plan) (some_seed plan range)
    in
    (text best, record { certificate = best; best = record { certificates = list; made = made; best = first }; text_is = refl })

-- the rows of each scheme
rows_of : (plan : Experiment) (net : Network) (traffic : Traffic) (failures : Failures) → InRange plan → is_well_formed net ≡ true →
    IsTraffic (node_count net) traffic → (names : List SchemeName) →
    (rows : List (List StepRow)) × AllZip (λ name part. AreSchemeRows name plan net traffic failures part) names rows
rows_of plan net traffic failures range formed is [] = ([], tt)
rows_of plan net traffic failures range formed is (name ∷ names) =
    let scheme = meaning_of name plan in
    let can = name_routings plan range name in
    let (first, are) =
    step_rows_exist scheme.limit scheme.is_plan scheme.relates scheme.low scheme.path_set scheme.adapts can.plans can.routings can.adaptations can.few net formed
    traffic is failures plan.recovery
    in
    let (rest, all) = rows_of plan net traffic failures range formed is names in
    (first ∷ rest, (are, all))

pub reports_exist : ReportsExist
reports_exist plan net traffic failures range formed is =
    let (rows, are) = rows_of plan net traffic failures range formed is plan.schemes in
    (header ++ lines_of_schemes plan.schemes rows, record { rows = rows; are_rows = are; text_is = refl })
