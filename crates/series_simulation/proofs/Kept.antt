-- The rows of a routing that is kept for every matrix.
use Rattle.std.proofs.Common.{◌≡◌, ℕ, ◌<◌, Bool, true, false, Option, None, List, [], ◌∷◌, length, filter, map, get_or, All, arith, refl, sym, ap, subst, ◌∙◌}
use Rattle.std.specs.Prelude.{MatchBool, MatchOption, sum_by}
use Rattle.std.proofs.lemmas.Bool.{eqb-true}
use Rattle.std.proofs.Math.ListN.{get_or-map}
use Rattle.std.proofs.lemmas.List.{length-map}
use Rattle.std.proofs.lemmas.List.Elements.{All-head, All-tail, All-from_get_or, filter_passes}
use Rattle.te_model.specs.declared.network.Network.{Network}
use Rattle.te_model.specs.declared.route.Pair.{Pair}
use Rattle.te_model.specs.declared.route.PairRoutes.{PairRoutes}
use Rattle.te_model.specs.declared.route.PathShare.{PathShare}
use Rattle.te_model.specs.declared.units.TheConstants.{SHARE_UNIT}
use Rattle.te_model.specs.Pairs.{AreDemands, no_pair}
use Rattle.te_model.specs.Path.{chains, is_path, no_routes}
use Rattle.te_model.specs.PathRouting.{IsPathSplit}
use Rattle.te_model.proofs.Chains.{chains_of_path}
use Rattle.te_model.proofs.Choices.{list_exists}
use Rattle.shortest_path.specs.Paths.{HasPath}
use Rattle.routing.specs.Routes.{HasFewPaths, IsRoutingOf}
use Rattle.routing.specs.Utilisation.{parts}
use Rattle.scheme.specs.Reach.{ArePairsOf, IsPairOf}
use Rattle.failure.specs.Series.{marks_of}
use Rattle.plan.specs.declared.recovery.Recovery.{Recovery}
use Rattle.plan.specs.declared.recovery.Recovery.TheVariants.{Keep, Scale, Bypass, Reroute, Adapt}
use Rattle.traffic_matrix.specs.Text.{no_matrix}
use Rattle.traffic_matrix.specs.Traffic.{demands_in}
use Rattle.series_simulation.specs.declared.step_row.StepRow.{StepRow}
use Rattle.series_simulation.specs.Connected.{demands_of}
use Rattle.series_simulation.specs.KeptRouting.{IsKept, IsKeptRow, IsNeverAdapted, IsNoPlan, KeptRowsExist, KeptRowsHaveParts, no_bound, no_path_set, without_rerouting}
use Rattle.series_simulation.specs.Rows.{IsReroutedOn, IsRouted, IsAdaptedOn, IsRoutedByPlan, is_rerouted, mode_of, no_row, step_row_at}
use Rattle.series_simulation.specs.Simulation.{IsSimulated, peak_of}
use Rattle.series_simulation.proofs.ByPlan.{none_adapted}
use Rattle.series_simulation.proofs.Existence.{has_path_in, simulated_exists, tells}
use Rattle.series_simulation.proofs.SeriesLemmas.{series_pairs}

-- ---- the pairs of a routing all have a path

chain_some : (net : Network) (s t : ℕ) (links : List ℕ) → (s ≡ t → ⊥) → chains net s t links ≡ true → 0 < length links
chain_some net s t [] apart chain = absurd (apart (eqb-true s t chain))
chain_some net s t (h ∷ hs) apart chain = omega arith

split_reaches : (net : Network) (r : PairRoutes) → IsPathSplit net r → (r.pair.src ≡ r.pair.dst → ⊥) → HasPath net r.pair.src r.pair.dst
split_reaches net r split apart = go r.paths split.paths split.whole
  where
    go : (paths : List PathShare) → All (λ s. is_path net r.pair.src r.pair.dst s.links ≡ true) paths → sum_by (λ s. s.weight) paths ≡ SHARE_UNIT →
        HasPath net r.pair.src r.pair.dst
    go [] all sum = absurd (omega (arith, sum))
    go (s ∷ ss) all sum =
        let chain = chains_of_path net r.pair.src r.pair.dst s.links (All-head (λ (q : PathShare). is_path net r.pair.src r.pair.dst q.links ≡ true) s ss all) in
        (s.links, chain_some net r.pair.src r.pair.dst s.links apart chain, chain)

pairs_reached : (net : Network) (pairs : List Pair) (routes : List PairRoutes) → ArePairsOf net pairs → IsRoutingOf net pairs routes →
    All (λ p. has_path_in net p ≡ true) pairs
pairs_reached net pairs routes are is =
    All-from_get_or (λ p. has_path_in net p ≡ true) pairs no_pair (λ k below.
    let pair = get_or pairs k no_pair in
    let of : IsPairOf net pair = are.each k no_pair below in
    let inside : k < length routes =
    (let count : length pairs ≡ length routes = ap (λ (ps : List Pair). length ps) (sym is.in_order) ∙ length-map routes (λ r. r.pair) in omega (arith, below, count))
    in
    let r = get_or routes k no_routes in
    let same : r.pair ≡ pair = sym (get_or-map (λ r. r.pair) routes k no_routes) ∙ ap (λ (ps : List Pair). get_or ps k no_pair) is.in_order in
    let split : IsPathSplit net r = is.splits k no_routes inside in
    let path = split_reaches net r split (λ e. of.apart (sym (ap (λ (p : Pair). p.src) same) ∙ e ∙ ap (λ (p : Pair). p.dst) same)) in
    (tells net pair of).1 (subst (λ (p : Pair). HasPath net p.src p.dst) same path))

-- a test that all pass
filter_all : (test : Pair → Bool) (pairs : List Pair) → All (λ p. test p ≡ true) pairs → filter test pairs ≡ pairs
filter_all test [] all = refl
filter_all test (p ∷ ps) all =
    rw (All-head (λ q. test q ≡ true) p ps all) (ap (λ (qs : List Pair). p ∷ qs) (filter_all test ps (All-tail (λ q. test q ≡ true) p ps all)))

demands_of_all : (test : Pair → Bool) (pairs : List Pair) (demand : List ℕ) → All (λ p. test p ≡ true) pairs → length demand ≡ length pairs →
    demands_of test pairs demand ≡ demand
demands_of_all test [] [] all same = refl
demands_of_all test [] (d ∷ ds) all same = absurd (omega (arith, same))
demands_of_all test (p ∷ ps) [] all same = absurd (omega (arith, same))
demands_of_all test (p ∷ ps) (d ∷ ds) all same =
    rw (All-head (λ q. test q ≡ true) p ps all)
    (ap (λ (es : List ℕ). d ∷ es) (demands_of_all test ps ds (All-tail (λ q. test q ≡ true) p ps all) (omega (arith, same))))

-- what keeps all of a list is passed by all
passed_by_all : (test : Pair → Bool) (pairs : List Pair) → filter test pairs ≡ pairs → All (λ p. test p ≡ true) pairs
passed_by_all test pairs same = subst (All (λ p. test p ≡ true)) same (filter_passes test pairs)

-- ---- a row

pub never_rerouted : (recovery : Recovery) (failed : List Bool) → is_rerouted (without_rerouting recovery) failed ≡ false
never_rerouted Keep failed = refl
never_rerouted Scale failed = refl
never_rerouted Bypass failed = refl
never_rerouted Reroute failed = refl
never_rerouted Adapt failed = refl

-- the routing by no plan, of which no rates are chosen anew, is the one that is kept
kept_by_plan : (kept : List PairRoutes) (net : Network) (failed : List Bool) (pairs : List Pair) (demand : List ℕ) (recovery : Recovery) (routes : List PairRoutes)
    (most : ℕ) (bound : Option ℕ) → IsRouted 4096 IsNoPlan (IsKept kept) no_bound net pairs None demand tt routes most bound →
    IsRoutedByPlan 4096 IsNoPlan (IsKept kept) no_bound no_path_set IsNeverAdapted net failed pairs None demand (without_rerouting recovery) tt routes most bound
kept_by_plan kept net failed pairs demand recovery routes most bound is =
    subst (λ (o : Option (List PairRoutes)). MatchOption o (IsRouted 4096 IsNoPlan (IsKept kept) no_bound net pairs None demand tt routes most bound)
    (λ paths. IsAdaptedOn 4096 IsNoPlan (IsKept kept) no_bound no_path_set IsNeverAdapted net failed pairs None demand tt paths routes most bound))
    (sym (none_adapted (without_rerouting recovery) failed)) is

kept_routed : (kept : List PairRoutes) (net : Network) (failed : List Bool) (pairs : List Pair) (demand : List ℕ) (recovery : Recovery) (routes : List PairRoutes)
    (most : ℕ) (bound : Option ℕ) →
    IsRoutedByPlan 4096 IsNoPlan (IsKept kept) no_bound no_path_set IsNeverAdapted net failed pairs None demand (without_rerouting recovery) tt routes most bound →
    IsRouted 4096 IsNoPlan (IsKept kept) no_bound net pairs None demand tt routes most bound
kept_routed kept net failed pairs demand recovery routes most bound is =
    subst (λ (o : Option (List PairRoutes)). MatchOption o (IsRouted 4096 IsNoPlan (IsKept kept) no_bound net pairs None demand tt routes most bound)
    (λ paths. IsAdaptedOn 4096 IsNoPlan (IsKept kept) no_bound no_path_set IsNeverAdapted net failed pairs None demand tt paths routes most bound))
    (none_adapted (without_rerouting recovery) failed) is

-- what a simulation of the routing gives
pub kept_row : (routes : List PairRoutes) (net : Network) (failed : List Bool) (pairs : List Pair) (demand : List ℕ) (recovery : Recovery) (rates : List PairRoutes)
    (row : StepRow) → ArePairsOf net pairs → AreDemands (length pairs) demand → IsRoutingOf net pairs routes → HasFewPaths 4096 routes →
    IsSimulated (mode_of (without_rerouting recovery)) net failed pairs demand routes rates row.result → row.peak ≡ peak_of net row.result.carried →
    row.parts ≡ parts net routes demand → row.low ≡ None → IsKeptRow routes net failed pairs demand recovery row
kept_row routes net failed pairs demand recovery rates row are demands is few simulated peak most none =
    let test = has_path_in net in
    let all = pairs_reached net pairs routes are is in
    let routed : IsRouted 4096 IsNoPlan (IsKept routes) no_bound net pairs None demand tt routes row.parts row.low = record {
      has_path = test;
      tells = tells net;
      planned = tt;
      routing = subst (λ (ps : List Pair). IsRoutingOf net ps routes) (sym (filter_all test pairs all)) is;
      few = few;
      note = tt;
      related = refl;
      most_is = most ∙ ap (λ (ds : List ℕ). parts net routes ds) (sym (demands_of_all test pairs demand all demands.count));
      bound_is = none;
    } in (
      rates,
      record {
        routes = routes;
        routed = subst (λ (b : Bool). MatchBool b (IsReroutedOn 4096 IsNoPlan (IsKept routes) no_bound net failed pairs None demand routes row.parts row.low)
            (IsRoutedByPlan 4096 IsNoPlan (IsKept routes) no_bound no_path_set IsNeverAdapted net failed pairs None demand (without_rerouting recovery) tt routes row.parts row.low))
            (sym (never_rerouted recovery failed)) (kept_by_plan routes net failed pairs demand recovery routes row.parts row.low routed);
        simulated = simulated;
        peak_is = peak;
      },
    )

-- the greatest utilisation of a row
kept_parts : (routes : List PairRoutes) (net : Network) (failed : List Bool) (pairs : List Pair) (demand : List ℕ) (recovery : Recovery) (row : StepRow) →
    map (λ r. r.pair) routes ≡ pairs → length demand ≡ length pairs → IsKeptRow routes net failed pairs demand recovery row →
    row.parts ≡ parts net routes demand
kept_parts routes net failed pairs demand recovery row in_order count (rates, step) =
    let by_plan = subst (λ (b : Bool). MatchBool b (IsReroutedOn 4096 IsNoPlan (IsKept routes) no_bound net failed pairs None demand step.routes row.parts row.low)
    (IsRoutedByPlan 4096 IsNoPlan (IsKept routes) no_bound no_path_set IsNeverAdapted net failed pairs None demand (without_rerouting recovery) tt step.routes row.parts row.low))
    (never_rerouted recovery failed) step.routed in
    let routed = kept_routed routes net failed pairs demand recovery step.routes row.parts row.low by_plan in
    let same : filter routed.has_path pairs ≡ pairs =
    sym routed.routing.in_order ∙ (ap (λ (rs : List PairRoutes). map (λ r. r.pair) rs) routed.related ∙ in_order)
    in
    routed.most_is
    ∙ (ap (λ (rs : List PairRoutes). parts net rs (demands_of routed.has_path pairs demand)) routed.related
    ∙ ap (λ (ds : List ℕ). parts net routes ds) (demands_of_all routed.has_path pairs demand (passed_by_all routed.has_path pairs same) count))

pub kept_rows_have_parts : KeptRowsHaveParts
kept_rows_have_parts routes net series failures recovery rows is in_order are k below =
    let step : k < length series.steps = omega (arith, below, are.count) in
    kept_parts routes net (marks_of net failures k) series.pairs.list (demands_in series k) recovery (step_row_at rows k) in_order
    (is.matrices k no_matrix step).count (are.each k below)

-- ---- there are rows

pub kept_rows_exist : KeptRowsExist
kept_rows_exist routes net series failures recovery formed is routing few =
    let pairs = series.pairs.list in
    let are = series_pairs net series formed is in
    let (rows, count, each) = list_exists
    (λ k (row : StepRow). (row.step ≡ k) × IsKeptRow routes net (marks_of net failures k) pairs (demands_in series k) recovery row) no_row (length series.steps)
    (λ k below.
    let demand = demands_in series k in
    let (rates, result, whole, simulated) = simulated_exists (mode_of (without_rerouting recovery)) net (marks_of net failures k) pairs demand routes formed routing.splits few
    ((λ p. true), routing.in_order ∙ sym (filter_all (λ p. true) pairs (λ j d low. refl))) in
    let row : StepRow = record { step = k; result = result; peak = peak_of net result.carried; parts = parts net routes demand; low = None } in
    (row, (refl, kept_row routes net (marks_of net failures k) pairs demand recovery rates row are (is.matrices k no_matrix below) routing few simulated refl refl refl))) in (
      rows,
      record {
        plan = tt;
        count = count;
        steps = λ k below. (each k (omega (arith, below, count))).0;
        each = λ k below. (each k (omega (arith, below, count))).1;
      },
    )

-- of all pairs all pass
pub all_pairs : (pairs : List Pair) → filter (λ p. true) pairs ≡ pairs
all_pairs pairs = filter_all (λ p. true) pairs (λ k d low. refl)
