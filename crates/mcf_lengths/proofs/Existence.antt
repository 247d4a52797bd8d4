-- Plans of multicommodity flow exist, the routing of the rounds does, and so do balanced routings.
use Rattle.std.proofs.Common.{◌≡◌, ℕ, zero, suc, ◌+◌, ◌≤◌, ◌<◌, true, List, [], ◌∷◌, ◌++◌, All, length, arith, refl, sym, subst}
use Rattle.te_model.specs.declared.network.Network.{Network}
use Rattle.te_model.specs.declared.route.Pair.{Pair}
use Rattle.te_model.specs.declared.route.PairRoutes.{PairRoutes}
use Rattle.te_model.specs.declared.route.PathShare.{PathShare}
use Rattle.te_model.specs.Network.{is_well_formed}
use Rattle.routing.specs.Routes.{AreDemands, HasFewPaths, IsRoutingOf}
use Rattle.routing.proofs.InOrder.{routes_count}
use Rattle.routing.proofs.MergesMade.{even_mix_exists}
use Rattle.routing.proofs.Splits.{splits_of}
use Rattle.scheme.specs.Fixed.{IsSplitBy}
use Rattle.scheme.specs.Reach.{AllReached, ArePairsOf, pair_at}
use Rattle.scheme.proofs.Existence.{routings_by_rules_exist}
use Rattle.scheme.proofs.Plans.{RoutesSoFar, routes_done, routes_more, routes_none}
use Rattle.k_paths.specs.Even.{IsEvenSplit}
use Rattle.k_paths.proofs.Existence.{even_splits_exist}
use Rattle.local_search.proofs.SettledRoutings.{stable_routings_exist}
use Rattle.dual_bounds.proofs.RoutingBrackets.{brackets_exist}
use Rattle.mcf_lengths.specs.declared.round.FlowRound.{FlowRound}
use Rattle.mcf_lengths.specs.declared.round.TheConstants.{ROUNDS}
use Rattle.mcf_lengths.specs.Laws.{BalancedRoutingsExist, FlowPlansExist}
use Rattle.mcf_lengths.specs.Rounds.{AreLeastPaths, IsRoundsRouting, IsRoundsSplit, paths_of_round, round_paths_of_pair}
use Rattle.mcf_lengths.proofs.Balancing.{few_together, pairs_join_nodes}
use Rattle.routing.proofs.FewPaths.{few_more}
use Rattle.mcf_lengths.proofs.Lengthening.{round_paths}
use Rattle.mcf_lengths.proofs.RoundsMade.{rounds_exist}
use Rattle.mcf_lengths.proofs.Splitting.{pair_paths, rounds_split, sound_paths}

pub flow_plans_exist : FlowPlansExist
flow_plans_exist net pairs formed ends reached =
    let (routes, by) = routings_by_rules_exist (IsEvenSplit 4) 32 net (even_splits_exist net formed 4 (omega arith) (omega arith)) pairs ends reached in (
      record { pairs = record { list = pairs }; candidates = record { routes = routes; splits = splits_of net routes by.routing.splits } },
      record { own = refl; ends = ends; reached = reached; candidates = by },
    )

-- the even mix of the paths of pair p
pair_split : (net : Network) (pairs : List Pair) (rounds : List FlowRound) (p : ℕ) → length rounds ≡ ROUNDS →
    All (λ r. AreLeastPaths net r.lengths pairs (paths_of_round r)) rounds → p < length pairs →
    (shares : List PathShare) × IsSplitBy (IsRoundsSplit rounds) ROUNDS net (record { pair = pair_at pairs p; paths = shares })
pair_split net pairs rounds p count least inside =
    let paths = round_paths_of_pair rounds p in
    let are = pair_paths net pairs rounds p least inside in
    let (shares, so, split, few) =
    even_mix_exists net (pair_at pairs p) paths (omega (arith, are.count, count)) (omega (arith, are.count, count)) (sound_paths net rounds (pair_at pairs p) paths are)
    in
    (shares, rounds_split net pairs rounds p shares count least inside so)

-- the splits of the first p pairs
splits_to : (net : Network) (pairs : List Pair) (rounds : List FlowRound) → length rounds ≡ ROUNDS →
    All (λ r. AreLeastPaths net r.lengths pairs (paths_of_round r)) rounds → (p : ℕ) → p ≤ length pairs →
    (routes : List PairRoutes) × RoutesSoFar (IsRoundsSplit rounds) ROUNDS net pairs p routes
splits_to net pairs rounds count least zero within = ([], routes_none (IsRoundsSplit rounds) ROUNDS net pairs)
splits_to net pairs rounds count least (suc p) within =
    let (routes, far) = splits_to net pairs rounds count least p (omega arith) in
    let (shares, split) = pair_split net pairs rounds p count least within in
    let route : PairRoutes = record { pair = pair_at pairs p; paths = shares } in
    let next : p + 1 ≡ suc p = omega arith in (
      routes ++ route ∷ [],
      subst (λ n. RoutesSoFar (IsRoundsSplit rounds) ROUNDS net pairs n (routes ++ route ∷ [])) next
          (routes_more (IsRoundsSplit rounds) ROUNDS net pairs p routes route far within refl split),
    )

-- the routing of the rounds, of at most 28 paths for a pair
record HasRoundsRouting (net : Network) (pairs : List Pair) (demand : List ℕ) : Type 0 where
  routes : List PairRoutes
  is : IsRoundsRouting net pairs demand routes
  routing : IsRoutingOf net pairs routes
  few : HasFewPaths 28 routes

rounds_routing : (net : Network) (pairs : List Pair) (demand : List ℕ) → is_well_formed net ≡ true → ArePairsOf net pairs →
    AllReached net pairs → HasRoundsRouting net pairs demand
rounds_routing net pairs demand formed ends reached =
    let (rounds, are) = rounds_exist net pairs demand formed ends reached in
    let (routes, far) = splits_to net pairs rounds are.count (round_paths net pairs demand rounds are) (length pairs) (omega arith) in
    let by = routes_done (IsRoundsSplit rounds) ROUNDS net pairs (length pairs) routes far refl in
    record { routes = routes; is = (rounds, are, by); routing = by.routing; few = few_more ROUNDS 28 routes (omega arith) by.few }

pub balanced_routings_exist : BalancedRoutingsExist
balanced_routings_exist net pairs plan demand formed is demands =
    let start = rounds_routing net pairs demand formed is.ends is.reached in
    let candidates = plan.candidates.routes in
    let (routes, own, stable, less, only, few) = stable_routings_exist net demand pairs start.routes candidates start.routing is.candidates.routing in
    let count = routes_count pairs routes own.in_order in
    let (note, bracket, lower, low) =
    brackets_exist net routes demand formed own.splits (pairs_join_nodes net pairs routes is.ends own) (omega (arith, count, is.ends.few))
    (subst (λ n. AreDemands n demand) (sym count) demands)
    in (
      routes,
      note,
      own,
      few 32 (few_together net pairs 28 4 start.routes candidates start.routing start.few is.candidates),
      record { stable = stable; start = start.routes; start_is = start.is; no_greater = less; bracket = bracket; lower = lower },
      low,
    )
