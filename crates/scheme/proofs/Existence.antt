-- A least path is a split of its pair, and splits of all pairs make a routing.
use Rattle.std.proofs.Common.{ℕ, ◌+◌, ◌<◌, List, [], ◌∷◌, ◌++◌, Option, Some, None, length, arith, refl}
use Rattle.std.proofs.lemmas.List.Elements.{All-get_or}
use Rattle.te_model.specs.declared.network.Network.{Network}
use Rattle.te_model.specs.declared.route.Pair.{Pair}
use Rattle.te_model.specs.declared.route.PairRoutes.{PairRoutes}
use Rattle.te_model.specs.declared.route.PathShare.{PathShare}
use Rattle.te_model.specs.declared.units.TheConstants.{SHARE_UNIT}
use Rattle.te_model.proofs.Choices.{step_by_step}
use Rattle.shortest_path.specs.Costs.{costs_of}
use Rattle.shortest_path.specs.Paths.{IsLeastPath}
use Rattle.shortest_path.proofs.Existence.{least_paths_exist}
use Rattle.shortest_path.proofs.Sound.{has_costs}
use Rattle.scheme.specs.Fixed.{IsSplitBy}
use Rattle.scheme.specs.Laws.{LeastSplitsExist, RoutingsByRulesExist}
use Rattle.scheme.specs.Least.{IsLeastSplit}
use Rattle.scheme.specs.Reach.{IsPairOf, no_pair, pair_at}
use Rattle.scheme.proofs.LeastSplit.{least_split, no_least}
use Rattle.scheme.proofs.Plans.{RoutesSoFar, routes_none, routes_more, routes_done}

pub routings_by_rules_exist : (rule : Network → Pair → List PathShare → Type 0) (limit : ℕ) → RoutingsByRulesExist rule limit
routings_by_rules_exist rule limit net each pairs among reached =
    let (routes, far) =
    step_by_step (RoutesSoFar rule limit net pairs) (length pairs) ([], routes_none rule limit net pairs) next (length pairs) (omega arith)
    in
    (routes, routes_done rule limit net pairs (length pairs) routes far refl)
  where
    next : (p : ℕ) (routes : List PairRoutes) → p < length pairs → RoutesSoFar rule limit net pairs p routes →
        (more : List PairRoutes) × RoutesSoFar rule limit net pairs (p + 1) more
    next p routes within far =
        let pair = pair_at pairs p in
        let (paths, split) = each pair (All-get_or (IsPairOf net) pairs p no_pair within among.each) (reached p within) in
        let r : PairRoutes = record { pair = pair; paths = paths } in
        (routes ++ r ∷ [], routes_more rule limit net pairs p routes r far within refl split)

pub least_splits_exist : LeastSplitsExist
least_splits_exist net formed pair ends has =
    let costs = has_costs net formed in
    let (p, least) = least_paths_exist net (costs_of net) formed costs.count costs.positive pair.src pair.dst ends.src_inside ends.dst_inside in
    go p least
  where
    go : (p : Option (List ℕ)) → IsLeastPath net (costs_of net) pair.src pair.dst p →
        (paths : List PathShare) × IsSplitBy IsLeastSplit 1 net (record { pair = pair; paths = paths })
    go None none = absurd (no_least net (costs_of net) pair.src pair.dst none has)
    go (Some links) least = (record { links = links; weight = SHARE_UNIT } ∷ [], least_split net pair links least)
