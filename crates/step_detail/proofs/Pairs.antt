-- Lines of pairs, and what their paths need.
use Rattle.std.proofs.Common.{◌≡◌, ℕ, ◌<◌, ◌≤◌, true, List, [], ◌∷◌, ◌++◌, All, Option, length, arith, sym, subst, ◌==◌, ◌||◌}
use Rattle.std.specs.Prelude.{decimal}
use Rattle.std.proofs.lemmas.Bool.Decides.{nat_tests}
use Rattle.std.proofs.lemmas.List.{get_or-map, length-map}
use Rattle.std.proofs.lemmas.List.Elements.{All-get_or, All-weaker}
use Rattle.te_model.specs.declared.limits.TheConstants.{FORMAT_2}
use Rattle.te_model.specs.declared.network.Network.{Network}
use Rattle.te_model.specs.declared.route.Pair.{Pair}
use Rattle.te_model.specs.declared.route.PairRoutes.{PairRoutes}
use Rattle.te_model.specs.declared.route.PathShare.{PathShare}
use Rattle.te_model.specs.declared.units.TheConstants.{SHARE_UNIT}
use Rattle.te_model.specs.Network.{is_well_formed, link_count, name_at, node_count}
use Rattle.te_model.specs.Pairs.{IsNodePair, no_pair}
use Rattle.te_model.specs.Path.{chains, is_distinct, is_path, no_routes, nodes_visited, routes_at}
use Rattle.te_model.proofs.Chains.{walk_links}
use Rattle.te_model.proofs.Tests.{and_true}
use Rattle.te_model.proofs.WellFormed.{few_nodes, links_join}
use Rattle.routing.specs.Split.{total_weight}
use Rattle.shortest_path.specs.Costs.{costs_of}
use Rattle.shortest_path.proofs.PathLengths.{path_short}
use Rattle.local_recovery.specs.Rates.{IsRates, pairs_of}
use Rattle.flow_sim.specs.declared.result.PairResult.{PairResult}
use Rattle.experiment.specs.Text.{number_or_dash}
use Rattle.experiment.proofs.JoinedFields.{after}
use Rattle.step_detail.specs.Pairs.{in_millionths, mean_cost, pair_result_line}
use Rattle.step_detail.proofs.Lines.{line_put}

-- a line of a pair, from its fields
pub pair_put : (net : Network) (word text : List ℕ) (routes : PairRoutes) (outcome : PairResult) (least : Option ℕ) (source target : List ℕ)
    (offered delivered lost_full lost_failed lost_no_path paths : ℕ) (cost least_cost : Option ℕ) → source ≡ name_at net routes.pair.src →
    target ≡ name_at net routes.pair.dst → offered ≡ outcome.offered → delivered ≡ outcome.delivered → lost_full ≡ outcome.lost_full →
    lost_failed ≡ outcome.lost_failed → lost_no_path ≡ outcome.lost_no_path → paths ≡ length routes.paths →
    cost ≡ mean_cost (costs_of net) routes.paths → least_cost ≡ in_millionths least →
    after (after (after (after (after (after (after (after (after (after (text ++ word) source) target) (decimal offered)) (decimal delivered))
    (decimal lost_full)) (decimal lost_failed)) (decimal lost_no_path)) (decimal paths)) (number_or_dash cost)) (number_or_dash least_cost) ++ 10 ∷ []
    ≡ text ++ pair_result_line net word routes outcome least
pair_put net word text routes outcome least source target offered delivered lost_full lost_failed lost_no_path paths cost least_cost a b c d f g h i j k =
    rw (a, b, c, d, f, g, h, i, j, k) (line_put text word (name_at net routes.pair.src ∷ name_at net routes.pair.dst ∷ decimal outcome.offered
    ∷ decimal outcome.delivered ∷ decimal outcome.lost_full ∷ decimal outcome.lost_failed ∷ decimal outcome.lost_no_path ∷ decimal (length routes.paths)
    ∷ number_or_dash (mean_cost (costs_of net) routes.paths) ∷ number_or_dash (in_millionths least) ∷ []))

-- the links of paths are those of the network
pub links_within : (net : Network) (s t : ℕ) (paths : List PathShare) (costs : List ℕ) → length costs ≡ link_count net →
    All (λ (p : PathShare). is_path net s t p.links ≡ true) paths → All (λ (p : PathShare). All (λ h. h < length costs) p.links) paths
links_within net s t paths costs count are =
    subst (λ n. All (λ (p : PathShare). All (λ h. h < n) p.links) paths) (sym count)
    (All-weaker (λ (p : PathShare). is_path net s t p.links ≡ true) (λ (p : PathShare). All (λ h. h < link_count net) p.links)
    (λ p path. walk_links net s t p.links (and_true (chains net s t p.links) (is_distinct (nodes_visited net s p.links)) path).0) paths are)

-- and few
pub paths_short : (net : Network) (s t : ℕ) (paths : List PathShare) → is_well_formed net ≡ true → s < node_count net →
    All (λ (p : PathShare). is_path net s t p.links ≡ true) paths → All (λ (p : PathShare). length p.links ≤ FORMAT_2.nodes) paths
paths_short net s t paths formed inside are =
    All-weaker (λ (p : PathShare). is_path net s t p.links ≡ true) (λ (p : PathShare). length p.links ≤ FORMAT_2.nodes)
    (λ p path. omega (arith, path_short net s t p.links (links_join net formed) inside path, few_nodes net formed)) paths are

-- the weights of a pair's paths sum to at most a million
pub whole_at_most : (paths : List PathShare) → (length paths == 0 || total_weight paths == SHARE_UNIT) ≡ true → total_weight paths ≤ SHARE_UNIT
whole_at_most [] test = none
  where
    none : total_weight [] ≤ SHARE_UNIT
    none = omega arith
whole_at_most (s ∷ ss) test = let whole : total_weight (s ∷ ss) ≡ SHARE_UNIT = grind (arith, nat_tests) in omega (arith, whole)

-- a pair of rates is one of nodes
pub pair_of_nodes : (net : Network) (rates : List PairRoutes) (p : ℕ) → IsRates net rates → p < length rates → IsNodePair (node_count net) (routes_at rates p).pair
pair_of_nodes net rates p is below =
    let size : length (pairs_of rates) ≡ length rates = length-map rates (λ (r : PairRoutes). r.pair) in
    subst (λ (q : Pair). IsNodePair (node_count net) q) (get_or-map (λ (r : PairRoutes). r.pair) rates p no_routes no_pair below)
    (All-get_or (IsNodePair (node_count net)) (pairs_of rates) p no_pair (omega (arith, below, size)) is.pairs.nodes)
