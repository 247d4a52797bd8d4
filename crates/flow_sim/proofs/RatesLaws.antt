-- What the conditions of a step say in numbers.
use Rattle.std.proofs.Common.{◌≡◌, ◌⊎◌, ℕ, suc, ◌+◌, ◌*◌, ◌<◌, ◌≤◌, true, List, [], ◌∷◌, length, sum, arith, refl, ◌∙◌, inl, inr, ◌==◌, ◌||◌}
use Rattle.std.specs.Prelude.{All, slice_index_or}
use Rattle.std.proofs.lemmas.Bool.Decides.{nat_tests}
use Rattle.std.proofs.lemmas.List.{length-map}
use Rattle.std.proofs.lemmas.List.Elements.{All-get_or, All-weaker}
use Rattle.std.proofs.lemmas.List.Sums.{sum-map}
use Rattle.te_model.specs.declared.limits.TheConstants.{FORMAT_2}
use Rattle.te_model.specs.declared.network.Network.{Network}
use Rattle.te_model.specs.declared.route.PairRoutes.{PairRoutes}
use Rattle.te_model.specs.declared.route.PathShare.{PathShare}
use Rattle.te_model.specs.Network.{node_count, link_count, is_well_formed}
use Rattle.te_model.specs.Path.{no_routes, is_path, chains, is_distinct, nodes_visited}
use Rattle.te_model.proofs.ApportionLaws.{index_le_sum}
use Rattle.te_model.specs.Pairs.{no_pair, pair_at, IsNodePair}
use Rattle.te_model.proofs.Chains.{walk_links}
use Rattle.te_model.proofs.FewPairs.{ascending_few}
use Rattle.te_model.proofs.Tests.{and_true, list_all_at}
use Rattle.te_model.proofs.WellFormed.{few_nodes}
use Rattle.te_model.specs.declared.route.Pair.{Pair}
use Rattle.te_model.specs.declared.units.TheConstants.{SHARE_UNIT}
use Rattle.routing.specs.Split.{total_weight}
use Rattle.local_recovery.specs.Rates.{has_rates, have_rates, pairs_of, IsRates}
use Rattle.flow_sim.specs.Traffic.{paths_of, weights, CanSplit}

-- a number for each pair, which rises with the pairs
number_of : Pair → ℕ
number_of q = q.src * FORMAT_2.nodes + q.dst

number_rises : (p q : Pair) → p.dst < FORMAT_2.nodes → (p.src < q.src) ⊎ ((p.src ≡ q.src) × (p.dst < q.dst)) → number_of p < number_of q
unfolding number_of
number_rises p q small (inl less) = omega arith
number_rises p q small (inr same) = omega (arith, same.0, same.1)

number_small : (q : Pair) → q.src < FORMAT_2.nodes → q.dst < FORMAT_2.nodes → number_of q < FORMAT_2.nodes * FORMAT_2.nodes
unfolding number_of
number_small q src dst = omega arith

-- so there are at most as many as two nodes can be chosen
pub few_pairs : (net : Network) (rates : List PairRoutes) → is_well_formed net ≡ true → IsRates net rates →
    length rates ≤ FORMAT_2.nodes * FORMAT_2.nodes
few_pairs net rates formed is =
    let pairs = pairs_of rates in
    let few = few_nodes net formed in
    let nodes = λ (p : ℕ) (below : p < length pairs).
    All-get_or (IsNodePair (node_count net)) pairs p no_pair below is.pairs.nodes in
    let count : length pairs ≤ FORMAT_2.nodes * FORMAT_2.nodes =
    ascending_few (length pairs) (FORMAT_2.nodes * FORMAT_2.nodes) (λ p. number_of (pair_at pairs p))
    (λ p below. number_rises (pair_at pairs p) (pair_at pairs (suc p)) (let at = nodes p (omega arith) in omega (arith, at.dst)) (is.pairs.ascending p below))
    (λ p below. let at = nodes p below in number_small (pair_at pairs p) (omega (arith, at.src)) (omega (arith, at.dst))) in
    omega (arith, count, length-map rates (λ r. r.pair))

split_of : (paths : List PathShare) → length paths ≤ 4096 → (length paths == 0 || total_weight paths == SHARE_UNIT) ≡ true → CanSplit paths
split_of [] few test = (few, λ i below. absurd (omega arith), λ some. absurd (omega arith))
split_of (s ∷ ss) few test =
    let whole : total_weight (s ∷ ss) ≡ SHARE_UNIT = grind (arith, nat_tests) in
    let is : sum (weights (s ∷ ss)) ≡ SHARE_UNIT = sum-map (λ (x : PathShare). x.weight) (s ∷ ss) ∙ whole in
    (few, λ i below. omega (arith, index_le_sum (weights (s ∷ ss)) i, is), λ some. omega (arith, is))

pub can_split : (net : Network) (rates : List PairRoutes) → IsRates net rates → have_rates rates ≡ true →
    (p : ℕ) → p < length rates → CanSplit (paths_of rates p)
can_split net rates is split p below =
    split_of (paths_of rates p) (All-get_or (λ (r : PairRoutes). length r.paths ≤ 4096) rates p no_routes below is.few)
    (list_all_at has_rates rates p no_routes split refl)

-- the links of the paths are those of the network
pub links_stand : (net : Network) (rates : List PairRoutes) → IsRates net rates → (p : ℕ) → p < length rates →
    All (λ (s : PathShare). All (λ e. e < link_count net) s.links) (paths_of rates p)
links_stand net rates is p below =
    let routes = slice_index_or rates p no_routes in
    All-weaker (λ (s : PathShare). is_path net routes.pair.src routes.pair.dst s.links ≡ true) (λ (s : PathShare). All (λ e. e < link_count net) s.links)
    (λ s path. walk_links net routes.pair.src routes.pair.dst s.links
    (and_true (chains net routes.pair.src routes.pair.dst s.links) (is_distinct (nodes_visited net routes.pair.src s.links)) path).0)
    routes.paths
    (All-get_or (λ (r : PairRoutes). All (λ (s : PathShare). is_path net r.pair.src r.pair.dst s.links ≡ true) r.paths) rates p no_routes below is.paths)
