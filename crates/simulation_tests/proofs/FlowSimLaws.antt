-- The routing of the tests is one of its network, and what is left of it are rates.
use Rattle.std.proofs.Common.{nat_eq, ◌≡◌, ◌≤◌, List, [], ◌∷◌, length, arith, refl, subst, sym, Result, Ok, Err}
use Rattle.std.specs.Prelude.{IfOk}
use Rattle.std.proofs.lemmas.List.Elements.{All-nil, All-cons}
use Rattle.te_model.specs.declared.route.PairRoutes.{PairRoutes}
use Rattle.te_model.specs.declared.network.Network.{Network}
use Rattle.te_model.specs.Network.{node_count}
use Rattle.te_model.specs.Pairs.{IsNodePair}
use Rattle.te_model.specs.PathRouting.{IsPathRouting}
use Rattle.routing.specs.Routes.{HasFewPaths}
use Rattle.local_recovery.specs.declared.rates.Recovered.{Recovered}
use Rattle.local_recovery.specs.Rates.{pairs_of, ArePairs, HasPathsOf, IsRates}
use Rattle.local_recovery.specs.Spread.{IsSublist}
use Rattle.sample_networks.specs.Literals.{pair_of, routes_of, share_of}
use Rattle.sample_networks.specs.Networks.{four_nodes}
use Rattle.sample_networks.proofs.PathRoutings.{path_routing}

abbrev two_halves : PairRoutes
two_halves = routes_of 0 1 (share_of (0 ∷ []) 500000 ∷ share_of (1 ∷ 2 ∷ []) 500000 ∷ [])

-- half of the demand from s to t on the straight link, and half over x
abbrev pub two_ways : List PairRoutes
two_ways = two_halves ∷ []

pub two_ways_routing : IsPathRouting four_nodes two_ways
two_ways_routing = path_routing four_nodes two_ways refl

pub two_ways_few : HasFewPaths 4096 two_ways
two_ways_few = All-cons (λ (r : PairRoutes). length r.paths ≤ 4096) two_halves [] (omega arith) (All-nil (λ (r : PairRoutes). length r.paths ≤ 4096))

pub there_pairs : ArePairs four_nodes (pair_of (0, 1) ∷ [])
there_pairs = record {
  nodes = All-cons (IsNodePair (node_count four_nodes)) (pair_of (0, 1)) [] (record { src = omega arith; dst = omega arith }) (All-nil (IsNodePair (node_count four_nodes)));
  ascending = λ k below. absurd (omega arith);
}

pub there_of_both : IsSublist (pair_of (0, 1) ∷ []) (pair_of (0, 1) ∷ pair_of (1, 0) ∷ [])
there_of_both = (λ q. nat_eq q.src 0, refl)

-- rates over this pair with paths of the network are rates of it
pub there_rates : {E : Type 0} (net : Network) (left : Result Recovered E) → net ≡ four_nodes → IfOk left (λ r. pairs_of r.routes ≡ pair_of (0, 1) ∷ []) →
    IfOk left (λ r. HasPathsOf net r.routes) → IfOk left (λ r. HasFewPaths 4096 r.routes) → IfOk left (λ r. IsRates net r.routes)
there_rates net (Ok r) is pairs paths few = record {
  pairs = subst (λ n. ArePairs n (pairs_of r.routes)) (sym is) (subst (ArePairs four_nodes) (sym pairs) there_pairs);
  paths = paths;
  few = few;
}
there_rates net (Err e) is pairs paths few = tt
