use Rattle.std.proofs.Common.{◌≡◌, ◌≤◌, ◌^◌, List, [], ◌∷◌, length, arith, refl, sym, subst}
use Rattle.std.proofs.lemmas.List.Elements.{All-nil, All-cons}
use Rattle.te_model.specs.declared.route.PairRoutes.{PairRoutes}
use Rattle.routing.specs.Routes.{AreDemands, IsRoutingOf}
use Rattle.routing.proofs.InOrder.{routes_count}
use Rattle.sample_networks.specs.Literals.{pair_of}
use Rattle.sample_networks.specs.Networks.{parallel_links}
use Rattle.scheme_tests.proofs.local_search_tests.parts.Goals as goal

-- the routing has one pair
count : (routes : List PairRoutes) → IsRoutingOf parallel_links (pair_of (0, 1) ∷ []) routes → length routes ≡ 1
count routes own = routes_count (pair_of (0, 1) ∷ []) routes own.in_order

forty : AreDemands 1 (40 ∷ [])
forty = record { count = refl; small = All-cons (λ d. d ≤ 2 ^ 32) 40 [] (omega arith) (All-nil (λ d. d ≤ 2 ^ 32)) }

pub parts-requires-clause-pairs : goal.parts-requires-clause-pairs
parts-requires-clause-pairs c =
    let one = count _ c.requires.routing in
    omega (arith, one)

pub parts-requires-clause-demands : goal.parts-requires-clause-demands
parts-requires-clause-demands c =
    let one = count _ c.requires.routing in
    subst (λ n. AreDemands n c.args.commodities.now.matrix.demand) (sym one) (subst (AreDemands 1) (sym c.requires.matrix) forty)
