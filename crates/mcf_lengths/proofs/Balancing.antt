-- What the routing of the rounds and the candidates have together, and where the pairs of a routing end.
use Rattle.std.proofs.Common.{inl, inr, ℕ, suc, ◌+◌, ◌≤◌, ◌<◌, List, [], ◌∷◌, ◌++◌, length, get_or, arith, ap, sym, ◌∙◌, subst}
use Rattle.std.proofs.lemmas.List.{get_or-map, length-append}
use Rattle.te_model.specs.declared.network.Network.{Network}
use Rattle.te_model.specs.declared.route.Pair.{Pair}
use Rattle.te_model.specs.declared.route.PathShare.{PathShare}
use Rattle.te_model.specs.declared.route.PairRoutes.{PairRoutes}
use Rattle.te_model.specs.Laws.{PairsJoinNodes}
use Rattle.te_model.specs.Network.{node_count}
use Rattle.te_model.specs.Path.{no_routes, routes_at}
use Rattle.routing.specs.Merge.{HasLinks}
use Rattle.routing.specs.Routes.{HasFewPaths, IsRoutingOf}
use Rattle.scheme.specs.Fixed.{IsRoutingBy}
use Rattle.scheme.specs.Reach.{ArePairsOf}
use Rattle.routing.proofs.EvenSplits.{even_few}
use Rattle.routing.proofs.InOrder.{routes_count}
use Rattle.routing.proofs.OwnPaths.{has_front}
use Rattle.k_paths.specs.Even.{IsEvenSplit}
use Rattle.local_search.specs.Moves.{HaveFewTogether}

has_back : (xs ys : List PathShare) (links : List ℕ) → HasLinks ys links → HasLinks (xs ++ ys) links
has_back [] ys links has = has
has_back (x ∷ xs) ys links has =
    let (k, below, at) = has_back xs ys links has in
    (suc k, omega (arith, below), at)

-- a pair has no more candidates than least paths are asked for
candidates_few : (k : ℕ) (net : Network) (pairs : List Pair) (routes : List PairRoutes) → IsRoutingBy (IsEvenSplit k) 32 net pairs routes → HasFewPaths k routes
candidates_few k net pairs routes by = λ p d below.
    let (order, least, mix) = by.by_rule p d below in
    omega (arith, even_few order _ mix, least.few)

-- the paths of two routings of the same pairs are no more than both limits together
pub few_together : (net : Network) (pairs : List Pair) (first k : ℕ) (start candidates : List PairRoutes) →
    IsRoutingOf net pairs start → HasFewPaths first start → IsRoutingBy (IsEvenSplit k) 32 net pairs candidates →
    HaveFewTogether (first + k) start candidates
few_together net pairs first k start candidates is few by = λ p inside.
    let xs = (routes_at start p).paths in
    let ys = (routes_at candidates p).paths in
    let there : p < length candidates = omega (arith, inside, routes_count pairs start is.in_order, routes_count pairs candidates by.routing.in_order) in
    let own = few p no_routes inside in
    let other = candidates_few k net pairs candidates by p no_routes there in (
      xs ++ ys,
      omega (arith, length-append xs ys, own, other),
      λ links either. elim either [ inl has ↦ has_front xs ys links has | inr has ↦ has_back xs ys links has ],
    )

-- the pairs of a routing are pairs of nodes
pub pairs_join_nodes : (net : Network) (pairs : List Pair) (routes : List PairRoutes) → ArePairsOf net pairs → IsRoutingOf net pairs routes → PairsJoinNodes net routes
pairs_join_nodes net pairs routes are is = λ p inside.
    let there : p < length pairs = omega (arith, inside, routes_count pairs routes is.in_order) in
    let same = sym (get_or-map (λ (r : PairRoutes). r.pair) routes p no_routes no_routes.pair inside) ∙ ap (λ (l : List Pair). get_or l p no_routes.pair) is.in_order in
    let pair = are.each p no_routes.pair there in
    (subst (λ (q : Pair). q.src < node_count net) (sym same) pair.src_inside, subst (λ (q : Pair). q.dst < node_count net) (sym same) pair.dst_inside)
