-- The links of paths of the network, and that a pair has a path.
use Rattle.std.proofs.Common.{◌≡◌, ℕ, ◌<◌, List, [], length, get_or, arith, sym, subst, All}
use Rattle.std.specs.Prelude.{IsTrue}
use Rattle.std.proofs.lemmas.List.Elements.{All-from_get_or, All-get_or, All-weaker}
use Rattle.te_model.specs.declared.network.Network.{Network}
use Rattle.te_model.specs.declared.route.PairRoutes.{PairRoutes}
use Rattle.te_model.specs.declared.route.PathShare.{PathShare}
use Rattle.te_model.specs.Network.{link_count}
use Rattle.te_model.specs.Path.{is_path, no_routes, routes_at}
use Rattle.te_model.specs.PathRouting.{IsPathRouting, IsPathSplit}
use Rattle.te_model.proofs.Chains.{path_links}
use Rattle.te_model.proofs.LentRoutes.{below_pairs, lent_paths}
use Rattle.routing.proofs.Splits.{split_some}
use Rattle.rate_sweeps.specs.Sweeps.{AreOnLinks, ArePathsOfPairs, HaveLinks}

-- paths of pairs run over links of the network
pub ways_on_links : (net : Network) (routes : List PairRoutes) (paths : List (List ℕ)) → ArePathsOfPairs net routes paths → AreOnLinks net paths
ways_on_links net routes paths ways = All-from_get_or (λ (links : List ℕ). All (λ h. h < link_count net) links) paths [] (λ p below.
    path_links net (routes_at routes p).pair.src (routes_at routes p).pair.dst (get_or paths p []) (ways.each p (omega (arith, below, ways.count))))

-- and so do the paths of a routing
pub split_on_links : (net : Network) (r : PairRoutes) → IsPathSplit net r → HaveLinks (link_count net) r.paths
split_on_links net r split =
    All-weaker (λ (s : PathShare). IsTrue (is_path net r.pair.src r.pair.dst s.links)) (λ (s : PathShare). All (λ h. h < link_count net) s.links)
    (λ s is. path_links net r.pair.src r.pair.dst s.links is) r.paths split.paths

-- the paths of a pair that was lent have links below as many as the network has, and there are some
pub lent_links : (net : Network) (routes list : List PairRoutes) (p m : ℕ) (item : PairRoutes) (paths : List PathShare) → IsPathRouting net routes → m ≡ link_count net →
    list ≡ routes → p < length list → paths ≡ (get_or list p item).paths → HaveLinks m paths
lent_links net routes list p m item paths routing count same below at =
    let split = All-get_or (IsPathSplit net) routes p no_routes (below_pairs routes list p same below) routing in
    subst (λ k. HaveLinks k paths) (sym count)
    (subst (HaveLinks (link_count net)) (sym (lent_paths routes list p item paths same below at)) (split_on_links net (routes_at routes p) split))

pub lent_some : (net : Network) (routes list : List PairRoutes) (p : ℕ) (item : PairRoutes) (paths : List PathShare) → IsPathRouting net routes →
    list ≡ routes → p < length list → paths ≡ (get_or list p item).paths → 0 < length paths
lent_some net routes list p item paths routing same below at =
    let split = All-get_or (IsPathSplit net) routes p no_routes (below_pairs routes list p same below) routing in
    subst (λ (l : List PathShare). 0 < length l) (sym (lent_paths routes list p item paths same below at)) (split_some net (routes_at routes p) split)
