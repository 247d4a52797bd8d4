-- One path of each pair among those that it has in a routing.
use Rattle.std.proofs.Common.{◌≡◌, ℕ, ◌+◌, ◌<◌, true, List, [], ◌∷◌, ◌++◌, length, map, get_or, sym, ◌∙◌, subst}
use Rattle.std.specs.Prelude.{IsTrue}
use Rattle.std.proofs.lemmas.List.{length-map, map_push}
use Rattle.std.proofs.lemmas.List.Elements.{All-get_or}
use Rattle.te_model.specs.declared.network.Network.{Network}
use Rattle.te_model.specs.declared.route.PairRoutes.{PairRoutes}
use Rattle.te_model.specs.declared.route.Path.{Path}
use Rattle.te_model.specs.Path.{destination_of, is_path, no_routes, routes_at, source_of}
use Rattle.te_model.specs.PathRouting.{IsPathRouting, IsPathSplit}
use Rattle.te_model.proofs.Choices.{pushed_each}
use Rattle.routing.specs.Merge.{no_path}
use Rattle.rate_sweeps.specs.Sweeps.{AreAmong, ArePathsOfPairs, links_in}

-- the paths of a routing lead from the sources of the pairs to their destinations
pub ways_among : (net : Network) (routes : List PairRoutes) (paths : List (List ℕ)) → IsPathRouting net routes → length paths ≡ length routes → AreAmong routes paths →
    ArePathsOfPairs net routes paths
ways_among net routes paths splits count among = record {
  count = count;
  each = λ p below.
      let (k, inside, at) = among p below in
      let split = All-get_or (IsPathSplit net) routes p no_routes below splits in
      subst (λ (l : List ℕ). is_path net (source_of routes p) (destination_of routes p) l ≡ true) at
      (All-get_or (λ s. IsTrue (is_path net (source_of routes p) (destination_of routes p) s.links)) (routes_at routes p).paths k no_path inside split.paths);
}

-- the path of one pair more
pub each_more : (P : ℕ → List ℕ → Type 0) (list : List Path) (path : Path) (n : ℕ) → length list ≡ n →
    ((p : ℕ) → p < n → P p (get_or (map links_in list) p [])) → P n path.links → (p : ℕ) → p < n + 1 → P p (get_or (map links_in (list ++ path ∷ [])) p [])
each_more P list path n count old new p below =
    subst (λ (l : List (List ℕ)). P p (get_or l p [])) (sym (map_push links_in list path))
    (pushed_each P (map links_in list) path.links [] n (length-map list links_in ∙ count) old new p below)
