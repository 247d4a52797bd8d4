-- The least paths of the pairs, one after the other.
use Rattle.std.proofs.Common.{◌≡◌, ℕ, ◌+◌, ◌<◌, ◌≤◌, true, List, [], ◌∷◌, ◌++◌, Option, Some, All, length, get_or, map, arith, refl, ◌∙◌, subst}
use Rattle.std.specs.Prelude.{IsTrue}
use Rattle.std.proofs.lemmas.List.{get_or-map, length-map}
use Rattle.std.proofs.lemmas.List.Elements.{All-from_get_or, All-get_or}
use Rattle.te_model.specs.declared.network.Network.{Network}
use Rattle.te_model.specs.declared.route.Pair.{Pair}
use Rattle.te_model.specs.declared.route.Path.{Path}
use Rattle.te_model.specs.Network.{link_count}
use Rattle.te_model.specs.Path.{is_distinct, is_path}
use Rattle.te_model.proofs.Choices.{pushed_count, pushed_each}
use Rattle.te_model.proofs.SimplePaths.{path_links, path_links_once}
use Rattle.shortest_path.specs.Least.{IsLeastWalk}
use Rattle.shortest_path.specs.Links.{every_link}
use Rattle.shortest_path.specs.Paths.{IsLeastPath}
use Rattle.shortest_path.proofs.LeastSums.{all_open, least_path_of_walk}
use Rattle.scheme.specs.Reach.{pair_at}
use Rattle.mcf_lengths.specs.declared.paths.LeastWays.{LeastWays}
use Rattle.rate_sweeps.specs.Sweeps.{links_in}
use Rattle.mcf_lengths.specs.Rounds.{AreLeastPaths}
use Rattle.mcf_lengths.specs.Ways.{AreLeastWays}

-- the least paths of the first p pairs
pub record PathsSoFar (net : Network) (lengths : List ℕ) (pairs : List Pair) (p : ℕ) (paths : List (List ℕ)) : Type 0 where
  pub count : length paths ≡ p
  pub each : (q : ℕ) → q < p → IsLeastPath net lengths (pair_at pairs q).src (pair_at pairs q).dst (Some (get_or paths q []))

pub paths_none : (net : Network) (lengths : List ℕ) (pairs : List Pair) → PathsSoFar net lengths pairs 0 []
paths_none net lengths pairs = record { count = refl; each = λ q below. absurd (omega arith) }

pub paths_more : (net : Network) (lengths : List ℕ) (pairs : List Pair) (p : ℕ) (paths : List (List ℕ)) (path : List ℕ) → PathsSoFar net lengths pairs p paths →
    IsLeastPath net lengths (pair_at pairs p).src (pair_at pairs p).dst (Some path) → PathsSoFar net lengths pairs (p + 1) (paths ++ path ∷ [])
paths_more net lengths pairs p paths path far is = record {
  count = pushed_count paths path p far.count;
  each = pushed_each (λ q l. IsLeastPath net lengths (pair_at pairs q).src (pair_at pairs q).dst (Some l)) paths path [] p far.count far.each is;
}

pub paths_done : (net : Network) (lengths : List ℕ) (pairs : List Pair) (p : ℕ) (paths : List (List ℕ)) → PathsSoFar net lengths pairs p paths →
    p ≡ length pairs → AreLeastPaths net lengths pairs paths
paths_done net lengths pairs p paths far done = record { count = far.count ∙ done; each = λ q below. far.each q (omega (arith, done, below)) }

-- what stands for a path that is not there
abbrev pub no_path : Path
no_path = record { links = [] }

-- each of them is a path
least_sound : (net : Network) (lengths : List ℕ) (pairs : List Pair) (paths : List Path) → AreLeastPaths net lengths pairs (map links_in paths) →
    (q : ℕ) → q < length paths → is_path net (pair_at pairs q).src (pair_at pairs q).dst (get_or paths q no_path).links ≡ true
least_sound net lengths pairs paths are q below =
    subst (λ l. is_path net (pair_at pairs q).src (pair_at pairs q).dst l ≡ true) (get_or-map links_in paths q no_path [] below)
    (are.each q (omega (arith, below, are.count, length-map paths links_in))).0

-- their links are links of the network, each once
pub least_links : (net : Network) (lengths : List ℕ) (pairs : List Pair) (paths : List Path) → AreLeastPaths net lengths pairs (map links_in paths) →
    All (λ p. All (λ h. h < link_count net) p.links) paths
least_links net lengths pairs paths are = All-from_get_or (λ (p : Path). All (λ h. h < link_count net) p.links) paths no_path (λ q below.
    path_links net (pair_at pairs q).src (pair_at pairs q).dst (get_or paths q no_path).links (least_sound net lengths pairs paths are q below))

pub least_distinct : (net : Network) (lengths : List ℕ) (pairs : List Pair) (paths : List Path) → AreLeastPaths net lengths pairs (map links_in paths) →
    All (λ p. IsTrue (is_distinct p.links)) paths
least_distinct net lengths pairs paths are = All-from_get_or (λ (p : Path). IsTrue (is_distinct p.links)) paths no_path (λ q below.
    path_links_once net (pair_at pairs q).src (pair_at pairs q).dst (get_or paths q no_path).links (least_sound net lengths pairs paths are q below))

-- the least walk along least ways is the least path
pub least_of_walk : (net : Network) (lengths : List ℕ) (s t : ℕ) (ways : LeastWays) (p : Option (List ℕ)) → AreLeastWays net lengths t ways →
    IsLeastWalk net lengths (every_link net) s t p → IsLeastPath net lengths s t p
least_of_walk net lengths s t ways p are least =
    least_path_of_walk net lengths (every_link net) s t p (all_open net)
    (λ h below. All-get_or (λ l. 1 ≤ l) lengths h 0 (omega (arith, are.count, below)) are.positive) least
