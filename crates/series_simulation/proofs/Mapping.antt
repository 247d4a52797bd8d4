-- A routing of a part of a network, by the numbers of the whole network, is a routing of the whole network.
use Rattle.std.proofs.Common.{◌≡◌, ℕ, ◌<◌, ◌≤◌, true, ◌&&◌, List, [], ◌∷◌, length, map, All, arith, refl, ap, sym, subst, ◌∙◌, ◌==◌, nat_lt, slice_index}
use Rattle.std.specs.Prelude.{IsTrue}
use Rattle.std.proofs.lemmas.Bool.{and_from, and_parts, eq-eqb, lt-ltb}
use Rattle.std.proofs.lemmas.List.{length-map}
use Rattle.std.proofs.lemmas.List.Elements.{All-get_or, All-map, All-weaker}
use Rattle.te_model.specs.declared.network.Link.{Link}
use Rattle.te_model.specs.declared.network.Network.{Network}
use Rattle.te_model.specs.declared.route.PathShare.{PathShare}
use Rattle.te_model.specs.declared.route.PairRoutes.{PairRoutes}
use Rattle.te_model.specs.Network.{link_at, link_count, head_of, tail_of}
use Rattle.te_model.specs.Path.{chains, is_distinct, is_path, nodes_visited}
use Rattle.te_model.specs.PathRouting.{IsPathRouting, IsPathSplit}
use Rattle.te_model.proofs.SimplePaths.{first_link, path_links}
use Rattle.routing.specs.Routes.{HasFewPaths}
use Rattle.local_recovery.specs.Rates.{pairs_of}
use Rattle.series_simulation.specs.OriginalLinks.{original_path, original_pair, original_routes, HasLinksBelow, HavePathsBelow}
use Rattle.series_simulation.proofs.Order.{Ascends, paths_ascend-back, total_weight-back}

-- the links of the part are those of the whole network with these numbers
pub record IsPartOf (part whole : Network) (origin : List ℕ) : Type 0 where
  pub count : link_count part ≡ length origin
  pub inside : All (λ h. h < link_count whole) origin
  pub ascending : Ascends origin
  pub same : (h : ℕ) → h < link_count part → link_at part h ≡ link_at whole (slice_index origin h)

chains-back : (part whole : Network) (origin : List ℕ) (s t : ℕ) (links : List ℕ) → IsPartOf part whole origin →
    chains part s t links ≡ true → chains whole s t (map (slice_index origin) links) ≡ true
chains-back part whole origin s t [] of chain = chain
chains-back part whole origin s t (h ∷ hs) of chain =
    let first = first_link part s t h hs chain in
    let g = slice_index origin h in
    let tail : tail_of whole g ≡ s = sym (ap (λ (l : Link). l.tail) (of.same h first.inside)) ∙ first.from in
    let head : head_of part h ≡ head_of whole g = ap (λ (l : Link). l.head) (of.same h first.inside) in
    let below : g < link_count whole =
    All-get_or (λ (k : ℕ). k < link_count whole) origin h 0 (omega (arith, first.inside, of.count)) of.inside
    in
    let rest = map (slice_index origin) hs in
    and_from (nat_lt g (link_count whole) && tail_of whole g == s) (chains whole (head_of whole g) t rest)
    (and_from (nat_lt g (link_count whole)) (tail_of whole g == s) (lt-ltb g (link_count whole) below) (eq-eqb (tail_of whole g) s tail))
    (subst (λ (v : ℕ). chains whole v t rest ≡ true) head (chains-back part whole origin (head_of part h) t hs of first.rest))

visited-back : (part whole : Network) (origin : List ℕ) (s t : ℕ) (links : List ℕ) → IsPartOf part whole origin →
    chains part s t links ≡ true → nodes_visited whole s (map (slice_index origin) links) ≡ nodes_visited part s links
visited-back part whole origin s t [] of chain = refl
visited-back part whole origin s t (h ∷ hs) of chain =
    let first = first_link part s t h hs chain in
    let head : head_of part h ≡ head_of whole (slice_index origin h) = ap (λ (l : Link). l.head) (of.same h first.inside) in
    ap (λ (vs : List ℕ). s ∷ vs)
    (ap (λ (v : ℕ). nodes_visited whole v (map (slice_index origin) hs)) (sym head) ∙ visited-back part whole origin (head_of part h) t hs of first.rest)

is_path-back : (part whole : Network) (origin : List ℕ) (s t : ℕ) (links : List ℕ) → IsPartOf part whole origin →
    is_path part s t links ≡ true → is_path whole s t (map (slice_index origin) links) ≡ true
is_path-back part whole origin s t links of path =
    let new = map (slice_index origin) links in
    let both = and_parts (chains part s t links) (is_distinct (nodes_visited part s links)) path in
    and_from (chains whole s t new) (is_distinct (nodes_visited whole s new)) (chains-back part whole origin s t links of both.0)
    (ap is_distinct (visited-back part whole origin s t links of both.0) ∙ both.1)

-- the links of paths of the part are among those that have numbers in the whole network
links_below : (part whole : Network) (origin : List ℕ) (r : PairRoutes) → IsPartOf part whole origin → IsPathSplit part r → HavePathsBelow (length origin) r
links_below part whole origin r of split =
    All-weaker (λ (s : PathShare). IsTrue (is_path part r.pair.src r.pair.dst s.links)) (HasLinksBelow (length origin))
    (λ s path. subst (λ (n : ℕ). All (λ h. h < n) s.links) of.count (path_links part r.pair.src r.pair.dst s.links path)) r.paths split.paths

pub routes_below : (part whole : Network) (origin : List ℕ) (routes : List PairRoutes) → IsPartOf part whole origin → IsPathRouting part routes →
    All (HavePathsBelow (length origin)) routes
routes_below part whole origin routes of routing =
    All-weaker (IsPathSplit part) (HavePathsBelow (length origin)) (λ r split. links_below part whole origin r of split) routes routing

split-back : (part whole : Network) (origin : List ℕ) (r : PairRoutes) → IsPartOf part whole origin → IsPathSplit part r → IsPathSplit whole (original_pair origin r)
split-back part whole origin r of split = record {
  paths = All-map (λ (s : PathShare). IsTrue (is_path whole r.pair.src r.pair.dst s.links)) (original_path origin) r.paths
      (All-weaker (λ (s : PathShare). IsTrue (is_path part r.pair.src r.pair.dst s.links))
      (λ (s : PathShare). IsTrue (is_path whole r.pair.src r.pair.dst (map (slice_index origin) s.links)))
      (λ s path. is_path-back part whole origin r.pair.src r.pair.dst s.links of path) r.paths split.paths);
  distinct = paths_ascend-back origin r.paths of.ascending (links_below part whole origin r of split) split.distinct;
  weights = All-map (λ (s : PathShare). 1 ≤ s.weight) (original_path origin) r.paths split.weights;
  whole = total_weight-back origin r.paths ∙ split.whole;
}

pub routing-back : (part whole : Network) (origin : List ℕ) (routes : List PairRoutes) → IsPartOf part whole origin → IsPathRouting part routes →
    IsPathRouting whole (original_routes origin routes)
routing-back part whole origin routes of routing =
    All-map (IsPathSplit whole) (original_pair origin) routes
    (All-weaker (IsPathSplit part) (λ (r : PairRoutes). IsPathSplit whole (original_pair origin r)) (λ r split. split-back part whole origin r of split) routes routing)

-- the pairs, and how many paths each has, stay
pub pairs-back : (origin : List ℕ) (routes : List PairRoutes) → pairs_of (original_routes origin routes) ≡ pairs_of routes
pairs-back origin [] = refl
pairs-back origin (r ∷ rs) = ap (λ ps. r.pair ∷ ps) (pairs-back origin rs)

pub few-back : (origin : List ℕ) (limit : ℕ) (routes : List PairRoutes) → HasFewPaths limit routes → HasFewPaths limit (original_routes origin routes)
few-back origin limit routes few =
    All-map (λ (r : PairRoutes). length r.paths ≤ limit) (original_pair origin) routes
    (All-weaker (λ (r : PairRoutes). length r.paths ≤ limit) (λ (r : PairRoutes). length (map (original_path origin) r.paths) ≤ limit)
    (λ r is. omega (arith, is, length-map r.paths (original_path origin))) routes few)
