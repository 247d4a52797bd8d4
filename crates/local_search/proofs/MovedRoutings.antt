-- A move makes a routing of the same pairs.
use Rattle.std.proofs.Common.{inl, inr, ◌⊎◌, ◌≡◌, ℕ, ◌<◌, true, List, length, map, get_or, arith, refl, ap, sym, ◌∙◌, subst}
use Rattle.std.specs.Prelude.{IsTrue}
use Rattle.std.proofs.Math.ListN.{get_or-map}
use Rattle.std.proofs.lemmas.Bool.{cases_eq}
use Rattle.std.proofs.lemmas.List.Elements.{All-get_or, All-from_get_or}
use Rattle.te_model.specs.declared.network.Network.{Network}
use Rattle.te_model.specs.declared.route.Pair.{Pair}
use Rattle.te_model.specs.declared.route.PairRoutes.{PairRoutes}
use Rattle.te_model.specs.Path.{is_path, no_routes, routes_at}
use Rattle.te_model.specs.PathRouting.{IsPathRouting, IsPathSplit}
use Rattle.routing.specs.Merge.{HasLinks, links_at, no_path}
use Rattle.routing.proofs.InOrder.{same_count}
use Rattle.local_search.specs.Moves.{CanMove, IsMoved, UsesOnly}
use Rattle.local_search.proofs.Shifts.{shift_only, shift_total}

-- routes of the same pairs have the same pair at each place
pub same_pair : (xs ys : List PairRoutes) (p : ℕ) → map (λ r. r.pair) xs ≡ map (λ r. r.pair) ys → (routes_at xs p).pair ≡ (routes_at ys p).pair
same_pair xs ys p same =
    sym (get_or-map (λ (r : PairRoutes). r.pair) xs p no_routes)
    ∙ (ap (λ (l : List Pair). get_or l p no_routes.pair) same ∙ get_or-map (λ (r : PairRoutes). r.pair) ys p no_routes)

-- a path of a split is a path of the network
path_of : (net : Network) (routes : List PairRoutes) (p : ℕ) (pair : Pair) (links : List ℕ) → IsPathRouting net routes → p < length routes →
    (routes_at routes p).pair ≡ pair → HasLinks (routes_at routes p).paths links → is_path net pair.src pair.dst links ≡ true
path_of net routes p pair links routing below same (k, inside, at) =
    let r = routes_at routes p in
    let split = All-get_or (IsPathSplit net) routes p no_routes below routing in
    let here = All-get_or (λ s. IsTrue (is_path net r.pair.src r.pair.dst s.links)) r.paths k no_path inside split.paths in
    subst (λ (l : List ℕ). is_path net pair.src pair.dst l ≡ true) at
    (subst (λ (q : Pair). is_path net q.src q.dst (links_at r.paths k) ≡ true) same here)

-- the pair that the move changes keeps a split
pub moved_split : (net : Network) (routes candidates moved : List PairRoutes) (p k : ℕ) (to : List ℕ) (size : ℕ) →
    IsPathRouting net routes → IsPathRouting net candidates → map (λ r. r.pair) candidates ≡ map (λ r. r.pair) routes →
    CanMove routes candidates p k to size → IsMoved routes p k to size moved → IsPathSplit net (routes_at moved p)
moved_split net routes candidates moved p k to size routing others pairs can is = record {
  paths = All-from_get_or (λ s. IsTrue (is_path net pair.src pair.dst s.links)) (routes_at moved p).paths no_path (λ i below.
      sound (links_at (routes_at moved p).paths i) (shift_only _ _ _ _ _ (links_at (routes_at moved p).paths i) is.shifted (i, below, refl)));
  distinct = is.shifted.ascending;
  weights = is.shifted.positive;
  whole = shift_total _ _ _ _ _ is.shifted ∙ (All-get_or (IsPathSplit net) routes p no_routes can.pair routing).whole;
}
  where
    pair : Pair
    pair = (routes_at moved p).pair

    sound : (links : List ℕ) → HasLinks (routes_at routes p).paths links ⊎ (links ≡ to) → is_path net (routes_at moved p).pair.src (routes_at moved p).pair.dst links ≡ true
    sound links (inl old) = path_of net routes p (routes_at moved p).pair links routing can.pair (sym (same_pair moved routes p is.pairs)) old
    sound links (inr e) = subst (λ l. is_path net (routes_at moved p).pair.src (routes_at moved p).pair.dst l ≡ true) (sym e)
        (path_of net candidates p (routes_at moved p).pair to others (omega (arith, can.pair, same_count candidates routes pairs))
        (same_pair candidates routes p pairs ∙ sym (same_pair moved routes p is.pairs)) can.candidate)

pub moved_routing : (net : Network) (routes candidates moved : List PairRoutes) (p k : ℕ) (to : List ℕ) (size : ℕ) →
    IsPathRouting net routes → IsPathRouting net candidates → map (λ r. r.pair) candidates ≡ map (λ r. r.pair) routes →
    CanMove routes candidates p k to size → IsMoved routes p k to size moved → IsPathRouting net moved
moved_routing net routes candidates moved p k to size routing others pairs can is =
    All-from_get_or (IsPathSplit net) moved no_routes (λ q below. elim (cases_eq q p) [
      | inl e ↦ subst (λ n. IsPathSplit net (routes_at moved n)) (sym e) (moved_split net routes candidates moved p k to size routing others pairs can is)
      | inr apart ↦ subst (IsPathSplit net) (sym (is.others q apart))
          (All-get_or (IsPathSplit net) routes q no_routes (omega (arith, below, same_count moved routes is.pairs)) routing)
    ])

-- no path comes but those of before and candidates
pub moved_only : (before routes candidates moved : List PairRoutes) (p k : ℕ) (to : List ℕ) (size : ℕ) → UsesOnly before candidates routes →
    CanMove routes candidates p k to size → IsMoved routes p k to size moved → UsesOnly before candidates moved
moved_only before routes candidates moved p k to size only can is q links has = elim (cases_eq q p) [
  | inl e ↦
      let here : HasLinks (routes_at moved p).paths links = subst (λ n. HasLinks (routes_at moved n).paths links) e has in
      subst (λ n. HasLinks (routes_at before n).paths links ⊎ HasLinks (routes_at candidates n).paths links) (sym e)
      (go (shift_only _ _ _ _ _ links is.shifted here))
  | inr apart ↦ only q links (subst (λ (r : PairRoutes). HasLinks r.paths links) (is.others q apart) has)
]
  where
    go : HasLinks (routes_at routes p).paths links ⊎ (links ≡ to) → HasLinks (routes_at before p).paths links ⊎ HasLinks (routes_at candidates p).paths links
    go (inl old) = only p links old
    go (inr e) = inr (subst (HasLinks (routes_at candidates p).paths) (sym e) can.candidate)
