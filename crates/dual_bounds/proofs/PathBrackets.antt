-- A routing has a bracket for every split over the paths of a fixed routing.
use Rattle.std.proofs.Common.{inl, inr, ◌≡◌, ℕ, suc, ◌<◌, ◌≤◌, List, [], ◌∷◌, length, slice_index, arith, refl, min}
use Rattle.std.proofs.lemmas.Bool.{cases_lt}
use Rattle.std.proofs.lemmas.List.Elements.{All-cons, All-get_or, All-nil, All-weaker}
use Rattle.te_model.specs.declared.network.Network.{Network}
use Rattle.te_model.specs.declared.route.PathShare.{PathShare}
use Rattle.te_model.specs.declared.route.PairRoutes.{PairRoutes}
use Rattle.te_model.specs.Path.{no_routes, routes_at}
use Rattle.te_model.specs.PathRouting.{IsPathRouting, IsPathSplit}
use Rattle.te_model.proofs.Choices.{list_exists}
use Rattle.routing.specs.Utilisation.{parts}
use Rattle.routing.proofs.Splits.{split_some}
use Rattle.shortest_path.specs.Paths.{sum_along}
use Rattle.dual_bounds.specs.Dual.{unit_lengths, IsBoundOf}
use Rattle.dual_bounds.specs.GivenPaths.{AreShortest, IsShortest}
use Rattle.dual_bounds.specs.Laws.{BracketsOnPathsExist}
use Rattle.dual_bounds.proofs.Choosing.{choice_first}
use Rattle.dual_bounds.proofs.PathBounds.{has_low, is_bracket, is_lower, keeps_none, shortests_unique}
use Rattle.dual_bounds.proofs.UnitBrackets.{unit_bracket, unit_bound_of}

-- the lesser of the sum along a path and the least one along the others
shortest_with : (lengths : List ℕ) (s : PathShare) (paths : List PathShare) (d : ℕ) → IsShortest lengths paths d →
    IsShortest lengths (s ∷ paths) (min (sum_along lengths s.links) d)
shortest_with lengths s paths d is =
    let x = sum_along lengths s.links in
    record {
      reached = elim (cases_lt x d) [
        | inl less ↦ (0, s, omega arith, refl, omega (arith, less))
        | inr more ↦ let (k, t, inside, at, sum) = is.reached in (suc k, t, omega (arith, inside), at, omega (arith, sum, more))
      ];
      least = All-cons (λ (t : PathShare). min x d ≤ sum_along lengths t.links) s paths (omega arith)
          (All-weaker (λ (t : PathShare). d ≤ sum_along lengths t.links) (λ (t : PathShare). min x d ≤ sum_along lengths t.links)
          (λ t le. omega (arith, le)) paths is.least);
    }

-- of some paths there is a least sum
shortest_exists : (lengths : List ℕ) (paths : List PathShare) → 0 < length paths → (d : ℕ) × IsShortest lengths paths d
shortest_exists lengths [] some = absurd (omega (arith, some))
shortest_exists lengths (s ∷ []) some = (
  sum_along lengths s.links,
  record {
    reached = (0, s, omega arith, refl, refl);
    least = All-cons (λ (t : PathShare). sum_along lengths s.links ≤ sum_along lengths t.links) s [] (omega arith)
        (All-nil (λ (t : PathShare). sum_along lengths s.links ≤ sum_along lengths t.links));
  },
)
shortest_exists lengths (s ∷ t ∷ ts) some =
    let (d, is) = shortest_exists lengths (t ∷ ts) (omega arith) in
    (min (sum_along lengths s.links) d, shortest_with lengths s (t ∷ ts) d is)

-- the pairs of a path routing have their least sums
shortests_exist : (net : Network) (routes : List PairRoutes) (lengths : List ℕ) → IsPathRouting net routes →
    (distances : List ℕ) × (length distances ≡ length routes) × ((p : ℕ) → p < length routes → IsShortest lengths (routes_at routes p).paths (slice_index distances p))
shortests_exist net routes lengths routing =
    list_exists (λ p d. IsShortest lengths (routes_at routes p).paths d) 0 (length routes)
    (λ p below. shortest_exists lengths (routes_at routes p).paths
    (split_some net (routes_at routes p) (All-get_or (IsPathSplit net) routes p no_routes below routing)))

pub brackets_on_paths_exist : BracketsOnPathsExist
brackets_on_paths_exist net fixed routes demand formed routing count few demands =
    let n = length fixed in
    let most = parts net routes demand in
    let unit = unit_lengths net in
    let (distances, _, are) = shortests_exist net fixed unit routing in
    let b = unit_bracket net n demand most (slice_index distances) [] in
    let of : IsBoundOf net n demand most (AreShortest fixed) b = unit_bound_of net n demand most (AreShortest fixed) (slice_index distances) [] are in
    let low = has_low net fixed demand most b formed routing few demands of in
    let choice = choice_first net n demand most (AreShortest fixed) keeps_none b (shortests_unique fixed) refl of refl low in (
      b,
      is_bracket net fixed routes demand (unit ∷ []) b formed count choice,
      is_lower net fixed demand most b formed routing of,
      low,
    )
