-- Twice the lengths make twice the distances.
use Rattle.std.proofs.Common.{◌≡◌, ℕ, ◌*◌, List, [], ◌∷◌, arith, slice_index}
use Rattle.shortest_path.specs.Laws.{DistancesDouble}
use Rattle.shortest_path.specs.Paths.{sum_along}

sum_doubles : (old new : List ℕ) → ((h : ℕ) → slice_index new h ≡ 2 * slice_index old h) → (links : List ℕ) →
    sum_along new links ≡ 2 * sum_along old links
sum_doubles old new each [] = omega arith
sum_doubles old new each (h ∷ hs) = omega (arith, each h, sum_doubles old new each hs)

pub distance_doubles : DistancesDouble
distance_doubles net old new each s t d ((p, path, sum), least) = (
  (p, path, omega (arith, sum_doubles old new each p, sum)),
  λ links chain. omega (arith, sum_doubles old new each links, least links chain),
)
