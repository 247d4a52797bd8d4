-- The order of lists of links.
use Rattle.std.proofs.Common.{inl, inr, ℕ, List, ◌++◌, arith}
use Rattle.te_model.proofs.ListOrder.{list_below-append, list_below-irrefl}
use Rattle.shortest_path.specs.Paths.{IsBelow}
pub use Rattle.shortest_path.proofs.Order.{below-cases, below-trans}
use Rattle.shortest_path.proofs.Walks.{sum_along-append}

pub below-append : (lengths p x y : List ℕ) → IsBelow lengths x y → IsBelow lengths (p ++ x) (p ++ y)
below-append lengths p x y below = elim below [
  | inl lt ↦ inl (omega (arith, lt, sum_along-append lengths p x, sum_along-append lengths p y))
  | inr same ↦ inr (omega (arith, same.0, sum_along-append lengths p x, sum_along-append lengths p y), list_below-append p x y same.1)
]

pub below-irrefl : (lengths x : List ℕ) → IsBelow lengths x x → ⊥
below-irrefl lengths x below = elim below [ inl lt ↦ omega (arith, lt) | inr same ↦ list_below-irrefl x same.1 ]
