-- The orders of searches where one of them is another.
use Rattle.std.proofs.Common.{◌≡◌, ℕ, ◌<◌, ◌≤◌, List, length, arith}
use Rattle.std.specs.Prelude.{All}
use Rattle.std.proofs.Math.ListN.{set}
use Rattle.std.proofs.lemmas.List.{length-set}
use Rattle.std.proofs.lemmas.List.Elements.{All-set}

-- there are as many, and each has so many nodes
pub orders_set : (orders : List ℕ) (place new nodes : ℕ) → 1 ≤ length orders → All (λ o. o ≡ nodes) orders → place < length orders → new ≡ nodes →
    (1 ≤ length (set orders place new)) × All (λ o. o ≡ nodes) (set orders place new)
orders_set orders place new nodes some each inside same = (omega (arith, length-set orders place new, some), All-set (λ o. o ≡ nodes) orders place new same each)
