-- The rows of a block: the potentials of the marked nodes.
use Rattle.std.specs.Prelude.{◌≡◌, ℕ, ◌<◌, true, Bool, IsTrue, List, Option, All, ◌==◌, map, unwrap_or}
use Rattle.std.specs.List.{list_any}
use Rattle.te_model.specs.declared.network.Network.{Network}
use Rattle.te_model.specs.declared.certificate.Row.{Row}
use Rattle.te_model.specs.Validity.{rows_ascend}
use Rattle.shortest_path.specs.Paths.{greatest, ArePotentials}
use Rattle.best_blocks.specs.Rows.{is_marked}

-- distances as potentials: for nodes out of reach the greatest of them
abbrev pub potentials_of : List (Option ℕ) → List ℕ
potentials_of distances = map (λ d. unwrap_or d (greatest distances)) distances

-- the potentials of exactly those of the first n nodes that are marked, ascending
pub record ArePotentialRows (n : ℕ) (net : Network) (weights : List ℕ) (marks : List Bool) (rows : List Row) : Type 0 where
  pub ascending : IsTrue (rows_ascend rows)
  pub potentials : All (λ r. ArePotentials net weights r.source r.potential) rows
  pub marked : All (λ r. (r.source < n) × (is_marked marks r.source ≡ true)) rows
  pub complete : (i : ℕ) → i < n → is_marked marks i ≡ true → IsTrue (list_any (λ r. r.source == i) rows)
