-- Marks of the nodes that are sources.
use Rattle.std.specs.Prelude.{◌≡◌, ℕ, ◌<◌, Bool, true, false, IsTrue, List, length, slice_index_or}
use Rattle.te_model.specs.declared.route.PairRoutes.{PairRoutes}
use Rattle.te_model.specs.declared.demand.DemandSet.{DemandSet}
use Rattle.te_model.specs.Path.{source_of}
use Rattle.best_blocks.specs.Best.{needs_row, IsSource}

-- a mark for each node: on sources of pairs that need a row alone, and on each of the first n pairs' sources
pub record AreSourceMarks (nodes n : ℕ) (routes : List PairRoutes) (set : DemandSet) (shares : ℕ → ℕ) (marks : List Bool) : Type 0 where
  pub count : length marks ≡ nodes
  pub marked : (i : ℕ) → slice_index_or marks i false ≡ true → IsSource routes set shares i
  pub complete : (p : ℕ) → p < n → IsTrue (needs_row set (shares p)) → slice_index_or marks (source_of routes p) false ≡ true
