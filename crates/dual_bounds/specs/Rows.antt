-- Rows of distances from the sources of pairs, and brackets that bound the utilisation of every routing of a matrix.
use Rattle.std.specs.Prelude.{◌≡◌, ℕ, ◌^◌, ◌≤◌, Bool, List, All, filter, map, slice_index, ◌==◌}
use Rattle.std.specs.List.{list_any, range_with_len}
use Rattle.te_model.specs.declared.network.Network.{Network}
use Rattle.te_model.specs.declared.route.PairRoutes.{PairRoutes}
use Rattle.te_model.specs.declared.certificate.Row.{Row}
use Rattle.te_model.specs.declared.bracket.Bracket.{Bracket}
use Rattle.te_model.specs.Network.{node_count}
use Rattle.te_model.specs.Path.{source_of, destination_of}
use Rattle.te_model.specs.Certificate.{row_of}
use Rattle.shortest_path.specs.Paths.{ArePotentials}
use Rattle.shortest_path.specs.Pairs.{ArePairDistances}
use Rattle.dual_bounds.specs.Dual.{unit_lengths, IsDualBound}

-- the least sum of lengths from its source to its destination, for each pair
abbrev pub AreDistancesUnder : Network → List PairRoutes → List ℕ → (ℕ → ℕ) → Type 0
AreDistancesUnder net routes lengths distance = ArePairDistances net lengths routes distance

-- whether some pair sends from node i
abbrev pub sends_from : List PairRoutes → ℕ → Bool
sends_from routes i = list_any (λ r. r.pair.src == i) routes

-- the nodes from which some pair sends, ascending
abbrev pub sources_of : Network → List PairRoutes → List ℕ
sources_of net routes = filter (sends_from routes) (range_with_len 0 (node_count net))

-- a row for each of the sources, in order, with its potentials
pub record AreSourceRows (net : Network) (lengths sources : List ℕ) (rows : List Row) : Type 0 where
  pub sources_are : map (λ r. r.source) rows ≡ sources
  pub potentials_are : All (λ r. ArePotentials net lengths r.source r.potential) rows

-- what the row of source i says of node v
abbrev pub potential_in : List Row → ℕ → ℕ → ℕ
potential_in rows i v = slice_index (row_of rows i).potential v

-- what the row of its source says of the destination of pair p
abbrev pub distance_by : List Row → List PairRoutes → ℕ → ℕ
distance_by rows routes p = potential_in rows (source_of routes p) (destination_of routes p)

-- A bracket for every routing of the matrix. The row of a source starts at 0 and rises along each link by its length at most;
-- the distance of a pair is what the row of its source says of its destination.
pub record IsBracket (net : Network) (routes : List PairRoutes) (demand : List ℕ) (b : Bracket) : Type 0 where
  pub rows_are : AreSourceRows net b.lengths (sources_of net routes) b.rows
  pub small : All (λ r. All (λ x. x ≤ 2 ^ 36) r.potential) b.rows
  pub hops : ℕ → ℕ
  pub hops_are : AreDistancesUnder net routes (unit_lengths net) hops
  pub bound : IsDualBound net routes demand (distance_by b.rows routes) hops b
