-- The destinations of pairs, and the least ways to them.
use Rattle.std.specs.Prelude.{◌≡◌, ℕ, ◌<◌, Bool, true, List, [], length, slice_index_or}
use Rattle.te_model.specs.declared.network.Network.{Network}
use Rattle.te_model.specs.declared.route.Pair.{Pair}
use Rattle.te_model.specs.Marks.{is_marked}
use Rattle.te_model.specs.Network.{node_count}
use Rattle.shortest_path.specs.Least.{LeadsTo}
use Rattle.shortest_path.specs.Links.{every_link}
use Rattle.scheme.specs.Reach.{pair_at}
use Rattle.mcf_lengths.specs.declared.paths.LeastWays.{LeastWays}

-- the destination of each pair is marked
pub record MarksDestinations (net : Network) (pairs : List Pair) (marks : List Bool) : Type 0 where
  pub count : length marks ≡ node_count net
  pub each : (p : ℕ) → p < length pairs → is_marked marks (pair_at pairs p).dst ≡ true

-- what stands for ways that are not there
abbrev pub no_ways : LeastWays
no_ways = record { sums = []; firsts = [] }

-- the least sums of lengths to a node over all links, and the links with which the least ways there begin
abbrev pub AreLeastWays : Network → List ℕ → ℕ → LeastWays → Type 0
AreLeastWays net lengths node ways = LeadsTo net lengths (every_link net) node ways.sums ways.firsts

-- the least ways to each marked node
pub record AreWaysToward (net : Network) (lengths : List ℕ) (marks : List Bool) (ways : List LeastWays) : Type 0 where
  pub count : length ways ≡ node_count net
  pub each : (v : ℕ) → v < node_count net → is_marked marks v ≡ true → AreLeastWays net lengths v (slice_index_or ways v no_ways)
