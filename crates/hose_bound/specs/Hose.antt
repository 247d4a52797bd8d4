-- Bounds on what each node sends and receives, and what they say of a routing (the hose model; Duffield and others, 1999).
use Rattle.std.specs.Prelude.{ℕ, ◌+◌, ◌*◌, ◌<◌, ◌≤◌, List, length, ◌==◌, if◌then◌else◌}
use Rattle.te_model.specs.declared.network.Network.{Network}
use Rattle.te_model.specs.declared.route.PairRoutes.{PairRoutes}
use Rattle.te_model.specs.declared.units.TheConstants.{RATIO_UNIT, SHARE_UNIT}
use Rattle.te_model.specs.Counting.{sum_below}
use Rattle.te_model.specs.Network.{node_count, link_count, capacity_of}
use Rattle.te_model.specs.Path.{share, source_of, destination_of}
use Rattle.te_model.specs.Flow.{load}
use Rattle.te_model.specs.Laws.{PairsJoinNodes}

-- the demands of the pairs whose end this is
abbrev pub node_demand : List PairRoutes → (ℕ → ℕ) → (ℕ → ℕ) → ℕ → ℕ
node_demand routes end' demand i = sum_below (length routes) (λ p. if end' p == i then demand p else 0)

-- no node sends or receives more than this
pub record IsInHose (net : Network) (routes : List PairRoutes) (sent received demand : ℕ → ℕ) : Type 0 where
  pub sends : (i : ℕ) → i < node_count net → node_demand routes (source_of routes) demand i ≤ sent i
  pub receives : (i : ℕ) → i < node_count net → node_demand routes (destination_of routes) demand i ≤ received i

-- the inequalities of link e: the shares are covered by the numbers of their ends (H1), and the bound pays for these (H2)
pub record HoseHolds (net : Network) (routes : List PairRoutes) (sent received : ℕ → ℕ) (bound e : ℕ) (tails heads : ℕ → ℕ) : Type 0 where
  pub covers : (p : ℕ) → p < length routes → share routes p e ≤ tails (source_of routes p) + heads (destination_of routes p)
  pub pays : RATIO_UNIT * sum_below (node_count net) (λ i. sent i * tails i + received i * heads i) ≤ SHARE_UNIT * capacity_of net e * bound

-- no link is used above the bound, in millionths of its capacity, by any matrix within the hose
abbrev pub IsBounded : Network → List PairRoutes → (ℕ → ℕ) → (ℕ → ℕ) → ℕ → Type 0
IsBounded net routes sent received bound =
    (demand : ℕ → ℕ) → IsInHose net routes sent received demand → (e : ℕ) → e < link_count net →
    RATIO_UNIT * load (length routes) demand (share routes) e ≤ SHARE_UNIT * capacity_of net e * bound

abbrev pub HoseBounds : Type 0
HoseBounds =
    (net : Network) (routes : List PairRoutes) (sent received : ℕ → ℕ) (bound : ℕ) (tails heads : ℕ → ℕ → ℕ) → PairsJoinNodes net routes →
    ((e : ℕ) → e < link_count net → HoseHolds net routes sent received bound e (tails e) (heads e)) →
    IsBounded net routes sent received bound
