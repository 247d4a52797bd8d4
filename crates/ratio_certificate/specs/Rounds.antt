-- The rounds of a link: weights that grow on the least paths of the pairs that cost the link most (multiplicative weights;
-- Plotkin, Shmoys and Tardos, 1995).
use Rattle.std.specs.Prelude.{◌≡◌, ℕ, zero, suc, ◌+◌, ◌*◌, ◌/◌, ◌^◌, ◌<◌, ◌≤◌, All, IsTrue, List, Some, length, replicate, slice_index, if◌then◌else◌}
use Rattle.te_model.specs.declared.network.Network.{Network}
use Rattle.te_model.specs.declared.route.PairRoutes.{PairRoutes}
use Rattle.te_model.specs.Division.{quotient_up}
use Rattle.te_model.specs.Network.{link_count, capacity_of}
use Rattle.te_model.specs.Path.{has_number, source_of, destination_of, share}
use Rattle.shortest_path.specs.Paths.{IsDistance, IsLeastPath}
use Rattle.best_blocks.specs.Best.{IsGreatestQuotient}

-- the weights from which every certificate starts: 2^20 on each link
abbrev pub starting_weights : Network → List ℕ
starting_weights net = replicate (link_count net) (2 ^ 20)

-- the least capacity of the links of a path
pub record IsNarrowest (net : Network) (path : List ℕ) (least : ℕ) : Type 0 where
  pub bound : All (λ h. least ≤ capacity_of net h) path
  pub reached : (h : ℕ) × IsTrue (has_number path h) × (capacity_of net h ≡ least)

-- a weight with what a round adds on a path whose least capacity is this
abbrev pub raised_weight : ℕ → ℕ → ℕ → ℕ
raised_weight least capacity weight = weight + quotient_up (weight * least) (4 * capacity)

-- the weights of a path's links are raised, and no others
pub record AreRaised (net : Network) (path : List ℕ) (least : ℕ) (old new : List ℕ) : Type 0 where
  pub count : length new ≡ length old
  pub each : (h : ℕ) → h < length old →
      slice_index new h ≡ (if has_number path h then raised_weight least (capacity_of net h) (slice_index old h) else slice_index old h)

-- the next round's weights: those on the least path of the first pair with the greatest share by distance are raised
pub record IsNextRound (net : Network) (routes : List PairRoutes) (e : ℕ) (old new : List ℕ) : Type 0 where
  pub shares : ℕ → ℕ
  pub distance : ℕ → ℕ
  pub shares_are : (p : ℕ) → p < length routes → shares p ≡ share routes p e
  pub distances_are : (p : ℕ) → p < length routes → 0 < shares p →
      IsDistance net old (source_of routes p) (destination_of routes p) (Some (distance p))
  pub a : ℕ
  pub b : ℕ
  pub dearest : IsGreatestQuotient (length routes) shares distance a b
  pub path : List ℕ
  pub least_path : IsLeastPath net old (source_of routes dearest.pair) (destination_of routes dearest.pair) (Some path)
  pub least : ℕ
  pub narrowest : IsNarrowest net path least
  pub raised_are : AreRaised net path least old new

-- the weights of round k of link e, counted from 0
abbrev pub IsWeightRound : Network → List PairRoutes → ℕ → ℕ → List ℕ → Type 0
IsWeightRound net routes e zero weights = weights ≡ starting_weights net
IsWeightRound net routes e (suc k) weights = (before : List ℕ) × IsWeightRound net routes e k before × IsNextRound net routes e before weights

-- how great a weight of round k is at most
abbrev pub greatest_of_round : ℕ → ℕ
greatest_of_round zero = 2 ^ 20
greatest_of_round (suc k) = (5 * greatest_of_round k + 3) / 4
