-- The flows of a step: each path of each pair, with its part of the pair's demand.
use Rattle.std.specs.Prelude.{ℕ, zero, suc, ◌^◌, ◌<◌, ◌≤◌, Bool, false, List, [], ◌∷◌, ◌++◌, length, map, max, sum, replicate, slice_index, slice_index_or, ◌==◌, if◌then◌else◌}
use Rattle.te_model.specs.declared.network.Network.{Network}
use Rattle.te_model.specs.declared.route.PathShare.{PathShare}
use Rattle.te_model.specs.declared.route.PairRoutes.{PairRoutes}
use Rattle.te_model.specs.Network.{link_count, capacity_of}
use Rattle.te_model.specs.Path.{routes_at}
use Rattle.te_model.specs.Apportion.{apportion}
use Rattle.routing.specs.Merge.{no_path}
use Rattle.flow_sim.specs.Step.{Setting}

-- the lists of the numbers below n, one after the other
abbrev pub concat_below : {A : Type 0} → ℕ → (ℕ → List A) → List A
concat_below zero piece = []
concat_below (suc n) piece = concat_below n piece ++ piece n

abbrev pub paths_of : List PairRoutes → ℕ → List PathShare
paths_of rates p = (routes_at rates p).paths

abbrev pub weights : List PathShare → List ℕ
weights paths = map (λ s. s.weight) paths

-- the flows, in order of pair and path: their paths, pairs and units
abbrev pub flow_paths : List PairRoutes → List PathShare
flow_paths rates = concat_below (length rates) (paths_of rates)

abbrev pub flow_pairs : List PairRoutes → List ℕ
flow_pairs rates = concat_below (length rates) (λ p. replicate (length (paths_of rates p)) p)

abbrev pub starts_of : List PairRoutes → List ℕ → ℕ → List ℕ
starts_of rates demand p = apportion (slice_index demand p) (weights (paths_of rates p))

abbrev pub flow_starts : List PairRoutes → List ℕ → List ℕ
flow_starts rates demand = concat_below (length rates) (starts_of rates demand)

-- how many links the longest path has
abbrev pub longest : List PathShare → ℕ
longest [] = 0
longest (s ∷ ss) = max (length s.links) (longest ss)

-- the step of these rates; after its last hop a flow asks the number that follows the links
abbrev pub step_setting : Network → List Bool → List PairRoutes → List ℕ → Setting
step_setting net failed rates demand = record {
  flows = length (flow_paths rates);
  pair = slice_index (flow_pairs rates);
  start = slice_index (flow_starts rates demand);
  hop = λ f r. slice_index_or (slice_index_or (flow_paths rates) f no_path).links r (link_count net);
  rounds = longest (flow_paths rates);
  links = link_count net;
  capacity = capacity_of net;
  has_failed = λ e. slice_index_or failed e false;
}

abbrev pub lost_no_path : List PairRoutes → List ℕ → ℕ → ℕ
lost_no_path rates demand p = if length (paths_of rates p) == 0 then slice_index demand p else 0

-- no path, or few enough weights within the limits and not all 0
abbrev pub CanSplit : List PathShare → Type 0
CanSplit paths =
    (length paths ≤ 4096)
    × ((i : ℕ) → i < length (weights paths) → slice_index (weights paths) i ≤ 2 ^ 32)
    × (0 < length paths → 1 ≤ sum (weights paths))
