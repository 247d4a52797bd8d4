-- What a step asks of each link: the units of the flows whose paths hold it, before any of them is lost.
use Rattle.std.specs.Prelude.{ℕ, ◌+◌, ◌*◌, ◌≤◌, List, length, map, slice_index, slice_index_or}
use Rattle.std.specs.List.{range_with_len}
use Rattle.te_model.specs.declared.network.Network.{Network}
use Rattle.te_model.specs.declared.route.PairRoutes.{PairRoutes}
use Rattle.te_model.specs.declared.route.PathShare.{PathShare}
use Rattle.te_model.specs.declared.units.TheConstants.{SHARE_UNIT}
use Rattle.te_model.specs.Counting.{sum_below}
use Rattle.te_model.specs.Network.{link_count}
use Rattle.te_model.specs.Path.{amount_on}
use Rattle.routing.specs.Merge.{no_path}
use Rattle.routing.specs.Routes.{load_on}
use Rattle.flow_sim.specs.Traffic.{flow_paths, flow_starts}

-- what flow f asks of link e, where it takes the f-th of the paths with the f-th of the units
abbrev pub asked_by : List PathShare → List ℕ → ℕ → ℕ → ℕ
asked_by paths units e f = amount_on (slice_index_or paths f no_path).links (slice_index units f) e

-- what the n flows from `first` on ask of link e, by these paths
abbrev pub asked_from : List PathShare → List ℕ → ℕ → ℕ → ℕ → ℕ
asked_from paths units first n e =
    sum_below n (λ i. amount_on (slice_index_or paths i no_path).links (slice_index units (first + i)) e)

-- what link e is asked to carry
abbrev pub asked_units_on : List PairRoutes → List ℕ → ℕ → ℕ
asked_units_on rates demand e = sum_below (length (flow_paths rates)) (asked_by (flow_paths rates) (flow_starts rates demand) e)

-- what each link is asked to carry
abbrev pub all_asked_units : Network → List PairRoutes → List ℕ → List ℕ
all_asked_units net rates demand = map (asked_units_on rates demand) (range_with_len 0 (link_count net))

-- how many paths hold link e
abbrev pub paths_on : List PairRoutes → ℕ → ℕ
paths_on rates e = sum_below (length (flow_paths rates)) (λ f. amount_on (slice_index_or (flow_paths rates) f no_path).links 1 e)

-- the units that a link is asked to carry, and the sum of demand times weight over the paths that hold it: they differ by at most one
-- unit a path, since a demand is sent in whole units
pub record IsNearLoad (rates : List PairRoutes) (demand : List ℕ) (e : ℕ) : Type 0 where
  pub above : asked_units_on rates demand e * SHARE_UNIT ≤ load_on rates demand e + paths_on rates e * SHARE_UNIT
  pub below : load_on rates demand e ≤ asked_units_on rates demand e * SHARE_UNIT + paths_on rates e * SHARE_UNIT

-- of rates, on each link
abbrev pub AsksNearLoad : List PairRoutes → List ℕ → Type 0
AsksNearLoad rates demand = (e : ℕ) → IsNearLoad rates demand e
