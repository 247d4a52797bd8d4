-- What pairs put on the links over ways that are known by their last links.
use Rattle.std.specs.Prelude.{◌≡◌, ℕ, ◌*◌, ◌^◌, ◌<◌, List, [], Option, length, min, slice_index, slice_index_or}
use Rattle.te_model.specs.declared.network.Network.{Network}
use Rattle.te_model.specs.declared.route.Pair.{Pair}
use Rattle.te_model.specs.Counting.{sum_below}
use Rattle.te_model.specs.Network.{link_count, node_count}
use Rattle.scheme.specs.Reach.{pair_at}
use Rattle.centred_steps.specs.Loads.{times_on}
use Rattle.centred_steps.specs.Ways.{AreLastLinks, way_to}

-- the links of the way of pair p, by the last links of the ways from its source
abbrev pub way_of : Network → List Pair → List (List (Option ℕ)) → ℕ → List ℕ
way_of net pairs lasts p = way_to net (slice_index_or lasts p []) (node_count net) (pair_at pairs p).dst

-- the demand of pair p as often as its way takes link e
abbrev pub load_of_way : Network → List Pair → List ℕ → List (List (Option ℕ)) → ℕ → ℕ → ℕ
load_of_way net pairs demand lasts e p = slice_index demand p * times_on (way_of net pairs lasts p) e

-- the load of each link where each of the first n pairs goes over such a way, at most 2^66
pub record AreWayLoads (net : Network) (pairs : List Pair) (demand : List ℕ) (n : ℕ) (loads : List ℕ) : Type 0 where
  pub lasts : List (List (Option ℕ))
  pub count : length lasts ≡ n
  pub links : (p : ℕ) → p < n → AreLastLinks net (slice_index_or lasts p [])
  pub sums : (e : ℕ) → e < link_count net → slice_index loads e ≡ min (2 ^ 66) (sum_below n (load_of_way net pairs demand lasts e))
