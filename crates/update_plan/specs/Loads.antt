-- The loads by each kind of weight, and the tests of links by them.
use Rattle.std.specs.Prelude.{◌≡◌, ℕ, ◌-◌, ◌*◌, ◌^◌, ◌<◌, ◌≤◌, All, IsTrue, List, length, slice_index}
use Rattle.te_model.specs.declared.network.Network.{Network}
use Rattle.te_model.specs.declared.units.TheConstants.{SHARE_UNIT}
use Rattle.te_model.specs.Network.{link_count, capacity_of}
use Rattle.te_model.specs.Path.{is_distinct}
use Rattle.update_plan.specs.declared.loads.LinkLoads.{LinkLoads}
use Rattle.update_plan.specs.declared.loads.WeightKind.{WeightKind}
use Rattle.update_plan.specs.declared.loads.WeightKind.TheVariants.{Before, After, Growth, Decline}
use Rattle.update_plan.specs.declared.path.UpdatePath.{UpdatePath}
use Rattle.update_plan.specs.Update.{load_by}
use Rattle.update_plan.specs.Paths.{update_at, update_of}
use Rattle.update_plan.specs.Laws.{AreEnough}

-- a path's weight of this kind
abbrev pub weight_of : WeightKind → UpdatePath → ℕ
weight_of Before u = u.before
weight_of After u = u.after
weight_of Growth u = u.after - u.before
weight_of Decline u = u.before - u.after

-- the load of link e by the weights of this kind
abbrev pub load_of : Network → List ℕ → List UpdatePath → WeightKind → ℕ → ℕ
load_of net demand paths kind e = load_by (update_of net demand paths) (λ k. weight_of kind (update_at paths k)) e

-- the links whose numbers have more than 32 bits, which no path holds, have no load
abbrev pub IsFreeBeyond : List ℕ → Type 0
IsFreeBeyond loads = (e : ℕ) → 2 ^ 32 ≤ e → slice_index loads e ≡ 0

-- one load for each link
pub record AreLoadsOf (net : Network) (demand : List ℕ) (paths : List UpdatePath) (kind : WeightKind) (loads : List ℕ) : Type 0 where
  pub count : length loads ≡ link_count net
  pub each : (e : ℕ) → slice_index loads e ≡ load_of net demand paths kind e
  pub beyond : IsFreeBeyond loads

-- a path of one of so many pairs, over different links of the network, with weights of at most one million
pub record IsUpdatePath (net : Network) (pairs : ℕ) (u : UpdatePath) : Type 0 where
  pub pair : u.pair < pairs
  pub before : u.before ≤ SHARE_UNIT
  pub after : u.after ≤ SHARE_UNIT
  pub links : All (λ h. h < link_count net) u.links
  pub distinct : IsTrue (is_distinct u.links)

-- K steps are enough on link e under these loads
abbrev pub AreEnoughOn : Network → LinkLoads → ℕ → ℕ → Type 0
AreEnoughOn net loads K e =
    AreEnough (SHARE_UNIT * capacity_of net e) (slice_index loads.before e) (slice_index loads.after e) (slice_index loads.growth e) (slice_index loads.decline e) K

-- the loads of each kind
pub record AreLinkLoads (net : Network) (demand : List ℕ) (paths : List UpdatePath) (loads : LinkLoads) : Type 0 where
  pub before : AreLoadsOf net demand paths Before loads.before
  pub after : AreLoadsOf net demand paths After loads.after
  pub growth : AreLoadsOf net demand paths Growth loads.growth
  pub decline : AreLoadsOf net demand paths Decline loads.decline

-- one load for each of so many links
pub record AreForLinks (count : ℕ) (loads : List ℕ) : Type 0 where
  pub count_is : length loads ≡ count
  pub beyond : IsFreeBeyond loads

-- one load of each kind for each of so many links
pub record HasLoads (count : ℕ) (loads : LinkLoads) : Type 0 where
  pub before : AreForLinks count loads.before
  pub after : AreForLinks count loads.after
  pub growth : AreForLinks count loads.growth
  pub decline : AreForLinks count loads.decline
