-- What the verdict takes for granted of a valid head and of a witness that keeps its rules.
use Rattle.std.specs.Prelude.{ℕ, ◌^◌, ◌≤◌, ◌<◌, List, All, length, slice_index, sum_by}
use Rattle.te_model.specs.declared.certificate.Head.{Head}
use Rattle.te_model.specs.declared.network.Network.{Network}
use Rattle.te_model.specs.declared.route.PathShare.{PathShare}
use Rattle.te_model.specs.declared.units.TheConstants.{SHARE_UNIT}
use Rattle.te_model.specs.Bounds.{HasSmallLimits}
use Rattle.te_model.specs.Network.{link_count, capacity_of}
use Rattle.te_model.specs.Path.{routes_at}
use Rattle.ratio_checker.specs.Checked.{IsSimplePath}
use Rattle.ratio_witness.specs.declared.witness.Witness.{Witness}
use Rattle.ratio_witness.specs.Rules.{demand_of, rival_paths}

-- such paths of each of n pairs, whose weights sum to one million at most
pub record AreSimpleSplits (n : ℕ) (paths : ℕ → List PathShare) : Type 0 where
  pub each : (p : ℕ) → p < n → All IsSimplePath (paths p)
  pub whole : (p : ℕ) → p < n → sum_by (λ s. s.weight) (paths p) ≤ SHARE_UNIT

-- demands of n pairs within the limit of U3
abbrev pub AreSmallDemands : ℕ → Witness → Type 0
AreSmallDemands n w = (p : ℕ) → p < n → demand_of w p ≤ 2 ^ 32

-- a load of at most 2 ^ 66 for each link of a network whose capacities are at most 2 ^ 32
pub record AreLinkLoads (net : Network) (loads : List ℕ) : Type 0 where
  pub count : link_count net ≤ length loads
  pub capacities : (h : ℕ) → capacity_of net h ≤ 2 ^ 32
  pub small : (h : ℕ) → slice_index loads h ≤ 2 ^ 66

-- the numbers are within their limits, and the paths of both routings are simple
pub record CanJudge (h : Head) (w : Witness) : Type 0 where
  pub limits : HasSmallLimits h
  pub some_link : 1 ≤ link_count h.network
  pub x : w.x ≤ 2 ^ 36
  pub y : w.y ≤ 2 ^ 36
  pub demands : AreSmallDemands (length h.routes) w
  pub routes : AreSimpleSplits (length h.routes) (λ p. (routes_at h.routes p).paths)
  pub rival : AreSimpleSplits (length h.routes) (rival_paths w)
