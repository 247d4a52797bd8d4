-- What no rival of a pair alone passes, by the links at its ends.
use Rattle.std.specs.Prelude.{◌≡◌, ◌⊎◌, ℕ, ◌*◌, ◌^◌, ◌<◌, ◌≤◌}
use Rattle.te_model.specs.declared.limits.TheConstants.{FORMAT_2}
use Rattle.te_model.specs.declared.network.Network.{Network}
use Rattle.te_model.specs.declared.route.PairRoutes.{PairRoutes}
use Rattle.te_model.specs.declared.units.TheConstants.{RATIO_UNIT, SHARE_UNIT}
use Rattle.te_model.specs.Network.{link_count, capacity_of}
use Rattle.te_model.specs.Path.{weight_on}
use Rattle.ratio_witness.specs.Witness.{capacity_from, capacity_into}

-- as many links as the second format has at most, with capacities of at least 1 and at most 2 ^ 32
pub record HasSmallLinks (net : Network) : Type 0 where
  pub few : link_count net ≤ FORMAT_2.links
  pub capacities : (h : ℕ) → capacity_of net h ≤ 2 ^ 32
  pub some : (h : ℕ) → h < link_count net → 1 ≤ capacity_of net h

-- by what the links at one end of the pair carry, which is its room, no link has a greater share over its capacity
abbrev pub IsRouteLimit : Network → PairRoutes → ℕ → Type 0
IsRouteLimit net route limit =
    (room : ℕ) × ((room ≡ capacity_from net route.pair.src) ⊎ (room ≡ capacity_into net route.pair.dst))
    × ((e : ℕ) → e < link_count net → RATIO_UNIT * (room * weight_on route.paths e) ≤ limit * (SHARE_UNIT * capacity_of net e))
