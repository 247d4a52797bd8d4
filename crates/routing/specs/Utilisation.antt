-- The greatest utilisation of a link, in millionths of its capacity.
use Rattle.std.specs.Prelude.{ℕ, ◌*◌, List}
use Rattle.te_model.specs.declared.network.Network.{Network}
use Rattle.te_model.specs.declared.route.PairRoutes.{PairRoutes}
use Rattle.te_model.specs.declared.units.TheConstants.{RATIO_UNIT, SHARE_UNIT}
use Rattle.te_model.specs.Counting.{greatest_below}
use Rattle.te_model.specs.Division.{quotient_up}
use Rattle.te_model.specs.Network.{link_count, capacity_of}
use Rattle.routing.specs.Routes.{load_on}

-- the load of a link over its capacity, in millionths, rounded up
abbrev pub parts_on : Network → List PairRoutes → List ℕ → ℕ → ℕ
parts_on net routes demand e = quotient_up (load_on routes demand e * RATIO_UNIT) (SHARE_UNIT * capacity_of net e)

-- the greatest over the links, or 0 where there are none
abbrev pub parts : Network → List PairRoutes → List ℕ → ℕ
parts net routes demand = greatest_below (link_count net) (parts_on net routes demand)
