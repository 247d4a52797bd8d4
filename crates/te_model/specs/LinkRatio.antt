-- The ratio of one link: how much more a routing may use it than any other routing of the same matrix uses its most used link. The
-- oblivious ratio is the greatest over the links (Applegate and Cohen, 2003, whose linear program is solved once for each link).
use Rattle.std.specs.Prelude.{ℕ, ◌*◌, ◌<◌, ◌≤◌, ◌↔◌, List, length}
use Rattle.te_model.specs.declared.network.Network.{Network}
use Rattle.te_model.specs.declared.route.PairRoutes.{PairRoutes}
use Rattle.te_model.specs.declared.demand.DemandSet.{DemandSet}
use Rattle.te_model.specs.declared.units.TheConstants.{RATIO_UNIT, SHARE_UNIT}
use Rattle.te_model.specs.Network.{link_count, capacity_of}
use Rattle.te_model.specs.Path.{share}
use Rattle.te_model.specs.Flow.{IsRouting, Within, load}
use Rattle.te_model.specs.Demand.{IsMember}
use Rattle.te_model.specs.Ratio.{IsObliviousRatio}

-- link e is used at most u / v of its capacity, by flows of this amount for one unit of demand
abbrev pub IsUsedWithin : Network → ℕ → (ℕ → ℕ) → (ℕ → ℕ → ℕ) → ℕ → ℕ → ℕ → ℕ → Type 0
IsUsedWithin net n demand flows amount u v e = v * load n demand flows e ≤ u * amount * capacity_of net e

-- For every matrix of the set, the routing uses link e at most the ratio, in millionths, times what any other routing of that matrix
-- needs: load_f(D, e) / c(e) ≤ ratio / 1000000 * max over h of load_g(D, h) / c(h).
abbrev pub IsLinkRatio : Network → List PairRoutes → DemandSet → ℕ → ℕ → Type 0
IsLinkRatio net routes set e ratio =
    (demand : ℕ → ℕ) → IsMember set (length routes) demand →
    (amount : ℕ) → 1 ≤ amount →
    (flows : ℕ → ℕ → ℕ) → IsRouting net routes demand amount flows →
    (u v : ℕ) → 1 ≤ v →
    Within net (length routes) demand flows amount u v →
    IsUsedWithin net (length routes) demand (share routes) SHARE_UNIT (ratio * u) (RATIO_UNIT * v) e

-- A number is an oblivious ratio of a routing exactly where it is a ratio of each link.
abbrev pub RatiosAreOfLinks : Type 0
RatiosAreOfLinks =
    (net : Network) (routes : List PairRoutes) (set : DemandSet) (ratio : ℕ) →
    IsObliviousRatio net routes set ratio ↔ ((e : ℕ) → e < link_count net → IsLinkRatio net routes set e ratio)

-- A number above a ratio of a link is one too.
abbrev pub GreaterLinkRatiosHold : Type 0
GreaterLinkRatiosHold =
    (net : Network) (routes : List PairRoutes) (set : DemandSet) (e ratio greater : ℕ) → ratio ≤ greater →
    IsLinkRatio net routes set e ratio → IsLinkRatio net routes set e greater
