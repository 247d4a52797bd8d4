-- What a step makes of a routing of some of the declared pairs, where links have failed.
use Rattle.std.specs.Prelude.{ℕ, ◌≡◌, ◌+◌, ◌*◌, Bool, List, All, map, slice_index}
use Rattle.te_model.specs.declared.network.Network.{Network}
use Rattle.te_model.specs.declared.route.Pair.{Pair}
use Rattle.te_model.specs.declared.route.PairRoutes.{PairRoutes}
use Rattle.te_model.specs.declared.units.TheConstants.{RATIO_UNIT}
use Rattle.te_model.specs.Network.{link_count, capacity_of}
use Rattle.te_model.specs.Counting.{greatest_below}
use Rattle.te_model.specs.Division.{quotient_up}
use Rattle.local_recovery.specs.declared.mode.Mode.{Mode}
use Rattle.local_recovery.specs.Recovery.{IsRecovered}
use Rattle.local_recovery.specs.Spread.{IsSpread}
use Rattle.flow_sim.specs.declared.result.StepResult.{StepResult}
use Rattle.flow_sim.specs.Result.{IsConserved, IsSummed, all_carried, pair_results}

-- the rates that the demands of the step take are what is left of the routing in the mode, over all declared pairs, of which the added
-- ones have no path
pub record IsSimulated (mode : Mode) (net : Network) (failed : List Bool) (pairs : List Pair) (demand : List ℕ) (routes rates : List PairRoutes) (result : StepResult) : Type 0 where
  pub left : List PairRoutes
  pub recovered : IsRecovered mode net failed routes left
  pub spread : IsSpread pairs left rates
  pub per_pair : result.per_pair ≡ pair_results net failed rates demand
  pub carried : result.carried ≡ all_carried net failed rates demand
  pub totals : IsSummed result.carried result.per_pair result

-- nothing is made and nothing vanishes: what each pair demands was delivered or lost, for each pair and in total
pub record IsConservedStep (demand : List ℕ) (result : StepResult) : Type 0 where
  pub offered : map (λ p. p.offered) result.per_pair ≡ demand
  pub pairs : All IsConserved result.per_pair
  pub total : result.offered ≡ result.delivered + result.lost_full + result.lost_failed + result.lost_no_path

-- what a link carries over its capacity, in millionths, rounded up
abbrev pub utilisation_on : Network → List ℕ → ℕ → ℕ
utilisation_on net carried e = quotient_up (slice_index carried e * RATIO_UNIT) (capacity_of net e)

-- the greatest over the links, or 0 where there are none
abbrev pub peak_of : Network → List ℕ → ℕ
peak_of net carried = greatest_below (link_count net) (utilisation_on net carried)
