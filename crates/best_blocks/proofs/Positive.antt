-- No distance is below the least weight, and a number that no distance is below balances.
use Rattle.std.proofs.Common.{◌≡◌, ℕ, ◌*◌, ◌<◌, ◌≤◌, true, List, length, arith, slice_index}
use Rattle.std.proofs.lemmas.Bool.{le-leb}
use Rattle.te_model.specs.declared.network.Network.{Network}
use Rattle.te_model.specs.declared.route.PairRoutes.{PairRoutes}
use Rattle.te_model.specs.declared.demand.DemandSet.{DemandSet}
use Rattle.te_model.specs.declared.units.TheConstants.{SHARE_UNIT}
use Rattle.te_model.specs.Network.{link_count}
use Rattle.te_model.specs.Path.{source_of, destination_of}
use Rattle.te_model.proofs.Sums.{sum_below-zero}
use Rattle.shortest_path.proofs.PathLengths.{distance_large}
use Rattle.best_blocks.specs.Best.{plus_amount, balances, needs_row, AreNeededDistances}
use Rattle.best_blocks.specs.Conditions.{IsRoutingWithin}
use Rattle.best_blocks.proofs.Balances.{asked-small}

-- no distance is below the least weight
pub least_far : (net : Network) (routes : List PairRoutes) (set : DemandSet) (weights : List ℕ) (least : ℕ) (shares distance : ℕ → ℕ) → IsRoutingWithin net routes →
    ((h : ℕ) → h < link_count net → least ≤ slice_index weights h) → AreNeededDistances net weights routes set shares distance →
    (p : ℕ) → p < length routes → needs_row set (shares p) ≡ true → least ≤ distance p
least_far net routes set weights least shares distance within large are p below needs =
    distance_large net weights least (source_of routes p) (destination_of routes p) (distance p) (within.apart p below) large (are p below needs)

-- a number that no distance is below balances
pub balances_near : (lower upper : ℕ → ℕ) (n : ℕ) (shares distance : ℕ → ℕ) (b : ℕ) → ((p : ℕ) → p < n → shares p ≤ SHARE_UNIT) →
    ((p : ℕ) → p < n → b ≤ distance p) → balances lower upper n shares distance b ≡ true
balances_near lower upper n shares distance b light far =
    let none = sum_below-zero n (λ p. upper p * plus_amount shares distance b p) (λ p below.
    let no_more : plus_amount shares distance b p ≡ 0 = omega (arith, asked-small b (shares p) (light p below), far p below) in
    rw no_more (omega arith))
    in
    le-leb _ _ (omega (arith, none))
