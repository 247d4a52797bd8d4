-- The greatest utilisation is at most g exactly where no link carries more than g times its capacity.
use Rattle.std.proofs.Common.{inl, inr, ◌≡◌, ℕ, ◌-◌, ◌*◌, ◌≤◌, List, true, arith}
use Rattle.std.proofs.lemmas.Bool.{cases_lt}
use Rattle.std.proofs.lemmas.Nat.{mul-le}
use Rattle.te_model.specs.declared.network.Network.{Network}
use Rattle.te_model.specs.declared.route.PairRoutes.{PairRoutes}
use Rattle.te_model.specs.declared.units.TheConstants.{RATIO_UNIT, SHARE_UNIT}
use Rattle.te_model.specs.Network.{capacity_of, is_well_formed, link_count}
use Rattle.te_model.proofs.WellFormed.{capacities_positive}
use Rattle.routing.specs.Routes.{load_on}
use Rattle.te_model.specs.Division.{quotient_up}
use Rattle.routing.specs.Utilisation.{parts, parts_on}
use Rattle.te_model.proofs.Quotients.{quotient_up-enough, quotient_up-least, below_greatest, greatest_below-least}
use Rattle.local_search.specs.Loads.{AreWithin, IsPeakBelow}

within_quotient : (l c q g : ℕ) → l * 1000000 ≤ q * (1000000 * c) → q ≤ g → l ≤ g * c
within_quotient l c q g enough le =
    let more = mul-le q (1000000 * c) g (1000000 * c) le (omega arith) in
    omega (arith, enough, more)

-- no link carries more than the parts times its capacity
pub within_from_parts : (net : Network) (routes : List PairRoutes) (demand : List ℕ) (g : ℕ) → is_well_formed net ≡ true →
    parts net routes demand ≤ g → AreWithin net g (load_on routes demand)
within_from_parts net routes demand g formed le e below =
    let cap = capacities_positive net formed e below in
    let most = below_greatest (link_count net) (parts_on net routes demand) e below in
    within_quotient (load_on routes demand e) (capacity_of net e) (parts_on net routes demand e) g
    (quotient_up-enough (load_on routes demand e * RATIO_UNIT) (SHARE_UNIT * capacity_of net e) (omega (arith, cap)))
    (omega (arith, le, most))

quotient_within : (l c g : ℕ) → 1 ≤ c → l ≤ g * c → quotient_up (l * RATIO_UNIT) (SHARE_UNIT * c) ≤ g
quotient_within l c g some le = quotient_up-least (l * RATIO_UNIT) (SHARE_UNIT * c) g (omega arith) (omega (arith, le))

pub parts_from_within : (net : Network) (routes : List PairRoutes) (demand : List ℕ) (g : ℕ) → is_well_formed net ≡ true →
    AreWithin net g (load_on routes demand) → parts net routes demand ≤ g
parts_from_within net routes demand g formed within =
    greatest_below-least (link_count net) (parts_on net routes demand) g (λ e below.
    quotient_within (load_on routes demand e) (capacity_of net e) g (capacities_positive net formed e below) (within e below))

-- a peak of the loads is the parts
pub parts_from_peak : (net : Network) (routes : List PairRoutes) (demand : List ℕ) (link x : ℕ) → is_well_formed net ≡ true →
    IsPeakBelow net (load_on routes demand) (link_count net) link x → parts net routes demand ≡ x
parts_from_peak net routes demand link x formed peak =
    let most = parts_from_within net routes demand x formed peak.within in
    elim (cases_lt (parts net routes demand) x) [
      | inr ge ↦ omega (arith, most, ge)
      | inl lt ↦
          let (inside, over) = peak.reached (omega arith) in
          let here = within_from_parts net routes demand (parts net routes demand) formed (omega arith) link inside in
          let less = mul-le (parts net routes demand) (capacity_of net link) (x - 1) (capacity_of net link) (omega (arith, lt)) (omega arith) in
          absurd (omega (arith, over, here, less))
    ]
