-- The rows of a routing are within its oblivious ratio.
use Rattle.std.proofs.Common.{◌≡◌, ℕ, ◌*◌, ◌<◌, ◌≤◌, List, length, true, arith, refl, sym, subst, slice_index}
use Rattle.std.proofs.lemmas.Nat.{mul-le}
use Rattle.std.proofs.Math.Nat.{le_of_mul-le-mul_left}
use Rattle.te_model.specs.declared.network.Network.{Network}
use Rattle.te_model.specs.declared.route.PairRoutes.{PairRoutes}
use Rattle.te_model.specs.declared.units.TheConstants.{RATIO_UNIT, SHARE_UNIT}
use Rattle.te_model.specs.Division.{quotient_up}
use Rattle.te_model.specs.Flow.{Within}
use Rattle.te_model.specs.Network.{capacity_of, is_well_formed, link_count}
use Rattle.te_model.specs.Path.{share}
use Rattle.te_model.proofs.Quotients.{greatest_below-least, quotient_up-enough, quotient_up-least}
use Rattle.te_model.proofs.WellFormed.{capacities_positive}
use Rattle.ratio_checker.proofs.FormedHeads.{head_formed}
use Rattle.routing.specs.Routes.{load_on}
use Rattle.routing.specs.Utilisation.{parts, parts_on}
use Rattle.traffic_matrix.specs.Traffic.{demands_in}
use Rattle.series_simulation.proofs.Kept.{kept_rows_have_parts}
use Rattle.certificate_simulation.specs.Laws.{ReportsAreWithinRatio}
use Rattle.certificate_simulation.specs.Report.{routed_series}
use Rattle.certificate_simulation.proofs.HeadPairs.{routed_in_range}

quotients_keep : (x c y v : ℕ) → 1 ≤ c → 1 ≤ v → v * x ≤ y * c → quotient_up x c ≤ quotient_up y v
quotients_keep x c y v some pos less =
    let q = quotient_up y v in
    let enough : y ≤ q * v = quotient_up-enough y v pos in
    let more : y * c ≤ (q * v) * c = mul-le y c (q * v) c enough (omega arith) in
    let below : v * x ≤ v * (q * c) = omega (arith, less, more) in
    quotient_up-least x c q some (le_of_mul-le-mul_left below pos)

-- what no link is used above, in millionths
parts_within : (net : Network) (routes : List PairRoutes) (demand : List ℕ) (ratio u v : ℕ) → is_well_formed net ≡ true → 1 ≤ v →
    Within net (length routes) (slice_index demand) (share routes) SHARE_UNIT (ratio * u) (RATIO_UNIT * v) →
    parts net routes demand ≤ quotient_up (ratio * u) v
parts_within net routes demand ratio u v formed pos within =
    greatest_below-least (link_count net) (parts_on net routes demand) (quotient_up (ratio * u) v) (λ e below.
    let load = load_on routes demand e in
    let capacity = capacity_of net e in
    let some : 1 ≤ capacity = capacities_positive net formed e below in
    let is : RATIO_UNIT * v * load ≤ ratio * u * SHARE_UNIT * capacity = within e below in
    quotients_keep (load * RATIO_UNIT) (SHARE_UNIT * capacity) (ratio * u) v (omega (arith, some)) pos (omega (arith, is)))

pub reports_are_within_ratio : ReportsAreWithinRatio
reports_are_within_ratio head series failures recovery rows valid is ratio are k below member amount some flows routing u v pos within =
    let all = routed_series head.routes series in
    let demand = demands_in all k in
    let most = kept_rows_have_parts head.routes head.network all failures recovery rows (routed_in_range head series valid is) refl are k below in
    subst (λ (x : ℕ). x ≤ quotient_up (head.ratio * u) v) (sym most)
    (parts_within head.network head.routes demand head.ratio u v (head_formed head valid) pos
    (ratio (slice_index demand) member amount some flows routing u v pos within))
