-- The shares on a link, the distances and the bounds of a set are within their limits.
use Rattle.std.proofs.Common.{◌≡◌, ℕ, ◌^◌, ◌<◌, ◌≤◌, List, length, slice_index, arith}
use Rattle.std.proofs.lemmas.Bool.Decides.{nat_tests}
use Rattle.std.proofs.lemmas.List.Elements.{All-get_or}
use Rattle.te_model.specs.declared.network.Network.{Network}
use Rattle.te_model.specs.declared.route.PairRoutes.{PairRoutes}
use Rattle.te_model.specs.declared.demand.DemandSet.{DemandSet}
use Rattle.te_model.specs.declared.demand.DemandSet.TheVariants.{All as AllMatrices, Margin, Box}
use Rattle.te_model.specs.declared.limits.TheConstants.{FORMAT_2}
use Rattle.te_model.specs.declared.units.TheConstants.{SHARE_UNIT}
use Rattle.te_model.specs.Demand.{lower_of, upper_of}
use Rattle.te_model.specs.Path.{share}
use Rattle.te_model.specs.PathRouting.{IsPathRouting}
use Rattle.te_model.proofs.Valid.{square_small}
use Rattle.shortest_path.proofs.Values.{listed_small}
use Rattle.routing.proofs.Splits.{share-le, splits_of}
use Rattle.best_blocks.specs.Conditions.{IsSetWithin}
use Rattle.best_blocks.specs.Scale.{AreScalable}
use Rattle.shortest_path.specs.Pairs.{AreValues}

pub shares_small : (net : Network) (routes : List PairRoutes) (e : ℕ) (shares : List ℕ) → IsPathRouting net routes →
    AreValues (length routes) (λ p. share routes p e) shares → (p : ℕ) → slice_index shares p ≤ SHARE_UNIT
shares_small net routes e shares routing are =
    listed_small SHARE_UNIT shares (λ p below.
    let inside : p < length routes = omega (arith, below, are.count) in
    omega (arith, are.each p inside, share-le routes p e (splits_of net routes routing) inside))

pub bounds_small : (pairs : ℕ) (wanted : DemandSet) → IsSetWithin pairs wanted → (p : ℕ) → (lower_of wanted p ≤ 2 ^ 52) × (upper_of wanted p ≤ 2 ^ 52)
bounds_small pairs AllMatrices within p = (omega arith, omega arith)
bounds_small pairs (Margin num den base) within p =
    let numbers = within.0 in
    let few_num : num ≤ 1000 = grind (arith, nat_tests) in
    let few_den : den ≤ 1000 = grind (arith, nat_tests) in
    let small = listed_small (2 ^ 32) base.demand (λ k below. All-get_or (λ d. d ≤ 2 ^ 32) base.demand k 0 below within.1.small) p in
    (square_small (slice_index base.demand p) den small few_den, square_small (slice_index base.demand p) num small few_num)
bounds_small pairs (Box lower upper) within p = (
  listed_small (2 ^ 52) lower.demand (λ k below. let each = within.each k (omega (arith, below, within.lower_count)) in omega (arith, each.0, each.1)) p,
  listed_small (2 ^ 52) upper.demand (λ k below. (within.each k (omega (arith, below, within.upper_count))).1) p,
)

pub scalable : (pairs : ℕ) (wanted : DemandSet) (shares distances : List ℕ) → IsSetWithin pairs wanted → pairs ≤ FORMAT_2.pairs →
    length shares ≡ pairs → length distances ≡ pairs → ((p : ℕ) → slice_index shares p ≤ SHARE_UNIT) →
    ((p : ℕ) → slice_index distances p ≤ 2 ^ 35) → AreScalable wanted shares distances
scalable pairs wanted shares distances within few count count_d light near = record {
  few = omega (arith, few, count);
  count = omega (arith, count, count_d);
  lower_small = λ p. (bounds_small pairs wanted within p).0;
  upper_small = λ p. (bounds_small pairs wanted within p).1;
  shares_small = light;
  distances_small = near;
}
