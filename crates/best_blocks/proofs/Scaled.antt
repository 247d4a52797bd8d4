-- The scale of weights, by the shares on a link and a metric of the weights.
use Rattle.std.proofs.Common.{◌≡◌, ℕ, ◌^◌, ◌<◌, ◌≤◌, true, List, length, slice_index, arith, subst}
use Rattle.std.specs.Prelude.{Option, Some, None, IfNone, IfSome}
use Rattle.te_model.specs.declared.network.Network.{Network}
use Rattle.te_model.specs.declared.route.PairRoutes.{PairRoutes}
use Rattle.te_model.specs.declared.demand.DemandSet.{DemandSet}
use Rattle.te_model.specs.declared.demand.DemandSet.TheVariants.{All as AllMatrices, Margin, Box}
use Rattle.te_model.specs.Network.{is_well_formed}
use Rattle.best_blocks.specs.declared.metric.Metric.{Metric}
use Rattle.best_blocks.specs.declared.scaling.Scale.{Scale}
use Rattle.best_blocks.specs.declared.sharing.SharedLink.{SharedLink}
use Rattle.best_blocks.specs.Best.{AreNeededDistances, IsBestScale}
use Rattle.best_blocks.specs.Conditions.{IsRoutingWithin, IsSetWithin}
use Rattle.best_blocks.specs.Metric.{IsMetric}
use Rattle.best_blocks.specs.Scale.{AreScalable, HasNoScale}
use Rattle.best_blocks.specs.Sharing.{IsSharedLink}
use Rattle.best_blocks.specs.Under.{IsScaleUnder}
use Rattle.best_blocks.specs.Used.{AreSharesListed}
use Rattle.best_blocks.proofs.Distances.{metric_near, pair_distance}
use Rattle.best_blocks.proofs.SmallNumbers.{scalable, shares_small}

pub needed_distances : (net : Network) (routes : List PairRoutes) (set : DemandSet) (l : SharedLink) (m : Metric) → IsRoutingWithin net routes →
    IsSharedLink net routes set l → IsMetric net routes l.marks m →
    AreNeededDistances net m.weights routes set (slice_index l.shares) (slice_index m.distances)
needed_distances net routes set l m within shared metric p below needs =
    pair_distance net routes l.marks m p within.splits within.nodes metric below (shared.marks_are.complete p below needs)

pub metric_scalable : (net : Network) (routes : List PairRoutes) (set : DemandSet) (l : SharedLink) (m : Metric) → is_well_formed net ≡ true →
    IsRoutingWithin net routes → IsSetWithin (length routes) set → IsSharedLink net routes set l → IsMetric net routes l.marks m → AreScalable set l.shares m.distances
metric_scalable net routes set l m formed within small shared metric =
    scalable (length routes) set l.shares m.distances small within.few shared.shares_are.count metric.distances_are.count
    (shares_small net routes l.link l.shares within.splits shared.shares_are) (metric_near net routes l.marks m formed within.splits within.nodes metric)

pub scale_known : (net : Network) (routes : List PairRoutes) (set : DemandSet) (l : SharedLink) (m : Metric) (a b : ℕ) → IsRoutingWithin net routes →
    IsSharedLink net routes set l → IsMetric net routes l.marks m →
    IsBestScale set (length routes) (slice_index l.shares) (slice_index m.distances) a b → IsScaleUnder net routes set l.link m.weights a b
scale_known net routes set l m a b within shared metric best = record {
  shares = slice_index l.shares;
  distance = slice_index m.distances;
  shares_are = shared.shares_are.each;
  distances_are = needed_distances net routes set l m within shared metric;
  scale = best;
}

-- what holds of each scale of one kind holds of one that may be there
pub if_scale : (P Q : ℕ → ℕ → Type 0) → ((a b : ℕ) → P a b → Q a b) → (o : Option Scale) → IfSome o (λ s. P s.a s.b) → IfSome o (λ s. Q s.a s.b)
if_scale P Q each (Some s) is = each s.a s.b is
if_scale P Q each None is = tt

pub scale_read : (r : Option Scale) (set : DemandSet) (n : ℕ) (shares ds distances : List ℕ) → ds ≡ distances → length shares ≡ n →
    IfSome r (λ s. IsBestScale set (length shares) (slice_index shares) (slice_index ds) s.a s.b) →
    IfSome r (λ s. IsBestScale set n (slice_index shares) (slice_index distances) s.a s.b)
scale_read r set n shares ds distances is count best =
    subst (λ k. IfSome r (λ s. IsBestScale set k (slice_index shares) (slice_index distances) s.a s.b)) count
    (subst (λ (d : List ℕ). IfSome r (λ s. IsBestScale set (length shares) (slice_index shares) (slice_index d) s.a s.b)) is best)

pub none_read : (r : Option Scale) (set : DemandSet) (n : ℕ) (shares ds distances : List ℕ) → ds ≡ distances → length shares ≡ n →
    IfNone r (HasNoScale set (length shares) (slice_index shares) (slice_index ds)) → IfNone r (HasNoScale set n (slice_index shares) (slice_index distances))
none_read r set n shares ds distances is count none =
    subst (λ k. IfNone r (HasNoScale set k (slice_index shares) (slice_index distances))) count
    (subst (λ (d : List ℕ). IfNone r (HasNoScale set (length shares) (slice_index shares) (slice_index d))) is none)

-- b is at most 2^36 where no distance is above 2^35
pub b_small : (set : DemandSet) (n : ℕ) (shares distance : ℕ → ℕ) (a b : ℕ) → ((p : ℕ) → distance p ≤ 2 ^ 35) → IsBestScale set n shares distance a b → b ≤ 2 ^ 36
b_small AllMatrices n shares distance a b near best = omega (arith, near best.quotient.pair, best.quotient.distance_is)
b_small (Margin num den base) n shares distance a b near best = best.balance.small
b_small (Box lower upper) n shares distance a b near best = best.balance.small

-- some pair's listed share is above 0
pub some_share : (net : Network) (routes : List PairRoutes) (set : DemandSet) (l : SharedLink) → IsSharedLink net routes set l →
    (p : ℕ) × (p < length l.shares) × (0 < slice_index l.shares p)
some_share net routes set l shared =
    let (p, below, some) = shared.some in
    (p, omega (arith, below, shared.shares_are.count), omega (arith, some, shared.shares_are.each p below))

-- its list and its shares tell the shares of the routing
pub shares_listed : (net : Network) (routes : List PairRoutes) (set : DemandSet) (l : SharedLink) → IsSharedLink net routes set l → AreSharesListed l
shares_listed net routes set l shared = record { routes = routes; listed = shared.listed; shares_are = shared.shares_are }
