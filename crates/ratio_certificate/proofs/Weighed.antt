-- Weights of 1 and more of a link have a best scale, and with it a need.
use Rattle.std.proofs.Common.{◌≡◌, ℕ, ◌^◌, ◌<◌, ◌≤◌, true, List, length, arith, slice_index, sym, subst}
use Rattle.std.specs.Prelude.{All}
use Rattle.std.proofs.lemmas.List.Elements.{All-from_get_or, All-get_or}
use Rattle.te_model.specs.declared.network.Network.{Network}
use Rattle.te_model.specs.declared.route.PairRoutes.{PairRoutes}
use Rattle.te_model.specs.declared.demand.DemandSet.{DemandSet}
use Rattle.te_model.specs.Network.{is_well_formed, link_count}
use Rattle.te_model.specs.Path.{destination_of, source_of}
use Rattle.te_model.proofs.WellFormed.{few_nodes, links_join}
use Rattle.shortest_path.proofs.PathLengths.{distance_small}
use Rattle.shortest_path.proofs.Values.{listed_small}
use Rattle.routing.proofs.Splits.{share-le, splits_of}
use Rattle.best_blocks.specs.declared.metric.Metric.{Metric}
use Rattle.best_blocks.specs.declared.sharing.SharedLink.{SharedLink}
use Rattle.best_blocks.specs.Conditions.{IsRoutingWithin}
use Rattle.best_blocks.specs.Metric.{IsMetric}
use Rattle.best_blocks.specs.Need.{need_by}
use Rattle.best_blocks.specs.Scale.{HasNoScale}
use Rattle.best_blocks.specs.Sharing.{IsSharedLink}
use Rattle.best_blocks.specs.Under.{IsScaleUnder}
use Rattle.best_blocks.proofs.Scaled.{needed_distances}
use Rattle.best_blocks.proofs.SmallNumbers.{shares_small}
use Rattle.ratio_certificate.specs.Weighting.{AreWeights, IsWeighting}
use Rattle.best_blocks.proofs.Positive.{least_far}
use Rattle.ratio_certificate.proofs.Positive.{scale_bounds, some_scale, AreScaleBounds}

pub has_scale : (net : Network) (routes : List PairRoutes) (set : DemandSet) (l : SharedLink) (m : Metric) → IsRoutingWithin net routes → IsSharedLink net routes set l →
    IsMetric net routes l.marks m → AreWeights net m.weights → HasNoScale set (length routes) (slice_index l.shares) (slice_index m.distances) → ⊥
has_scale net routes set l m within shared metric weights none =
    some_scale (length routes) set (slice_index l.shares) (slice_index m.distances) (λ p below. shares_small net routes l.link l.shares within.splits shared.shares_are p)
    (least_far net routes set m.weights 1 (slice_index l.shares) (slice_index m.distances) within weights.some (needed_distances net routes set l m within shared metric)) none

-- each weight is at most the limit, in a list as at each place
pub all_small : (weights : List ℕ) (n limit : ℕ) → length weights ≡ n → ((h : ℕ) → h < n → slice_index weights h ≤ limit) → All (λ w. w ≤ limit) weights
all_small weights n limit count small = All-from_get_or (λ w. w ≤ limit) weights 0 (λ h below. small h (omega (arith, below, count)))

-- the numbers of the best scale where no weight is below a limit
pub scale_within : (net : Network) (routes : List PairRoutes) (set : DemandSet) (e least a b : ℕ) (weights : List ℕ) → is_well_formed net ≡ true →
    IsRoutingWithin net routes → least ≤ 2 ^ 36 → AreWeights net weights → ((h : ℕ) → h < link_count net → least ≤ slice_index weights h) →
    IsScaleUnder net routes set e weights a b → AreScaleBounds least a b
scale_within net routes set e least a b weights formed within limit are large under =
    scale_bounds (length routes) least set under.shares under.distance a b limit
    (λ p below. omega (arith, under.shares_are p below, share-le routes p e (splits_of net routes within.splits) below))
    (least_far net routes set weights least under.shares under.distance within large under.distances_are)
    (λ p below needs.
    let near = distance_small net weights (2 ^ 28) (source_of routes p) (destination_of routes p) (under.distance p) (links_join net formed) (within.nodes p below).0
    (all_small weights (link_count net) (2 ^ 28) are.count are.small) (under.distances_are p below needs)
    in
    omega (arith, near, few_nodes net formed))
    under.scale

pub each_small : (weights : List ℕ) → All (λ w. w ≤ 2 ^ 28) weights → (h : ℕ) → slice_index weights h ≤ 2 ^ 28
each_small weights small = listed_small (2 ^ 28) weights (λ k below. All-get_or (λ w. w ≤ 2 ^ 28) weights k 0 below small)

pub weighting_is : (net : Network) (routes : List PairRoutes) (set : DemandSet) (e a b need : ℕ) (weights w : List ℕ) → w ≡ weights → AreWeights net weights →
    IsScaleUnder net routes set e weights a b → need ≡ need_by net e weights a b → IsWeighting net routes set (record { link = e; weights = w; a = a; b = b; need = need })
weighting_is net routes set e a b need weights w is are scale need_is =
    subst (λ (x : List ℕ). IsWeighting net routes set (record { link = e; weights = x; a = a; b = b; need = need })) (sym is)
    (record { weights_are = are; scale_is = scale; need_is = need_is })
