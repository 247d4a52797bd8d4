-- That the weights of a metric have a next round, or none is possible.
use Rattle.std.proofs.Common.{◌≡◌, ℕ, ◌<◌, ◌≤◌, true, List, [], Option, Some, None, length, slice_index, min, take, arith, refl, subst, cond}
use Rattle.std.specs.Prelude.{All}
use Rattle.std.proofs.lemmas.List.{take_all}
use Rattle.std.proofs.lemmas.List.Elements.{All-from_get_or, All-nil}
use Rattle.te_model.specs.declared.network.Network.{Network}
use Rattle.te_model.specs.declared.route.PairRoutes.{PairRoutes}
use Rattle.te_model.specs.declared.route.Path.{Path}
use Rattle.te_model.specs.declared.demand.DemandSet.{DemandSet}
use Rattle.te_model.specs.Network.{capacity_of, is_well_formed}
use Rattle.te_model.specs.Path.{has_number, destination_of, source_of}
use Rattle.te_model.proofs.Choices.{step_by_step}
use Rattle.te_model.proofs.Amounts.{has_number_at}
use Rattle.shortest_path.specs.Paths.{IsLeastPath}
use Rattle.shortest_path.proofs.Existence.{least_paths_exist}
use Rattle.best_blocks.specs.declared.metric.Metric.{Metric}
use Rattle.best_blocks.specs.declared.sharing.SharedLink.{SharedLink}
use Rattle.best_blocks.specs.Conditions.{IsRoutingWithin}
use Rattle.best_blocks.specs.Metric.{IsMetric}
use Rattle.best_blocks.specs.Quotient.{IsGreatestAt}
use Rattle.best_blocks.specs.Sharing.{IsSharedLink}
use Rattle.best_blocks.proofs.Growing.{values_exist}
use Rattle.best_blocks.proofs.ScalesExist.{greatest_quotient_exists}
use Rattle.ratio_certificate.specs.declared.raising.NextRound.{NextRound}
use Rattle.ratio_certificate.specs.Rising.{IsRoundAfter}
use Rattle.ratio_certificate.specs.Rounds.{raised_weight, AreRaised, IsNarrowest}
use Rattle.ratio_certificate.specs.Weighting.{AreWeights}
use Rattle.ratio_certificate.proofs.NextRounds.{dearest_links, no_round_after, round_after, shared_far, IsDearestPath}
use Rattle.ratio_certificate.proofs.RaisedLinks.{narrower}

-- a path with a link has a least capacity
pub narrowest_exists : (net : Network) (path : List ℕ) → 0 < length path → (least : ℕ) × IsNarrowest net path least
narrowest_exists net path some =
    let (least, is) =
    step_by_step (λ i least. All (λ h. least ≤ capacity_of net h) (take i path) × ((h : ℕ) × (has_number path h ≡ true) × (capacity_of net h ≡ least))) (length path)
    (capacity_of net (slice_index path 0), (All-nil (λ h. capacity_of net (slice_index path 0) ≤ capacity_of net h), (slice_index path 0, has_number_at path 0 some, refl)))
    (λ i least below is.
    (min least (capacity_of net (slice_index path i)), narrower net path i least (min least (capacity_of net (slice_index path i))) below refl is.0 is.1))
    (length path) (omega arith)
    in (
      least,
      record {
        bound = subst (λ (hs : List ℕ). All (λ h. least ≤ capacity_of net h) hs) (take_all (length path) path (omega arith)) is.0;
        reached = is.1;
      },
    )

-- the weights of a path's links can be raised
pub raised_exist : (net : Network) (path : List ℕ) (least : ℕ) (old : List ℕ) → (new : List ℕ) × AreRaised net path least old new
raised_exist net path least old =
    let (new, are) = values_exist (length old) (λ h. cond (has_number path h) (raised_weight least (capacity_of net h) (slice_index old h)) (slice_index old h)) in
    (new, record { count = are.count; each = are.each })

-- the weights of the next round, or those of the metric where no path leads to the destination
round_by : (net : Network) (routes : List PairRoutes) (wanted : DemandSet) (l : SharedLink) (m : Metric) (d : ℕ) (o : Option (List ℕ)) → is_well_formed net ≡ true →
    IsRoutingWithin net routes → IsSharedLink net routes wanted l → IsMetric net routes l.marks m → d < length routes →
    (a : ℕ) × (b : ℕ) × IsGreatestAt (length routes) (slice_index l.shares) (slice_index m.distances) d a b →
    IsLeastPath net m.weights (source_of routes d) (destination_of routes d) o → (next : NextRound) × IsRoundAfter net routes l.link m.weights next
round_by net routes wanted l m d None formed within shared metric below dearest shortest = (
  record { weights = m.weights; path = [] },
  no_round_after net routes wanted l m m.weights [] d within shared metric (record { below = below; dearest = dearest; shortest = shortest }) refl refl,
)
round_by net routes wanted l m d (Some links) formed within shared metric below dearest shortest =
    let path : Path = record { links = links } in
    let is : IsDearestPath net routes l m d (Some path) = record { below = below; dearest = dearest; shortest = shortest } in
    let (least, narrow) = narrowest_exists net links (dearest_links net routes l m d path within is).1 in
    let (new, are) = raised_exist net links least m.weights in
    (record { weights = new; path = links }, round_after net routes wanted l m new path d formed within shared metric is (least, narrow, are))

pub next_round_exists : (net : Network) (routes : List PairRoutes) (wanted : DemandSet) (l : SharedLink) (m : Metric) → is_well_formed net ≡ true →
    IsRoutingWithin net routes → IsSharedLink net routes wanted l → IsMetric net routes l.marks m → AreWeights net m.weights →
    (next : NextRound) × IsRoundAfter net routes l.link m.weights next
next_round_exists net routes wanted l m formed within shared metric weights =
    let (p, inside, share) = shared.some in
    let apart : (q : ℕ) → q < length routes → 0 < slice_index l.shares q → 1 ≤ slice_index m.distances q =
    λ q below some. shared_far net routes wanted l m within shared metric weights q (omega (arith, below, shared.shares_are.count)) some
    in
    let (q, best) =
    greatest_quotient_exists (length routes) (slice_index l.shares) (slice_index m.distances) apart (p, inside, omega (arith, share, shared.shares_are.each p inside))
    in
    let below : q.pair < length routes = subst (λ k. k < length routes) best.1 best.0.within in
    let (o, shortest) =
    least_paths_exist net m.weights formed metric.count (All-from_get_or (λ w. 1 ≤ w) m.weights 0 (λ h less. weights.some h (omega (arith, less, metric.count))))
    (source_of routes q.pair) (destination_of routes q.pair) (within.nodes q.pair below).0 (within.nodes q.pair below).1
    in
    round_by net routes wanted l m q.pair o formed within shared metric below (q.share, q.distance, best) shortest
