-- A link that is tight in no row of a critical source: a greater weight on it leaves the critical pairs where they are.
use Rattle.std.proofs.Common.{◌≡◌, ◌⊎◌, ℕ, ◌+◌, ◌<◌, ◌≤◌, Bool, true, false, List, [], Option, Some, length, get_or, set, arith, ap, refl, sym, subst, ◌∙◌, inl, inr, slice_index, ◌==◌}
use Rattle.std.proofs.lemmas.Bool.{cases_eq, eq-eqb}
use Rattle.std.proofs.lemmas.List.{get_or-set_other, get_or-set_same, get_or_read}
use Rattle.te_model.specs.declared.network.Network.{Network}
use Rattle.te_model.specs.declared.route.PairRoutes.{PairRoutes}
use Rattle.te_model.specs.Network.{capacity_of, is_well_formed, link_count, node_count, tail_of, head_of}
use Rattle.te_model.specs.Path.{source_of, destination_of}
use Rattle.te_model.proofs.WellFormed.{capacities_positive, links_join}
use Rattle.shortest_path.specs.Graph.{distance_at}
use Rattle.shortest_path.specs.Laws.{IsSlack}
use Rattle.shortest_path.specs.Least.{is_sum}
use Rattle.shortest_path.specs.Paths.{AreDistances, IsDistance}
use Rattle.shortest_path.proofs.Filling.{rises_by}
use Rattle.shortest_path.proofs.Stay.{distances_stay}
use Rattle.shortest_path.proofs.Unique.{distance_only, distance_unique}
use Rattle.best_blocks.specs.Need.{need_by}
use Rattle.best_blocks.specs.Rows.{distances_from, is_marked}
use Rattle.ratio_certificate.specs.declared.changes.Changes.{Changes}
use Rattle.ratio_certificate.specs.Changing.{weights_of, AreChanges, HelpsNotIn, IsTightFrom}
use Rattle.ratio_certificate.specs.Critical.{is_tight_in}
use Rattle.ratio_certificate.specs.Polished.{ImprovesBy64th}
use Rattle.ratio_certificate.proofs.Bounds.{greater_need, lower_no_farther, need_at_least, GoesNoFarther}
use Rattle.ratio_certificate.proofs.Positive.{AreScaleBounds}
use Rattle.ratio_certificate.proofs.Weighed.{scale_within}

-- a smaller weight in place of one leaves no weight greater
pub set_smaller : (ws : List ℕ) (link weight : ℕ) → link < length ws → weight ≤ slice_index ws link → (h : ℕ) → slice_index (set ws link weight) h ≤ slice_index ws h
set_smaller ws link weight below less h = elim (cases_eq h link) [
  | inl same ↦ subst (λ i. slice_index (set ws link weight) i ≤ slice_index ws i) (sym same) (omega (arith, get_or-set_same ws link weight 0 below, less))
  | inr apart ↦ omega (arith, get_or-set_other ws link h weight 0 apart)
]

-- a greater one leaves none smaller
pub set_greater : (ws : List ℕ) (link weight : ℕ) → link < length ws → slice_index ws link ≤ weight → (h : ℕ) → slice_index ws h ≤ slice_index (set ws link weight) h
set_greater ws link weight below more h = elim (cases_eq h link) [
  | inl same ↦ subst (λ i. slice_index ws i ≤ slice_index (set ws link weight) i) (sym same) (omega (arith, get_or-set_same ws link weight 0 below, more))
  | inr apart ↦ omega (arith, get_or-set_other ws link h weight 0 apart)
]

-- a link that is not tight in a row stays slack where its weight rises
not_tight_slack : (net : Network) (old : List ℕ) (s new h : ℕ) (row : List (Option ℕ)) → is_well_formed net ≡ true → h < link_count net → AreDistances net old s row →
    is_tight_in net row old h ≡ false → slice_index old h ≤ new → IsSlack net row (slice_index old h) new h
not_tight_slack net old s new h row formed below are loose more x y from to =
    let w = slice_index old h in
    let ends = links_join net formed h below in
    let at : (y == w + x) ≡ false =
    subst (λ (o : Option ℕ). is_sum (Some y) o w ≡ false) from (subst (λ (o : Option ℕ). is_sum o (distance_at row (tail_of net h)) w ≡ false) to loose)
    in
    let (z, is, near) =
    rises_by net old s h x (distance_at row (head_of net h)) below (subst (IsDistance net old s (tail_of net h)) from (are.each (tail_of net h) ends.0))
    (are.each (head_of net h) ends.1)
    in
    let one : Some y ≡ Some z = sym to ∙ is in
    let y_is : y ≡ z = cc in
    (λ tight. let contrary : false ≡ true = sym at ∙ eq-eqb y (w + x) (omega (arith, tight)) in cc, omega (arith, near, y_is, more))

-- .. so the row stays
row_stays : (net : Network) (old : List ℕ) (s weight h : ℕ) (row : List (Option ℕ)) → is_well_formed net ≡ true → s < node_count net → h < link_count net →
    length old ≡ link_count net → AreDistances net old s row → is_tight_in net row old h ≡ false → slice_index old h ≤ weight →
    AreDistances net (set old h weight) s row
row_stays net old s weight h row formed inside below count are loose more =
    distances_stay net (links_join net formed) old (set old h weight) s row inside each are
  where
    each : (k : ℕ) → k < link_count net → (slice_index (set old h weight) k ≡ slice_index old k) ⊎ IsSlack net row (slice_index old k) (slice_index (set old h weight) k) k
    each k within = elim (cases_eq k h) [
      | inl same ↦
          let there = get_or-set_same old h weight 0 (omega (arith, below, count)) in
          inr (subst (λ i. IsSlack net row (slice_index old i) (slice_index (set old h weight) i) i) (sym same)
          (not_tight_slack net old s (slice_index (set old h weight) h) h row formed below are loose (omega (arith, more, there))))
      | inr apart ↦ inl (get_or-set_other old h k weight 0 apart)
    ]

-- a row that stays leaves each node where it is
row_no_farther : (net : Network) (old new : List ℕ) (s t : ℕ) (row : List (Option ℕ)) → t < node_count net → AreDistances net old s row → AreDistances net new s row →
    GoesNoFarther net old new s t
row_no_farther net old new s t row inside are stay d d' one two =
    let same : distance_at row t ≡ Some d = distance_only net old s t (distance_at row t) (Some d) (are.each t inside) one in
    let kept = subst (IsDistance net new s t) same (stay.each t inside) in
    omega (arith, distance_unique net new s t d d' kept two)

-- the numbers of the scale that stands
pub standing_scale : (c : Changes) → AreChanges c → AreScaleBounds 1 c.scale.a c.scale.b
standing_scale c are =
    scale_within c.problem.net.now c.problem.routing.now.routes c.problem.set.now c.shared.now.link 1 c.scale.a c.scale.b (weights_of c) are.problem.network
    are.problem.routing (omega arith) are.weights are.weights.some are.scale

-- a greater weight on a link that is tight in no row of a critical source helps not
pub greater_helps_not : (c : Changes) (link weight : ℕ) → AreChanges c → link < link_count c.problem.net.now → slice_index (weights_of c) link ≤ weight →
    ((i : ℕ) → is_marked c.critical.now i ≡ true → IsTightFrom c i link → ⊥) → HelpsNotIn c (set (weights_of c) link weight)
greater_helps_not c link weight are below more none x under better =
    let bounds = standing_scale c are in
    let less : c.need ≤ x = omega (arith, are.need_is, rising bounds.b_large, least) in
    omega (arith, less, better.0)
  where
    net : Network
    net = c.problem.net.now

    routes : List PairRoutes
    routes = c.problem.routing.now.routes

    old : List ℕ
    old = weights_of c

    new : List ℕ
    new = set (weights_of c) link weight

    e : ℕ
    e = c.shared.now.link

    some : 1 ≤ capacity_of net e
    some = capacities_positive net are.problem.network e are.shared.within

    rising : 1 ≤ c.scale.b → need_by net e old c.scale.a c.scale.b ≤ need_by net e new c.scale.a c.scale.b
    rising some_b = greater_need net e old new c.scale.a c.scale.b some some_b (set_greater old link weight (omega (arith, below, are.weights.count)) more)

    loose : (i : ℕ) → is_marked c.critical.now i ≡ true → is_tight_in net (distances_from c.metric.now.rows i) old link ≡ false
    loose i marked = go (is_tight_in net (distances_from c.metric.now.rows i) old link) refl
      where
        go : (b : Bool) → is_tight_in net (distances_from c.metric.now.rows i) old link ≡ b → b ≡ false
        go true is = absurd (none i marked is)
        go false is = refl

    stays : (i t : ℕ) → i < node_count net → t < node_count net → is_marked c.critical.now i ≡ true → GoesNoFarther net old new i t
    stays i t i_in t_in marked =
        let row = are.metric.rows_are.each i i_in (are.critical.rows i marked) in
        row_no_farther net old new i t (distances_from c.metric.now.rows i) t_in row
        (row_stays net old i weight link (distances_from c.metric.now.rows i) are.problem.network i_in below are.weights.count row (loose i marked) more)

    least : need_by net e new c.scale.a c.scale.b ≤ x
    least =
        need_at_least net routes c.problem.set.now e old new c.scale.a c.scale.b x some are.scale under
        (λ p within needs critical. stays (source_of routes p) (destination_of routes p) (are.problem.routing.nodes p within).0 (are.problem.routing.nodes p within).1
        (are.critical.complete are.scale.shares are.scale.distance are.scale.shares_are are.scale.distances_are p critical))

-- a smaller weight helps not where what the scale that stands says is no improvement
pub smaller_helps_not : (c : Changes) (link weight : ℕ) → AreChanges c → link < link_count c.problem.net.now → weight ≤ slice_index (weights_of c) link →
    (ImprovesBy64th c.need (need_by c.problem.net.now c.shared.now.link (set (weights_of c) link weight) c.scale.a c.scale.b) → ⊥) →
    HelpsNotIn c (set (weights_of c) link weight)
smaller_helps_not c link weight are below less worse x under better =
    let net = c.problem.net.now in
    let routes = c.problem.routing.now.routes in
    let old = weights_of c in
    let new = set (weights_of c) link weight in
    let e = c.shared.now.link in
    let least : need_by net e new c.scale.a c.scale.b ≤ x =
    need_at_least net routes c.problem.set.now e old new c.scale.a c.scale.b x (capacities_positive net are.problem.network e are.shared.within) are.scale under
    (λ p within needs critical. lower_no_farther net old new (set_smaller old link weight (omega (arith, below, are.weights.count)) less)
    (source_of routes p) (destination_of routes p))
    in
    worse (improves_below c.need x (need_by net e new c.scale.a c.scale.b) least better)
  where
    improves_below : (need x y : ℕ) → y ≤ x → ImprovesBy64th need x → ImprovesBy64th need y
    improves_below need x y less (lower, share) = (omega (arith, less, lower), omega (arith, less, share))

-- a link is as tight in a row of the rows that were read
pub tight_read : (net : Network) (rows read : List (List (Option ℕ))) (at row : List (Option ℕ)) (i link : ℕ) (ws weights : List ℕ) → i < length rows → read ≡ rows →
    at ≡ get_or read i at → row ≡ at → ws ≡ weights → is_tight_in net row ws link ≡ is_tight_in net (distances_from rows i) weights link
tight_read net rows read at row i link ws weights inside is_read is_at is_row is_ws =
    let below : i < length read = omega (arith, inside, ap (λ (rs : List (List (Option ℕ))). length rs) is_read) in
    let row_is : row ≡ distances_from rows i = is_row ∙ get_or_read read i at below is_at [] ∙ ap (λ (rs : List (List (Option ℕ))). get_or rs i []) is_read in
    ap (λ (r : List (Option ℕ)). is_tight_in net r ws link) row_is ∙ ap (λ (x : List ℕ). is_tight_in net (distances_from rows i) x link) is_ws
