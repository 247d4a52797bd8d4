-- What follows the weights of a metric in the next round.
use Rattle.std.proofs.Common.{◌≡◌, ℕ, ◌+◌, ◌*◌, ◌/◌, ◌<◌, ◌≤◌, Bool, true, false, List, [], ◌∷◌, Option, Some, None, length, arith, refl, sym, subst, get_or, slice_index, cond}
use Rattle.std.specs.Prelude.{All}
use Rattle.std.proofs.lemmas.Bool.{eqb-true, lt-ltb}
use Rattle.std.proofs.lemmas.List.{get_or_default}
use Rattle.std.proofs.lemmas.List.Elements.{All-nil}
use Rattle.te_model.specs.declared.network.Network.{Network}
use Rattle.te_model.specs.declared.route.PairRoutes.{PairRoutes}
use Rattle.te_model.specs.declared.route.Path.{Path}
use Rattle.te_model.specs.declared.demand.DemandSet.{DemandSet}
use Rattle.te_model.specs.declared.demand.DemandSet.TheVariants.{All as AllMatrices, Margin, Box}
use Rattle.te_model.specs.Network.{is_well_formed, link_count, capacity_of, node_count}
use Rattle.te_model.specs.Path.{has_number, no_routes, source_of, destination_of}
use Rattle.te_model.proofs.Chains.{chains_of_path, path_links}
use Rattle.te_model.proofs.WellFormed.{capacities_positive}
use Rattle.shortest_path.specs.Least.{links_of}
use Rattle.shortest_path.specs.Paths.{IsDistance, IsLeastPath}
use Rattle.best_blocks.specs.declared.metric.Metric.{Metric}
use Rattle.best_blocks.specs.declared.sharing.SharedLink.{SharedLink}
use Rattle.best_blocks.specs.Best.{needs_row}
use Rattle.best_blocks.specs.Conditions.{IsRoutingWithin}
use Rattle.best_blocks.specs.Metric.{IsMetric}
use Rattle.best_blocks.specs.Quotient.{IsGreatestAt}
use Rattle.best_blocks.specs.Sharing.{IsSharedLink}
use Rattle.best_blocks.proofs.Scaled.{needed_distances}
use Rattle.ratio_certificate.specs.Rising.{IsRoundAfter}
use Rattle.ratio_certificate.specs.Rounds.{raised_weight, AreRaised, IsNarrowest, IsNextRound}
use Rattle.ratio_certificate.specs.Weighting.{AreWeights}
use Rattle.best_blocks.proofs.Positive.{least_far}
use Rattle.ratio_certificate.proofs.RoundLaws.{all_has, next_none, next_only, raised_more}

-- a pair with a share needs a row, whatever the set
pub needs_some : (set : DemandSet) (s : ℕ) → 0 < s → needs_row set s ≡ true
needs_some AllMatrices s some = lt-ltb 0 s some
needs_some (Margin num den base) s some = refl
needs_some (Box lower upper) s some = refl

-- the distances of the pairs with a share
shared_distances : (net : Network) (routes : List PairRoutes) (set : DemandSet) (l : SharedLink) (m : Metric) → IsRoutingWithin net routes →
    IsSharedLink net routes set l → IsMetric net routes l.marks m → (p : ℕ) → p < length routes → 0 < slice_index l.shares p →
    IsDistance net m.weights (source_of routes p) (destination_of routes p) (Some (slice_index m.distances p))
shared_distances net routes set l m within shared metric p below some =
    needed_distances net routes set l m within shared metric p below (needs_some set (slice_index l.shares p) some)

-- no pair with a share has the distance 0
pub shared_far : (net : Network) (routes : List PairRoutes) (set : DemandSet) (l : SharedLink) (m : Metric) → IsRoutingWithin net routes →
    IsSharedLink net routes set l → IsMetric net routes l.marks m → AreWeights net m.weights → (p : ℕ) → p < length l.shares → 0 < slice_index l.shares p →
    1 ≤ slice_index m.distances p
shared_far net routes set l m within shared metric weights p below some =
    least_far net routes set m.weights 1 (slice_index l.shares) (slice_index m.distances) within weights.some (needed_distances net routes set l m within shared metric) p
    (omega (arith, below, shared.shares_are.count)) (needs_some set (slice_index l.shares p) some)

-- a path between two nodes has a link, and its links are of the network
path_between : (net : Network) (weights : List ℕ) (s t : ℕ) (path : List ℕ) → (s ≡ t → ⊥) → IsLeastPath net weights s t (Some path) →
    All (λ h. h < link_count net) path × (0 < length path)
path_between net weights s t [] apart is = absurd (apart (eqb-true s t (chains_of_path net s t [] is.0)))
path_between net weights s t (h ∷ hs) apart is = (path_links net s t (h ∷ hs) is.0, omega arith)

-- the first pair with the greatest share by distance, by the lists that were read
pub dearest_read : (n d : ℕ) (xs ds shares distances : List ℕ) → xs ≡ shares → ds ≡ distances → length shares ≡ n →
    (a : ℕ) × (b : ℕ) × IsGreatestAt (length xs) (slice_index xs) (slice_index ds) d a b →
    (a : ℕ) × (b : ℕ) × IsGreatestAt n (slice_index shares) (slice_index distances) d a b
dearest_read n d xs ds shares distances is_xs is_ds count dearest =
    subst (λ k. (a : ℕ) × (b : ℕ) × IsGreatestAt k (slice_index shares) (slice_index distances) d a b) count
    (subst (λ (y : List ℕ). (a : ℕ) × (b : ℕ) × IsGreatestAt (length shares) (slice_index shares) (slice_index y) d a b) is_ds
    (subst (λ (x : List ℕ). (a : ℕ) × (b : ℕ) × IsGreatestAt (length x) (slice_index x) (slice_index ds) d a b) is_xs dearest))

-- the least path of the first pair with the greatest share by distance, if links lead to its destination
pub record IsDearestPath (net : Network) (routes : List PairRoutes) (l : SharedLink) (m : Metric) (d : ℕ) (o : Option Path) : Type 0 where
  pub below : d < length routes
  pub dearest : (a : ℕ) × (b : ℕ) × IsGreatestAt (length routes) (slice_index l.shares) (slice_index m.distances) d a b
  pub shortest : IsLeastPath net m.weights (source_of routes d) (destination_of routes d) (links_of o)

-- the same, by the lists that were read
pub dearest_path : (net : Network) (routes read : List PairRoutes) (l : SharedLink) (m : Metric) (xs ds ws : List ℕ) (d : ℕ) (at : PairRoutes) (found o : Option Path) →
    xs ≡ l.shares → ds ≡ m.distances → ws ≡ m.weights → read ≡ routes → found ≡ o → length l.shares ≡ length routes →
    (a : ℕ) × (b : ℕ) × IsGreatestAt (length xs) (slice_index xs) (slice_index ds) d a b →
    IsLeastPath net ws (get_or read d at).pair.src (get_or read d at).pair.dst (links_of found) → IsDearestPath net routes l m d o
dearest_path net routes read l m xs ds ws d at found o is_xs is_ds is_ws is_read is_found count read_dearest read_shortest = record {
  below = below;
  dearest = dearest;
  shortest = subst (λ (x : Option Path). IsLeastPath net m.weights (source_of routes d) (destination_of routes d) (links_of x)) is_found
      (subst (λ (w : List ℕ). IsLeastPath net w (source_of routes d) (destination_of routes d) (links_of found)) is_ws
      (subst (λ (r : PairRoutes). IsLeastPath net ws r.pair.src r.pair.dst (links_of found)) (get_or_default routes d at no_routes below)
      (subst (λ (rs : List PairRoutes). IsLeastPath net ws (get_or rs d at).pair.src (get_or rs d at).pair.dst (links_of found)) is_read read_shortest)));
}
  where
    dearest : (a : ℕ) × (b : ℕ) × IsGreatestAt (length routes) (slice_index l.shares) (slice_index m.distances) d a b
    dearest = dearest_read (length routes) d xs ds l.shares m.distances is_xs is_ds count read_dearest

    below : d < length routes
    below = within dearest
      where
        within : (a : ℕ) × (b : ℕ) × IsGreatestAt (length routes) (slice_index l.shares) (slice_index m.distances) d a b → d < length routes
        within (a, b, is) = subst (λ p. p < length routes) is.1 is.0.within

-- the nodes of its pair, by the lists that were read
pub dearest_nodes : (net : Network) (routes read : List PairRoutes) (xs ds : List ℕ) (d : ℕ) (at : PairRoutes) → length xs ≡ length routes → read ≡ routes →
    IsRoutingWithin net routes → (a : ℕ) × (b : ℕ) × IsGreatestAt (length xs) (slice_index xs) (slice_index ds) d a b →
    ((get_or read d at).pair.src < node_count net) × ((get_or read d at).pair.dst < node_count net) × ((get_or read d at).pair.src ≡ (get_or read d at).pair.dst → ⊥)
dearest_nodes net routes read xs ds d at count is_read within (a, b, is) =
    let below : d < length routes = omega (arith, count, subst (λ p. p < length xs) is.1 is.0.within) in
    let same : get_or routes d no_routes ≡ get_or read d at =
    sym (subst (λ (rs : List PairRoutes). get_or rs d at ≡ get_or routes d no_routes) (sym is_read) (get_or_default routes d at no_routes below))
    in
    let nodes = within.nodes d below in (
      subst (λ (r : PairRoutes). r.pair.src < node_count net) same nodes.0,
      subst (λ (r : PairRoutes). r.pair.dst < node_count net) same nodes.1,
      subst (λ (r : PairRoutes). r.pair.src ≡ r.pair.dst → ⊥) same (within.apart d below),
    )

-- its links
pub dearest_links : (net : Network) (routes : List PairRoutes) (l : SharedLink) (m : Metric) (d : ℕ) (path : Path) → IsRoutingWithin net routes →
    IsDearestPath net routes l m d (Some path) → All (λ h. h < link_count net) path.links × (0 < length path.links)
dearest_links net routes l m d path within is =
    path_between net m.weights (source_of routes d) (destination_of routes d) path.links (within.apart d is.below) is.shortest

-- the same, by the lists that were read
pub links_read : (net : Network) (routes read : List PairRoutes) (l : SharedLink) (m : Metric) (xs ds ws hs : List ℕ) (d : ℕ) (at : PairRoutes) (found : Option Path) (path : Path) →
    xs ≡ l.shares → ds ≡ m.distances → ws ≡ m.weights → hs ≡ path.links → read ≡ routes → found ≡ Some path → length l.shares ≡ length routes →
    (a : ℕ) × (b : ℕ) × IsGreatestAt (length xs) (slice_index xs) (slice_index ds) d a b →
    IsLeastPath net ws (get_or read d at).pair.src (get_or read d at).pair.dst (links_of found) → IsRoutingWithin net routes →
    All (λ h. h < link_count net) hs × (0 < length hs)
links_read net routes read l m xs ds ws hs d at found path is_xs is_ds is_ws is_hs is_read is_found count dearest shortest within =
    subst (λ (x : List ℕ). All (λ h. h < link_count net) x × (0 < length x)) (sym is_hs)
    (dearest_links net routes l m d path within
    (dearest_path net routes read l m xs ds ws d at found (Some path) is_xs is_ds is_ws is_read is_found count dearest shortest))

-- raised weights, by the lists that were read
pub raised_read : (net : Network) (hs path ws weights next new : List ℕ) → hs ≡ path → ws ≡ weights → new ≡ next →
    (least : ℕ) × IsNarrowest net hs least × AreRaised net hs least ws next → (least : ℕ) × IsNarrowest net path least × AreRaised net path least weights new
raised_read net hs path ws weights next new is_path is_ws is_new raised =
    subst (λ (x : List ℕ). (least : ℕ) × IsNarrowest net path least × AreRaised net path least weights x) (sym is_new)
    (subst (λ (x : List ℕ). (least : ℕ) × IsNarrowest net path least × AreRaised net path least x next) is_ws
    (subst (λ (x : List ℕ). (least : ℕ) × IsNarrowest net x least × AreRaised net x least ws next) is_path raised))

-- how much raised weights are
raised_each : (net : Network) (path old new : List ℕ) (least : ℕ) → is_well_formed net ≡ true → length old ≡ link_count net → IsNarrowest net path least →
    AreRaised net path least old new → (h : ℕ) → h < length old →
    (slice_index old h ≤ slice_index new h) × (slice_index new h ≤ (5 * slice_index old h + 3) / 4)
raised_each net path old new least formed count narrow are h below = go (has_number path h) refl (are.each h below)
  where
    go : (b : Bool) → has_number path h ≡ b → slice_index new h ≡ cond b (raised_weight least (capacity_of net h) (slice_index old h)) (slice_index old h) →
        (slice_index old h ≤ slice_index new h) × (slice_index new h ≤ (5 * slice_index old h + 3) / 4)
    go true has at =
        let some = capacities_positive net formed h (omega (arith, below, count)) in
        let more = raised_more least (capacity_of net h) (slice_index old h) some (all_has (λ h. least ≤ capacity_of net h) path h narrow.bound has) in
        (omega (arith, at, more.0), omega (arith, at, more.1))
    go false has at = (omega (arith, at), omega (arith, at))

-- the weights of the next round where the path is raised
pub round_after : (net : Network) (routes : List PairRoutes) (set : DemandSet) (l : SharedLink) (m : Metric) (new : List ℕ) (path : Path) (d : ℕ) →
    is_well_formed net ≡ true → IsRoutingWithin net routes → IsSharedLink net routes set l → IsMetric net routes l.marks m →
    IsDearestPath net routes l m d (Some path) → (least : ℕ) × IsNarrowest net path.links least × AreRaised net path.links least m.weights new →
    IsRoundAfter net routes l.link m.weights (record { weights = new; path = path.links })
round_after net routes set l m new path d formed within shared metric is (least, narrow, are) = record {
  count = are.count;
  more = raised_each net path.links m.weights new least formed metric.count narrow are;
  links = (dearest_links net routes l m d path within is).0;
  others = λ h below none. go h (has_number path.links h) none (are.each h (omega (arith, below, metric.count)));
  only = λ weights next. only weights next is.dearest;
}
  where
    go : (h : ℕ) (b : Bool) → b ≡ false → slice_index new h ≡ cond b (raised_weight least (capacity_of net h) (slice_index m.weights h)) (slice_index m.weights h) →
        slice_index new h ≡ slice_index m.weights h
    go h true none at = cc
    go h false none at = at

    only : (weights : List ℕ) → IsNextRound net routes l.link m.weights weights →
        (a : ℕ) × (b : ℕ) × IsGreatestAt (length routes) (slice_index l.shares) (slice_index m.distances) d a b → weights ≡ new
    only weights next (a, b, dearest) =
        next_only net routes l.link m.weights new weights (slice_index l.shares) (slice_index m.distances) a b least path.links shared.shares_are.each
        (shared_distances net routes set l m within shared metric) dearest.0
        (subst (λ k. IsLeastPath net m.weights (source_of routes k) (destination_of routes k) (Some path.links)) (sym dearest.1) is.shortest) narrow are next

-- where no path leads to the destination there is no next round, and the weights stay
pub no_round_after : (net : Network) (routes : List PairRoutes) (set : DemandSet) (l : SharedLink) (m : Metric) (weights path : List ℕ) (d : ℕ) →
    IsRoutingWithin net routes → IsSharedLink net routes set l → IsMetric net routes l.marks m → IsDearestPath net routes l m d None →
    weights ≡ m.weights → path ≡ [] → IsRoundAfter net routes l.link m.weights (record { weights = weights; path = path })
no_round_after net routes set l m weights path d within shared metric is same empty =
    subst (λ (ws : List ℕ). IsRoundAfter net routes l.link m.weights (record { weights = ws; path = path })) (sym same) (record {
      count = refl;
      more = λ h below. (omega arith, omega arith);
      links = subst (λ (hs : List ℕ). All (λ h. h < link_count net) hs) (sym empty) (All-nil (λ h. h < link_count net));
      others = λ h below free. refl;
      only = λ new next. absurd (none new next is.dearest);
    })
  where
    none : (new : List ℕ) → IsNextRound net routes l.link m.weights new →
        (a : ℕ) × (b : ℕ) × IsGreatestAt (length routes) (slice_index l.shares) (slice_index m.distances) d a b → ⊥
    none new next (a, b, dearest) =
        next_none net routes l.link m.weights new (slice_index l.shares) (slice_index m.distances) a b shared.shares_are.each
        (shared_distances net routes set l m within shared metric) dearest.0
        (subst (λ k. IsLeastPath net m.weights (source_of routes k) (destination_of routes k) None) (sym dearest.1) is.shortest) next
