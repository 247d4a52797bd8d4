-- The marks of the sources of critical pairs.
use Rattle.std.proofs.Common.{◌≡◌, ℕ, ◌⊎◌, ◌<◌, ◌≤◌, Bool, true, false, List, length, set, replicate, get_or, arith, ap, refl, sym, subst, ◌∙◌, inl, inr, slice_index}
use Rattle.std.proofs.lemmas.Bool.{cases_eq, cases_lt, lt-ltb}
use Rattle.std.proofs.lemmas.List.{get_or-replicate, get_or-set_same, get_or-set_other, get_or_default, length-replicate, length-set}
use Rattle.te_model.specs.declared.network.Network.{Network}
use Rattle.te_model.specs.declared.route.PairRoutes.{PairRoutes}
use Rattle.te_model.specs.declared.demand.DemandSet.{DemandSet}
use Rattle.te_model.specs.declared.demand.DemandSet.TheVariants.{All as AllMatrices, Margin, Box}
use Rattle.te_model.specs.Network.{node_count}
use Rattle.te_model.specs.Path.{destination_of, no_routes, source_of}
use Rattle.te_model.proofs.Tests.{get_or_past}
use Rattle.shortest_path.proofs.Unique.{distance_unique}
use Rattle.best_blocks.specs.declared.metric.Metric.{Metric}
use Rattle.best_blocks.specs.declared.sharing.SharedLink.{SharedLink}
use Rattle.best_blocks.specs.Conditions.{IsRoutingWithin}
use Rattle.best_blocks.specs.Metric.{IsMetric}
use Rattle.best_blocks.specs.Quotient.{IsGreatestAt}
use Rattle.best_blocks.specs.Rows.{is_marked}
use Rattle.best_blocks.specs.Sharing.{IsSharedLink}
use Rattle.best_blocks.proofs.Scaled.{needed_distances}
use Rattle.ratio_certificate.specs.Critical.{AreCriticalMarks}
use Rattle.ratio_certificate.specs.Form.{HasBounds}
use Rattle.ratio_certificate.proofs.NextRounds.{dearest_read}
use Rattle.ratio_certificate.proofs.RoundLaws.{dearest_only}

-- one node is marked
marked_alone : (n s i : ℕ) → is_marked (set (replicate n false) s true) i ≡ true → i ≡ s
marked_alone n s i is = elim (cases_eq i s) [
  | inl same ↦ same
  | inr apart ↦ let none : false ≡ true = sym (unmarked (cases_lt i n)) ∙ sym (get_or-set_other (replicate n false) s i true false apart) ∙ is in cc
]
  where
    unmarked : (i < n) ⊎ (n ≤ i) → get_or (replicate n false) i false ≡ false
    unmarked (inl lt) = get_or-replicate n i false false lt
    unmarked (inr ge) = get_or_past (replicate n false) i false (omega (arith, ge, length-replicate n false))

-- for every matrix the source of the dearest pair is marked
dearest_for_all : (net : Network) (routes : List PairRoutes) (l : SharedLink) (m : Metric) (d a b : ℕ) → IsRoutingWithin net routes →
    IsSharedLink net routes AllMatrices l → IsMetric net routes l.marks m → IsGreatestAt (length routes) (slice_index l.shares) (slice_index m.distances) d a b →
    AreCriticalMarks net routes AllMatrices l m.weights (set (replicate (node_count net) false) (source_of routes d) true)
dearest_for_all net routes l m d a b within shared metric (dearest, pair_is) = record {
  count = length-set (replicate n false) s true ∙ length-replicate n false;
  rows = λ i marked.
      subst (λ k. is_marked l.marks k ≡ true) (sym (marked_alone n s i marked))
      (shared.marks_are.complete d inside (lt-ltb 0 (slice_index l.shares d) (subst (λ p. 0 < slice_index l.shares p) pair_is dearest.positive)));
  complete = λ shares distance are known p critical.
      let (x, y, (other, other_is)) = critical in
      let same : (q : ℕ) → q < length routes → shares q ≡ slice_index l.shares q = λ q below. are q below ∙ sym (shared.shares_are.each q below) in
      let pair : dearest.pair ≡ other.pair =
      dearest_only (length routes) (slice_index l.shares) (slice_index m.distances) shares distance a b x y same
      (λ q below some. distance_unique net m.weights (source_of routes q) (destination_of routes q) (distance q) (slice_index m.distances q)
      (known q below (lt-ltb 0 (shares q) (omega (arith, some, same q below))))
      (needed_distances net routes AllMatrices l m within shared metric q below (lt-ltb 0 (slice_index l.shares q) some)))
      dearest other
      in
      let p_is : p ≡ d = sym other_is ∙ sym pair ∙ pair_is in
      subst (λ k. is_marked (set (replicate n false) s true) (source_of routes k) ≡ true) (sym p_is)
      (get_or-set_same (replicate n false) s true false (omega (arith, (within.nodes d inside).0, length-replicate n false)));
}
  where
    n : ℕ
    n = node_count net

    s : ℕ
    s = source_of routes d

    inside : d < length routes
    inside = omega (arith, dearest.within, pair_is)

pub dearest_marks : (net : Network) (routes : List PairRoutes) (set_of : DemandSet) (l : SharedLink) (m : Metric) (d a b : ℕ) → set_of ≡ AllMatrices →
    IsRoutingWithin net routes → IsSharedLink net routes set_of l → IsMetric net routes l.marks m →
    IsGreatestAt (length routes) (slice_index l.shares) (slice_index m.distances) d a b →
    AreCriticalMarks net routes set_of l m.weights (set (replicate (node_count net) false) (source_of routes d) true)
dearest_marks net routes AllMatrices l m d a b is within shared metric dearest = dearest_for_all net routes l m d a b within shared metric dearest
dearest_marks net routes (Margin num den base) l m d a b is within shared metric dearest = cc
dearest_marks net routes (Box lower upper) l m d a b is within shared metric dearest = cc

-- between bounds every source is marked
pub marks_between : (net : Network) (routes : List PairRoutes) (wanted : DemandSet) (l : SharedLink) (weights : List ℕ) → HasBounds wanted →
    IsSharedLink net routes wanted l → AreCriticalMarks net routes wanted l weights l.marks
marks_between net routes AllMatrices l weights bounded shared = absurd bounded
marks_between net routes (Margin num den base) l weights bounded shared = record {
  count = shared.marks_are.count;
  rows = λ i marked. marked;
  complete = λ shares distance are known p critical. shared.marks_are.complete p critical refl;
}
marks_between net routes (Box lower upper) l weights bounded shared = record {
  count = shared.marks_are.count;
  rows = λ i marked. marked;
  complete = λ shares distance are known p critical. shared.marks_are.complete p critical refl;
}

-- the same, by the lists that were read
pub dearest_marks_read : (net : Network) (routes read : List PairRoutes) (wanted : DemandSet) (l : SharedLink) (m : Metric) (xs ds : List ℕ) (d n : ℕ) (at : PairRoutes)
    (marks : List Bool) → wanted ≡ AllMatrices → IsRoutingWithin net routes → IsSharedLink net routes wanted l → IsMetric net routes l.marks m → read ≡ routes →
    xs ≡ l.shares → ds ≡ m.distances → n ≡ node_count net → marks ≡ replicate n false →
    (a : ℕ) × (b : ℕ) × IsGreatestAt (length xs) (slice_index xs) (slice_index ds) d a b →
    AreCriticalMarks net routes wanted l m.weights (set marks (get_or read d at).pair.src true)
dearest_marks_read net routes read wanted l m xs ds d n at marks every within shared metric is_read is_xs is_ds is_n is_marks dearest =
    go (dearest_read (length routes) d xs ds l.shares m.distances is_xs is_ds shared.shares_are.count dearest)
  where
    go : (a : ℕ) × (b : ℕ) × IsGreatestAt (length routes) (slice_index l.shares) (slice_index m.distances) d a b →
        AreCriticalMarks net routes wanted l m.weights (set marks (get_or read d at).pair.src true)
    go (a, b, is) =
        let inside : d < length routes = subst (λ p. p < length routes) is.1 is.0.within in
        let same : get_or read d at ≡ get_or routes d no_routes =
        subst (λ (rs : List PairRoutes). get_or rs d at ≡ get_or routes d no_routes) (sym is_read) (get_or_default routes d at no_routes inside)
        in
        let blank : marks ≡ replicate (node_count net) false = is_marks ∙ ap (λ k. replicate k false) is_n in
        subst (λ (r : PairRoutes). AreCriticalMarks net routes wanted l m.weights (set marks r.pair.src true)) (sym same)
        (subst (λ (ms : List Bool). AreCriticalMarks net routes wanted l m.weights (set ms (source_of routes d) true)) (sym blank)
        (dearest_marks net routes wanted l m d a b every within shared metric is))
