-- Metrics for links whose marks are others.
use Rattle.std.proofs.Common.{◌≡◌, ◌⊎◌, ℕ, ◌<◌, Bool, true, false, List, [], Option, replicate, refl, subst, inr}
use Rattle.std.proofs.lemmas.List.{get_or-replicate}
use Rattle.te_model.specs.declared.network.Network.{Network}
use Rattle.te_model.specs.declared.route.PairRoutes.{PairRoutes}
use Rattle.te_model.specs.declared.demand.DemandSet.{DemandSet}
use Rattle.te_model.specs.declared.demand.DemandSet.TheVariants.{All as AllMatrices, Margin, Box}
use Rattle.te_model.specs.Network.{node_count}
use Rattle.best_blocks.specs.declared.metric.Metric.{Metric}
use Rattle.best_blocks.specs.declared.sharing.SharedLink.{SharedLink}
use Rattle.best_blocks.specs.Best.{needs_row}
use Rattle.best_blocks.specs.Metric.{IsMetric}
use Rattle.best_blocks.specs.Rows.{distances_from, is_marked, AreRowsFrom}
use Rattle.shortest_path.specs.Paths.{AreDistances}
use Rattle.best_blocks.specs.Sharing.{IsSharedLink}
use Rattle.ratio_certificate.specs.Form.{HasBounds}

-- rows from the marked nodes are rows from those of fewer marks
fewer_rows : (n : ℕ) (net : Network) (weights : List ℕ) (marks fewer : List Bool) (rows : List (List (Option ℕ))) → ((i : ℕ) → i < n → is_marked fewer i ≡ true → is_marked marks i ≡ true) →
    AreRowsFrom n net weights marks rows → AreRowsFrom n net weights fewer rows
fewer_rows n net weights marks fewer rows less are = record {
  count = are.count;
  each = λ i below marked. are.each i below (less i below marked);
  others = λ i below unmarked. go i below (is_marked marks i) refl;
}
  where
    go : (i : ℕ) → i < n → (b : Bool) → is_marked marks i ≡ b → (distances_from rows i ≡ []) ⊎ AreDistances net weights i (distances_from rows i)
    go i below true is = inr (are.each i below is)
    go i below false is = are.others i below is

-- a metric is one for fewer marks
pub metric_for_fewer : (net : Network) (routes : List PairRoutes) (marks fewer : List Bool) (m : Metric) →
    ((i : ℕ) → i < node_count net → is_marked fewer i ≡ true → is_marked marks i ≡ true) → IsMetric net routes marks m → IsMetric net routes fewer m
metric_for_fewer net routes marks fewer m less is = record {
  count = is.count;
  small = is.small;
  rows_are = fewer_rows (node_count net) net m.weights marks fewer m.rows less is.rows_are;
  distances_are = is.distances_are;
}

-- between bounds each pair's source needs a row
pub bounded_needs : (wanted : DemandSet) → HasBounds wanted → (s : ℕ) → needs_row wanted s ≡ true
bounded_needs AllMatrices bounded s = absurd bounded
bounded_needs (Margin num den base) bounded s = refl
bounded_needs (Box lower upper) bounded s = refl

-- between bounds a metric for one link is one for every link
pub metric_for_other : (net : Network) (routes : List PairRoutes) (wanted : DemandSet) (l other : SharedLink) (m : Metric) → HasBounds wanted →
    IsSharedLink net routes wanted l → IsSharedLink net routes wanted other → IsMetric net routes l.marks m → IsMetric net routes other.marks m
metric_for_other net routes wanted l other m bounded shared shared' is =
    metric_for_fewer net routes l.marks other.marks m
    (λ i below marked.
    let (p, inside, source, needs) = shared'.marks_are.marked i marked in
    subst (λ j. is_marked l.marks j ≡ true) source (shared.marks_are.complete p inside (bounded_needs wanted bounded _)))
    is

-- a metric with a row for each node is one for all marks
pub metric_for_all_marked : (net : Network) (routes : List PairRoutes) (marks : List Bool) (m : Metric) → IsMetric net routes (replicate (node_count net) true) m →
    IsMetric net routes marks m
metric_for_all_marked net routes marks m is =
    metric_for_fewer net routes (replicate (node_count net) true) marks m (λ i below marked. get_or-replicate (node_count net) i true false below) is
