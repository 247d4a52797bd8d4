-- That a link with a share has a best block for weights of 1 and more.
use Rattle.std.proofs.Common.{◌≡◌, ℕ, ◌+◌, ◌<◌, ◌≤◌, Bool, true, false, List, [], ◌∷◌, ◌++◌, Option, length, slice_index, arith, refl, subst, sym}
use Rattle.std.proofs.lemmas.List.Elements.{All-get_or}
use Rattle.te_model.specs.declared.network.Network.{Network}
use Rattle.te_model.specs.declared.route.PairRoutes.{PairRoutes}
use Rattle.te_model.specs.declared.certificate.Block.{Block}
use Rattle.te_model.specs.declared.certificate.Row.{Row}
use Rattle.te_model.specs.declared.demand.DemandSet.{DemandSet}
use Rattle.te_model.specs.Network.{is_well_formed, link_count, node_count}
use Rattle.te_model.proofs.Choices.{step_by_step}
use Rattle.best_blocks.specs.declared.metric.Metric.{Metric}
use Rattle.best_blocks.specs.declared.sharing.SharedLink.{SharedLink}
use Rattle.best_blocks.specs.Best.{IsBestBlock, IsBestScale}
use Rattle.best_blocks.specs.Conditions.{IsRoutingWithin}
use Rattle.best_blocks.specs.Laws.{BestBlocksExist}
use Rattle.best_blocks.specs.Metric.{IsMetric}
use Rattle.best_blocks.specs.Potentials.{potentials_of, ArePotentialRows}
use Rattle.best_blocks.specs.Rows.{is_marked, distances_from, AreRowsFrom}
use Rattle.best_blocks.specs.Sharing.{IsSharedLink}
use Rattle.best_blocks.proofs.BlockMade.{block_is}
use Rattle.best_blocks.proofs.MetricsExist.{metric_exists}
use Rattle.best_blocks.proofs.Positive.{least_far}
use Rattle.best_blocks.proofs.PotentialRows.{no_potential_rows, potential_row_left_out, row_of_distances}
use Rattle.best_blocks.proofs.Scaled.{needed_distances}
use Rattle.best_blocks.proofs.ScalesExist.{balance_exists, scale_exists}
use Rattle.best_blocks.proofs.SharedExist.{shared_link_exists}
use Rattle.best_blocks.proofs.SmallNumbers.{shares_small}

-- the potentials of the marked nodes
pub potential_rows_exist : (net : Network) (weights : List ℕ) (marks : List Bool) (rows : List (List (Option ℕ))) → is_well_formed net ≡ true →
    AreRowsFrom (node_count net) net weights marks rows → (made : List Row) × ArePotentialRows (node_count net) net weights marks made
potential_rows_exist net weights marks rows formed are =
    step_by_step (λ k (made : List Row). ArePotentialRows k net weights marks made) (node_count net) ([], no_potential_rows net weights marks) step (node_count net) (omega arith)
  where
    step : (k : ℕ) (made : List Row) → k < node_count net → ArePotentialRows k net weights marks made →
        (next : List Row) × ArePotentialRows (k + 1) net weights marks next
    step k made below so_far = go (is_marked marks k) refl
      where
        row : Row
        row = record { source = k; potential = potentials_of (distances_from rows k) }

        go : (b : Bool) → is_marked marks k ≡ b → (next : List Row) × ArePotentialRows (k + 1) net weights marks next
        go true marked = (made ++ row ∷ [], row_of_distances k net weights marks rows made row formed are below so_far refl marked)
        go false unmarked = (made, potential_row_left_out k net weights marks made so_far unmarked)

-- the best scale of weights of 1 and more
pub metric_scale_exists : (net : Network) (routes : List PairRoutes) (wanted : DemandSet) (l : SharedLink) (m : Metric) → IsRoutingWithin net routes →
    IsSharedLink net routes wanted l → IsMetric net routes l.marks m → ((h : ℕ) → h < link_count net → 1 ≤ slice_index m.weights h) →
    (a : ℕ) × (b : ℕ) × IsBestScale wanted (length routes) (slice_index l.shares) (slice_index m.distances) a b
metric_scale_exists net routes wanted l m within shared metric some =
    let (p, below, share) = shared.some in
    scale_exists wanted (length routes) (slice_index l.shares) (slice_index m.distances)
    (λ q inside. shares_small net routes l.link l.shares within.splits shared.shares_are q)
    (least_far net routes wanted m.weights 1 (slice_index l.shares) (slice_index m.distances) within some (needed_distances net routes wanted l m within shared metric))
    (p, below, omega (arith, share, shared.shares_are.each p below))

-- the best block of a link for the weights of a metric
pub metric_block_exists : (net : Network) (routes : List PairRoutes) (wanted : DemandSet) (l : SharedLink) (m : Metric) → is_well_formed net ≡ true →
    IsRoutingWithin net routes → IsSharedLink net routes wanted l → IsMetric net routes l.marks m → ((h : ℕ) → h < link_count net → 1 ≤ slice_index m.weights h) →
    (block : Block) × IsBestBlock net routes wanted l.link m.weights block
metric_block_exists net routes wanted l m formed within shared metric some =
    let (a, b, scale) = metric_scale_exists net routes wanted l m within shared metric some in
    let (plus, minus, balance) = balance_exists wanted (length routes) (slice_index l.shares) (slice_index m.distances) b in
    let (rows, are) = potential_rows_exist net m.weights l.marks m.rows formed metric.rows_are in (
      record { link = l.link; a = a; b = b; weights = m.weights; rows = rows; plus = plus; minus = minus },
      block_is net routes wanted l m a b m.weights plus minus m.weights rows rows within shared metric scale balance are refl refl refl,
    )

pub best_blocks_exist : BestBlocksExist
best_blocks_exist net routes wanted e weights formed within some count positive small =
    let (l, shared, link_is) = shared_link_exists net routes wanted e within some in
    let (m, metric, weights_are) = metric_exists net routes l.marks weights formed count small in
    let (block, best) =
    metric_block_exists net routes wanted l m formed within shared metric
    (λ h below. subst (λ (ws : List ℕ). 1 ≤ slice_index ws h) (sym weights_are) (All-get_or (λ w. 1 ≤ w) weights h 0 (omega (arith, below, count)) positive))
    in (
      block,
      subst (λ k. IsBestBlock net routes wanted k weights block) link_is
          (subst (λ (ws : List ℕ). IsBestBlock net routes wanted l.link ws block) weights_are best),
    )
