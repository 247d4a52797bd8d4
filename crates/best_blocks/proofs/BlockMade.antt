-- A block that is made of a metric and its scale is a best block.
use Rattle.std.proofs.Common.{◌≡◌, ℕ, Bool, List, Option, length, refl, slice_index, sym, subst}
use Rattle.std.specs.Prelude.{IfOk, IfSome, Result}
use Rattle.te_model.specs.declared.memory.Memory.{Memory}
use Rattle.te_model.specs.declared.network.Network.{Network}
use Rattle.te_model.specs.declared.route.PairRoutes.{PairRoutes}
use Rattle.te_model.specs.declared.certificate.Block.{Block}
use Rattle.te_model.specs.declared.certificate.Row.{Row}
use Rattle.te_model.specs.declared.demand.DemandSet.{DemandSet}
use Rattle.te_model.specs.Network.{node_count}
use Rattle.best_blocks.specs.declared.metric.Metric.{Metric}
use Rattle.best_blocks.specs.declared.sharing.SharedLink.{SharedLink}
use Rattle.best_blocks.specs.Best.{IsBalance, IsBestBlock, IsBestScale}
use Rattle.best_blocks.specs.Conditions.{IsRoutingWithin}
use Rattle.best_blocks.specs.Metric.{IsMetric}
use Rattle.best_blocks.specs.Potentials.{ArePotentialRows}
use Rattle.best_blocks.specs.Sharing.{IsSharedLink}
use Rattle.best_blocks.proofs.PotentialRows.{rows_of_sources}
use Rattle.best_blocks.proofs.Scaled.{needed_distances}

-- what was made of slices that are the lists
pub balance_read : (set : DemandSet) (n b : ℕ) (plus minus xs ds shares distances : List ℕ) → xs ≡ shares → ds ≡ distances → length shares ≡ n →
    IsBalance set (length xs) (slice_index xs) (slice_index ds) b plus minus → IsBalance set n (slice_index shares) (slice_index distances) b plus minus
balance_read set n b plus minus xs ds shares distances is_xs is_ds count are =
    subst (λ k. IsBalance set k (slice_index shares) (slice_index distances) b plus minus) count
    (subst (λ (d : List ℕ). IsBalance set (length shares) (slice_index shares) (slice_index d) b plus minus) is_ds
    (subst (λ (x : List ℕ). IsBalance set (length x) (slice_index x) (slice_index ds) b plus minus) is_xs are))

pub made_rows_read : (n : ℕ) (net : Network) (ws weights : List ℕ) (ms marks : List Bool) (rows : List Row) → ws ≡ weights → ms ≡ marks →
    ArePotentialRows n net ws ms rows → ArePotentialRows n net weights marks rows
made_rows_read n net ws weights ms marks rows is_w is_m are =
    subst (λ (x : List ℕ). ArePotentialRows n net x marks rows) is_w (subst (λ (x : List Bool). ArePotentialRows n net ws x rows) is_m are)

pub block_is : (net : Network) (routes : List PairRoutes) (set : DemandSet) (l : SharedLink) (m : Metric) (a b : ℕ) (weights plus minus w : List ℕ) (rows r : List Row) →
    IsRoutingWithin net routes → IsSharedLink net routes set l → IsMetric net routes l.marks m →
    IsBestScale set (length routes) (slice_index l.shares) (slice_index m.distances) a b →
    IsBalance set (length routes) (slice_index l.shares) (slice_index m.distances) b plus minus →
    ArePotentialRows (node_count net) net m.weights l.marks rows → weights ≡ m.weights → w ≡ weights → r ≡ rows →
    IsBestBlock net routes set l.link m.weights (record { link = l.link; a = a; b = b; weights = w; rows = r; plus = plus; minus = minus })
block_is net routes set l m a b weights plus minus w rows r within shared metric scale balance are copied is_w is_r =
    subst (λ (x : List ℕ). IsBestBlock net routes set l.link m.weights (record { link = l.link; a = a; b = b; weights = x; rows = r; plus = plus; minus = minus })) (sym is_w)
    (subst (λ (x : List Row). IsBestBlock net routes set l.link m.weights (record { link = l.link; a = a; b = b; weights = weights; rows = x; plus = plus; minus = minus })) (sym is_r)
    (record {
      shares = slice_index l.shares;
      distance = slice_index m.distances;
      shares_are = shared.shares_are.each;
      distances_are = needed_distances net routes set l m within shared metric;
      link_is = refl;
      weights_are = copied;
      rows_are = rows_of_sources (node_count net) net m.weights routes set (slice_index l.shares) l.marks rows shared.marks_are
          (λ p below. (within.nodes p below).0) are;
      scale = scale;
      balance = balance;
    }))

-- a best block of the same link and the same weights
pub best_read : (net : Network) (routes : List PairRoutes) (set : DemandSet) (l e : ℕ) (w weights : List ℕ) (r : Result (Option Block) Memory) → l ≡ e → w ≡ weights →
    IfOk r (λ o. IfSome o (IsBestBlock net routes set l w)) → IfOk r (λ o. IfSome o (IsBestBlock net routes set e weights))
best_read net routes set l e w weights r is_l is_w best =
    subst (λ k. IfOk r (λ o. IfSome o (IsBestBlock net routes set k weights))) is_l
    (subst (λ (x : List ℕ). IfOk r (λ o. IfSome o (IsBestBlock net routes set l x))) is_w best)
