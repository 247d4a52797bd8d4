-- No inequality but I4 fails first exactly where the first three hold, and the four hold where the ratio pays too.
use Rattle.std.proofs.Common.{◌≡◌, ℕ, ◌+◌, ◌*◌, ◌<◌, Option, Some, None, length, refl, ap, ◌∙◌}
use Rattle.std.specs.Prelude.{IsTrue}
use Rattle.std.proofs.lemmas.Bool.{le-leb, leb-true, eqb-true, eq-eqb}
use Rattle.te_model.specs.declared.certificate.Block.{Block}
use Rattle.te_model.specs.declared.certificate.Head.{Head}
use Rattle.te_model.specs.declared.certificate.Certificate.{Certificate}
use Rattle.te_model.specs.declared.inequality.InequalityFault.{InequalityFault}
use Rattle.te_model.specs.Counting.{or_else, first_below, unless}
use Rattle.te_model.specs.Network.{node_count, link_count}
use Rattle.te_model.specs.Certificate.{block_of, potential}
use Rattle.te_model.specs.Inequalities.{starts_at_zero, rises_within_weight, covers_share, keeps_bounds, pays_weights, failure_at, row_failure, potentials_failure, shares_failure, block_failure, of_link, BlockHolds}
use Rattle.te_model.specs.Feasible.{IsFeasible, AreFeasible, infeasibility, first_infeasibility, FeasibleWhereNoneFails, HoldsWhereRatioPays}
use Rattle.te_model.proofs.Tests.{or_else_none, unless_none, first_below_none_at, first_failing_none_at}
use Rattle.te_model.proofs.Searches.{first_below_none, or_else-none}

pub of_link_none : (e : ℕ) (o : Option InequalityFault) → of_link e o ≡ None → o ≡ None
of_link_none e None h = refl
of_link_none e (Some f) h = cc

-- one answer more at the end of three
one_more : {A : Type 0} (x y z w : Option A) → or_else x (or_else y (or_else z (or_else w None))) ≡ or_else (or_else x (or_else y (or_else z None))) w
one_more (Some a) y z w = refl
one_more None (Some b) z w = refl
one_more None None (Some c) w = refl
one_more None None None w = or_else-none w

-- I4 comes after the other three
pub block_failure-parts : (head : Head) (b : Block) →
    block_failure head b ≡ or_else (infeasibility head b) (unless (pays_weights head.network b head.ratio) (failure_at 4 0))
block_failure-parts head b =
    one_more (potentials_failure head.network b) (shares_failure head.routes b)
    (unless (keeps_bounds head.set (length head.routes) b) (failure_at 3 0)) (unless (pays_weights head.network b head.ratio) (failure_at 4 0))

pub feasible_from_none : (head : Head) (b : Block) → infeasibility head b ≡ None → IsFeasible head b
feasible_from_none head b none =
    let net = head.network in
    let m = link_count net in
    let potentials = or_else_none (potentials_failure net b) _ none in
    let shares = or_else_none (shares_failure head.routes b) _ potentials.1 in
    let margin = or_else_none (unless (keeps_bounds head.set (length head.routes) b) (failure_at 3 0)) _ shares.1 in
    let row : (i : ℕ) → i < node_count net → row_failure net b i ≡ None =
    λ i below. first_below_none_at (node_count net) (row_failure net b) i potentials.0 below
    in
    record {
      starts = λ i below. eqb-true _ _ (unless_none (starts_at_zero b i) (failure_at 1 (i * (m + 1))) (or_else_none _ _ (row i below)).0);
      rises = λ i h below in'. leb-true _ _
          (first_failing_none_at m (rises_within_weight net b i) (λ k. failure_at 1 (i * (m + 1) + 1 + k)) h
          (or_else_none (unless (starts_at_zero b i) (failure_at 1 (i * (m + 1)))) _ (row i below)).1 in');
      covers = λ p below. first_failing_none_at (length head.routes) (covers_share head.routes b) (failure_at 2) p shares.0 below;
      bounds = unless_none (keeps_bounds head.set (length head.routes) b) (failure_at 3 0) margin.0;
    }

pub none_from_feasible : (head : Head) (b : Block) → IsFeasible head b → infeasibility head b ≡ None
none_from_feasible head b holds =
    let net = head.network in
    let m = link_count net in
    let potentials : potentials_failure net b ≡ None =
    first_below_none (node_count net) (row_failure net b)
    (λ i below.
    let rises : first_below m (λ h. unless (rises_within_weight net b i h) (failure_at 1 (i * (m + 1) + 1 + h))) ≡ None =
    first_below_none m (λ h. unless (rises_within_weight net b i h) (failure_at 1 (i * (m + 1) + 1 + h)))
    (λ h in'. ap (λ t. unless t (failure_at 1 (i * (m + 1) + 1 + h))) (le-leb _ _ (holds.rises i h below in')))
    in
    ap (λ t. or_else (unless t (failure_at 1 (i * (m + 1)))) (first_below m (λ h. unless (rises_within_weight net b i h) (failure_at 1 (i * (m + 1) + 1 + h)))))
    (eq-eqb (potential b i i) 0 (holds.starts i below))
    ∙ rises)
    in
    let shares : shares_failure head.routes b ≡ None =
    first_below_none (length head.routes) (λ p. unless (covers_share head.routes b p) (failure_at 2 p))
    (λ p below. ap (λ t. unless t (failure_at 2 p)) (holds.covers p below))
    in
    rw (potentials, shares) (ap (λ t. or_else (unless t (failure_at 3 0)) None) holds.bounds)

feasible_where_none_fails : (c : Certificate) → first_infeasibility c ≡ None → AreFeasible c
feasible_where_none_fails c none e below =
    feasible_from_none c.head (block_of c.blocks e)
    (of_link_none e (infeasibility c.head (block_of c.blocks e))
    (first_below_none_at (link_count c.head.network) (λ k. of_link k (infeasibility c.head (block_of c.blocks k))) e none below))

none_fails_where_feasible : (c : Certificate) → AreFeasible c → first_infeasibility c ≡ None
none_fails_where_feasible c feasible =
    first_below_none (link_count c.head.network) (λ k. of_link k (infeasibility c.head (block_of c.blocks k)))
    (λ e below. ap (of_link e) (none_from_feasible c.head (block_of c.blocks e) (feasible e below)))

pub feasible_or_fails : FeasibleWhereNoneFails
feasible_or_fails c = (feasible_where_none_fails c, none_fails_where_feasible c)

pub block_holds_from : (head : Head) (b : Block) → IsFeasible head b → IsTrue (pays_weights head.network b head.ratio) → BlockHolds head b
block_holds_from head b feasible pays = record {
  starts = feasible.starts;
  rises = feasible.rises;
  covers = feasible.covers;
  bounds = feasible.bounds;
  pays = pays;
}

pub feasible_of : (head : Head) (b : Block) → BlockHolds head b → IsFeasible head b
feasible_of head b holds = record { starts = holds.starts; rises = holds.rises; covers = holds.covers; bounds = holds.bounds }

pub holds_where_pays : HoldsWhereRatioPays
holds_where_pays c = (
  λ holds. (λ e below. feasible_of c.head (block_of c.blocks e) (holds e below), λ e below. (holds e below).pays),
  λ both e below. block_holds_from c.head (block_of c.blocks e) (both.0 e below) (both.1 e below),
)
