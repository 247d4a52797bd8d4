-- Feasible blocks: those of which the first three inequalities hold. These mention neither the ratio nor a capacity or a cost, and a
-- block of which they hold is a feasible point of the dual of its link's linear program (Applegate and Cohen, 2003).
use Rattle.std.specs.Prelude.{ℕ, ◌≡◌, ◌+◌, ◌<◌, ◌≤◌, ◌↔◌, IsTrue, [], ◌∷◌, length, Option, None}
use Rattle.te_model.specs.declared.certificate.Block.{Block}
use Rattle.te_model.specs.declared.certificate.Head.{Head}
use Rattle.te_model.specs.declared.certificate.Certificate.{Certificate}
use Rattle.te_model.specs.declared.inequality.InequalityFault.{InequalityFault}
use Rattle.te_model.specs.Counting.{first_some, first_below, unless}
use Rattle.te_model.specs.Network.{node_count, link_count, tail_of, head_of}
use Rattle.te_model.specs.Certificate.{block_of, potential, weight_of}
use Rattle.te_model.specs.Inequalities.{covers_share, keeps_bounds, pays_weights, potentials_failure, shares_failure, failure_at, of_link, LinkFailure, Holds}
use Rattle.te_model.specs.LinkRatio.{IsLinkRatio}
use Rattle.te_model.specs.Validity.{IsValid}

-- I1 to I3 are true of what the block says of its link
pub record IsFeasible (head : Head) (block : Block) : Type 0 where
  pub starts : (i : ℕ) → i < node_count head.network → potential block i i ≡ 0
  pub rises : (i h : ℕ) → i < node_count head.network → h < link_count head.network →
      potential block i (head_of head.network h) ≤ potential block i (tail_of head.network h) + weight_of block h
  pub covers : (p : ℕ) → p < length head.routes → IsTrue (covers_share head.routes block p)
  pub bounds : IsTrue (keeps_bounds head.set (length head.routes) block)

-- I1 to I3 hold of every link
abbrev pub AreFeasible : Certificate → Type 0
AreFeasible c = (e : ℕ) → e < link_count c.head.network → IsFeasible c.head (block_of c.blocks e)

-- the first of I1 to I3 that fails of what the block says of its link
abbrev pub infeasibility : Head → Block → Option InequalityFault
infeasibility head block =
    first_some (potentials_failure head.network block
    ∷ shares_failure head.routes block
    ∷ unless (keeps_bounds head.set (length head.routes) block) (failure_at 3 0)
    ∷ [])

-- the (link, rule, place) that is least, in this order, of those at which one of I1 to I3 fails
abbrev pub first_infeasibility : Certificate → Option LinkFailure
first_infeasibility c =
    first_below (link_count c.head.network) (λ e. of_link e (infeasibility c.head (block_of c.blocks e)))

-- What a feasible block says of its link: each ratio that pays for the block's weights is a ratio of the link.
abbrev pub FeasibleBlocksBoundLinks : Type 0
FeasibleBlocksBoundLinks =
    (c : Certificate) → IsValid c → (e : ℕ) → IsFeasible c.head (block_of c.blocks e) → (ratio : ℕ) →
    IsTrue (pays_weights c.head.network (block_of c.blocks e) ratio) →
    IsLinkRatio c.head.network c.head.routes c.head.set e ratio

-- I1 to I3 hold of every link exactly where none of them fails first.
abbrev pub FeasibleWhereNoneFails : Type 0
FeasibleWhereNoneFails = (c : Certificate) → (first_infeasibility c ≡ None) ↔ AreFeasible c

-- the ratio pays for the weights of the block of every link
abbrev pub RatioPays : Certificate → Type 0
RatioPays c = (e : ℕ) → e < link_count c.head.network → IsTrue (pays_weights c.head.network (block_of c.blocks e) c.head.ratio)

-- All four inequalities hold exactly where the first three do, and the ratio pays.
abbrev pub HoldsWhereRatioPays : Type 0
HoldsWhereRatioPays = (c : Certificate) → Holds c ↔ (AreFeasible c × RatioPays c)
