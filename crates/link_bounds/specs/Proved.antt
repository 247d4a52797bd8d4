-- What the needs of a certificate prove where its first three inequalities hold.
use Rattle.std.specs.Prelude.{ℕ, ◌<◌, ◌≤◌, IsTrue}
use Rattle.te_model.specs.declared.certificate.Certificate.{Certificate}
use Rattle.te_model.specs.Certificate.{block_of}
use Rattle.te_model.specs.Counting.{greatest_below}
use Rattle.te_model.specs.Feasible.{AreFeasible}
use Rattle.te_model.specs.Inequalities.{Holds}
use Rattle.te_model.specs.LinkRatio.{IsLinkRatio}
use Rattle.link_bounds.specs.Needs.{has_share}
use Rattle.te_model.specs.Network.{link_count}
use Rattle.te_model.specs.Ratio.{IsObliviousRatio}
use Rattle.te_model.specs.Validity.{IsValid}
use Rattle.best_blocks.specs.Need.{IsNeed}
use Rattle.link_bounds.specs.Needs.{need_at, shared_need}

-- each need is a ratio of its link, as 0 is of a link that no pair uses; the greatest is an oblivious ratio of the routing; and each is
-- the least that the block of its link allows
pub record ProvesNeeds (c : Certificate) : Type 0 where
  pub links : (e : ℕ) → e < link_count c.head.network →
      IsLinkRatio c.head.network c.head.routes c.head.set e (shared_need c e)
  pub ratio : IsObliviousRatio c.head.network c.head.routes c.head.set (greatest_below (link_count c.head.network) (shared_need c))
  pub least : (e : ℕ) → e < link_count c.head.network → IsTrue (has_share c.head.routes e) →
      IsNeed c.head.network (block_of c.blocks e) (need_at c e)

-- The needs of a valid certificate with feasible blocks are proved.
abbrev pub NeedsAreProved : Type 0
NeedsAreProved = (c : Certificate) → IsValid c → AreFeasible c → ProvesNeeds c

-- Where all four inequalities hold no need is above the ratio.
abbrev pub NeedsAreWithinRatio : Type 0
NeedsAreWithinRatio =
    (c : Certificate) → IsValid c → Holds c → (e : ℕ) → e < link_count c.head.network → need_at c e ≤ c.head.ratio
