-- The first link at which one of the first three inequalities fails.
use Rattle.std.proofs.Common.{◌≡◌, ◌∙◌, ℕ, ◌+◌, ◌-◌, ◌<◌, ◌≤◌, List, Option, Some, None, ap, arith}
use Rattle.std.proofs.Math.Nat.{add-sub_of_le}
use Rattle.te_model.specs.declared.certificate.Block.{Block}
use Rattle.te_model.specs.declared.certificate.Certificate.{Certificate}
use Rattle.te_model.specs.declared.certificate.Head.{Head}
use Rattle.te_model.specs.declared.inequality.InequalityFault.{InequalityFault}
use Rattle.te_model.specs.Certificate.{block_of}
use Rattle.te_model.specs.Counting.{first_below}
use Rattle.te_model.specs.Feasible.{first_infeasibility, infeasibility}
use Rattle.te_model.specs.Inequalities.{LinkFailure, of_link}
use Rattle.te_model.specs.Network.{link_count}
use Rattle.te_model.proofs.Searches.{first_below-same, first_below_found, first_below_more}
use Rattle.link_bounds.specs.Feeds.{infeasibility_from}

-- what fails of a link
abbrev pub fails_at : Head → List Block → ℕ → Option LinkFailure
fails_at head blocks e = of_link e (infeasibility head (block_of blocks e))

module _ (head : Head) (blocks : List Block) (from link : ℕ) (above : from ≤ link)
    (none : (count : ℕ) → from + count ≡ link → infeasibility_from head blocks from count ≡ None) where
  -- what fails of the link fails first
  pub found_from : (end : ℕ) (f : InequalityFault) → link < end → infeasibility head (block_of blocks link) ≡ Some f →
      infeasibility_from head blocks from (end - from) ≡ Some (record { link = link; rule = f.number; place = f.place })
  found_from end f below fails =
      let at : from + (link - from) ≡ link = add-sub_of_le above in
      let whole : from + (end - from) ≡ end = add-sub_of_le (omega (arith, above, below)) in
      first_below_found (end - from) (link - from) (λ k. fails_at head blocks (from + k))
      (record { link = link; rule = f.number; place = f.place }) (omega (arith, at, whole, below)) (none (link - from) at)
      (ap (fails_at head blocks) at ∙ ap (of_link link) fails)

  -- or nothing fails of it and of those before
  pub none_from : infeasibility head (block_of blocks link) ≡ None → (count : ℕ) → from + count ≡ link + 1 → infeasibility_from head blocks from count ≡ None
  none_from holds count is =
      let at : from + (link - from) ≡ link = add-sub_of_le above in
      let one : count ≡ (link - from) + 1 = omega (arith, at, is) in
      ap (infeasibility_from head blocks from) one
      ∙ first_below_more (link - from) (λ k. fails_at head blocks (from + k)) (none (link - from) at)
      (ap (fails_at head blocks) at ∙ ap (of_link link) holds)

-- from the first link on, so far
pub from_first : (head : Head) (blocks : List Block) (n : ℕ) → infeasibility_from head blocks 0 n ≡ first_below n (fails_at head blocks)
from_first head blocks n =
    first_below-same n (λ k. fails_at head blocks (0 + k)) (fails_at head blocks) (λ k below. ap (fails_at head blocks) (omega arith))

pub from_first_whole : (c : Certificate) (n : ℕ) → n ≡ link_count c.head.network → infeasibility_from c.head c.blocks 0 n ≡ first_infeasibility c
from_first_whole c n is = ap (infeasibility_from c.head c.blocks 0) is ∙ from_first c.head c.blocks (link_count c.head.network)
