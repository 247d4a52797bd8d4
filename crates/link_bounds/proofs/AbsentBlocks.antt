-- Of a link without a block only I2 can fail: there all is read as zero but B, which is 1.
use Rattle.std.proofs.Common.{◌≡◌, ◌∙◌, ◌==◌, ℕ, Some, List, length, ap, sym}
use Rattle.std.specs.List.{slice_get}
use Rattle.te_model.specs.declared.certificate.Block.{Block}
use Rattle.te_model.specs.declared.certificate.Head.{Head}
use Rattle.te_model.specs.Certificate.{block_of, empty_block}
use Rattle.te_model.specs.Counting.{first_below, or_else, unless}
use Rattle.te_model.specs.Inequalities.{failure_at, shares_failure}
use Rattle.te_model.specs.Path.{share}
use Rattle.te_model.proofs.Searches.{or_else-none}
use Rattle.ratio_checker.specs.Ascending.{AscendsFrom}
use Rattle.ratio_checker.proofs.Absent.{empty_failure_is, no_block}
use Rattle.ratio_checker.proofs.FedBlocks.{shares_alone}
use Rattle.ratio_checker.proofs.Absent.{pays_holds}
use Rattle.te_model.specs.Feasible.{infeasibility}
use Rattle.te_model.proofs.FeasibleBlocks.{block_failure-parts}

pub empty_infeasibility_is : (head : Head) (e : ℕ) → infeasibility head (empty_block e) ≡ shares_failure head.routes (empty_block e)
empty_infeasibility_is head e =
    sym (block_failure-parts head (empty_block e)
    ∙ ap (λ t. or_else (infeasibility head (empty_block e)) (unless t (failure_at 4 0))) (pays_holds head.network e head.ratio)
    ∙ or_else-none (infeasibility head (empty_block e)))
    ∙ empty_failure_is head e

-- where blocks from this link on have none of it, the first pair with a share on it fails
pub absent_infeasibility : (head : Head) (blocks : List Block) (link : ℕ) → AscendsFrom (λ b. b.link) link blocks →
    ((x : Block) → slice_get blocks 0 ≡ Some x → x.link ≡ link → ⊥) →
    first_below (length head.routes) (λ p. unless (share head.routes p link == 0) (failure_at 2 p)) ≡ infeasibility head (block_of blocks link)
absent_infeasibility head blocks link ascend other =
    shares_alone head.routes link
    ∙ sym (ap (infeasibility head) (no_block blocks link ascend other) ∙ empty_infeasibility_is head link)
