use Rattle.std.proofs.Common.{◌≡◌, ℕ, ◌≤◌, None}
use Rattle.std.specs.Prelude.{All}
use Rattle.te_model.specs.Counting.{first_below}
use Rattle.te_model.specs.Inequalities.{of_link}
use Rattle.ratio_checker.specs.Ascending.{AscendsFrom}
use Rattle.hose_bound.specs.Judging.{IsSmallBlock}
use Rattle.hose_bound.specs.Verdict.{hose_block_of, failure_on}
use Rattle.hose_bound.proofs.verdict.first_verdict.Given as goal

abbrev pub invariant-loop-e : goal.invariant-loop-e
invariant-loop-e l = record {
  none : first_below l.e (λ e. of_link e (failure_on l.net l.routes l.cert e)) ≡ None;
  ascend : AscendsFrom (λ b. b.link) l.e l.blocks;
  same : (k : ℕ) → l.e ≤ k → hose_block_of l.blocks k ≡ hose_block_of l.cert.blocks k;
  small : All IsSmallBlock l.blocks;
}
