use Rattle.std.proofs.Common.{◌≡◌, ℕ, ◌≤◌, None}
use Rattle.std.specs.Prelude.{All}
use Rattle.te_model.specs.Counting.{first_below, unless}
use Rattle.ratio_checker.specs.Ascending.{AscendsFrom}
use Rattle.hose_bound.specs.Judging.{IsSmallBlock}
use Rattle.hose_bound.specs.Verdict.{hose_block_of, covers_pair}
use Rattle.hose_bound.proofs.pairs.uncovered_link.Given as goal

abbrev pub invariant-loop-e : goal.invariant-loop-e
invariant-loop-e l = record {
  none : first_below l.e (λ e. unless (covers_pair l.routes e (hose_block_of l.blocks e) l.p) e) ≡ None;
  ascend : AscendsFrom (λ b. b.link) l.e l.rest;
  same : (k : ℕ) → l.e ≤ k → hose_block_of l.rest k ≡ hose_block_of l.blocks k;
  small : All IsSmallBlock l.rest;
}
