use Rattle.std.proofs.Common.{◌≡◌, ℕ, ◌≤◌, None}
use Rattle.std.specs.Prelude.{All}
use Rattle.te_model.specs.Counting.{first_below, unless}
use Rattle.te_model.specs.Certificate.{block_of}
use Rattle.te_model.specs.Inequalities.{covers_share}
use Rattle.ratio_checker.specs.Ascending.{AscendsFrom}
use Rattle.ratio_checker.specs.Checked.{CanCheckBlock}
use Rattle.ratio_checker.proofs.shares.uncovered_link.Given as goal

abbrev pub invariant-loop-e : goal.invariant-loop-e
invariant-loop-e l = record {
  none : first_below l.e (λ e. unless (covers_share l.head.routes (block_of l.blocks e) l.p) e) ≡ None;
  ascend : AscendsFrom (λ b. b.link) l.e l.rest;
  same : (k : ℕ) → l.e ≤ k → block_of l.rest k ≡ block_of l.blocks k;
  checked : All (CanCheckBlock l.head) l.rest;
}
