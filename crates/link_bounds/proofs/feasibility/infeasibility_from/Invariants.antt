use Rattle.std.proofs.Common.{◌≡◌, ℕ, ◌+◌, ◌≤◌, None}
use Rattle.std.specs.Prelude.{All}
use Rattle.te_model.specs.Certificate.{block_of}
use Rattle.ratio_checker.specs.Ascending.{AscendsFrom}
use Rattle.ratio_checker.specs.Checked.{CanCheckBlock}
use Rattle.link_bounds.specs.Feeds.{infeasibility_from}
use Rattle.link_bounds.proofs.feasibility.infeasibility_from.Given as goal

abbrev pub invariant-loop-link : goal.invariant-loop-link
invariant-loop-link l = record {
  none : (count : ℕ) → l.from + count ≡ l.link → infeasibility_from l.head l.blocks l.from count ≡ None;
  ascend : AscendsFrom (λ b. b.link) l.link l.rest;
  same : (k : ℕ) → l.link ≤ k → block_of l.rest k ≡ block_of l.blocks k;
  checked : All (CanCheckBlock l.head) l.rest;
}
