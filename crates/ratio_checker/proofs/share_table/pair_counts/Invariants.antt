use Rattle.std.proofs.Common.{◌≡◌, length}
use Rattle.te_model.specs.declared.limits.TheConstants.{FORMAT_2}
use Rattle.ratio_checker.proofs.share_table.pair_counts.Given as goal

abbrev pub invariant-loop-p : goal.invariant-loop-p
invariant-loop-p l = length l.counts ≡ FORMAT_2.links
