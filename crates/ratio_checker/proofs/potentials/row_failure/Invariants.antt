use Rattle.std.proofs.Common.{◌≡◌, ◌+◌, ◌*◌, None}
use Rattle.te_model.specs.Counting.{first_below, unless}
use Rattle.te_model.specs.Network.{link_count}
use Rattle.te_model.specs.Inequalities.{rises_within_weight, failure_at}
use Rattle.ratio_checker.proofs.potentials.row_failure.Given as goal

abbrev pub invariant-loop-h : goal.invariant-loop-h
invariant-loop-h l = first_below l.h (λ h. unless (rises_within_weight l.network l.block l.row.source h) (failure_at 1 (l.row.source * (link_count l.network + 1) + 1 + h))) ≡ None
