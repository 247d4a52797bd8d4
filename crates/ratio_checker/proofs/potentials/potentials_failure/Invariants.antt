use Rattle.ratio_checker.proofs.RowFailures.{HoldBefore}
use Rattle.ratio_checker.proofs.potentials.potentials_failure.Given as goal

abbrev pub invariant-loop-row : goal.invariant-loop-row
invariant-loop-row l = HoldBefore l.network l.block l.row-index
