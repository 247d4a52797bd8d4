use Rattle.std.proofs.Common.{◌≤◌}
use Rattle.worst_matrices.specs.Usage.{IsWeightSearch}
use Rattle.worst_matrices.proofs.worst.make_first_stages.Given as goal

abbrev pub invariant-loop : goal.invariant-loop
invariant-loop l = IsWeightSearch l.usage l.search × (1 ≤ l.divisor) × (l.divisor ≤ 128)
