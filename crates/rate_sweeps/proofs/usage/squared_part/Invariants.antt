use Rattle.std.proofs.Common.{◌≡◌, ◌^◌, ◌≤◌}
use Rattle.rate_sweeps.specs.Lengths.{part_of, repeated_square}
use Rattle.rate_sweeps.proofs.usage.squared_part.Given as goal

abbrev pub invariant-loop : goal.invariant-loop
invariant-loop l = (l.part ≤ 2 ^ 30) × (l.part ≡ repeated_square l.counter (part_of l.most l.usage))
