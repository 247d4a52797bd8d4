use Rattle.std.proofs.Common.{◌≡◌, ◌^◌, ◌≤◌, All, length, map, take}
use Rattle.rate_sweeps.specs.Lengths.{greatest_number}
use Rattle.semi_oblivious.specs.Lengths.{length_by_usage}
use Rattle.semi_oblivious.proofs.usage.lengths_by_usage.Given as goal

abbrev pub invariant-loop-u : goal.invariant-loop-u
invariant-loop-u l =
    (length l.lengths.items ≡ l.u-index)
    × All (λ x. x ≤ 2 ^ 14) l.lengths.items
    × (l.lengths.items ≡ map (length_by_usage (greatest_number l.usage)) (take l.u-index l.usage))
