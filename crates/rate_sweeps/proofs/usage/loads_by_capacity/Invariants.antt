use Rattle.std.proofs.Common.{◌≡◌, ◌^◌, ◌<◌, All, length, map}
use Rattle.std.specs.List.{range_with_len}
use Rattle.rate_sweeps.specs.Lengths.{load_by_capacity}
use Rattle.rate_sweeps.proofs.usage.loads_by_capacity.Given as goal

abbrev pub invariant-loop-h : goal.invariant-loop-h
invariant-loop-h l =
    (length l.usage.items ≡ l.h) × All (λ x. x < 2 ^ 84) l.usage.items × (l.usage.items ≡ map (load_by_capacity l.net l.loads) (range_with_len 0 l.h))
