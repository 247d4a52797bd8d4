use Rattle.std.proofs.Common.{◌≡◌, ◌^◌, ◌≤◌, All, length, map}
use Rattle.std.specs.List.{range_with_len}
use Rattle.rate_sweeps.specs.Lengths.{price_of}
use Rattle.rate_sweeps.proofs.usage.prices_of.Given as goal

abbrev pub invariant-loop-h : goal.invariant-loop-h
invariant-loop-h l =
    (length l.prices.items ≡ l.h) × All (λ x. x ≤ 2 ^ 62) l.prices.items × (l.prices.items ≡ map (price_of l.net l.usage l.squarings) (range_with_len 0 l.h))
