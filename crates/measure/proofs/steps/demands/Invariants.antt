use Rattle.std.proofs.Common.{◌≡◌, ◌≤◌, ◌^◌, All, length}
use Rattle.measure.proofs.steps.demands.Given as goal

abbrev pub invariant-loop : goal.invariant-loop
invariant-loop l = record {
  count : length l.demand.items ≡ l.counter;
  small : All (λ d. d ≤ 2 ^ 32) l.demand.items;
}
