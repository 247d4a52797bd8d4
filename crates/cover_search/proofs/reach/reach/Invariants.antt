use Rattle.std.proofs.Common.{◌+◌, ◌^◌, ◌≤◌}
use Rattle.cover_search.specs.Ways.{IsReaching, unreached_count}
use Rattle.cover_search.proofs.reach.reach.Given as goal

abbrev pub invariant-loop : goal.invariant-loop
invariant-loop l = record {
  reaching : IsReaching l.shares l.transport l.reached;
  rest : unreached_count l.transport l.reached + l.counter ≤ 2 ^ 34;
}
