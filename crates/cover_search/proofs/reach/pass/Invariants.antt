use Rattle.std.proofs.Common.{ℕ, ◌<◌, ◌≤◌}
use Rattle.std.specs.Prelude.{IsTrue, IsFalse}
use Rattle.cover_search.specs.Ways.{IsClosedAt, IsReaching, unreached_count}
use Rattle.cover_search.proofs.reach.pass.Given as goal

abbrev pub invariant-loop-k : goal.invariant-loop-k
invariant-loop-k l = record {
  reaching : IsReaching l.shares l.transport l.reached;
  most : unreached_count l.transport l.reached ≤ unreached_count l.transport l.fn.reached;
  found : IsTrue l.found → unreached_count l.transport l.reached < unreached_count l.transport l.fn.reached;
  none : IsFalse l.found → (k : ℕ) → k < l.k → IsClosedAt l.shares l.transport l.reached k;
}
