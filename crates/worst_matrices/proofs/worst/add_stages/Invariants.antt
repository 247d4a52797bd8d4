use Rattle.std.proofs.Common.{◌≤◌, length, All}
use Rattle.worst_matrices.specs.Count.{AreMoreBy}
use Rattle.worst_matrices.specs.Members.{IsScaledMember}
use Rattle.worst_matrices.specs.Usage.{IsWeightSearch}
use Rattle.worst_matrices.proofs.worst.add_stages.Given as goal

abbrev pub invariant-loop-stage : goal.invariant-loop-stage
invariant-loop-stage l = record {
  found : All (IsScaledMember l.usage.set.now (length l.usage.shares.now)) l.found.items;
  count : AreMoreBy l._stage l.usage.set.now (length l.usage.shares.now) l.fn.found.items l.found.items;
  search : IsWeightSearch l.usage l.search;
  divisor : (1 ≤ l.divisor) × (l.divisor ≤ 128);
}
