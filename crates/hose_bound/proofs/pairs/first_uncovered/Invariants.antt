use Rattle.std.proofs.Common.{◌≡◌}
use Rattle.hose_bound.specs.Judging.{IsFirstUncoveredPair}
use Rattle.hose_bound.proofs.UncoveredPairs.{limit_of}
use Rattle.hose_bound.proofs.pairs.first_uncovered.Given as goal

abbrev pub invariant-loop-p : goal.invariant-loop-p
invariant-loop-p l = record {
  is : IsFirstUncoveredPair l.routes l.blocks l.links l.p l.first;
  limit : l.limit ≡ limit_of l.first l.links;
}
