use Rattle.std.proofs.Common.{◌≡◌}
use Rattle.te_model.specs.Network.{link_count}
use Rattle.ratio_checker.specs.Uncovered.{IsFirstUncovered}
use Rattle.ratio_checker.proofs.UncoveredLinks.{limit_of}
use Rattle.ratio_checker.proofs.shares.first_uncovered.Given as goal

abbrev pub invariant-loop-p : goal.invariant-loop-p
invariant-loop-p l = record {
  is : IsFirstUncovered l.head.routes l.blocks (link_count l.head.network) l.p l.first;
  limit : l.limit ≡ limit_of l.first (link_count l.head.network);
}
