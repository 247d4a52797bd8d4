use Rattle.std.proofs.Common.{◌≡◌, ℕ, ◌<◌, List, length, slice_index}
use Rattle.te_model.specs.declared.route.PairRoutes.{PairRoutes}
use Rattle.te_model.specs.Path.{share}
use Rattle.ratio_checker.specs.Shares.{HasSharesBelow}
use Rattle.ratio_checker.proofs.LinkPairLists.{AreAddedBelow}
use Rattle.ratio_checker.proofs.share_table.add_pair.Given as goal

abbrev pub invariant-loop-e : goal.invariant-loop-e
invariant-loop-e l = record {
  size : length l.table.items ≡ length l.shares;
  added : (routes : List PairRoutes) → HasSharesBelow routes (length l.shares) l.p l.fn.table.items →
      ((e : ℕ) → e < length l.shares → slice_index l.shares e ≡ share routes l.p e) → AreAddedBelow routes (length l.shares) l.e l.p l.table.items;
}
