use Rattle.std.proofs.Common.{◌+◌, All, take}
use Rattle.te_model.specs.Path.{amount_on}
use Rattle.routing.specs.Shares.{IsAddition, IsShareList}
use Rattle.routing.proofs.shares.add_path.Given as goal

abbrev pub invariant-loop-link : goal.invariant-loop-link
invariant-loop-link l = record {
  order : All (IsShareList (l.pair + 1)) l.table;
  sums : IsAddition l.initial.table l.table l.pair (amount_on (take l.link-index l.links) l.share);
}
