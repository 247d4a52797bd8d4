use Rattle.std.proofs.Common.{◌+◌, All, take}
use Rattle.te_model.specs.Path.{weight_on}
use Rattle.routing.specs.Shares.{IsAddition, IsShareList}
use Rattle.routing.proofs.shares.add_pair.Given as goal

abbrev pub invariant-loop-path : goal.invariant-loop-path
invariant-loop-path l = record {
  order : All (IsShareList (l.pair + 1)) l.table;
  sums : IsAddition l.initial.table l.table l.pair (weight_on (take l.path-index l.paths));
}
