use Rattle.std.proofs.Common.{◌+◌, All, take}
use Rattle.local_search.specs.Pairs.{IsPairEntered, IsPairList, some_holds}
use Rattle.local_search.proofs.pairs.add_pair.Given as goal

abbrev pub invariant-loop-path : goal.invariant-loop-path
invariant-loop-path l = record {
  order : All (IsPairList (l.pair + 1)) l.table;
  entered : IsPairEntered l.initial.table l.table l.pair (some_holds (take l.path-index l.paths));
}
