use Rattle.std.proofs.Common.{◌+◌, All, take}
use Rattle.te_model.specs.Path.{has_number}
use Rattle.local_search.specs.Pairs.{IsPairEntered, IsPairList}
use Rattle.local_search.proofs.pairs.add_path.Given as goal

abbrev pub invariant-loop-link : goal.invariant-loop-link
invariant-loop-link l = record {
  order : All (IsPairList (l.pair + 1)) l.table;
  entered : IsPairEntered l.initial.table l.table l.pair (has_number (take l.link-index l.links));
}
