use Rattle.std.proofs.Common.{◌≡◌, List, All, map, filter}
use Rattle.std.specs.List.{range_with_len}
use Rattle.te_model.specs.Pairs.{IsNodePair}
use Rattle.traffic_matrix.specs.declared.entry.Entry.{Entry}
use Rattle.traffic_matrix.specs.Pairs.{pair_of_place}
use Rattle.traffic_matrix.specs.Series.{is_declared}
use Rattle.traffic_matrix.specs.Shows.{Shows}
use Rattle.traffic_matrix.proofs.demands.Demands.pairs.Given as goal

abbrev pub invariant-loop-place : goal.invariant-loop-place
invariant-loop-place l = record {
  pairs : (entries : List Entry) → Shows entries l.self → l.pairs.items ≡ filter (is_declared entries) (map (pair_of_place l.nodes) (range_with_len 0 l.place));
  within : All (IsNodePair l.nodes) l.pairs.items;
  nodes : l.nodes ≡ l.self.table.nodes;
}
