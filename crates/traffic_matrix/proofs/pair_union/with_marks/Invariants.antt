use Rattle.std.proofs.Common.{◌≡◌, ◌*◌, ◌||◌, vec_len, take, false, get_or}
use Rattle.te_model.specs.declared.route.Pair.{Pair}
use Rattle.te_model.specs.Pairs.{IsNodePair}
use Rattle.traffic_matrix.specs.Pairs.{place_of_pair}
use Rattle.traffic_matrix.specs.Traffic.{has_pair}
use Rattle.traffic_matrix.proofs.pair_union.with_marks.Given as goal

abbrev pub invariant-loop-pair : goal.invariant-loop-pair
invariant-loop-pair l = record {
  count : vec_len l.marks ≡ l.nodes * l.nodes;
  marked : (q : Pair) → IsNodePair l.nodes q → get_or l.marks.items (place_of_pair l.nodes q) false ≡ (has_pair (take l.pair-index l.pairs) q || get_or l.fn.marks.items (place_of_pair l.nodes q) false);
}
