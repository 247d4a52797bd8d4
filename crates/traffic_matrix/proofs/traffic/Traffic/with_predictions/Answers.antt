use Rattle.std.proofs.Common.{◌≡◌, ℕ, List, filter, sym, subst, ◌∙◌}
use Rattle.te_model.specs.declared.route.Pair.{Pair}
use Rattle.te_model.specs.Pairs.{AscendPairs}
use Rattle.traffic_matrix.specs.Traffic.{has_pair, pairs_of_either}
use Rattle.traffic_matrix.proofs.PairUnion.{either-ascend, node-pairs, one-of-either, other-of-either}
use Rattle.traffic_matrix.proofs.traffic.Traffic.with_predictions.Goals as goal

-- the pairs that were put together are those of either list
pairs-are : (n : ℕ) (one other one_read other_read pairs read : List Pair) → pairs ≡ pairs_of_either n one_read other_read → one_read ≡ one →
    other_read ≡ other → read ≡ pairs → pairs_of_either n one other ≡ read
pairs-are n one other one_read other_read pairs read made e f same = sym (rw (← e, ← f) (same ∙ made))

pub series_over-requires-clause-own : goal.series_over-requires-clause-own
series_over-requires-clause-own c =
    let n = c.args.nodes in
    let one = c.args.sent.now.pairs.list in
    let other = c.args.predictions.now.pairs.list in
    subst (λ (ps : List Pair). other ≡ filter (has_pair other) ps)
    (pairs-are n one other c.as_slice-own.result.now c.as_slice.result.now c.in_ok-pairs.pairs.items c.as_slice-2.result.now c.in_ok-pairs.ensures c.as_slice-own.ensures
    c.as_slice.ensures c.as_slice-2.ensures.value)
    (other-of-either n one other (node-pairs n other c.requires.predictions.pairs) c.requires.predictions.ascending)

pub series_over-requires-clause-ascending : goal.series_over-requires-clause-ascending
series_over-requires-clause-ascending c =
    let n = c.args.nodes in
    let one = c.args.sent.now.pairs.list in
    let other = c.args.predictions.now.pairs.list in
    subst AscendPairs
    (pairs-are n one other c.as_slice-own.result.now c.as_slice.result.now c.in_ok-pairs.pairs.items c.as_slice-2.result.now c.in_ok-pairs.ensures c.as_slice-own.ensures
    c.as_slice.ensures c.as_slice-2.ensures.value)
    (either-ascend n one other)

pub series_over-requires-2-clause-own : goal.series_over-requires-2-clause-own
series_over-requires-2-clause-own c =
    let n = c.args.nodes in
    let one = c.args.sent.now.pairs.list in
    let other = c.args.predictions.now.pairs.list in
    subst (λ (ps : List Pair). one ≡ filter (has_pair one) ps)
    (pairs-are n one other c.as_slice-own.result.now c.as_slice.result.now c.in_ok-pairs.pairs.items c.as_slice-3.result.now c.in_ok-pairs.ensures c.as_slice-own.ensures
    c.as_slice.ensures c.as_slice-3.ensures.value)
    (one-of-either n one other (node-pairs n one c.requires.sent.pairs) c.requires.sent.ascending)

pub series_over-requires-2-clause-ascending : goal.series_over-requires-2-clause-ascending
series_over-requires-2-clause-ascending c =
    let n = c.args.nodes in
    let one = c.args.sent.now.pairs.list in
    let other = c.args.predictions.now.pairs.list in
    subst AscendPairs
    (pairs-are n one other c.as_slice-own.result.now c.as_slice.result.now c.in_ok-pairs.pairs.items c.as_slice-3.result.now c.in_ok-pairs.ensures c.as_slice-own.ensures
    c.as_slice.ensures c.as_slice-3.ensures.value)
    (either-ascend n one other)
