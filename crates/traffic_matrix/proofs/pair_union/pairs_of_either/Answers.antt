use Rattle.std.proofs.Common.{ap, ◌∙◌, sym}
use Rattle.std.proofs.lemmas.Result.{IfOk-weaker}
use Rattle.traffic_matrix.proofs.PairUnion.{either-marked}
use Rattle.traffic_matrix.proofs.pair_union.pairs_of_either.Goals as goal

pub returns : goal.returns
returns c =
    IfOk-weaker c.marked_pairs.result _ _
    (λ v is.
    is
    ∙ either-marked c.args.nodes c.args.one.now c.args.other.now c.in_ok-none.none.items c.with_marks.result.items c.with_marks-marks.result.items
    c.as_slice.result.now (c.in_ok-none.ensures.items_if_clones_equal (λ y same. same)) c.with_marks.ensures.marks c.with_marks-marks.ensures.marks c.as_slice.ensures.value)
    c.marked_pairs.ensures
