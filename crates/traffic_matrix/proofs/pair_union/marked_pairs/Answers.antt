use Rattle.std.proofs.Common.{◌≡◌, Bool, true, false, get_or, ap, sym, ◌∙◌}
use Rattle.te_model.specs.declared.route.Pair.{Pair}
use Rattle.traffic_matrix.specs.Pairs.{pair_of_place, place_of_pair}
use Rattle.traffic_matrix.proofs.DemandLemmas.{pairs-more}
use Rattle.traffic_matrix.proofs.PairUnion.{place-back}
use Rattle.traffic_matrix.proofs.pair_union.marked_pairs.Goals as goal
use Rattle.traffic_matrix.proofs.pair_union.marked_pairs.Goals.{then-marks-place+in_ok-push, else-marks-place}

pub loop-place-preserved : goal.loop-place-preserved
loop-place-preserved c =
    let n = c.args.nodes in
    let k = c.loop-place.place in
    let marks = c.args.marks.now in
    let test : Pair → Bool = λ q. get_or marks (place_of_pair n q) false in
    let here : test (pair_of_place n k) ≡ get_or marks k false = ap (λ place. get_or marks place false) (place-back n k) in
    elim c.if-marks-place.branch [
      | then-marks-place+in_ok-push w ↦ rw (w.pairs-is, w.in_ok-push.ensures.items, c.loop-place.invariant) (sym (pairs-more test n k true (here ∙ w.if-marks-place.true)))
      | else-marks-place w ↦ rw (w.pairs-is, c.loop-place.invariant) (sym (pairs-more test n k false (here ∙ w.if-marks-place.false)))
    ]
