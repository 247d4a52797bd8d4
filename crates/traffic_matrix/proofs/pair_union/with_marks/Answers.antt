use Rattle.std.proofs.Common.{◌∙◌, Bool, ap, get_or, sym}
use Rattle.std.specs.Prelude.{◌||◌}
use Rattle.te_model.specs.Pairs.{no_pair}
use Rattle.traffic_matrix.specs.Pairs.{same_pair}
use Rattle.traffic_matrix.proofs.PairUnion.{marks-more}
use Rattle.traffic_matrix.proofs.TableLemmas.{declared-set}
use Rattle.traffic_matrix.proofs.pair_union.with_marks.Goals as goal

pub loop-pair-preserved : goal.loop-pair-preserved
loop-pair-preserved c =
    let so_far = c.loop-pair.invariant in
    let n = c.args.nodes in
    let marks = c.loop-pair.marks in
    let pairs = c.args.pairs.now in
    let i = c.loop-pair.pair-index in
    let pair = get_or pairs i no_pair in
    let within = c.requires.pairs i no_pair c.loop-pair-test.true in
    record {
      count = so_far.count;
      marked = λ q w.
          declared-set n marks.items pair q c.place_of-place.result c.place_of-place.ensures.value (sym marks.ok.0 ∙ so_far.count) within w
          ∙ (ap (λ (b : Bool). same_pair pair q || b) (so_far.marked q w) ∙ marks-more pairs i q _ c.loop-pair-test.true);
    }
