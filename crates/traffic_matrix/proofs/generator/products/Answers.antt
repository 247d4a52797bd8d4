use Rattle.std.proofs.Common.{◌*◌, ◌∙◌, get_or, sym}
use Rattle.std.proofs.lemmas.List.{map_more}
use Rattle.te_model.specs.Pairs.{no_pair}
use Rattle.traffic_matrix.proofs.generator.products.Goals as goal

pub loop-pair-preserved : goal.loop-pair-preserved
loop-pair-preserved c =
    let sizes = c.args.sizes.now in
    c.in_ok-push.ensures.items
    ∙ rw c.loop-pair.invariant (sym (map_more (λ p. get_or sizes p.src 0 * get_or sizes p.dst 0) c.args.pairs.now c.loop-pair.pair-index no_pair c.loop-pair-test.true))
