use Rattle.std.proofs.Common.{◌∙◌, ap, length}
use Rattle.ratio_tightening.proofs.Given.{bounded_weights}
use Rattle.ratio_tightening.proofs.offering.offer_scaled.Goals as goal

pub offer_weights-requires-clause-weights : goal.offer_weights-requires-clause-weights
offer_weights-requires-clause-weights c =
    bounded_weights c.args.net.now c.args.block.now c.in_ok-weights.weights.items c.requires.block
    (c.in_ok-weights.ensures.count ∙ ap length c.as_slice.ensures) c.in_ok-weights.ensures.each
