use Rattle.std.proofs.Common.{◌∙◌, sym, subst, arith}
use Rattle.te_model.proofs.WellFormed.{few_links}
use Rattle.ratio_certificate.specs.Weighting.{AreWeights}
use Rattle.ratio_certificate.proofs.Seeking.{movable_weights}
use Rattle.experiment.proofs.robust_publishing.offer_for.Goals as goal

pub overflow_cast-result : goal.overflow_cast-result
overflow_cast-result c = let few = few_links c.args.net.now c.requires.network in omega (arith, few, c.requires.link)

pub returns : goal.returns
returns c =
    subst (AreWeights c.args.net.now) (sym (c.new.ensures ∙ c.in_ok-weights.ensures.items))
    (movable_weights c.args.net.now c.args.weights.now c.requires.weights.count c.requires.weights.limits)
