use Rattle.std.proofs.Common.{◌∙◌, ap, max, slice_index}
use Rattle.experiment.proofs.Envelopes.{demand_more}
use Rattle.te_model.proofs.Choices.{ord_max_is}
use Rattle.experiment.proofs.envelope.greatest_demand.Goals as goal

pub loop-step-preserved : goal.loop-step-preserved
loop-step-preserved c =
    demand_more max 0 c.args.steps.now c.args.pair c.loop-step.step-index c.loop-step.greatest c.number_at.result c.max-greatest.result c.step-item.result
    c.loop-step-test.true c.step-item.is c.loop-step.invariant (c.number_at.ensures ∙ ap (λ demand. slice_index demand c.args.pair) c.as_slice.ensures)
    (c.max-greatest.ensures ∙ ord_max_is _ _)
