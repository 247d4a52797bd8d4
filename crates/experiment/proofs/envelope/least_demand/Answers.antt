use Rattle.std.proofs.Common.{◌∙◌, ap, min, slice_index}
use Rattle.experiment.specs.Envelope.{greatest_demand}
use Rattle.experiment.proofs.Envelopes.{demand_more}
use Rattle.experiment.proofs.envelope.least_demand.Goals as goal

pub loop-step-preserved : goal.loop-step-preserved
loop-step-preserved c =
    demand_more min (greatest_demand c.args.steps.now c.args.pair) c.args.steps.now c.args.pair c.loop-step.step-index c.loop-step.least c.number_at.result
    c.min-least.result c.step-item.result c.loop-step-test.true c.step-item.is c.loop-step.invariant
    (c.number_at.ensures ∙ ap (λ demand. slice_index demand c.args.pair) c.as_slice.ensures) c.min-least.ensures
