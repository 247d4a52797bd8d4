use Rattle.routing.proofs.TakingOff.{least_of_places, least_more, reached_more}
use Rattle.std.proofs.Common.{arith}
use Rattle.routing.proofs.decomposition.least_on.Goals as goal

pub loop-h-preserved : goal.loop-h-preserved
loop-h-preserved c =
    let flow = c.args.flow.now in
    let path = c.args.path.now in
    record {
      least = least_more flow path c.loop-h.least c.min-least.result c.loop-h.h-index c.min-least.ensures c.loop-h.invariant.least;
      reached = reached_more flow path c.loop-h.least c.min-least.result c.loop-h.h-index c.min-least.ensures c.loop-h-test.true c.loop-h.invariant.reached;
    }

pub returns : goal.returns
returns c = least_of_places c.args.flow.now c.args.path.now c.loop-h.least (λ k below. c.loop-h.invariant.least k (omega (arith, below, c.loop-h-test.false))) c.loop-h.invariant.reached
