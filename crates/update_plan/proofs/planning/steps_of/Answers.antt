use Rattle.std.proofs.Common.{◌≡◌, subst}
use Rattle.update_plan.specs.Paths.{update_of}
use Rattle.update_plan.specs.Plan.{LacksSlack}
use Rattle.update_plan.proofs.LeastSteps.{lacks_slack, least_safe}
use Rattle.update_plan.proofs.planning.steps_of.Goals as goal

pub returns-in-Ok-clause-least : goal.returns-in-Ok-clause-least
returns-in-Ok-clause-least c =
    least_safe c.args.net.now c.args.demands.now c.args.paths.now c.in_ok-loads.loads c.in-Ok.steps c.in_ok-loads.ensures c.in-Ok.ensures.steps

pub returns-clause-none : goal.returns-clause-none
returns-clause-none c e is =
    let net = c.args.net.now in
    let demands = c.args.demands.now in
    let paths = c.args.paths.now in
    let same : c.in-Err.link ≡ e = cc in
    subst (λ x. LacksSlack (update_of net demands paths) x) same
    (lacks_slack net demands paths c.in_ok-loads.loads c.in-Err.link c.in_ok-loads.ensures c.in-Err.ensures.none)
