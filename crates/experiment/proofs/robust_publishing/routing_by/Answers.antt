use Rattle.experiment.proofs.robust_publishing.routing_by.Goals as goal

pub returns-clause-routing : goal.returns-clause-routing
returns-clause-routing c = c.trim.ensures.routing c.args.net.now c.args.pairs.now.list c.requires.plan.routing
