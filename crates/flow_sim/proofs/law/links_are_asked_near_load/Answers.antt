use Rattle.flow_sim.proofs.AskedLaws.{asked_near_load}
use Rattle.flow_sim.proofs.law.links_are_asked_near_load.Goals as goal

pub returns : goal.returns
returns c = asked_near_load c.args.rates.now.routes c.args.matrix.now.demand c.args.rates.now.rates
