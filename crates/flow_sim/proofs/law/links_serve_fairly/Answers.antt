use Rattle.flow_sim.specs.Traffic.{step_setting}
use Rattle.flow_sim.proofs.OwnShares.{serves_fairly}
use Rattle.flow_sim.proofs.law.links_serve_fairly.Goals as goal

pub returns : goal.returns
returns c = serves_fairly (step_setting c.args.net.now c.args.failed.now c.args.rates.now.routes c.args.matrix.now.demand)
