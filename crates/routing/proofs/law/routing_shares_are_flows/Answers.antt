use Rattle.routing.proofs.Splits.{share_flow}
use Rattle.routing.proofs.law.routing_shares_are_flows.Goals as goal

pub returns : goal.returns
returns c = λ p below. share_flow c.args.net.now c.args.routing.now.routes p c.requires.splits below
