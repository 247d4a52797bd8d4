use Rattle.routing.proofs.Shared.{sum_over_shares}
use Rattle.routing.proofs.law.sums_over_shares.Goals as goal

pub returns : goal.returns
returns c term zeros = sum_over_shares c.args.routing.now.routes c.args.link c.args.list.now term c.requires zeros
