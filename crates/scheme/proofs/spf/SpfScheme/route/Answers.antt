use Rattle.scheme.specs.Least.{IsLeastSplit}
use Rattle.scheme.proofs.Plans.{related}
use Rattle.scheme.proofs.spf.SpfScheme.route.Goals as goal

pub returns-clause-related : goal.returns-clause-related
returns-clause-related c = λ pairs is.
    related IsLeastSplit 1 c.args._net.now pairs c.args.plan.now.routing.routes c.in_ok-routing.routing.routes is c.in_ok-routing.ensures
