use Rattle.te_model.specs.declared.limits.TheConstants.{FORMAT_2}
use Rattle.scheme.proofs.Plans.{related}
use Rattle.ecmp_split.specs.Rule.{IsMultipathSplit}
use Rattle.ecmp_split.proofs.ecmp.EcmpScheme.route.Goals as goal

pub returns-clause-related : goal.returns-clause-related
returns-clause-related c = λ pairs is.
    related IsMultipathSplit FORMAT_2.links c.args._net.now pairs c.args.plan.now.routing.routes c.in_ok-routing.routing.routes is c.in_ok-routing.ensures
