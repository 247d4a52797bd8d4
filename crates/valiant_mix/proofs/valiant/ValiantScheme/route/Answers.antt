use Rattle.te_model.specs.declared.limits.TheConstants.{FORMAT_2}
use Rattle.scheme.proofs.Plans.{related}
use Rattle.valiant_mix.specs.Valiant.{IsValiantSplit}
use Rattle.valiant_mix.proofs.valiant.ValiantScheme.route.Goals as goal

pub returns-clause-related : goal.returns-clause-related
returns-clause-related c = λ pairs is.
    related IsValiantSplit FORMAT_2.nodes c.args._net.now pairs c.args.plan.now.routing.routes c.in_ok-routing.routing.routes is c.in_ok-routing.ensures
