use Rattle.scheme.proofs.Plans.{related}
use Rattle.k_paths.specs.Even.{IsEvenSplit}
use Rattle.k_paths.proofs.ksp.KspScheme.route.Goals as goal

pub returns-clause-related : goal.returns-clause-related
returns-clause-related c = λ pairs is.
    related (IsEvenSplit c.args.self.now.k) 32 c.args._net.now pairs c.args.plan.now.routing.routes c.in_ok-routing.routing.routes is c.in_ok-routing.ensures
