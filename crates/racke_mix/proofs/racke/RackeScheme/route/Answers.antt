use Rattle.racke_mix.proofs.TreeSplits.{racke_related}
use Rattle.racke_mix.proofs.racke.RackeScheme.route.Goals as goal

pub returns-clause-related : goal.returns-clause-related
returns-clause-related c = λ pairs is.
    racke_related c.args.self.now.trees c.args.self.now.seed c.args._net.now pairs c.args.plan.now.rounds c.args.plan.now.routing.routes c.in_ok-routing.routing.routes
    is c.in_ok-routing.ensures
