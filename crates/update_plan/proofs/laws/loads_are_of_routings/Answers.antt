use Rattle.update_plan.proofs.RoutingLoads.{loads_are_of_routings}
use Rattle.update_plan.proofs.laws.loads_are_of_routings.Goals as goal

pub returns : goal.returns
returns c = loads_are_of_routings
