-- The halves of the test are a path routing.
use Rattle.std.proofs.Common.{refl}
use Rattle.te_model.specs.PathRouting.{IsPathRouting}
use Rattle.sample_networks.proofs.PathRoutings.{path_routing}
use Rattle.path_tests.specs.RoutingSamples.{fork, halves}

pub halves_routing : IsPathRouting fork halves
halves_routing = path_routing fork halves refl
