use Rattle.std.proofs.Common.{sym, subst, slice_index}
use Rattle.routing.specs.Decomposition.{IsAcyclicFlow}
use Rattle.path_tests.specs.RoutingSamples.{thirds}
use Rattle.path_tests.proofs.RoutingThirds.{thirds_flow}
use Rattle.path_tests.proofs.routing_tests.thirds_apart.Goals as goal

pub decompose-requires-clause-flow : goal.decompose-requires-clause-flow
decompose-requires-clause-flow c = subst (λ n. IsAcyclicFlow n (slice_index thirds) 1000000 0 1) (sym c.requires) thirds_flow
