-- The words for the causes that the files of a simulation are refused for.
use Rattle.std.specs.Prelude.{ℕ, List}
use Rattle.simulation_command.specs.declared.simulation_files.NetworkReason.{NetworkReason}
use Rattle.simulation_command.specs.declared.simulation_files.NetworkReason.TheVariants.{Topology, OtherNetwork}
use Rattle.simulation_command.specs.declared.simulation_files.RouteReason.{RouteReason}
use Rattle.simulation_command.specs.declared.simulation_files.RouteReason.TheVariants.{Matrices, NoRoute}
use Rattle.simulation_command.specs.NetworkFile.{not_the_network}
use Rattle.command_files.specs.Refusals.{series_reason}
use Rattle.simulation_command.specs.RoutedMatrices.{no_route_reason}
use Rattle.command_files.specs.TopologyFile.{topology_reason}

-- of a topology that has to be a network
abbrev pub network_reason : NetworkReason → List ℕ
network_reason (Topology reason) = topology_reason reason.0
network_reason OtherNetwork = not_the_network

-- of matrices that have to be of pairs of a routing
abbrev pub route_reason : RouteReason → List ℕ
route_reason (Matrices reason) = series_reason reason
route_reason (NoRoute row) = no_route_reason row
