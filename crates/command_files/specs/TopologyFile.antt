-- The file of a topology.
use Rattle.std.specs.Prelude.{List, ℕ, ◌++◌, codes}
use Rattle.std.specs.Fmt.{decimal}
use Rattle.te_model.specs.declared.network.Network.{Network}
use Rattle.topology.specs.Topology.{topology_of}
use Rattle.topology.specs.declared.fault.TopologyFault.{TopologyFault}
use Rattle.topology.specs.declared.fault.TopologyFault.TheVariants.{Header, Fields, Name, Number, SelfLink, TooMany, Empty, Memory}
use Rattle.command_frame.specs.Reading.{Kind}
use Rattle.command_files.specs.InputFile.{inputs}

-- the words for a fault
abbrev pub topology_reason : TopologyFault → List ℕ
topology_reason Header = codes "header"
topology_reason (Fields n) = codes "fields at row " ++ decimal n
topology_reason (Name n) = codes "name at row " ++ decimal n
topology_reason (Number n) = codes "number at row " ++ decimal n
topology_reason (SelfLink n) = codes "self link at row " ++ decimal n
topology_reason (TooMany n) = codes "too many at row " ++ decimal n
topology_reason Empty = codes "empty"
topology_reason Memory = codes "memory"

-- the network that the rows make, or their first fault
abbrev pub topologies : Kind Network
topologies = inputs topology_reason topology_of
