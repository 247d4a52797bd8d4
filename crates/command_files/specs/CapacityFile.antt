-- The file of a topology with the links of a certificate, whose capacities and costs the certificate is to take.
use Rattle.std.specs.Prelude.{List, ℕ, codes, not, if◌then◌else◌, Result, Ok, Err}
use Rattle.te_model.specs.declared.certificate.Certificate.{Certificate}
use Rattle.te_model.specs.declared.network.Network.{Network}
use Rattle.link_bounds.specs.SameLinks.{has_same_links}
use Rattle.topology.specs.Topology.{topology_of}
use Rattle.topology.specs.declared.fault.TopologyFault.{TopologyFault}
use Rattle.link_bounds.specs.Repriced.{has_ratio_on}
use Rattle.command_frame.specs.Reading.{Kind}
use Rattle.command_files.specs.declared.reasons.CapacityReason.{CapacityReason}
use Rattle.command_files.specs.declared.reasons.CapacityReason.TheVariants.{Topology, OtherLinks, GreatRatio}
use Rattle.command_files.specs.InputFile.{inputs}
use Rattle.command_files.specs.TopologyFile.{topology_reason}

-- the words for a fault
abbrev pub capacity_reason : CapacityReason → List ℕ
capacity_reason (Topology fault) = topology_reason fault
capacity_reason OtherLinks = codes "not the links"
capacity_reason GreatRatio = codes "ratio too great"

-- the network, where it has the links of the certificate's, and the blocks need a ratio there that a file can spell
abbrev pub priced_network : Certificate → Network → Result Network CapacityReason
priced_network certificate network =
    if not (has_same_links certificate.head.network network) then Err OtherLinks
    else if has_ratio_on certificate network then Ok network
    else Err GreatRatio

-- the network that the rows of the topology make, or its fault
abbrev pub priced_topology : Certificate → Result Network TopologyFault → Result Network CapacityReason
priced_topology certificate (Ok network) = priced_network certificate network
priced_topology certificate (Err fault) = Err (Topology fault)

abbrev pub capacities : Certificate → Kind Network
capacities certificate = inputs capacity_reason (λ bytes. priced_topology certificate (topology_of bytes))
