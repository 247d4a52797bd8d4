-- The file of a topology that has to be the network of a certificate.
use Rattle.std.specs.Prelude.{◌≡◌, ◌≢◌, ◌⊎◌, List, ℕ, codes, Result, Ok, Err}
use Rattle.te_model.specs.declared.network.Network.{Network}
use Rattle.topology.specs.Topology.{topology_of}
use Rattle.topology.specs.declared.fault.TopologyFault.{TopologyFault}
use Rattle.command_frame.specs.Reading.{Kind}
use Rattle.command_files.specs.InputFile.{input_limit}
use Rattle.command_files.specs.TopologyFile.{topology_reason}

-- the words for another network
abbrev pub not_the_network : List ℕ
not_the_network = codes "not the network"

-- the rows make this network, names and links in order, or the file has a fault, or its network is another one
abbrev pub GivesNetwork : Network → List ℕ → Result Network (List ℕ) → Type 0
GivesNetwork own bytes (Ok network) = (topology_of bytes ≡ Ok network) × (own ≡ network)
GivesNetwork own bytes (Err words) =
    ((fault : TopologyFault) × (topology_of bytes ≡ Err fault) × (words ≡ topology_reason fault))
    ⊎ ((network : Network) × (topology_of bytes ≡ Ok network) × (own ≢ network) × (words ≡ not_the_network))

abbrev pub topologies_of : Network → Kind Network
topologies_of own = record { limit = λ _. input_limit; gives = GivesNetwork own }
