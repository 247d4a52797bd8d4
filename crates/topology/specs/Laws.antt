-- What holds of each network that a topology makes, as a statement.
use Rattle.std.specs.Prelude.{ℕ, ◌≡◌, ◌≤◌, List, IsTrue, Ok}
use Rattle.te_model.specs.declared.network.Network.{Network}
use Rattle.te_model.specs.Network.{is_well_formed, link_count}
use Rattle.topology.specs.Topology.{topology_of}

-- the network that the bytes of a topology make is well formed and has a link
abbrev pub TopologiesAreFormed : Type 0
TopologiesAreFormed =
    (bytes : List ℕ) (net : Network) → topology_of bytes ≡ Ok net →
    IsTrue (is_well_formed net) × (1 ≤ link_count net)
