-- What holds of each network that a seed draws, as a statement.
use Rattle.std.specs.Prelude.{ℕ, ◌≤◌, IsTrue}
use Rattle.te_model.specs.Network.{is_well_formed, link_count}
use Rattle.random_network.specs.Drawn.{IsConnected, network_of}

-- a network of 2 to 64 nodes that a seed draws is well formed, has a link and is connected
abbrev pub DrawnNetworksAreFormed : Type 0
DrawnNetworksAreFormed =
    (n seed : ℕ) → 2 ≤ n → n ≤ 64 →
    IsTrue (is_well_formed (network_of n seed)) × (1 ≤ link_count (network_of n seed)) × IsConnected (network_of n seed)
