-- What a file of capacities gives, from what its topology gives.
use Rattle.std.proofs.Common.{◌≡◌, List, ℕ, Result, Ok, Err, sym, ap, ◌∙◌}
use Rattle.te_model.specs.declared.certificate.Certificate.{Certificate}
use Rattle.te_model.specs.declared.network.Network.{Network}
use Rattle.topology.specs.Topology.{topology_of}
use Rattle.command_files.specs.declared.reasons.CapacityReason.{CapacityReason}
use Rattle.command_files.specs.CapacityFile.{capacities, capacity_reason, priced_network, priced_topology}
use Rattle.command_files.specs.InputFile.{in_words}

given_where : (certificate : Certificate) (bytes : List ℕ) (network : Network) (answer : Result Network CapacityReason) →
    topology_of bytes ≡ Ok network → answer ≡ priced_network certificate network →
    (capacities certificate).gives bytes (in_words capacity_reason answer)
given_where certificate bytes network answer found priced =
    ap (λ read. in_words capacity_reason (priced_topology certificate read)) found ∙ ap (λ said. in_words capacity_reason said) (sym priced)

pub network_given : (certificate : Certificate) (bytes : List ℕ) (network value : Network) →
    topology_of bytes ≡ Ok network → Ok value ≡ priced_network certificate network → (capacities certificate).gives bytes (Ok value)
network_given certificate bytes network value found priced = given_where certificate bytes network (Ok value) found priced

pub reason_given : (certificate : Certificate) (bytes : List ℕ) (network : Network) (reason : CapacityReason) →
    topology_of bytes ≡ Ok network → Err reason ≡ priced_network certificate network →
    (capacities certificate).gives bytes (Err (capacity_reason reason))
reason_given certificate bytes network reason found priced = given_where certificate bytes network (Err reason) found priced
