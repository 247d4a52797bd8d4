-- The least costs to one node exist.
use Rattle.std.proofs.Common.{◌≡◌, ℕ, ◌<◌, true, List, Option, None}
use Rattle.std.proofs.lemmas.List.{length-map}
use Rattle.te_model.specs.declared.network.Link.{Link}
use Rattle.te_model.specs.declared.network.Network.{Network}
use Rattle.te_model.specs.Network.{is_well_formed, node_count}
use Rattle.te_model.proofs.Choices.{list_exists}
use Rattle.shortest_path.specs.Costs.{costs_of}
use Rattle.shortest_path.specs.Paths.{IsDistance}
use Rattle.shortest_path.proofs.Existence.{distances_exist}
use Rattle.ecmp_split.specs.Equal.{AreCostsTo}

pub costs_exist : (net : Network) → is_well_formed net ≡ true → (t : ℕ) → t < node_count net → (sums : List (Option ℕ)) × AreCostsTo net t sums
costs_exist net formed t t_in =
    let count = length-map net.links (λ (l : Link). l.cost) in
    let (sums, size, each) = list_exists (λ v d. IsDistance net (costs_of net) v t d) None (node_count net)
    (λ v below. distances_exist net (costs_of net) formed count v t below t_in)
    in
    (sums, record { count = size; each = each })
