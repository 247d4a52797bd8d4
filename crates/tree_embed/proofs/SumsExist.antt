-- The least sums between all nodes, from the distances.
use Rattle.std.proofs.Common.{inl, inr, ◌≡◌, ℕ, ◌<◌, true, List, [], ◌∷◌, Option, Some, None, length, arith, subst}
use Rattle.std.proofs.lemmas.Bool.{cases_lt}
use Rattle.std.proofs.lemmas.List.{get_or_past}
use Rattle.te_model.specs.declared.network.Network.{Network}
use Rattle.te_model.specs.Network.{is_well_formed, link_count, node_count}
use Rattle.te_model.proofs.Chains.{chains_of_path}
use Rattle.te_model.proofs.Choices.{list_exists}
use Rattle.te_model.proofs.WellFormed.{links_join}
use Rattle.shortest_path.specs.Graph.{AtMost, distance_at}
use Rattle.shortest_path.specs.Paths.{IsDistance, sum_along}
use Rattle.shortest_path.specs.Least.{AreLeastSums}
use Rattle.shortest_path.specs.Links.{Walk, every_link}
use Rattle.shortest_path.proofs.Existence.{distances_exist}
use Rattle.shortest_path.proofs.LeastSums.{all_open}
use Rattle.shortest_path.proofs.Walks.{chains_of_walk, walk_of_chains}
use Rattle.tree_embed.specs.Tables.{AreSums}

-- a walk begins at a node of the network
walk_inside : (net : Network) → is_well_formed net ≡ true → (v t : ℕ) (links : List ℕ) → t < node_count net → Walk net (every_link net) v t links → v < node_count net
walk_inside net formed v t [] below walk = omega (arith, walk)
walk_inside net formed v t (h ∷ hs) below walk = omega (arith, walk.1, (links_join net formed h walk.0).0)

-- the distances to a node are the least sums of the walks to it
sums_of_distances : (net : Network) (lengths : List ℕ) → is_well_formed net ≡ true → (t : ℕ) → t < node_count net → (sums : List (Option ℕ)) →
    length sums ≡ node_count net → ((v : ℕ) → v < node_count net → IsDistance net lengths v t (distance_at sums v)) →
    AreLeastSums net lengths (every_link net) t sums
sums_of_distances net lengths formed t below_t sums count each = record {
  count = count;
  reached = reached;
  below = λ v links walk. least v links walk (distance_at sums v) (each v (walk_inside net formed v t links below_t walk));
}
  where
    reached : (v d : ℕ) → distance_at sums v ≡ Some d → (links : List ℕ) × Walk net (every_link net) v t links × (sum_along lengths links ≡ d)
    reached v d is = elim (cases_lt v (node_count net)) [
      | inl lt ↦
          let so : IsDistance net lengths v t (Some d) = subst (IsDistance net lengths v t) is (each v lt) in
          let (links, path, sum) = so.0 in
          (links, walk_of_chains net (every_link net) v t links (all_open net) (chains_of_path net v t links path), sum)
      | inr ge ↦
          let none : distance_at sums v ≡ None = get_or_past sums v None (omega (arith, count, ge)) in
          absurd (cc)
    ]

    least : (v : ℕ) (links : List ℕ) → Walk net (every_link net) v t links → (o : Option ℕ) → IsDistance net lengths v t o → AtMost o (sum_along lengths links)
    least v links walk None is = is links (chains_of_walk net (every_link net) v t links walk)
    least v links walk (Some d) is = is.1 links (chains_of_walk net (every_link net) v t links walk)

pub sums_exist : (net : Network) (lengths : List ℕ) → is_well_formed net ≡ true → length lengths ≡ link_count net →
    (sums : List (List (Option ℕ))) × AreSums net lengths sums
sums_exist net lengths formed all =
    let (sums, count, each) = list_exists (λ t row. AreLeastSums net lengths (every_link net) t row) [] (node_count net) row in
    (sums, record { count = count; each = each })
  where
    row : (t : ℕ) → t < node_count net → (row : List (Option ℕ)) × AreLeastSums net lengths (every_link net) t row
    row t below =
        let (sums, count, each) = list_exists (λ v d. IsDistance net lengths v t d) None (node_count net) (λ v inside. distances_exist net lengths formed all v t inside below) in
        (sums, sums_of_distances net lengths formed t below sums count each)
