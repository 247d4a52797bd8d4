-- The files of a simulation are read in one way, and what they give is the certificate's network and pairs of its routing.
use Rattle.std.proofs.Common.{◌≡◌, ◌⊎◌, ◌∙◌, ℕ, List, Option, Some, None, Result, Ok, Err, inl, inr, refl, sym, ap, subst}
use Rattle.std.specs.Prelude.{IsTrue}
use Rattle.te_model.specs.declared.network.Network.{Network}
use Rattle.te_model.specs.declared.route.Pair.{Pair}
use Rattle.te_model.specs.Network.{is_well_formed, node_count}
use Rattle.te_model.proofs.SameNetworks.{same_or_not}
use Rattle.topology.specs.Topology.{topology_of}
use Rattle.topology.specs.declared.fault.TopologyFault.{TopologyFault}
use Rattle.traffic_matrix.specs.declared.series.Series.{Series}
use Rattle.traffic_matrix.specs.Limits.{IsSeries}
use Rattle.traffic_matrix.specs.Outside.{AreAmong, first_row_outside_in}
use Rattle.traffic_matrix.specs.Rows.{series_in}
use Rattle.traffic_matrix.proofs.OutsideRows.{pairs_stay_inside}
use Rattle.command_frame.specs.Sound.{IsRegular}
use Rattle.command_frame.proofs.Ending.{ok_once, ok_or_err}
use Rattle.command_files.specs.InputFile.{in_words}
use Rattle.command_files.specs.Limits.{input_limits}
use Rattle.command_files.specs.MatrixFile.{matrices_reason}
use Rattle.simulation_command.specs.NetworkFile.{GivesNetwork, not_the_network, topologies_of}
use Rattle.simulation_command.specs.RoutedMatrices.{no_route_reason, routed_matrices, with_routes}
use Rattle.command_files.specs.TopologyFile.{topology_reason}
use Rattle.command_files.proofs.PlanFiles.{given_by, series_in_range}

-- ---- the topology

fault_or_network : (o : Result Network TopologyFault) (fault : TopologyFault) (network : Network) → o ≡ Err fault → o ≡ Ok network → ⊥
fault_or_network o fault network refused made = cc

one_network : (o : Result Network TopologyFault) (a b : Network) → o ≡ Ok a → o ≡ Ok b → a ≡ b
one_network o a b one other = cc

one_fault : (o : Result Network TopologyFault) (a b : TopologyFault) → o ≡ Err a → o ≡ Err b → a ≡ b
one_fault o a b one other = cc

network_once : (own : Network) (bytes : List ℕ) (x y : Result Network (List ℕ)) → GivesNetwork own bytes x → GivesNetwork own bytes y → x ≡ y
network_once own bytes (Ok a) (Ok b) p q = ap Ok (one_network (topology_of bytes) a b p.0 q.0)
network_once own bytes (Ok a) (Err y) p (inl q) = absurd (fault_or_network (topology_of bytes) q.0 a q.1 p.0)
network_once own bytes (Ok a) (Err y) p (inr q) = absurd (q.2 (p.1 ∙ one_network (topology_of bytes) a q.0 p.0 q.1))
network_once own bytes (Err x) (Ok b) (inl p) q = absurd (fault_or_network (topology_of bytes) p.0 b p.1 q.0)
network_once own bytes (Err x) (Ok b) (inr p) q = absurd (p.2 (q.1 ∙ one_network (topology_of bytes) b p.0 q.0 p.1))
network_once own bytes (Err x) (Err y) (inl p) (inl q) = ap Err (p.2 ∙ (ap topology_reason (one_fault (topology_of bytes) p.0 q.0 p.1 q.1) ∙ sym q.2))
network_once own bytes (Err x) (Err y) (inl p) (inr q) = absurd (fault_or_network (topology_of bytes) p.0 q.0 p.1 q.1)
network_once own bytes (Err x) (Err y) (inr p) (inl q) = absurd (fault_or_network (topology_of bytes) q.0 p.0 q.1 p.1)
network_once own bytes (Err x) (Err y) (inr p) (inr q) = ap Err (p.3 ∙ sym q.3)

network_some : (own : Network) (bytes : List ℕ) → (x : Result Network (List ℕ)) × GivesNetwork own bytes x
network_some own bytes = go (topology_of bytes) refl
  where
    pick : (network : Network) → topology_of bytes ≡ Ok network → (own ≡ network) ⊎ ¬ (own ≡ network) → (x : Result Network (List ℕ)) × GivesNetwork own bytes x
    pick network is (inl same) = (Ok network, (is, same))
    pick network is (inr other) = (Err not_the_network, inr (network, is, other, refl))

    go : (o : Result Network TopologyFault) → topology_of bytes ≡ o → (x : Result Network (List ℕ)) × GivesNetwork own bytes x
    go (Ok network) is = pick network is (same_or_not own network)
    go (Err fault) is = (Err (topology_reason fault), inl (fault, is, refl))

pub networks_regular : (own : Network) → IsRegular (topologies_of own)
networks_regular own = record { limited = input_limits; once = network_once own; some = network_some own }

-- ---- the matrices

pub routed_regular : (pairs : List Pair) (network : Network) → IsRegular (routed_matrices pairs network)
routed_regular pairs network = record {
  limited = input_limits;
  once = λ bytes x y p q. sym p ∙ q;
  some = λ bytes. (with_routes (first_row_outside_in network pairs bytes) (in_words matrices_reason (series_in network bytes)), refl);
}

-- a series that is given was read, and has no row outside
routes_given : (row : Option ℕ) (r : Result Series (List ℕ)) (series : Series) → with_routes row r ≡ Ok series → (row ≡ None) × (r ≡ Ok series)
routes_given None r series is = (refl, is)
routes_given (Some row) (Ok s) series is = absurd (ok_or_err series (no_route_reason row) (sym is))
routes_given (Some row) (Err words) series is = absurd (ok_or_err series words (sym is))

pub routed_in_range : (pairs : List Pair) (network : Network) (bytes : List ℕ) (series : Series) → IsTrue (is_well_formed network) →
    (routed_matrices pairs network).gives bytes (Ok series) → IsSeries (node_count network) series × AreAmong series.pairs.list pairs
routed_in_range pairs network bytes series formed gives =
    let given = routes_given (first_row_outside_in network pairs bytes) (in_words matrices_reason (series_in network bytes)) series gives in (
      series_in_range bytes network series formed given.1,
      pairs_stay_inside network pairs bytes series (given_by matrices_reason (series_in network bytes) series given.1) given.0,
    )

-- what a reader's answers give
pub series_given : (pairs : List Pair) (network : Network) (bytes : List ℕ) (series : Series) → series_in network bytes ≡ Ok series →
    None ≡ first_row_outside_in network pairs bytes → (routed_matrices pairs network).gives bytes (Ok series)
series_given pairs network bytes series made none =
    ap (λ (row : Option ℕ). with_routes row (in_words matrices_reason (series_in network bytes))) (sym none) ∙ ap (in_words matrices_reason) made

pub row_given : (pairs : List Pair) (network : Network) (bytes : List ℕ) (series : Series) (row : ℕ) → series_in network bytes ≡ Ok series →
    Some row ≡ first_row_outside_in network pairs bytes → (routed_matrices pairs network).gives bytes (Err (no_route_reason row))
row_given pairs network bytes series row made found =
    ap (λ (r : Option ℕ). with_routes r (in_words matrices_reason (series_in network bytes))) (sym found)
    ∙ ap (λ (a : Result Series _). with_routes (Some row) (in_words matrices_reason a)) made
