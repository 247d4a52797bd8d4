-- A routing of ascending pairs, with few paths of each, is within the limits of certificates.
use Rattle.std.proofs.Common.{◌≡◌, ℕ, suc, ◌<◌, true, List, length, map, get_or, arith, ap, sym, subst, ◌∙◌, inl, inr}
use Rattle.std.proofs.lemmas.Bool.{lt-ltb, eq-eqb}
use Rattle.std.proofs.lemmas.Bool.Decides.{nat_tests}
use Rattle.std.proofs.lemmas.List.{get_or-map, length-map}
use Rattle.std.proofs.lemmas.List.Elements.{All-get_or}
use Rattle.te_model.specs.declared.network.Network.{Network}
use Rattle.te_model.specs.declared.route.Pair.{Pair}
use Rattle.te_model.specs.declared.route.PairRoutes.{PairRoutes}
use Rattle.te_model.specs.Network.{node_count, is_well_formed}
use Rattle.te_model.specs.Pairs.{no_pair, pair_at, AscendPairs}
use Rattle.te_model.specs.Path.{routes_at, no_routes, source_of, destination_of}
use Rattle.te_model.proofs.FewPairs.{network_pairs_few}
use Rattle.routing.specs.Routes.{IsRoutingOf, HasFewPaths}
use Rattle.scheme.specs.Reach.{ArePairsOf, IsPairOf}
use Rattle.best_blocks.specs.Conditions.{IsRoutingWithin}

-- the pair of the routes at a place
same_pair : (pairs : List Pair) (routes : List PairRoutes) (p : ℕ) → map (λ r. r.pair) routes ≡ pairs → p < length routes →
    (routes_at routes p).pair ≡ pair_at pairs p
same_pair pairs routes p is below =
    sym (get_or-map (λ (r : PairRoutes). r.pair) routes p no_routes no_pair below) ∙ ap (λ (ps : List Pair). get_or ps p no_pair) is

pub routing_within : (net : Network) (pairs : List Pair) (routes : List PairRoutes) → is_well_formed net ≡ true → ArePairsOf net pairs → AscendPairs pairs →
    IsRoutingOf net pairs routes → HasFewPaths 32 routes → IsRoutingWithin net routes
routing_within net pairs routes formed are ascend routing few =
    let count : length pairs ≡ length routes = ap (λ (ps : List Pair). length ps) (sym routing.in_order) ∙ length-map routes (λ (r : PairRoutes). r.pair) in
    let pair : (p : ℕ) → p < length routes → (routes_at routes p).pair ≡ pair_at pairs p = λ p below. same_pair pairs routes p routing.in_order below in
    let of : (p : ℕ) → p < length routes → IsPairOf net (pair_at pairs p) = λ p below. All-get_or (IsPairOf net) pairs p no_pair (omega (arith, below, count)) are.each in
    record {
      splits = routing.splits;
      nodes = λ p below. subst (λ (q : Pair). (q.src < node_count net) × (q.dst < node_count net)) (sym (pair p below)) ((of p below).src_inside, (of p below).dst_inside);
      apart = λ p below. subst (λ (q : Pair). q.src ≡ q.dst → ⊥) (sym (pair p below)) (of p below).apart;
      ascending = λ k below.
          let here = ap (λ (q : Pair). q.src) (pair k (omega (arith, below))) in
          let there = ap (λ (q : Pair). q.src) (pair (suc k) below) in
          let here_d = ap (λ (q : Pair). q.dst) (pair k (omega (arith, below))) in
          let there_d = ap (λ (q : Pair). q.dst) (pair (suc k) below) in
          elim (ascend k (omega (arith, below, count))) [
            | inl lt ↦
                let first = lt-ltb (source_of routes k) (source_of routes (suc k)) (omega (arith, lt, here, there)) in
                grind (arith, nat_tests)
            | inr same ↦
                let sources = eq-eqb (source_of routes k) (source_of routes (suc k)) (omega (arith, same.0, here, there)) in
                let second = lt-ltb (destination_of routes k) (destination_of routes (suc k)) (omega (arith, same.1, here_d, there_d)) in
                grind (arith, nat_tests)
          ];
      few = let all = network_pairs_few net pairs formed are.each ascend in omega (arith, all, count);
      few_paths = few;
    }
