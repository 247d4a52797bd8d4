-- Sweeps over least paths, one after the other, are sweeps over paths of each pair.
use Rattle.std.proofs.Common.{◌≡◌, ◌⊎◌, inl, inr, ℕ, ◌+◌, ◌<◌, List, [], ◌∷◌, ◌++◌, length, get_or, arith, ap, sym, ◌∙◌, subst, All}
use Rattle.std.specs.Prelude.{IsTrue, slice_index_or}
use Rattle.std.proofs.lemmas.List.{get_or-map, length-append}
use Rattle.std.proofs.lemmas.List.Elements.{All-from_get_or, All-push, All-weaker}
use Rattle.te_model.specs.declared.network.Network.{Network}
use Rattle.te_model.specs.declared.route.Pair.{Pair}
use Rattle.te_model.specs.declared.route.PairRoutes.{PairRoutes}
use Rattle.te_model.specs.Network.{link_count}
use Rattle.te_model.specs.Path.{is_path, no_routes, routes_at}
use Rattle.te_model.proofs.SimplePaths.{path_links}
use Rattle.routing.specs.Routes.{IsRoutingOf}
use Rattle.routing.proofs.InOrder.{routes_count}
use Rattle.scheme.specs.Reach.{pair_at}
use Rattle.centred_steps.proofs.Weights.{weights_positive, weights_small}
use Rattle.rate_sweeps.specs.declared.mix.Sweep.{Sweep}
use Rattle.rate_sweeps.specs.declared.dual_state.DualState.{DualState}
use Rattle.rate_sweeps.specs.Sweeps.{paths_in, AreOnLinks, ArePathsOfPairs, IsDualState, IsWeight}
use Rattle.mcf_lengths.specs.Rounds.{AreLeastPaths, AreLengths}
use Rattle.mcf_lengths.specs.Sweeps.{AreLeastSweeps, IsLeastSweep}

-- one sweep more
pub sweeps_more : (n m : ℕ) (net : Network) (pairs : List Pair) (sweeps : List Sweep) (s : Sweep) → AreLeastSweeps n net pairs sweeps → m ≡ n + 1 → IsWeight s.weight →
    IsLeastSweep net pairs s → AreLeastSweeps m net pairs (sweeps ++ s ∷ [])
sweeps_more n m net pairs sweeps s are next weight least = record {
  count = omega (arith, are.count, next, length-append sweeps (s ∷ []));
  weights = All-push (λ (s : Sweep). IsWeight s.weight) sweeps s are.weights weight;
  least = All-push (IsLeastSweep net pairs) sweeps s are.least least;
}

-- least paths run over links of the network
pub least_on_links : (net : Network) (lengths : List ℕ) (pairs : List Pair) (paths : List (List ℕ)) → AreLeastPaths net lengths pairs paths → AreOnLinks net paths
least_on_links net lengths pairs paths are = All-from_get_or (λ (links : List ℕ). All (λ h. h < link_count net) links) paths [] (λ p below.
    path_links net (pair_at pairs p).src (pair_at pairs p).dst (get_or paths p []) (are.each p (omega (arith, below, are.count))).0)

-- least paths of the pairs of a routing lead from their sources to their destinations
pub least_ways : (net : Network) (pairs : List Pair) (routes : List PairRoutes) (lengths : List ℕ) (paths : List (List ℕ)) → IsRoutingOf net pairs routes →
    AreLeastPaths net lengths pairs paths → ArePathsOfPairs net routes paths
least_ways net pairs routes lengths paths is least = record {
  count = omega (arith, least.count, routes_count pairs routes is.in_order);
  each = λ p below.
      let inside : p < length pairs = omega (arith, below, routes_count pairs routes is.in_order) in
      let pair : (routes_at routes p).pair ≡ pair_at pairs p =
      sym (get_or-map (λ (r : PairRoutes). r.pair) routes p no_routes no_routes.pair below) ∙ ap (λ (l : List Pair). get_or l p no_routes.pair) is.in_order
      in
      subst (λ (q : Pair). IsTrue (is_path net q.src q.dst (slice_index_or paths p []))) (sym pair) (least.each p inside).0;
}

-- the same of each sweep
pub sweeps_ways : (net : Network) (pairs : List Pair) (routes : List PairRoutes) (sweeps : List Sweep) → IsRoutingOf net pairs routes → All (IsLeastSweep net pairs) sweeps →
    All (λ s. ArePathsOfPairs net routes (paths_in s)) sweeps
sweeps_ways net pairs routes sweeps is least =
    All-weaker (IsLeastSweep net pairs) (λ (s : Sweep). ArePathsOfPairs net routes (paths_in s)) (λ s by. least_ways net pairs routes by.0 (paths_in s) is by.1) sweeps least

-- what holds of two routings holds of the one that is taken
pub taken_keeps : (P : List PairRoutes → Type 0) (first second taken : List PairRoutes) → (taken ≡ first) ⊎ (taken ≡ second) → P first → P second → P taken
taken_keeps P first second taken either of_first of_second = elim either [ inl is ↦ subst P (sym is) of_first | inr is ↦ subst P (sym is) of_second ]

-- the lengths that sweeps have kept
pub offered_lengths : (net : Network) (state : DualState) → IsDualState net state → AreLengths net state.best_lengths.items
offered_lengths net state are = record {
  count = are.best_count;
  some = weights_positive state.best_lengths.items are.best_lengths;
  limit = weights_small state.best_lengths.items are.best_lengths;
}
