-- Routings over the fixed paths by sweeps and descents.
use Rattle.std.proofs.Common.{inl, inr, ◌≡◌, ◌⊎◌, ℕ, ◌+◌, ◌<◌, ◌≤◌, List, [], ◌∷◌, ◌++◌, length, map, get_or, arith, ap, refl, sym, ◌∙◌, subst, All}
use Rattle.std.specs.Prelude.{IsTrue, slice_index_or}
use Rattle.std.proofs.lemmas.List.{get_or-map, length-append}
use Rattle.std.proofs.lemmas.List.Elements.{All-get_or, All-push}
use Rattle.te_model.specs.declared.network.Network.{Network}
use Rattle.te_model.specs.declared.route.Pair.{Pair}
use Rattle.te_model.specs.declared.route.PairRoutes.{PairRoutes}
use Rattle.te_model.specs.Path.{is_path, no_routes, routes_at}
use Rattle.te_model.specs.PathRouting.{IsPathRouting}
use Rattle.routing.specs.Merge.{HasLinks}
use Rattle.routing.specs.Routes.{HasFewPaths, IsRoutingOf}
use Rattle.routing.specs.Utilisation.{parts}
use Rattle.local_search.specs.Moves.{HaveFewTogether, UsesOnly}
use Rattle.routing.proofs.InOrder.{same_count}
use Rattle.routing.proofs.OwnPaths.{has_inside}
use Rattle.local_search.proofs.MovedRoutings.{same_pair}
use Rattle.rate_sweeps.specs.declared.descent.Descent.{Descent}
use Rattle.rate_sweeps.specs.declared.mix.Sweep.{Sweep}
use Rattle.rate_sweeps.specs.Descents.{BothKeep, IsTurn}
use Rattle.rate_sweeps.specs.Shifts.{UsesOnlyWays}
use Rattle.rate_sweeps.specs.Sweeps.{paths_in, AreAmong, ArePathsOfPairs, IsOfSweeps, IsWeight}
use Rattle.semi_oblivious.specs.Semi.{KeepsTo}
use Rattle.semi_oblivious.specs.Sweeps.{AreFixedSweeps, IsCheapestSweep, IsOverFixed}

-- one sweep more
pub sweeps_more : (n m : ℕ) (net : Network) (fixed : List PairRoutes) (sweeps : List Sweep) (s : Sweep) → AreFixedSweeps n net fixed sweeps → m ≡ n + 1 → IsWeight s.weight →
    ArePathsOfPairs net fixed (paths_in s) → AreAmong fixed (paths_in s) → IsCheapestSweep net fixed s → AreFixedSweeps m net fixed (sweeps ++ s ∷ [])
sweeps_more n m net fixed sweeps s are next weight ways among cheapest = record {
  count = omega (arith, are.count, next, length-append sweeps (s ∷ []));
  weights = All-push (λ (s : Sweep). IsWeight s.weight) sweeps s are.weights weight;
  ways = All-push (λ (s : Sweep). ArePathsOfPairs net fixed (paths_in s)) sweeps s are.ways ways;
  among = All-push (λ (s : Sweep). AreAmong fixed (paths_in s)) sweeps s are.among among;
  cheapest = All-push (IsCheapestSweep net fixed) sweeps s are.cheapest cheapest;
}

-- a routing over the paths of sweeps over fixed paths keeps to these
sweeps_keep : (fixed routes : List PairRoutes) (sweeps : List Sweep) → length routes ≡ length fixed → All (λ s. AreAmong fixed (paths_in s)) sweeps →
    IsOfSweeps sweeps routes → ((p : ℕ) (links : List ℕ) → HasLinks (routes_at routes p).paths links → p < length routes) → KeepsTo fixed routes
sweeps_keep fixed routes sweeps count among only inside = λ p links has.
    let below = inside p links has in
    let (j, within, at) = only p links below has in
    let none : Sweep = record { weight = 0; paths = [] } in
    let here = All-get_or (λ (s : Sweep). AreAmong fixed (paths_in s)) sweeps j none within among p (omega (arith, below, count)) in
    let same = get_or-map (λ (s : Sweep). get_or (paths_in s) p []) sweeps j none [] within in
    subst (HasLinks (routes_at fixed p).paths) (sym same ∙ at) here

-- a routing whose paths come from fixed ones and from offered ones that are fixed keeps to the fixed ones
ways_keep : (fixed before routes : List PairRoutes) (offered : List (List ℕ)) → KeepsTo fixed before → length before ≡ length fixed → AreAmong fixed offered →
    UsesOnlyWays before offered routes → KeepsTo fixed routes
ways_keep fixed before routes offered keeps count among only = λ p links has. elim (only p links has) [
  | inl old ↦ keeps p links old
  | inr new ↦ subst (HasLinks (routes_at fixed p).paths) new.1 (among p (omega (arith, new.0, count)))
]

-- the fixed routing itself
pub own_over : (net : Network) (demand : List ℕ) (fixed : List PairRoutes) → IsPathRouting net fixed → IsOverFixed net demand fixed fixed
own_over net demand fixed is = record { routing = is; pairs = refl; keeps = λ p links has. has; no_greater = omega arith }

-- the one that is taken of a routing over the fixed paths and one that sweeps over them make, where it is no worse than the first
pub taken_over : (net : Network) (demand : List ℕ) (fixed best mixed taken : List PairRoutes) (sweeps : List Sweep) → IsOverFixed net demand fixed best →
    IsRoutingOf net (map (λ r. r.pair) fixed) mixed → All (λ s. AreAmong fixed (paths_in s)) sweeps → IsOfSweeps sweeps mixed → (taken ≡ best) ⊎ (taken ≡ mixed) →
    parts net taken demand ≤ parts net best demand → IsOverFixed net demand fixed taken
taken_over net demand fixed best mixed taken sweeps over of among only either less = elim either [
  | inl is ↦ subst (IsOverFixed net demand fixed) (sym is) over
  | inr is ↦ record {
    routing = subst (IsPathRouting net) (sym is) of.splits;
    pairs = ap (λ (l : List PairRoutes). map (λ (r : PairRoutes). r.pair) l) is ∙ of.in_order;
    keeps = subst (KeepsTo fixed) (sym is) (sweeps_keep fixed mixed sweeps (same_count mixed fixed of.in_order) among only (has_inside mixed));
    no_greater = omega (arith, less, over.no_greater);
  }
]

-- paths of the pairs of one routing are paths of those of another of the same pairs
pub ways_same : (net : Network) (fixed routes : List PairRoutes) (paths : List (List ℕ)) → map (λ r. r.pair) routes ≡ map (λ r. r.pair) fixed → ArePathsOfPairs net fixed paths →
    ArePathsOfPairs net routes paths
ways_same net fixed routes paths same ways = record {
  count = ways.count ∙ sym (same_count routes fixed same);
  each = λ p below. subst (λ (q : Pair). IsTrue (is_path net q.src q.dst (slice_index_or paths p []))) (sym (same_pair routes fixed p same))
      (ways.each p (omega (arith, below, same_count routes fixed same)));
}

-- both routings of a descent keep to the fixed paths after a turn to fixed ones
pub turn_keeps : (limit : ℕ) (fixed : List PairRoutes) (offered : List (List ℕ)) (old new : Descent) → AreAmong fixed offered → IsTurn limit offered old new →
    BothKeep (KeepsTo fixed) old → BothKeep (KeepsTo fixed) new
turn_keeps limit fixed offered old new among turn keep =
    let only = turn.only fixed ((λ p links has. inl (keep.0 p links has)), (λ p links has. inl (keep.1 p links has))) in (
      ways_keep fixed fixed new.routing.routes offered (λ p links has. has) refl among only.0,
      ways_keep fixed fixed new.best.routes offered (λ p links has. has) refl among only.1,
    )

-- a routing that keeps to the fixed paths has no more of them together with these
pub few_kept : (limit : ℕ) (fixed routes : List PairRoutes) → length routes ≡ length fixed → HasFewPaths limit fixed → KeepsTo fixed routes → HaveFewTogether limit routes fixed
few_kept limit fixed routes count few keeps = λ p inside. (
  (routes_at fixed p).paths,
  few p no_routes (omega (arith, inside, count)),
  λ links either. elim either [ inl own ↦ keeps p links own | inr has ↦ has ],
)

-- a routing over the fixed paths is one of the pairs
pub over_routing : (net : Network) (pairs : List Pair) (demand : List ℕ) (fixed routes : List PairRoutes) → IsRoutingOf net pairs fixed →
    IsOverFixed net demand fixed routes → IsRoutingOf net pairs routes
over_routing net pairs demand fixed routes is over = record { in_order = over.pairs ∙ is.in_order; splits = over.routing }

-- moves between fixed paths keep to them
pub settled_keep : (fixed start routes : List PairRoutes) → KeepsTo fixed start → UsesOnly start fixed routes → KeepsTo fixed routes
settled_keep fixed start routes keeps only = λ p links has. elim (only p links has) [ inl own ↦ keeps p links own | inr there ↦ there ]
