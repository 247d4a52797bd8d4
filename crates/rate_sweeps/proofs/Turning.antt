-- Where a descent stands at its start and after a turn.
use Rattle.std.proofs.Common.{inl, inr, ◌≡◌, ◌⊎◌, ℕ, ◌<◌, ◌≤◌, List, length, map, arith, refl, ap, sym, ◌∙◌, subst}
use Rattle.std.proofs.lemmas.List.Elements.{All-get_or}
use Rattle.te_model.specs.declared.network.Network.{Network}
use Rattle.te_model.specs.declared.route.Pair.{Pair}
use Rattle.te_model.specs.declared.route.PairRoutes.{PairRoutes}
use Rattle.te_model.specs.Path.{no_routes, routes_at}
use Rattle.te_model.specs.PathRouting.{IsPathRouting, IsPathSplit}
use Rattle.routing.specs.Merge.{links_at}
use Rattle.routing.specs.Routes.{IsRoutingOf}
use Rattle.routing.specs.Utilisation.{parts}
use Rattle.rate_sweeps.specs.declared.descent.Descent.{Descent}
use Rattle.rate_sweeps.specs.Descents.{BothKeep, IsDescent, IsPace}
use Rattle.rate_sweeps.specs.Shifts.{UsesOnlyWays}
use Rattle.routing.proofs.OwnPaths.{has_inside}
use Rattle.routing.proofs.Splits.{split_some}

pub turn_routing : (net : Network) (pairs : List Pair) (demand : List ℕ) (start : List PairRoutes) (d : Descent) → IsRoutingOf net pairs start →
    IsDescent net demand start d → IsRoutingOf net pairs d.routing.routes
turn_routing net pairs demand start d of is = record { in_order = is.routing_pairs ∙ of.in_order; splits = is.routing }

-- what holds of the routing that a turn made and of the best one before holds of both routings after the turn
pub both_turned : (P : List PairRoutes → Type 0) (old new : Descent) (made : List PairRoutes) → (new.best.routes ≡ made) ⊎ (new.best.routes ≡ old.best.routes) →
    (new.routing.routes ≡ made) ⊎ (new.routing.routes ≡ new.best.routes) → P made → P old.best.routes → BothKeep P new
both_turned P old new made best routing fresh kept =
    let second : P new.best.routes = elim best [ inl better ↦ subst P (sym better) fresh | inr same ↦ subst P (sym same) kept ] in
    (elim routing [ inl made ↦ subst P (sym made) fresh | inr back ↦ subst P (sym back) second ], second)

-- a turn's routing is one of the pairs of the start
pub made_routing : (net : Network) (demand : List ℕ) (start made : List PairRoutes) (d : Descent) → IsDescent net demand start d →
    ((pairs : List Pair) → IsRoutingOf net pairs d.routing.routes → IsRoutingOf net pairs made) → IsRoutingOf net (map (λ r. r.pair) start) made
made_routing net demand start made d is keeps = keeps (map (λ (r : PairRoutes). r.pair) start) (record { in_order = is.routing_pairs; splits = is.routing })

-- a routing with paths of the first and offered ones has no more pairs than the first
covered : (net : Network) (first middle : List PairRoutes) (offered : List (List ℕ)) → IsPathRouting net middle → UsesOnlyWays first offered middle →
    (p : ℕ) → p < length middle → p < length first
covered net first middle offered splits only p below =
    let paths = (routes_at middle p).paths in
    let some = split_some net (routes_at middle p) (All-get_or (IsPathSplit net) middle p no_routes below splits) in
    elim (only p (links_at paths 0) (0, some, refl)) [ inl own ↦ has_inside first p (links_at paths 0) own | inr new ↦ new.0 ]

-- paths that come from paths of the middle and the offered ones come from those from which the middle's came, if the same are offered
pub only_through : (net : Network) (first middle last : List PairRoutes) (offered : List (List ℕ)) → IsPathRouting net middle → UsesOnlyWays first offered middle →
    UsesOnlyWays middle offered last → UsesOnlyWays first offered last
only_through net first middle last offered splits before after p links has = elim (after p links has) [
  | inl old ↦ before p links old
  | inr new ↦ inr (covered net first middle offered splits before p new.0, new.1)
]

-- a descent after a turn that made a routing of the pairs: the best one is this, if it is better, or stays, and the next turn goes on from
-- either
pub turned : (net : Network) (demand : List ℕ) (start : List PairRoutes) (old : Descent) (made : List PairRoutes) (new : Descent) → IsDescent net demand start old →
    IsPathRouting net made → map (λ r. r.pair) made ≡ map (λ r. r.pair) start →
    ((new.best.routes ≡ made) × (parts net made demand ≤ old.least)) ⊎ (new.best.routes ≡ old.best.routes) →
    (new.routing.routes ≡ made) ⊎ (new.routing.routes ≡ new.best.routes) → new.least ≡ parts net new.best.routes demand → IsPace new.pace →
    IsDescent net demand start new
turned net demand start old made new is splits pairs best routing least pace =
    let (best_splits, best_pairs, no_greater) = best_is in
    record {
      routing = elim routing [ inl fresh ↦ subst (IsPathRouting net) (sym fresh) splits | inr back ↦ subst (IsPathRouting net) (sym back) best_splits ];
      routing_pairs = elim routing [ inl fresh ↦ ap pairs_of fresh ∙ pairs | inr back ↦ ap pairs_of back ∙ best_pairs ];
      best = best_splits;
      best_pairs = best_pairs;
      least = least;
      no_greater = no_greater;
      pace = pace;
    }
  where
    pairs_of : List PairRoutes → List Pair
    pairs_of routes = map (λ (r : PairRoutes). r.pair) routes

    best_is : IsPathRouting net new.best.routes × (map (λ (r : PairRoutes). r.pair) new.best.routes ≡ map (λ (r : PairRoutes). r.pair) start)
        × (parts net new.best.routes demand ≤ parts net start demand)
    best_is = elim best [
      | inl better ↦ (
        subst (IsPathRouting net) (sym better.0) splits,
        ap pairs_of better.0 ∙ pairs,
        subst (λ (l : List PairRoutes). parts net l demand ≤ parts net start demand) (sym better.0) (omega (arith, better.1, is.least, is.no_greater)),
      )
      | inr same ↦ (
        subst (IsPathRouting net) (sym same) is.best,
        ap pairs_of same ∙ is.best_pairs,
        subst (λ (l : List PairRoutes). parts net l demand ≤ parts net start demand) (sym same) is.no_greater,
      )
    ]
