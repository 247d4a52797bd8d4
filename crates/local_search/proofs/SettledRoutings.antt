-- Moves that improve, one after another, end at a stable routing.
use Rattle.std.proofs.Common.{inl, inr, ◌⊎◌, ◌≡◌, ℕ, zero, suc, ◌+◌, ◌<◌, ◌≤◌, List, map, arith, refl, sym, ◌∙◌}
use Rattle.te_model.specs.declared.network.Network.{Network}
use Rattle.te_model.specs.declared.route.PairRoutes.{PairRoutes}
use Rattle.te_model.specs.PathRouting.{IsPathRouting}
use Rattle.routing.specs.Utilisation.{parts}
use Rattle.local_search.specs.Laws.{StableRoutingsExist}
use Rattle.local_search.specs.Moves.{IsStable, UsesOnly}
use Rattle.local_search.proofs.ImprovingMoves.{Improvement, improvement_or_stable}
use Rattle.local_search.proofs.MovedRoutings.{moved_only, moved_routing}
use Rattle.local_search.proofs.Settled.{settled_few}

-- what holds of the routings that moves from a first one reach
record IsReached (net : Network) (demand : List ℕ) (before candidates routes : List PairRoutes) : Type 0 where
  routing : IsPathRouting net routes
  pairs : map (λ (r : PairRoutes). r.pair) routes ≡ map (λ (r : PairRoutes). r.pair) before
  lower : parts net routes demand ≤ parts net before demand
  only : UsesOnly before candidates routes

reached_first : (net : Network) (demand : List ℕ) (before candidates : List PairRoutes) → IsPathRouting net before →
    IsReached net demand before candidates before
reached_first net demand before candidates routing = record {
  routing = routing;
  pairs = refl;
  lower = omega arith;
  only = λ p links has. inl has;
}

reached_more : (net : Network) (demand : List ℕ) (before candidates routes : List PairRoutes) → IsPathRouting net candidates →
    map (λ (r : PairRoutes). r.pair) candidates ≡ map (λ (r : PairRoutes). r.pair) before → IsReached net demand before candidates routes →
    (step : Improvement net demand candidates routes) → IsReached net demand before candidates step.moved
reached_more net demand before candidates routes others pairs so step = record {
  routing = moved_routing net routes candidates step.moved step.p step.k step.to step.size so.routing others (pairs ∙ sym so.pairs) step.can step.is;
  pairs = step.is.pairs ∙ so.pairs;
  lower = omega (arith, so.lower, step.improves.0);
  only = moved_only before routes candidates step.moved step.p step.k step.to step.size so.only step.can step.is;
}

settled_from : (net : Network) (demand : List ℕ) (before candidates : List PairRoutes) → IsPathRouting net candidates →
    map (λ (r : PairRoutes). r.pair) candidates ≡ map (λ (r : PairRoutes). r.pair) before → (n : ℕ) (routes : List PairRoutes) →
    IsReached net demand before candidates routes → parts net routes demand < n →
    (settled : List PairRoutes) × IsReached net demand before candidates settled × IsStable net demand candidates settled
settled_from net demand before candidates others pairs zero routes so less = absurd (omega (arith, less))
settled_from net demand before candidates others pairs (suc n) routes so less =
    go (improvement_or_stable net demand candidates routes so.routing) (settled_from net demand before candidates others pairs n)
  where
    go : Improvement net demand candidates routes ⊎ IsStable net demand candidates routes →
        ((moved : List PairRoutes) → IsReached net demand before candidates moved → parts net moved demand < n →
        (settled : List PairRoutes) × IsReached net demand before candidates settled × IsStable net demand candidates settled) →
        (settled : List PairRoutes) × IsReached net demand before candidates settled × IsStable net demand candidates settled
    go (inl step) rest =
        rest step.moved (reached_more net demand before candidates routes others pairs so step) (omega (arith, less, step.improves.0))
    go (inr stable) rest = (routes, so, stable)

pub stable_routings_exist : StableRoutingsExist
stable_routings_exist net demand pairs start candidates own others =
    let same = others.in_order ∙ sym own.in_order in
    let (routes, so, stable) =
    settled_from net demand start candidates others.splits same (parts net start demand + 1) start
    (reached_first net demand start candidates own.splits) (omega arith)
    in (
      routes,
      record { in_order = so.pairs ∙ own.in_order; splits = so.routing },
      stable,
      so.lower,
      so.only,
      λ limit together. settled_few net start candidates routes limit together so.routing so.pairs so.only,
    )
