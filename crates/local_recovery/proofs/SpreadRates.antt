-- Rates that are spread over more pairs keep what holds of each pair's paths.
use Rattle.std.proofs.Common.{◌≡◌, ◌⊎◌, ◌≤◌, List, [], length, All, arith, ap, sym, subst, inl, inr}
use Rattle.std.specs.Prelude.{IsTrue}
use Rattle.std.specs.List.{Contains}
use Rattle.std.proofs.lemmas.List.Elements.{All-contains, All-nil, All-weaker}
use Rattle.te_model.specs.declared.network.Network.{Network}
use Rattle.te_model.specs.declared.route.Pair.{Pair}
use Rattle.te_model.specs.declared.route.PathShare.{PathShare}
use Rattle.te_model.specs.declared.route.PairRoutes.{PairRoutes}
use Rattle.te_model.specs.Path.{is_path}
use Rattle.routing.specs.Routes.{HasFewPaths}
use Rattle.local_recovery.specs.Rates.{ArePairs, HasPathsOf, IsRates}
use Rattle.local_recovery.specs.Spread.{IsSpread}

spread_all : (P : PairRoutes → Type 0) (pairs : List Pair) (before after : List PairRoutes) → ((r : PairRoutes) → r.paths ≡ [] → P r) →
    IsSpread pairs before after → All P before → All P after
spread_all P pairs before after empty spread all =
    All-weaker (λ (r : PairRoutes). Contains before r ⊎ (r.paths ≡ [])) P
    (λ r is. elim is [ inl has ↦ All-contains P before r all has | inr none ↦ empty r none ]) after spread.added

pub spread_rates : (net : Network) (pairs : List Pair) (before after : List PairRoutes) → ArePairs net pairs → HasPathsOf net before →
    HasFewPaths 4096 before → IsSpread pairs before after → IsRates net after
spread_rates net pairs before after are paths few spread = record {
  pairs = subst (ArePairs net) (sym spread.pairs_are) are;
  paths = spread_all (λ (r : PairRoutes). All (λ (s : PathShare). IsTrue (is_path net r.pair.src r.pair.dst s.links)) r.paths) pairs before after
      (λ r none. subst (All (λ (s : PathShare). IsTrue (is_path net r.pair.src r.pair.dst s.links))) (sym none)
      (All-nil (λ (s : PathShare). IsTrue (is_path net r.pair.src r.pair.dst s.links)))) spread paths;
  few = spread_all (λ (r : PairRoutes). length r.paths ≤ 4096) pairs before after (λ r none. omega (arith, ap length none)) spread few;
}
