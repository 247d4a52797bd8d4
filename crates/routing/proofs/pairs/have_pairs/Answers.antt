use Rattle.std.proofs.Common.{◌≡◌, ℕ, suc, ◌<◌, List, [], ◌∷◌, length, map, get_or, arith, refl, ap, ◌∙◌}
use Rattle.te_model.specs.declared.route.Pair.{Pair}
use Rattle.te_model.specs.declared.route.PairRoutes.{PairRoutes}
use Rattle.te_model.specs.Path.{no_routes, routes_at}
use Rattle.routing.proofs.pairs.have_pairs.Goals as goal

-- routes that have the same pair at each place as a list of pairs
same_pairs : (routes : List PairRoutes) (pairs : List Pair) → length routes ≡ length pairs →
    ((k : ℕ) → k < length routes → (routes_at routes k).pair ≡ get_or pairs k no_routes.pair) → map (λ r. r.pair) routes ≡ pairs
same_pairs [] [] same each = refl
same_pairs [] (p ∷ ps) same each = absurd (omega (arith, same))
same_pairs (r ∷ rs) [] same each = absurd (omega (arith, same))
same_pairs (r ∷ rs) (p ∷ ps) same each =
    ap (λ (q : Pair). q ∷ map (λ (s : PairRoutes). s.pair) rs) (each 0 (omega arith))
    ∙ ap (λ (qs : List Pair). p ∷ qs) (same_pairs rs ps (omega (arith, same)) (λ k below. each (suc k) (omega (arith, below))))

pub returns : goal.returns
returns c = (
  λ yes. same_pairs c.args.routes.now c.args.pairs.now (omega (arith, c.if-routes-pairs.false))
      (λ k below. c.loop-p.invariant k (omega (arith, below, c.loop-p-test.false))),
  λ same. refl,
)
