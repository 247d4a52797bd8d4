-- The routes of pairs, in their order.
use Rattle.std.proofs.Common.{◌≡◌, List, length, map, ap, sym, ◌∙◌}
use Rattle.std.proofs.lemmas.List.{length-map}
use Rattle.te_model.specs.declared.route.Pair.{Pair}
use Rattle.te_model.specs.declared.route.PairRoutes.{PairRoutes}

-- as many routes as pairs
pub routes_count : (pairs : List Pair) (routes : List PairRoutes) → map (λ (r : PairRoutes). r.pair) routes ≡ pairs → length routes ≡ length pairs
routes_count pairs routes in_order = sym (length-map routes (λ (r : PairRoutes). r.pair)) ∙ ap (λ (l : List Pair). length l) in_order

-- routings of the same pairs are of one length
pub same_count : (xs ys : List PairRoutes) → map (λ r. r.pair) xs ≡ map (λ r. r.pair) ys → length xs ≡ length ys
same_count xs ys same =
    sym (length-map xs (λ (r : PairRoutes). r.pair)) ∙ (ap (λ (l : List Pair). length l) same ∙ length-map ys (λ (r : PairRoutes). r.pair))
