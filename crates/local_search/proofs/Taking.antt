-- The routes after a move, written in their place.
use Rattle.std.proofs.Common.{◌≡◌, ℕ, ◌<◌, List, length, arith, ap, sym, ◌∙◌, subst, min}
use Rattle.std.proofs.Math.ListN.{set}
use Rattle.std.proofs.Math.Seq.{map-set_same}
use Rattle.std.proofs.lemmas.List.{get_or-set_same, get_or-set_other, length-set}
use Rattle.te_model.specs.declared.route.PairRoutes.{PairRoutes}
use Rattle.te_model.specs.Path.{no_routes, routes_at}
use Rattle.routing.specs.Merge.{links_at, path_at}
use Rattle.local_search.specs.Moves.{IsMoved, IsShift}

-- another split of the pair in its place, where none stood for a while
pub moved_by_set : (routes : List PairRoutes) (p k : ℕ) (to : List ℕ) (size : ℕ) (empty after : PairRoutes) → p < length routes →
    empty.pair ≡ (routes_at routes p).pair → after.pair ≡ (routes_at routes p).pair →
    IsShift (routes_at routes p).paths (links_at (routes_at routes p).paths k) to (min size (path_at (routes_at routes p).paths k).weight) after.paths →
    IsMoved routes p k to size (set (set routes p empty) p after)
moved_by_set routes p k to size empty after below same_empty same shift =
    let inside : p < length (set routes p empty) = omega (arith, below, length-set routes p empty) in
    let at_empty : routes_at (set routes p empty) p ≡ empty = get_or-set_same routes p empty no_routes below in
    let at_after : routes_at (set (set routes p empty) p after) p ≡ after = get_or-set_same (set routes p empty) p after no_routes inside in
    record {
      pairs = map-set_same (λ (r : PairRoutes). r.pair) (set routes p empty) p after no_routes (same ∙ (sym same_empty ∙ sym (ap (λ (r : PairRoutes). r.pair) at_empty)))
          ∙ map-set_same (λ (r : PairRoutes). r.pair) routes p empty no_routes same_empty;
      others = λ q apart. get_or-set_other (set routes p empty) p q after no_routes apart ∙ get_or-set_other routes p q empty no_routes apart;
      shifted = subst (λ (r : PairRoutes). IsShift (routes_at routes p).paths (links_at (routes_at routes p).paths k) to
          (min size (path_at (routes_at routes p).paths k).weight) r.paths) (sym at_after) shift;
    }
