-- What paths pairs have.
use Rattle.std.proofs.Common.{◌≡◌, ℕ, zero, suc, ◌<◌, List, [], ◌∷◌, ◌++◌, length, arith, ap, ◌∙◌}
use Rattle.std.proofs.lemmas.List.{get_or_append_left, length-append}
use Rattle.te_model.specs.declared.route.PairRoutes.{PairRoutes}
use Rattle.te_model.specs.declared.route.PathShare.{PathShare}
use Rattle.te_model.specs.Path.{routes_at}
use Rattle.routing.specs.Merge.{HasLinks, no_path}

-- a path of a list is one of it and further paths
pub has_front : (xs ys : List PathShare) (links : List ℕ) → HasLinks xs links → HasLinks (xs ++ ys) links
has_front xs ys links (k, below, at) =
    (k, omega (arith, below, length-append xs ys), ap (λ (s : PathShare). s.links) (get_or_append_left xs ys no_path k below) ∙ at)

-- a pair with a path is one of the pairs
pub has_inside : (routes : List PairRoutes) (p : ℕ) (links : List ℕ) → HasLinks (routes_at routes p).paths links → p < length routes
has_inside [] p links (k, below, at) = absurd (omega arith)
has_inside (r ∷ rs) zero links has = omega arith
has_inside (r ∷ rs) (suc p) links has = let inside = has_inside rs p links has in omega (arith, inside)
