-- A list of routes that was lent, at the place of a loop over it, and at its end.
use Rattle.std.proofs.Common.{◌≡◌, ◌∙◌, ◌<◌, ◌≤◌, ℕ, List, length, get_or, arith, ap, sym}
use Rattle.std.proofs.lemmas.List.{get_or_default}
use Rattle.te_model.specs.declared.route.PathShare.{PathShare}
use Rattle.te_model.specs.declared.route.PairRoutes.{PairRoutes}
use Rattle.te_model.specs.Path.{no_routes, routes_at}

pub below_pairs : (routes list : List PairRoutes) (p : ℕ) → list ≡ routes → p < length list → p < length routes
below_pairs routes list p same below = let e = ap length same in omega (arith, below, e)

pub all_pairs : (routes list : List PairRoutes) (p : ℕ) → list ≡ routes → p ≤ length list → length list ≤ p → p ≡ length routes
all_pairs routes list p same up down = let e = ap length same in omega (arith, e, up, down)

-- the paths of the item that is read are those of pair p
pub lent_paths : (routes list : List PairRoutes) (p : ℕ) (item : PairRoutes) (paths : List PathShare) → list ≡ routes → p < length list →
    paths ≡ (get_or list p item).paths → paths ≡ (routes_at routes p).paths
lent_paths routes list p item paths same below at =
    at ∙ ap (λ (r : PairRoutes). r.paths) (sym (get_or_default list p no_routes item below) ∙ ap (λ l. routes_at l p) same)
