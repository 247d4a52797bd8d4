-- The routing of the first pairs, pair by pair.
use Rattle.std.proofs.Common.{◌≡◌, ℕ, ◌+◌, ◌<◌, List, [], ◌∷◌, ◌++◌, length, arith, ap, sym, subst}
use Rattle.te_model.specs.declared.network.Network.{Network}
use Rattle.te_model.specs.declared.route.Pair.{Pair}
use Rattle.te_model.specs.declared.route.PathShare.{PathShare}
use Rattle.te_model.specs.declared.route.PairRoutes.{PairRoutes}
use Rattle.te_model.specs.declared.limits.TheConstants.{FORMAT_2}
use Rattle.shortest_path.specs.Paths.{HasPath}
use Rattle.scheme.specs.Fixed.{IsSplitBy}
use Rattle.scheme.specs.Reach.{pair_at, ArePairsOf, IsFirstWithout}
use Rattle.scheme.proofs.Plans.{RoutesSoFar, routes_more, reached_at}
use Rattle.valiant_mix.specs.Valiant.{IsValiantSplit}

-- the routes of the first p pairs are their splits
abbrev pub AreFirstRoutes : Network → List Pair → ℕ → List PairRoutes → Type 0
AreFirstRoutes net pairs p routes = RoutesSoFar IsValiantSplit FORMAT_2.nodes net pairs p routes

-- a pair of the list that is lent
lent_inside : (pairs list : List Pair) (p : ℕ) → list ≡ pairs → p < length list → p < length pairs
lent_inside pairs list p same below = let e = ap (λ (l : List Pair). length l) same in omega (arith, below, e)

-- the split of one pair more
pub one_pair_more : (net : Network) (pairs list : List Pair) (p : ℕ) (routes : List PairRoutes) (paths kept : List PathShare) → list ≡ pairs → p < length list →
    AreFirstRoutes net pairs p routes → kept ≡ paths →
    IsSplitBy IsValiantSplit FORMAT_2.nodes net (record { pair = pair_at list p; paths = paths }) →
    AreFirstRoutes net pairs (p + 1) (routes ++ (record { pair = pair_at list p; paths = kept }) ∷ [])
one_pair_more net pairs list p routes paths kept same below far is split =
    routes_more IsValiantSplit FORMAT_2.nodes net pairs p routes (record { pair = pair_at list p; paths = kept }) far (lent_inside pairs list p same below)
    (ap (λ (l : List Pair). pair_at l p) same)
    (subst (λ l. IsSplitBy IsValiantSplit FORMAT_2.nodes net (record { pair = pair_at list p; paths = l })) (sym is) split)

-- the first pair without a path
pub first_without : (net : Network) (pairs list : List Pair) (p : ℕ) (routes : List PairRoutes) → list ≡ pairs → p < length list → ArePairsOf net pairs →
    AreFirstRoutes net pairs p routes → (HasPath net (pair_at list p).src (pair_at list p).dst → ⊥) → IsFirstWithout net pairs p
first_without net pairs list p routes same below are far none =
    let inside = lent_inside pairs list p same below in
    record {
      inside = inside;
      without = subst (λ (x : Pair). HasPath net x.src x.dst → ⊥) (ap (λ (l : List Pair). pair_at l p) same) none;
      before = reached_at IsValiantSplit FORMAT_2.nodes net pairs p routes far are (omega (arith, inside));
    }
