-- Which moves need not be tried, and what the tried ones say.
use Rattle.std.proofs.Common.{◌≡◌, inl, inr, ℕ, ◌*◌, ◌<◌, ◌≤◌, Bool, true, false, List, slice_index, arith, refl, ap, min, if◌then◌else◌}
use Rattle.std.proofs.lemmas.Bool.{cases_lt}
use Rattle.std.proofs.lemmas.List.Folds.{list_any_at}
use Rattle.te_model.specs.declared.network.Network.{Network}
use Rattle.te_model.specs.declared.route.PathShare.{PathShare}
use Rattle.te_model.specs.declared.route.PairRoutes.{PairRoutes}
use Rattle.te_model.specs.Network.{capacity_of, link_count}
use Rattle.te_model.specs.Path.{has_number, routes_at}
use Rattle.te_model.proofs.Conditionals.{if_false}
use Rattle.routing.specs.Merge.{links_at, no_path, path_at}
use Rattle.local_search.specs.Loads.{AreWithin, AreWithinOn, HasAbove, load_after}
use Rattle.local_search.specs.Pairs.{holds}
use Rattle.local_search.specs.Search.{Fits, FitsAt}

-- a move off a path that does not hold the link takes nothing off it
not_relieved : (load : ℕ) (from to : List ℕ) (amount e : ℕ) → has_number from e ≡ false → load ≤ load_after load from to amount e
not_relieved load from to amount e none =
    let loss : (if has_number from e then amount else 0) ≡ 0 = if_false (has_number from e) amount none in
    omega (arith, loss)

-- so where a link carries too much, no move fits but off paths that hold it
pub fits_not : (net : Network) (loads : List ℕ) (times demand : ℕ) (from : PathShare) (candidates : List PathShare) (j size link : ℕ) →
    Fits net loads times demand from candidates j size → link < link_count net → times * capacity_of net link < slice_index loads link →
    has_number from.links link ≡ false → ⊥
fits_not net loads times demand from candidates j size link fits inside above none =
    omega (
      arith,
      fits.within link inside,
      above,
      not_relieved (slice_index loads link) from.links (links_at candidates j) (demand * min size from.weight) link none,
    )

-- which are paths of a pair that holds it
pub fits_holds : (net : Network) (loads : List ℕ) (times : ℕ) (demand : List ℕ) (routes candidates : List PairRoutes) (p k j size link : ℕ) →
    FitsAt net loads times demand routes candidates p k j size → link < link_count net → times * capacity_of net link < slice_index loads link →
    holds routes p link ≡ true
fits_holds net loads times demand routes candidates p k j size link fits inside above = go (has_number (links_at paths k) link) refl
  where
    paths : List PathShare
    paths = (routes_at routes p).paths

    go : (b : Bool) → has_number (links_at paths k) link ≡ b → holds routes p link ≡ true
    go true is = list_any_at (λ s. has_number s.links link) paths k no_path fits.path is
    go false none = absurd (fits_not net loads times (slice_index demand p) (path_at paths k) (routes_at candidates p).paths j size link fits.fits inside above none)

-- nor does a move to the path itself
pub fits_other : (net : Network) (loads : List ℕ) (times demand : ℕ) (from : PathShare) (candidates : List PathShare) (j size link : ℕ) →
    Fits net loads times demand from candidates j size → link < link_count net → times * capacity_of net link < slice_index loads link →
    from.links ≡ links_at candidates j → ⊥
fits_other net loads times demand from candidates j size link fits inside above same =
    let amount = demand * min size from.weight in
    let gain : (if has_number from.links link then amount else 0) ≡ (if has_number (links_at candidates j) link then amount else 0) =
    ap (λ l. if has_number l link then amount else 0) same
    in
    omega (arith, fits.within link inside, above, gain)

-- a link that is not on the path to which the amount goes carries no more than before
not_burdened : (load : ℕ) (from to : List ℕ) (amount e : ℕ) → has_number to e ≡ false → load_after load from to amount e ≤ load
not_burdened load from to amount e none =
    let gain : (if has_number to e then amount else 0) ≡ 0 = if_false (has_number to e) amount none in
    omega (arith, gain)

-- so only the links that carry too much, and those of that path, have to be looked at
pub within_from_on : (net : Network) (times : ℕ) (loads above from to : List ℕ) (amount : ℕ) → HasAbove net times (slice_index loads) above →
    AreWithinOn net times (λ e. load_after (slice_index loads e) from to amount e) above → AreWithinOn net times (λ e. load_after (slice_index loads e) from to amount e) to →
    AreWithin net times (λ e. load_after (slice_index loads e) from to amount e)
within_from_on net times loads above from to amount has on_above on_to e below = go (has_number to e) refl
  where
    go : (b : Bool) → has_number to e ≡ b → load_after (slice_index loads e) from to amount e ≤ times * capacity_of net e
    go true holds = on_to e below holds
    go false none = elim (cases_lt (times * capacity_of net e) (slice_index loads e)) [
      | inl over ↦ on_above e below (has e below over)
      | inr within ↦ omega (arith, within, not_burdened (slice_index loads e) from to amount e none)
    ]
