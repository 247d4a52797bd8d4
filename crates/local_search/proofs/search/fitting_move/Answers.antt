use Rattle.std.proofs.Common.{◌≡◌, ℕ, ◌<◌, List, length, slice_index, arith, ap, sym, ◌∙◌, subst, below_more}
use Rattle.std.proofs.lemmas.List.{get_or_default}
use Rattle.std.proofs.lemmas.List.Elements.{All-get_or}
use Rattle.te_model.specs.declared.route.PathShare.{PathShare}
use Rattle.te_model.specs.declared.route.PairRoutes.{PairRoutes}
use Rattle.te_model.specs.Path.{no_routes, routes_at}
use Rattle.te_model.proofs.Amounts.{has_at}
use Rattle.routing.specs.Merge.{path_at}
use Rattle.local_search.specs.Search.{Fits, FitsAt}
use Rattle.local_search.proofs.Searching.{fits_holds}
use Rattle.local_search.proofs.search.fitting_move.Goals as goal

pub loop-holder-preserved : goal.loop-holder-preserved
loop-holder-preserved c =
    let net = c.args.net.now in
    let loads = c.args.loads.now in
    let routes = c.args.routes.now in
    let candidates = c.args.candidates.now in
    let times = c.args.aim.now.times in
    let holders = c.args.holders.now in
    let q = slice_index holders c.loop-holder.holder-index in
    let inside : q < length routes = All-get_or (λ p. p < length routes) holders c.loop-holder.holder-index 0 c.loop-holder-test.true c.requires.holders.inside in
    below_more (λ i. (k j size : ℕ) → FitsAt net loads times c.args.matrix.now.demand routes candidates (slice_index holders i) k j size → ⊥)
    c.loop-holder.holder-index c.loop-holder.invariant
    (λ k j size fits.
    let paths : (routes_at routes q).paths ≡ c.as_slice-paths.result.now =
    sym (c.as_slice-paths.ensures ∙ ap (λ (r : PairRoutes). r.paths) (get_or_default routes q c.index-routes-pair.result no_routes inside))
    in
    let others : (routes_at candidates q).paths ≡ c.as_slice-others.result.now =
    sym (c.as_slice-others.ensures
    ∙ ap (λ (r : PairRoutes). r.paths) (get_or_default candidates q c.index-candidates-pair.result no_routes (omega (arith, inside, c.requires.pairs))))
    in
    let demand = sym c.as_slice.ensures in
    let fit =
    subst (λ (l : List ℕ). Fits net loads times (slice_index l q) (path_at c.as_slice-paths.result.now k) c.as_slice-others.result.now j size) demand
    (subst (λ (l : List PathShare). Fits net loads times (slice_index c.args.matrix.now.demand q) (path_at c.as_slice-paths.result.now k) l j size) others
    (subst (λ (l : List PathShare). Fits net loads times (slice_index c.args.matrix.now.demand q) (path_at l k) (routes_at candidates q).paths j size) paths fits.fits))
    in
    c.in_default.ensures.none k j size (subst (λ (l : List PathShare). k < length l) paths fits.path) fit)

pub returns-clause-none : goal.returns-clause-none
returns-clause-none c = λ p k j size fits.
    let net = c.args.net.now in
    let loads = c.args.loads.now in
    let routes = c.args.routes.now in
    let candidates = c.args.candidates.now in
    let aim = c.args.aim.now in
    let demand = c.args.matrix.now.demand in
    let holds = fits_holds net loads aim.times demand routes candidates p k j size aim.link fits c.requires.link c.requires.over in
    let (i, below, at) = has_at c.args.holders.now p (c.requires.holders.holders p holds) in
    c.loop-holder.invariant i (omega (arith, below, c.loop-holder-test.false)) k j size
    (subst (λ q. FitsAt net loads aim.times demand routes candidates q k j size) (sym at) fits)
