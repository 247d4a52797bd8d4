use Rattle.std.proofs.Common.{◌≡◌, ◌∙◌, ◌<◌, ◌≤◌, ℕ, List, All, arith, ap, get_or, length, subst, sym}
use Rattle.std.specs.Prelude.{sum_by}
use Rattle.std.proofs.lemmas.List.{get_or_read}
use Rattle.te_model.specs.declared.route.PairRoutes.{PairRoutes}
use Rattle.te_model.specs.declared.units.TheConstants.{SHARE_UNIT}
use Rattle.te_model.specs.Path.{no_routes, routes_at}
use Rattle.ratio_checker.specs.Checked.{IsSimplePath}
use Rattle.witness_search.specs.RouteLimits.{IsRouteLimit}
use Rattle.witness_search.proofs.HeadLimits.{head_simple, limit_is}
use Rattle.witness_search.proofs.LinkSums.{head_links_small}
use Rattle.witness_search.proofs.limits.limit_of.Goals as goal

-- the pair of the list that is lent
lent : (routes list : List PairRoutes) (p : ℕ) (item : PairRoutes) → list ≡ routes → p < length routes → item ≡ get_or list p item → item ≡ routes_at routes p
lent routes list p item same below is =
    let count = ap (λ (rs : List PairRoutes). length rs) same in
    get_or_read list p item (omega (arith, below, count)) is no_routes ∙ ap (λ (rs : List PairRoutes). routes_at rs p) same

pub limit_of_route-requires-clause-links : goal.limit_of_route-requires-clause-links
limit_of_route-requires-clause-links c = head_links_small c.args.head.now c.requires.head

pub limit_of_route-requires-clause-paths : goal.limit_of_route-requires-clause-paths
limit_of_route-requires-clause-paths c =
    let h = c.args.head.now in
    let same = lent h.routes c.as_slice-routes.result.now c.args.pair c.index-routes-pair.result c.as_slice-routes.ensures c.requires.pair c.index-routes-pair.is in
    subst (λ (r : PairRoutes). All IsSimplePath r.paths) (sym same) (head_simple h c.args.pair c.requires.head c.requires.pair).0

pub limit_of_route-requires-clause-whole : goal.limit_of_route-requires-clause-whole
limit_of_route-requires-clause-whole c =
    let h = c.args.head.now in
    let same = lent h.routes c.as_slice-routes.result.now c.args.pair c.index-routes-pair.result c.as_slice-routes.ensures c.requires.pair c.index-routes-pair.is in
    subst (λ (r : PairRoutes). sum_by (λ s. s.weight) r.paths ≤ SHARE_UNIT) (sym same) (head_simple h c.args.pair c.requires.head c.requires.pair).1

pub returns : goal.returns
returns c =
    let h = c.args.head.now in
    let same = lent h.routes c.as_slice-routes.result.now c.args.pair c.index-routes-pair.result c.as_slice-routes.ensures c.requires.pair c.index-routes-pair.is in
    limit_is h c.args.pair c.limit_of_route.result c.requires.head c.requires.pair
    (subst (λ (r : PairRoutes). IsRouteLimit h.network r c.limit_of_route.result) same c.limit_of_route.ensures)
