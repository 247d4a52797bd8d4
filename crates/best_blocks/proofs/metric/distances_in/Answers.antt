use Rattle.std.proofs.Common.{◌≡◌, ◌<◌, List, get_or, length, length-set, arith, ap, sym, subst, ◌∙◌}
use Rattle.std.specs.Prelude.{unwrap_or}
use Rattle.std.proofs.lemmas.List.{get_or_read}
use Rattle.te_model.specs.declared.route.PairRoutes.{PairRoutes}
use Rattle.te_model.specs.Path.{no_routes, routes_at}
use Rattle.shortest_path.specs.Graph.{distance_at}
use Rattle.best_blocks.specs.Metric.{distance_in}
use Rattle.best_blocks.specs.Rows.{distances_from}
use Rattle.best_blocks.proofs.Growing.{value_set}
use Rattle.best_blocks.proofs.metric.distances_in.Goals as goal

pub loop-p-preserved : goal.loop-p-preserved
loop-p-preserved c =
    let rows = c.args.rows.now in
    let routes = c.args.routing.now.routes in
    let p = c.loop-p.p in
    let read = c.as_slice-routes.result.now in
    let at : get_or read p c.index-routes-p.result ≡ routes_at routes p =
    sym c.index-routes-p.is ∙ get_or_read read p c.index-routes-p.result c.loop-p-test.true c.index-routes-p.is no_routes
    ∙ ap (λ (rs : List PairRoutes). routes_at rs p) c.as_slice-routes.ensures
    in
    let is : c.distance_between.result ≡ distance_in rows routes p =
    subst (λ (r : PairRoutes). c.distance_between.result ≡ unwrap_or (distance_at (distances_from rows r.pair.src) r.pair.dst) 0) at c.distance_between.ensures
    in
    let distances = c.loop-p.distances.items in
    let inside : p < length distances =
    omega (arith, c.loop-p-test.true, c.loop-p.invariant.0, ap (λ (rs : List PairRoutes). length rs) c.as_slice-routes.ensures)
    in
    (length-set distances p c.distance_between.result ∙ c.loop-p.invariant.0, value_set p (distance_in rows routes) distances c.distance_between.result inside is c.loop-p.invariant.1)
