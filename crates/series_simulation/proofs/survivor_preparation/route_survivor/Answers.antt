use Rattle.std.proofs.Common.{List, ℕ, All, length, ap, sym, subst, ◌∙◌}
use Rattle.std.specs.Option.{option_map}
use Rattle.std.proofs.lemmas.Result.{IfOk-weaker}
use Rattle.te_model.specs.declared.route.PairRoutes.{PairRoutes}
use Rattle.te_model.specs.PathRouting.{IsPathRouting}
use Rattle.routing.specs.Routes.{HasFewPaths}
use Rattle.failure.specs.declared.survivor.Survivor.{Survivor}
use Rattle.failure.specs.Survivor.{survivor_of}
use Rattle.scheme.specs.Reach.{ArePairsOf}
use Rattle.local_recovery.specs.Rates.{pairs_of}
use Rattle.local_recovery.specs.Spread.{IsSublist}
use Rattle.series_simulation.specs.OriginalLinks.{HavePathsBelow, original_routes}
use Rattle.series_simulation.specs.Rows.{IsReroutedOn, IsRouted}
use Rattle.series_simulation.proofs.Order.{Ascends}
use Rattle.series_simulation.proofs.Mapping.{few-back, pairs-back, routes_below, routing-back}
use Rattle.series_simulation.proofs.SeriesLemmas.{surviving_pairs}
use Rattle.series_simulation.proofs.Surviving.{survivor_part}
use Rattle.series_simulation.proofs.survivor_preparation.route_survivor.Goals as goal

pub route_connected-requires-clause-pairs : goal.route_connected-requires-clause-pairs
route_connected-requires-clause-pairs g c =
    subst (λ (s : Survivor). ArePairsOf s.network c.args.pairs.now.list) (sym c.requires.made.survivor)
    (surviving_pairs c.args.net.now c.args.made.now.failed c.args.pairs.now.list c.requires.pairs)

pub route_connected-requires-clause-network : goal.route_connected-requires-clause-network
route_connected-requires-clause-network g c = c.requires.made.formed

pub route_connected-requires-clause-tells : goal.route_connected-requires-clause-tells
route_connected-requires-clause-tells g c = c.requires.made.tells

pub original_routing-requires-clause-ascending : goal.original_routing-requires-clause-ascending
original_routing-requires-clause-ascending g c =
    let net = c.args.net.now in
    let failed = c.args.made.now.failed in
    let origin = c.as_slice.ensures ∙ ap (λ (s : Survivor). s.origin) c.requires.made.survivor in
    subst Ascends (sym origin) (survivor_part net failed c.requires.made.count).ascending

pub original_routing-requires-clause-links : goal.original_routing-requires-clause-links
original_routing-requires-clause-links g c =
    let net = c.args.net.now in
    let failed = c.args.made.now.failed in
    let left = survivor_of net failed in
    let own = c.in_ok-own.own.routing.routes in
    let same = c.requires.made.survivor in
    let origin = c.as_slice.ensures ∙ ap (λ (s : Survivor). s.origin) same in
    let splits = subst (λ (s : Survivor). IsPathRouting s.network own) same c.in_ok-own.ensures.routed.routing.splits in
    subst (λ (o : List ℕ). All (HavePathsBelow (length o)) own) (sym origin)
    (routes_below left.network net left.origin own (survivor_part net failed c.requires.made.count) splits)

pub returns-clause-rerouted : goal.returns-clause-rerouted
returns-clause-rerouted g c =
    let own = c.in_ok-own.own in
    let same = c.requires.made.survivor in
    let origin = c.as_slice.ensures ∙ ap (λ (s : Survivor). s.origin) same in
    let routed = c.in_ok-own.ensures.routed in
    let says = g.S.Scheme.is_plan c.args.scheme.now in
    let relates = g.S.Scheme.relates c.args.scheme.now in
    let low = g.S.Note.LowNote.low in
    let predicted = option_map (λ m. m.now.demand) c.args.predicted in
    let demand = c.args.matrix.now.demand in
    IfOk-weaker c.original_routing.result _
    (λ r. IsReroutedOn g.S.Scheme.PATHS says relates low c.args.net.now c.args.made.now.failed c.args.pairs.now.list predicted demand r.routing.routes r.parts r.low)
    (λ r is. record {
      plan = c.args.made.now.prepared.plan;
      own = own.routing.routes;
      routed = rw (is.1, is.2)
          (subst (λ (s : Survivor). IsRouted g.S.Scheme.PATHS says relates low s.network c.args.pairs.now.list predicted demand c.args.made.now.prepared.plan own.routing.routes own.parts own.low) same routed);
      mapped = is.0 ∙ ap (λ (o : List ℕ). original_routes o own.routing.routes) origin;
    }) c.original_routing.ensures

pub returns-clause-routing : goal.returns-clause-routing
returns-clause-routing g c =
    let net = c.args.net.now in
    let failed = c.args.made.now.failed in
    let left = survivor_of net failed in
    let own = c.in_ok-own.own.routing.routes in
    let same = c.requires.made.survivor in
    let origin = c.as_slice.ensures ∙ ap (λ (s : Survivor). s.origin) same in
    let splits = subst (λ (s : Survivor). IsPathRouting s.network own) same c.in_ok-own.ensures.routed.routing.splits in
    IfOk-weaker c.original_routing.result _ (λ r. IsPathRouting net r.routing.routes)
    (λ r is. subst (IsPathRouting net) (sym (is.0 ∙ ap (λ (o : List ℕ). original_routes o own) origin))
    (routing-back left.network net left.origin own (survivor_part net failed c.requires.made.count) splits)) c.original_routing.ensures

pub returns-clause-pairs : goal.returns-clause-pairs
returns-clause-pairs g c =
    let own = c.in_ok-own.own.routing.routes in
    let routed = c.in_ok-own.ensures.routed in
    IfOk-weaker c.original_routing.result _ (λ r. IsSublist (pairs_of r.routing.routes) c.args.pairs.now.list)
    (λ r is. (routed.has_path, ap pairs_of is.0 ∙ (pairs-back c.as_slice.result.now own ∙ routed.routing.in_order))) c.original_routing.ensures

pub returns-clause-few : goal.returns-clause-few
returns-clause-few g c =
    let own = c.in_ok-own.own.routing.routes in
    IfOk-weaker c.original_routing.result _ (λ r. HasFewPaths g.S.Scheme.PATHS r.routing.routes)
    (λ r is. subst (λ (rs : List PairRoutes). HasFewPaths g.S.Scheme.PATHS rs) (sym is.0)
    (few-back c.as_slice.result.now g.S.Scheme.PATHS own c.in_ok-own.ensures.few)) c.original_routing.ensures
