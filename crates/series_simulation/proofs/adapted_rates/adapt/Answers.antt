use Rattle.std.proofs.Common.{ℕ, ◌≤◌, List, length, filter, arith, ap, sym, subst, ◌∙◌}
use Rattle.std.specs.Option.{option_map}
use Rattle.std.proofs.lemmas.List.Elements.{All-weaker}
use Rattle.te_model.specs.declared.route.PairRoutes.{PairRoutes}
use Rattle.routing.specs.Routes.{AreDemands, HasFewPaths, IsRoutingOf}
use Rattle.routing.specs.Utilisation.{parts}
use Rattle.routing.proofs.InOrder.{routes_count}
use Rattle.scheme.specs.Adaptive.{KeepsTo}
use Rattle.local_recovery.specs.Rates.{pairs_of}
use Rattle.series_simulation.specs.Connected.{connects, demands_of}
use Rattle.series_simulation.specs.Rows.{given_demands}
use Rattle.series_simulation.specs.StandingPaths.{standing_routes}
use Rattle.series_simulation.proofs.Demands.{demands_are}
use Rattle.series_simulation.proofs.SeriesLemmas.{given_are, passing_pairs}
use Rattle.series_simulation.proofs.StandingPairs.{standing_count, standing_demands_are, standing_pairs}
use Rattle.series_simulation.proofs.StandingRates.{standing_few, standing_routing}
use Rattle.series_simulation.proofs.adapted_rates.adapt.Goals as goal

pub standing_of-requires-clause-routing : goal.standing_of-requires-clause-routing
standing_of-requires-clause-routing g c =
    g.met.S.Adaptive.path_set_routing c.args.scheme.now c.args.net.now (filter (connects c.args.prepared.now.reach) c.args.pairs.now.list)
    c.args.prepared.now.plan c.args.paths.now.routes c.requires.planned c.requires.set

pub standing_of-requires-clause-few : goal.standing_of-requires-clause-few
standing_of-requires-clause-few g c =
    All-weaker (λ (r : PairRoutes). length r.paths ≤ g.S.Scheme.PATHS) (λ (r : PairRoutes). length r.paths ≤ 4096) (λ r is. omega (arith, is, c.requires.paths))
    c.args.paths.now.routes
    (g.met.S.Adaptive.path_set_few c.args.scheme.now c.args.net.now (filter (connects c.args.prepared.now.reach) c.args.pairs.now.list)
    c.args.prepared.now.plan c.args.paths.now.routes c.requires.planned c.requires.set)

pub rates_over-requires-clause-standing : goal.rates_over-requires-clause-standing
rates_over-requires-clause-standing g c =
    let net = c.args.net.now in
    let failed = c.args.failed.now in
    let paths = c.args.paths.now.routes in
    let whole = g.met.S.Adaptive.path_set_routing c.args.scheme.now net (filter (connects c.args.prepared.now.reach) c.args.pairs.now.list)
    c.args.prepared.now.plan paths c.requires.planned c.requires.set in (
      pairs_of (standing_routes failed paths),
      subst (λ (rs : List PairRoutes). IsRoutingOf net (pairs_of (standing_routes failed paths)) rs) (sym c.in_ok-standing.ensures.routing)
          (standing_routing net failed paths whole.splits),
    )

pub rates_over-requires-clause-few : goal.rates_over-requires-clause-few
rates_over-requires-clause-few g c =
    let paths = c.args.paths.now.routes in
    subst (λ (rs : List PairRoutes). HasFewPaths g.S.Scheme.PATHS rs) (sym c.in_ok-standing.ensures.routing)
    (standing_few g.S.Scheme.PATHS c.args.failed.now paths
    (g.met.S.Adaptive.path_set_few c.args.scheme.now c.args.net.now (filter (connects c.args.prepared.now.reach) c.args.pairs.now.list)
    c.args.prepared.now.plan paths c.requires.planned c.requires.set))

pub rates_over-requires-clause-pairs : goal.rates_over-requires-clause-pairs
rates_over-requires-clause-pairs g c =
    let net = c.args.net.now in
    let failed = c.args.failed.now in
    let paths = c.args.paths.now.routes in
    let test = connects c.args.prepared.now.reach in
    let pairs = filter test c.args.pairs.now.list in
    let whole = g.met.S.Adaptive.path_set_routing c.args.scheme.now net pairs c.args.prepared.now.plan paths c.requires.planned c.requires.set in
    omega (
      arith,
      ap (λ (rs : List PairRoutes). length rs) c.in_ok-standing.ensures.routing,
      standing_count failed paths,
      routes_count pairs paths whole.in_order,
      (passing_pairs net test c.args.pairs.now.list c.requires.pairs).few,
    )

-- one demand for each pair of which a path stands
pub rates_over-requires-clause-given : goal.rates_over-requires-clause-given
rates_over-requires-clause-given g c =
    let failed = c.args.failed.now in
    let paths = c.args.paths.now.routes in
    let test = connects c.args.prepared.now.reach in
    let pairs = filter test c.args.pairs.now.list in
    let whole = g.met.S.Adaptive.path_set_routing c.args.scheme.now c.args.net.now pairs c.args.prepared.now.plan paths c.requires.planned c.requires.set in
    let demand = given_demands (option_map (λ m. m.now.demand) c.args.predicted) c.args.matrix.now.demand in
    let are = given_are (length c.args.pairs.now.list) (option_map (λ m. m.now.demand) c.args.predicted) c.args.matrix.now.demand c.requires.predicted c.requires.demands in
    let reached = subst (λ n. AreDemands n (demands_of test c.args.pairs.now.list demand)) (sym (routes_count pairs paths whole.in_order))
    (demands_are test c.args.pairs.now.list demand are) in
    subst (λ (rs : List PairRoutes). AreDemands (length rs) c.in_ok-standing.standing.given.demand) (sym c.in_ok-standing.ensures.routing)
    (subst (λ (ds : List ℕ). AreDemands (length (standing_routes failed paths)) ds) (sym c.in_ok-standing.ensures.given)
    (standing_demands_are failed paths (demands_of test c.args.pairs.now.list demand) reached))

pub rates_over-requires-clause-sent : goal.rates_over-requires-clause-sent
rates_over-requires-clause-sent g c =
    let failed = c.args.failed.now in
    let paths = c.args.paths.now.routes in
    let test = connects c.args.prepared.now.reach in
    let pairs = filter test c.args.pairs.now.list in
    let whole = g.met.S.Adaptive.path_set_routing c.args.scheme.now c.args.net.now pairs c.args.prepared.now.plan paths c.requires.planned c.requires.set in
    let demand = c.args.matrix.now.demand in
    let reached = subst (λ n. AreDemands n (demands_of test c.args.pairs.now.list demand)) (sym (routes_count pairs paths whole.in_order))
    (demands_are test c.args.pairs.now.list demand c.requires.demands) in
    subst (λ (rs : List PairRoutes). AreDemands (length rs) c.in_ok-standing.standing.sent.demand) (sym c.in_ok-standing.ensures.routing)
    (subst (λ (ds : List ℕ). AreDemands (length (standing_routes failed paths)) ds) (sym c.in_ok-standing.ensures.sent)
    (standing_demands_are failed paths (demands_of test c.args.pairs.now.list demand) reached))

pub returns-clause-adapted : goal.returns-clause-adapted
returns-clause-adapted g c =
    let net = c.args.net.now in
    let failed = c.args.failed.now in
    let paths = c.args.paths.now.routes in
    let test = connects c.args.prepared.now.reach in
    let pairs = filter test c.args.pairs.now.list in
    let whole = g.met.S.Adaptive.path_set_routing c.args.scheme.now net pairs c.args.prepared.now.plan paths c.requires.planned c.requires.set in
    let standing = standing_routes failed paths in
    let same = c.in_ok-standing.ensures.routing in
    let routes = c.in_ok-routed.routed.routing.routes in
    let own = subst (λ (rs : List PairRoutes). IsRoutingOf net (pairs_of standing) rs) (sym same) (standing_routing net failed paths whole.splits) in
    let bound = c.in_ok-routed.ensures.adapted.0 in
    record {
      has_path = test;
      tells = c.requires.tells;
      planned = c.requires.planned;
      routing = c.in_ok-routed.ensures.routing (pairs_of standing) own;
      few = c.in_ok-routed.ensures.few;
      keeps = subst (λ (rs : List PairRoutes). KeepsTo rs routes) same c.in_ok-routed.ensures.keeps;
      bound_of_given = bound;
      adapted = subst (λ (ds : List ℕ). g.S.Adaptive.adapts c.args.scheme.now net standing ds routes bound) c.in_ok-standing.ensures.given
          (subst (λ (rs : List PairRoutes). g.S.Adaptive.adapts c.args.scheme.now net rs c.in_ok-standing.standing.given.demand routes bound) same c.in_ok-routed.ensures.adapted.1);
      most_is = c.in_ok-routed.ensures.most ∙ ap (λ (ds : List ℕ). parts net routes ds) c.in_ok-standing.ensures.sent;
      bound_is = c.in_ok-routed.ensures.adapted.2;
    }

pub returns-clause-routing : goal.returns-clause-routing
returns-clause-routing g c =
    let net = c.args.net.now in
    let failed = c.args.failed.now in
    let paths = c.args.paths.now.routes in
    let whole = g.met.S.Adaptive.path_set_routing c.args.scheme.now net (filter (connects c.args.prepared.now.reach) c.args.pairs.now.list)
    c.args.prepared.now.plan paths c.requires.planned c.requires.set in
    let own = subst (λ (rs : List PairRoutes). IsRoutingOf net (pairs_of (standing_routes failed paths)) rs) (sym c.in_ok-standing.ensures.routing)
    (standing_routing net failed paths whole.splits) in
    (c.in_ok-routed.ensures.routing (pairs_of (standing_routes failed paths)) own).splits

pub returns-clause-pairs : goal.returns-clause-pairs
returns-clause-pairs g c =
    let net = c.args.net.now in
    let failed = c.args.failed.now in
    let paths = c.args.paths.now.routes in
    let test = connects c.args.prepared.now.reach in
    let whole = g.met.S.Adaptive.path_set_routing c.args.scheme.now net (filter test c.args.pairs.now.list)
    c.args.prepared.now.plan paths c.requires.planned c.requires.set in
    let own = subst (λ (rs : List PairRoutes). IsRoutingOf net (pairs_of (standing_routes failed paths)) rs) (sym c.in_ok-standing.ensures.routing)
    (standing_routing net failed paths whole.splits) in
    let some = standing_pairs failed paths c.args.pairs.now.list test c.requires.ascending whole.in_order in
    (some.0, (c.in_ok-routed.ensures.routing (pairs_of (standing_routes failed paths)) own).in_order ∙ some.1)

pub returns-clause-few : goal.returns-clause-few
returns-clause-few g c = c.in_ok-routed.ensures.few
