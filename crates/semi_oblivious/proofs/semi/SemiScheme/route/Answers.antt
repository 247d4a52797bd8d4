use Rattle.std.proofs.Common.{arith, sym, subst}
use Rattle.routing.specs.Routes.{AreDemands}
use Rattle.routing.proofs.InOrder.{routes_count}
use Rattle.semi_oblivious.proofs.semi.SemiScheme.route.Goals as goal

pub route_over-requires-clause-fixed : goal.route_over-requires-clause-fixed
route_over-requires-clause-fixed g c = (c.requires.plan.0, c.requires.plan.1.1.routing)

pub route_over-requires-clause-pairs : goal.route_over-requires-clause-pairs
route_over-requires-clause-pairs g c =
    let fixed = c.requires.plan.1.1 in
    omega (arith, routes_count c.requires.plan.0 c.args.plan.now.fixed.routes fixed.routing.in_order, fixed.ends.few)

pub route_over-requires-clause-demands : goal.route_over-requires-clause-demands
route_over-requires-clause-demands g c =
    let count = routes_count c.requires.plan.0 c.args.plan.now.fixed.routes c.requires.plan.1.1.routing.in_order in
    subst (λ n. AreDemands n c.args.matrix.now.demand) (sym count) c.requires.plan.2

pub returns-clause-routing : goal.returns-clause-routing
returns-clause-routing g c = λ pairs is. c.in_ok-routed.ensures.routing pairs is.1.routing

pub returns-clause-few : goal.returns-clause-few
returns-clause-few g c =
    let few = c.in_ok-routed.ensures.few c.args.self.now.budget c.requires.plan.1.1.few in
    λ k d below. omega (arith, few k d below, c.args.self.now.few)

pub returns-clause-related : goal.returns-clause-related
returns-clause-related g c = λ pairs is. c.in_ok-routed.ensures.adapted

pub returns-clause-note : goal.returns-clause-note
returns-clause-note g c = c.in_ok-routed.ensures.low
