use Rattle.std.proofs.Common.{arith, sym, ◌∙◌, subst}
use Rattle.te_model.specs.Pairs.{AreDemands}
use Rattle.routing.specs.Routes.{HasFewPaths, IsRoutingOf}
use Rattle.routing.proofs.InOrder.{routes_count}
use Rattle.rate_sweeps.proofs.Turning.{turn_routing}
use Rattle.mcf_lengths.proofs.Sweeping.{taken_keeps}
use Rattle.mcf_lengths.proofs.sweeps.Commodities.best_routing.Goals as goal
use Rattle.mcf_lengths.proofs.sweeps.Commodities.best_routing.Goals.{In_ok-descent}

pub end_of_descent-requires-clause-start : goal.end_of_descent-requires-clause-start
end_of_descent-requires-clause-start c = c.in_ok-mixed.ensures.routing

-- the routing at the end of the descent is one of the pairs
routing : (c : In_ok-descent) → IsRoutingOf c.args.self.now.net.now c.args.self.now.pairs.now.list c.in_ok-descent.descent.routing.routes
routing c =
    turn_routing c.args.self.now.net.now c.args.self.now.pairs.now.list c.args.self.now.matrix.now.demand c.in_ok-mixed.mixed.routes c.in_ok-descent.descent
    c.in_ok-mixed.ensures.routing.routing c.in_ok-descent.ensures.descent

pub next_lengths-requires-clause-pairs : goal.next_lengths-requires-clause-pairs
next_lengths-requires-clause-pairs c =
    let is = routing (goal.at.next_lengths-requires-clause-pairs c).In_ok-descent in
    omega (arith, routes_count c.args.self.now.pairs.now.list c.in_ok-descent.descent.routing.routes is.in_order, c.requires.commodities.ends.few)

pub next_lengths-requires-clause-demands : goal.next_lengths-requires-clause-demands
next_lengths-requires-clause-demands c =
    let is = routing (goal.at.next_lengths-requires-clause-demands c).In_ok-descent in
    let count = routes_count c.args.self.now.pairs.now.list c.in_ok-descent.descent.routing.routes is.in_order in
    subst (λ n. AreDemands n c.args.self.now.matrix.now.demand) (sym count) c.requires.commodities.demands

pub lesser-requires-clause-pairs : goal.lesser-requires-clause-pairs
lesser-requires-clause-pairs c =
    let count = routes_count c.args.self.now.pairs.now.list c.args.start.routes c.requires.start.routing.in_order in
    omega (arith, count, c.requires.commodities.ends.few)

pub lesser-requires-clause-count : goal.lesser-requires-clause-count
lesser-requires-clause-count c =
    let pairs = c.args.self.now.pairs.now.list in
    let best = c.in_ok-descent.ensures.descent.best_pairs ∙ c.in_ok-mixed.ensures.routing.routing.in_order in
    routes_count pairs c.in_ok-descent.descent.best.routes best ∙ sym (routes_count pairs c.args.start.routes c.requires.start.routing.in_order)

pub lesser-requires-clause-demands : goal.lesser-requires-clause-demands
lesser-requires-clause-demands c =
    let count = routes_count c.args.self.now.pairs.now.list c.args.start.routes c.requires.start.routing.in_order in
    subst (λ n. AreDemands n c.args.self.now.matrix.now.demand) (sym count) c.requires.commodities.demands

pub returns-clause-routing : goal.returns-clause-routing
returns-clause-routing c =
    let net = c.args.self.now.net.now in
    let pairs = c.args.self.now.pairs.now.list in
    let start = c.args.start.routes in
    let best = c.in_ok-descent.descent.best.routes in
    let taken = c.in_ok-best.best.routes in
    let end = c.in_ok-descent.ensures.descent in
    let is : IsRoutingOf net pairs best = record { in_order = end.best_pairs ∙ c.in_ok-mixed.ensures.routing.routing.in_order; splits = end.best } in
    record {
      routing = taken_keeps (IsRoutingOf net pairs) start best taken c.in_ok-best.ensures.either c.requires.start.routing is;
      few = taken_keeps (HasFewPaths 28) start best taken c.in_ok-best.ensures.either c.requires.start.few c.in_ok-descent.ensures.few.1;
      no_greater = c.in_ok-best.ensures.first;
    }
