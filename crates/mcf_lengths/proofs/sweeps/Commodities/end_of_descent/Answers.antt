use Rattle.std.proofs.Common.{arith, sym, subst}
use Rattle.te_model.specs.Pairs.{AreDemands}
use Rattle.routing.specs.Routes.{HasFewPaths}
use Rattle.routing.proofs.InOrder.{routes_count}
use Rattle.mcf_lengths.proofs.sweeps.Commodities.end_of_descent.Goals as goal

pub first_descent-requires-clause-pairs : goal.first_descent-requires-clause-pairs
first_descent-requires-clause-pairs c =
    let count = routes_count c.args.self.now.pairs.now.list c.args.start.routes c.requires.start.routing.in_order in
    omega (arith, count, c.requires.commodities.ends.few)

pub first_descent-requires-clause-demands : goal.first_descent-requires-clause-demands
first_descent-requires-clause-demands c =
    let count = routes_count c.args.self.now.pairs.now.list c.args.start.routes c.requires.start.routing.in_order in
    subst (λ n. AreDemands n c.args.self.now.matrix.now.demand) (sym count) c.requires.commodities.demands

pub loop-init : goal.loop-init
loop-init c = (
  c.in_ok-descent.ensures.descent,
  (
    subst (HasFewPaths 28) (sym c.in_ok-descent.ensures.routing) c.requires.start.few,
    subst (HasFewPaths 28) (sym c.in_ok-descent.ensures.best) c.requires.start.few,
  ),
  c.requires.state,
)

pub turn-requires-clause-descent : goal.turn-requires-clause-descent
turn-requires-clause-descent c = (c.args.start.routes, c.requires.start.routing, c.loop.invariant.0)

pub loop-preserved : goal.loop-preserved
loop-preserved c = (
  c.in_ok-descent-2.ensures.descent c.args.start.routes c.loop.invariant.0,
  c.in_ok-descent-2.ensures.few c.loop.invariant.1,
  c.turn.ensures.state,
)

pub returns-then-is_over-clause-descent : goal.returns-then-is_over-clause-descent
returns-then-is_over-clause-descent c = c.loop.invariant.0

pub returns-then-is_over-clause-few : goal.returns-then-is_over-clause-few
returns-then-is_over-clause-few c = c.loop.invariant.1

pub returns-clause-descent : goal.returns-clause-descent
returns-clause-descent c = c.loop.invariant.0

pub returns-clause-few : goal.returns-clause-few
returns-clause-few c = c.loop.invariant.1
