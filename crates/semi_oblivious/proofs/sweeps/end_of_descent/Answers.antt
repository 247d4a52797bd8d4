use Rattle.std.proofs.Common.{arith, sym, ◌∙◌, subst}
use Rattle.te_model.specs.Pairs.{AreDemands}
use Rattle.routing.proofs.InOrder.{same_count}
use Rattle.semi_oblivious.specs.Semi.{KeepsTo}
use Rattle.semi_oblivious.proofs.sweeps.end_of_descent.Goals as goal

pub first_descent-requires-clause-pairs : goal.first_descent-requires-clause-pairs
first_descent-requires-clause-pairs c = omega (arith, same_count c.args.start.routes c.args.fixed.now.routes c.requires.start.pairs, c.requires.pairs)

pub first_descent-requires-clause-demands : goal.first_descent-requires-clause-demands
first_descent-requires-clause-demands c =
    subst (λ n. AreDemands n c.args.matrix.now.demand) (sym (same_count c.args.start.routes c.args.fixed.now.routes c.requires.start.pairs)) c.requires.demands

pub loop-init : goal.loop-init
loop-init c =
    let fixed = c.args.fixed.now.routes in
    let start = c.requires.start in
    let is = c.in_ok-descent.ensures.descent in (
      record {
        routing = is.routing;
        routing_pairs = is.routing_pairs ∙ start.pairs;
        best = is.best;
        best_pairs = is.best_pairs ∙ start.pairs;
        least = is.least;
        no_greater = omega (arith, is.no_greater, start.no_greater);
        pace = is.pace;
      },
      (subst (KeepsTo fixed) (sym c.in_ok-descent.ensures.routing) start.keeps, subst (KeepsTo fixed) (sym c.in_ok-descent.ensures.best) start.keeps),
      c.requires.state,
    )

pub loop-preserved : goal.loop-preserved
loop-preserved c = (c.in_ok-descent-2.ensures.descent, c.in_ok-descent-2.ensures.keeps, c.turn.ensures.state)

pub returns-then-is_over-clause-descent : goal.returns-then-is_over-clause-descent
returns-then-is_over-clause-descent c = c.loop.invariant.0

pub returns-then-is_over-clause-keeps : goal.returns-then-is_over-clause-keeps
returns-then-is_over-clause-keeps c = c.loop.invariant.1

pub returns-clause-descent : goal.returns-clause-descent
returns-clause-descent c = c.loop.invariant.0

pub returns-clause-keeps : goal.returns-clause-keeps
returns-clause-keeps c = c.loop.invariant.1
