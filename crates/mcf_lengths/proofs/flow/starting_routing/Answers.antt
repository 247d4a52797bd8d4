use Rattle.std.proofs.Common.{List, length, arith, sym, subst}
use Rattle.te_model.specs.declared.route.Pair.{Pair}
use Rattle.routing.specs.Routes.{AreDemands, IsRoutingOf}
use Rattle.routing.proofs.InOrder.{routes_count}
use Rattle.scheme.specs.Reach.{AllReached, ArePairsOf}
use Rattle.mcf_lengths.specs.declared.round.TheConstants.{ROUNDS}
use Rattle.mcf_lengths.specs.Rounds.{IsRoundsRouting}
use Rattle.routing.proofs.FewPaths.{few_more}
use Rattle.mcf_lengths.proofs.flow.starting_routing.Goals as goal

pub rounds_routing-requires-clause-pairs : goal.rounds_routing-requires-clause-pairs
rounds_routing-requires-clause-pairs c =
    let is = c.requires.plan.1 in
    subst (λ (l : List Pair). ArePairsOf c.args.net.now l) (sym is.own) is.ends

pub rounds_routing-requires-clause-demands : goal.rounds_routing-requires-clause-demands
rounds_routing-requires-clause-demands c =
    subst (λ (l : List Pair). AreDemands (length l) c.args.matrix.now.demand) (sym c.requires.plan.1.own) c.requires.plan.2

pub rounds_routing-requires-clause-reached : goal.rounds_routing-requires-clause-reached
rounds_routing-requires-clause-reached c =
    let is = c.requires.plan.1 in
    subst (λ (l : List Pair). AllReached c.args.net.now l) (sym is.own) is.reached

pub sweep-requires-clause-pairs : goal.sweep-requires-clause-pairs
sweep-requires-clause-pairs c =
    let is = c.requires.plan.1 in
    subst (λ (l : List Pair). ArePairsOf c.args.net.now l) (sym is.own) is.ends

pub sweep-requires-clause-reached : goal.sweep-requires-clause-reached
sweep-requires-clause-reached c =
    let is = c.requires.plan.1 in
    subst (λ (l : List Pair). AllReached c.args.net.now l) (sym is.own) is.reached

pub sweep-requires-clause-demands : goal.sweep-requires-clause-demands
sweep-requires-clause-demands c =
    subst (λ (l : List Pair). AreDemands (length l) c.args.matrix.now.demand) (sym c.requires.plan.1.own) c.requires.plan.2

pub sweep-requires-clause-start : goal.sweep-requires-clause-start
sweep-requires-clause-start c = c.in_ok-rounds.ensures.routing

pub sweep-requires-clause-few : goal.sweep-requires-clause-few
sweep-requires-clause-few c = few_more ROUNDS 28 c.in_ok-rounds.rounds.routes (omega arith) c.in_ok-rounds.ensures.few

pub returns-clause-routing : goal.returns-clause-routing
returns-clause-routing c = λ pairs is.
    subst (λ (l : List Pair). IsRoutingOf c.args.net.now l c.in_ok-start.start.routes) is.own c.in_ok-start.ensures.routing

pub returns-clause-routings : goal.returns-clause-routings
returns-clause-routings c =
    let is = c.requires.plan.1 in
    let start = subst (λ (l : List Pair). IsRoutingOf c.args.net.now l c.in_ok-start.start.routes) is.own c.in_ok-start.ensures.routing in
    (c.requires.plan.0, start, is.candidates.routing)

pub returns-clause-pairs : goal.returns-clause-pairs
returns-clause-pairs c =
    let is = c.requires.plan.1 in
    let start = subst (λ (l : List Pair). IsRoutingOf c.args.net.now l c.in_ok-start.start.routes) is.own c.in_ok-start.ensures.routing in
    omega (arith, routes_count c.requires.plan.0 c.in_ok-start.start.routes start.in_order, is.ends.few)

pub returns-clause-demands : goal.returns-clause-demands
returns-clause-demands c =
    let is = c.requires.plan.1 in
    let start = subst (λ (l : List Pair). IsRoutingOf c.args.net.now l c.in_ok-start.start.routes) is.own c.in_ok-start.ensures.routing in
    subst (λ n. AreDemands n c.args.matrix.now.demand) (sym (routes_count c.requires.plan.0 c.in_ok-start.start.routes start.in_order)) c.requires.plan.2

pub returns-clause-few : goal.returns-clause-few
returns-clause-few c = c.in_ok-start.ensures.few

pub returns-clause-no_greater : goal.returns-clause-no_greater
returns-clause-no_greater c = λ pairs is. (
  c.in_ok-rounds.rounds.routes,
  subst (λ (l : List Pair). IsRoundsRouting c.args.net.now l c.args.matrix.now.demand c.in_ok-rounds.rounds.routes) is.own c.in_ok-rounds.ensures.rounds,
  c.in_ok-start.ensures.no_greater,
)
