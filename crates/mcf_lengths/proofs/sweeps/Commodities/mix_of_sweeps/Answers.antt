use Rattle.std.proofs.Common.{arith, sym, ◌∙◌, subst}
use Rattle.te_model.specs.Pairs.{AreDemands}
use Rattle.routing.specs.Routes.{HasFewPaths, IsRoutingOf}
use Rattle.routing.proofs.InOrder.{routes_count}
use Rattle.mcf_lengths.proofs.Sweeping.{taken_keeps}
use Rattle.mcf_lengths.proofs.sweeps.Commodities.mix_of_sweeps.Goals as goal

pub lesser-requires-clause-pairs : goal.lesser-requires-clause-pairs
lesser-requires-clause-pairs c =
    let count = routes_count c.args.self.now.pairs.now.list c.in_ok-first.first.routes c.in_ok-first.ensures.routing.routing.in_order in
    omega (arith, count, c.requires.commodities.ends.few)

pub lesser-requires-clause-count : goal.lesser-requires-clause-count
lesser-requires-clause-count c =
    let pairs = c.args.self.now.pairs.now.list in
    routes_count pairs c.in_ok-second.second.routes c.in_ok-second.ensures.routing.routing.in_order
    ∙ sym (routes_count pairs c.in_ok-first.first.routes c.in_ok-first.ensures.routing.routing.in_order)

pub lesser-requires-clause-demands : goal.lesser-requires-clause-demands
lesser-requires-clause-demands c =
    let count = routes_count c.args.self.now.pairs.now.list c.in_ok-first.first.routes c.in_ok-first.ensures.routing.routing.in_order in
    subst (λ n. AreDemands n c.args.self.now.matrix.now.demand) (sym count) c.requires.commodities.demands

pub returns-clause-routing : goal.returns-clause-routing
returns-clause-routing c =
    let net = c.args.self.now.net.now in
    let pairs = c.args.self.now.pairs.now.list in
    let first = c.in_ok-first.first.routes in
    let second = c.in_ok-second.second.routes in
    let taken = c.in_ok-best.best.routes in
    let either = c.in_ok-best.ensures.either in
    record {
      routing = taken_keeps (IsRoutingOf net pairs) first second taken either c.in_ok-first.ensures.routing.routing c.in_ok-second.ensures.routing.routing;
      few = taken_keeps (HasFewPaths 28) first second taken either c.in_ok-first.ensures.routing.few c.in_ok-second.ensures.routing.few;
    }

pub returns-clause-state : goal.returns-clause-state
returns-clause-state c = c.mix_of_stage-2.ensures.state
