use Rattle.std.proofs.Common.{arith, sym, subst}
use Rattle.te_model.specs.Pairs.{AreDemands}
use Rattle.routing.proofs.InOrder.{routes_count}
use Rattle.mcf_lengths.specs.Rounds.{AreLengths}
use Rattle.mcf_lengths.proofs.Sweeping.{offered_lengths}
use Rattle.mcf_lengths.proofs.sweeps.Commodities.bounded_routing.Goals as goal

pub greatest_utilisation-requires-clause-pairs : goal.greatest_utilisation-requires-clause-pairs
greatest_utilisation-requires-clause-pairs c =
    let count = routes_count c.args.self.now.pairs.now.list c.args.start.routes c.requires.start.routing.in_order in
    omega (arith, count, c.requires.commodities.ends.few)

pub greatest_utilisation-requires-clause-demands : goal.greatest_utilisation-requires-clause-demands
greatest_utilisation-requires-clause-demands c =
    let count = routes_count c.args.self.now.pairs.now.list c.args.start.routes c.requires.start.routing.in_order in
    subst (λ n. AreDemands n c.args.self.now.matrix.now.demand) (sym count) c.requires.commodities.demands

pub returns-then-most-eq0-clause-lengths : goal.returns-then-most-eq0-clause-lengths
returns-then-most-eq0-clause-lengths c =
    let net = c.args.self.now.net.now in
    subst (AreLengths net) (sym c.new.ensures) (offered_lengths net c.in_ok-state.state c.in_ok-state.ensures)

pub returns-clause-lengths : goal.returns-clause-lengths
returns-clause-lengths c =
    let net = c.args.self.now.net.now in
    subst (AreLengths net) (sym c.new-2.ensures) (offered_lengths net c.best_routing.new.state c.best_routing.ensures.state)
