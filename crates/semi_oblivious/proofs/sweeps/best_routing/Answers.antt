use Rattle.std.proofs.Common.{arith, sym, subst}
use Rattle.te_model.specs.Pairs.{AreDemands}
use Rattle.routing.proofs.InOrder.{same_count}
use Rattle.semi_oblivious.specs.Sweeps.{IsOverFixed}
use Rattle.semi_oblivious.proofs.Sweeping.{own_over}
use Rattle.semi_oblivious.proofs.sweeps.best_routing.Goals as goal

-- the fixed routing is over its own paths
pub best_mix-requires-clause-best : goal.best_mix-requires-clause-best
best_mix-requires-clause-best c =
    let fixed = c.args.fixed.now.routes in
    let demand = c.args.matrix.now.demand in
    subst (IsOverFixed c.args.net.now demand fixed) (sym c.in_ok-own.ensures) (own_over c.args.net.now demand fixed c.requires.fixed)

pub next_lengths-requires-clause-pairs : goal.next_lengths-requires-clause-pairs
next_lengths-requires-clause-pairs c =
    omega (arith, same_count c.in_ok-descent.descent.routing.routes c.args.fixed.now.routes c.in_ok-descent.ensures.descent.routing_pairs, c.requires.pairs)

pub next_lengths-requires-clause-demands : goal.next_lengths-requires-clause-demands
next_lengths-requires-clause-demands c =
    let count = same_count c.in_ok-descent.descent.routing.routes c.args.fixed.now.routes c.in_ok-descent.ensures.descent.routing_pairs in
    subst (λ n. AreDemands n c.args.matrix.now.demand) (sym count) c.requires.demands

pub returns-clause-routing : goal.returns-clause-routing
returns-clause-routing c =
    let is = c.in_ok-descent.ensures.descent in
    record { routing = is.best; pairs = is.best_pairs; keeps = c.in_ok-descent.ensures.keeps.1; no_greater = is.no_greater }
