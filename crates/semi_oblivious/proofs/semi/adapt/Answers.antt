use Rattle.std.proofs.Common.{arith, sym, ◌∙◌, subst}
use Rattle.routing.specs.Routes.{AreDemands}
use Rattle.routing.proofs.InOrder.{routes_count, same_count}
use Rattle.semi_oblivious.proofs.Sweeping.{few_kept, over_routing, settled_keep}
use Rattle.semi_oblivious.proofs.semi.adapt.Goals as goal

pub sweep-requires-clause-fixed : goal.sweep-requires-clause-fixed
sweep-requires-clause-fixed c = c.requires.fixed.1.splits

pub local_optimum-requires-clause-few : goal.local_optimum-requires-clause-few
local_optimum-requires-clause-few c =
    omega (arith, same_count c.in_ok-start.start.routes c.args.fixed.now.routes c.in_ok-start.ensures.routing.pairs, c.requires.pairs)

pub local_optimum-requires-clause-demands : goal.local_optimum-requires-clause-demands
local_optimum-requires-clause-demands c =
    let count = same_count c.in_ok-start.start.routes c.args.fixed.now.routes c.in_ok-start.ensures.routing.pairs in
    subst (λ n. AreDemands n c.args.matrix.now.demand) (sym count) c.requires.demands

pub local_optimum-requires-clause-routings : goal.local_optimum-requires-clause-routings
local_optimum-requires-clause-routings c =
    let (pairs, is) = c.requires.fixed in
    (pairs, over_routing c.args.net.now pairs _ c.args.fixed.now.routes c.in_ok-start.start.routes is c.in_ok-start.ensures.routing, is)

pub returns-clause-routing : goal.returns-clause-routing
returns-clause-routing c = λ pairs is.
    c.in_ok-routing.ensures.routing pairs
    (over_routing c.args.net.now pairs _ c.args.fixed.now.routes c.in_ok-start.start.routes is c.in_ok-start.ensures.routing)

pub returns-clause-pairs : goal.returns-clause-pairs
returns-clause-pairs c =
    let (pairs, is) = c.requires.fixed in
    let start = over_routing c.args.net.now pairs _ c.args.fixed.now.routes c.in_ok-start.start.routes is c.in_ok-start.ensures.routing in
    routes_count pairs c.in_ok-routing.routing.routes (c.in_ok-routing.ensures.routing pairs start).in_order
    ∙ sym (routes_count pairs c.args.fixed.now.routes is.in_order)

pub returns-clause-few : goal.returns-clause-few
returns-clause-few c = λ limit few.
    let over = c.in_ok-start.ensures.routing in
    let count = same_count c.in_ok-start.start.routes c.args.fixed.now.routes over.pairs in
    c.in_ok-routing.ensures.few limit (few_kept limit c.args.fixed.now.routes c.in_ok-start.start.routes count few over.keeps)

pub returns-clause-keeps : goal.returns-clause-keeps
returns-clause-keeps c =
    settled_keep c.args.fixed.now.routes c.in_ok-start.start.routes c.in_ok-routing.routing.routes c.in_ok-start.ensures.routing.keeps
    c.in_ok-routing.ensures.only

pub returns-clause-stable : goal.returns-clause-stable
returns-clause-stable c = c.in_ok-routing.ensures.stable

pub returns-clause-no_greater : goal.returns-clause-no_greater
returns-clause-no_greater c =
    omega (arith, c.in_ok-routing.ensures.parts, c.in_ok-start.ensures.routing.no_greater)

pub returns-clause-count : goal.returns-clause-count
returns-clause-count c = c.in_ok-start.ensures.count

pub returns-clause-small : goal.returns-clause-small
returns-clause-small c = c.in_ok-start.ensures.small
