use Rattle.std.proofs.Common.{List, All, map, arith, refl, sym, ◌∙◌, subst}
use Rattle.te_model.specs.declared.route.Pair.{Pair}
use Rattle.te_model.specs.declared.route.PairRoutes.{PairRoutes}
use Rattle.te_model.specs.Pairs.{AreDemands}
use Rattle.routing.specs.Routes.{IsRoutingOf}
use Rattle.routing.proofs.InOrder.{same_count}
use Rattle.rate_sweeps.specs.declared.mix.Sweep.{Sweep}
use Rattle.rate_sweeps.specs.Sweeps.{AreAmong, ArePathsOfPairs, IsWeight, paths_in}
use Rattle.semi_oblivious.proofs.Sweeping.{taken_over}
use Rattle.semi_oblivious.proofs.sweeps.better_mix.Goals as goal

pub routing_by-requires-clause-weights : goal.routing_by-requires-clause-weights
routing_by-requires-clause-weights c =
    subst (λ (l : List Sweep). All (λ (s : Sweep). IsWeight s.weight) l) (sym c.deref.ensures.value) c.in_ok-sweeps.ensures.sweeps.weights

pub routing_by-requires-clause-paths : goal.routing_by-requires-clause-paths
routing_by-requires-clause-paths c =
    subst (λ (l : List Sweep). All (λ (s : Sweep). ArePathsOfPairs c.args.net.now c.args.fixed.now.routes (paths_in s)) l) (sym c.deref.ensures.value)
    c.in_ok-sweeps.ensures.sweeps.ways

pub lesser-requires-clause-pairs : goal.lesser-requires-clause-pairs
lesser-requires-clause-pairs c = omega (arith, same_count c.args.best.routes c.args.fixed.now.routes c.requires.best.pairs, c.requires.pairs)

pub lesser-requires-clause-count : goal.lesser-requires-clause-count
lesser-requires-clause-count c =
    let fixed = c.args.fixed.now.routes in
    let pairs : List Pair = map (λ (r : PairRoutes). r.pair) fixed in
    let of : IsRoutingOf c.args.net.now pairs fixed = record { in_order = refl; splits = c.requires.fixed } in
    same_count c.in_ok-mixed.mixed.routes fixed (c.in_ok-mixed.ensures.routing pairs of).in_order ∙ sym (same_count c.args.best.routes fixed c.requires.best.pairs)

pub lesser-requires-clause-demands : goal.lesser-requires-clause-demands
lesser-requires-clause-demands c =
    let count = same_count c.args.best.routes c.args.fixed.now.routes c.requires.best.pairs in
    subst (λ n. AreDemands n c.args.matrix.now.demand) (sym count) c.requires.demands

pub returns-clause-routing : goal.returns-clause-routing
returns-clause-routing c =
    let net = c.args.net.now in
    let demand = c.args.matrix.now.demand in
    let fixed = c.args.fixed.now.routes in
    let pairs : List Pair = map (λ (r : PairRoutes). r.pair) fixed in
    let of : IsRoutingOf net pairs fixed = record { in_order = refl; splits = c.requires.fixed } in
    let among = subst (λ (l : List Sweep). All (λ (s : Sweep). AreAmong fixed (paths_in s)) l) (sym c.deref.ensures.value) c.in_ok-sweeps.ensures.sweeps.among in
    taken_over net demand fixed c.args.best.routes c.in_ok-mixed.mixed.routes c.in_ok-better.better.routes c.deref.result.now c.requires.best
    (c.in_ok-mixed.ensures.routing pairs of) among c.in_ok-mixed.ensures.only c.in_ok-better.ensures.either c.in_ok-better.ensures.first

pub returns-clause-state : goal.returns-clause-state
returns-clause-state c = c.stage.ensures.state
