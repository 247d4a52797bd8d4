use Rattle.std.proofs.Common.{List, All, length, arith, ap, sym, subst}
use Rattle.routing.specs.Routes.{HasFewPaths}
use Rattle.rate_sweeps.specs.declared.mix.Sweep.{Sweep}
use Rattle.rate_sweeps.specs.Sweeps.{ArePathsOfPairs, IsWeight, paths_in}
use Rattle.mcf_lengths.proofs.Sweeping.{sweeps_ways}
use Rattle.mcf_lengths.proofs.sweeps.Commodities.mix_of_stage.Goals as goal

pub routing_by-requires-clause-some : goal.routing_by-requires-clause-some
routing_by-requires-clause-some c = omega (arith, ap (λ (l : List Sweep). length l) c.deref.ensures.value, c.in_ok-sweeps.ensures.sweeps.count)

pub routing_by-requires-clause-few : goal.routing_by-requires-clause-few
routing_by-requires-clause-few c = omega (arith, ap (λ (l : List Sweep). length l) c.deref.ensures.value, c.in_ok-sweeps.ensures.sweeps.count)

pub routing_by-requires-clause-weights : goal.routing_by-requires-clause-weights
routing_by-requires-clause-weights c =
    subst (λ (l : List Sweep). All (λ (s : Sweep). IsWeight s.weight) l) (sym c.deref.ensures.value) c.in_ok-sweeps.ensures.sweeps.weights

pub routing_by-requires-clause-paths : goal.routing_by-requires-clause-paths
routing_by-requires-clause-paths c =
    let net = c.args.self.now.net.now in
    let like = c.args.like.now.routes in
    subst (λ (l : List Sweep). All (λ (s : Sweep). ArePathsOfPairs net like (paths_in s)) l) (sym c.deref.ensures.value)
    (sweeps_ways net c.args.self.now.pairs.now.list like c.in_ok-sweeps.sweeps.items c.requires.like.routing c.in_ok-sweeps.ensures.sweeps.least)

pub trim-requires-clause-some : goal.trim-requires-clause-some
trim-requires-clause-some c = omega (arith, c.requires.commodities.limit)

pub trim-requires-clause-few : goal.trim-requires-clause-few
trim-requires-clause-few c = omega (arith, c.requires.commodities.limit)

pub returns-clause-routing : goal.returns-clause-routing
returns-clause-routing c =
    let pairs = c.args.self.now.pairs.now.list in
    let heaviest = c.in_ok-heaviest.heaviest.routes in
    record {
      routing = c.in_ok-heaviest.ensures.routing c.args.self.now.net.now pairs (c.in_ok-mixed.ensures.routing pairs c.requires.like.routing);
      few = subst (λ n. HasFewPaths n heaviest) c.requires.commodities.limit c.in_ok-heaviest.ensures.few;
    }

pub returns-clause-state : goal.returns-clause-state
returns-clause-state c = c.stage.ensures.state
