use Rattle.std.proofs.Common.{◌≡◌, ◌*◌, ◌≤◌, take}
use Rattle.routing.specs.Split.{total_weight}
use Rattle.step_detail.specs.Pairs.{weighted_cost}
use Rattle.step_detail.proofs.pair_result.weighted_cost.Given as goal

abbrev pub invariant-loop-path : goal.invariant-loop-path
invariant-loop-path l = record {
  is : l.sum ≡ weighted_cost l.costs (take l.path-index l.paths);
  small : l.sum ≤ total_weight (take l.path-index l.paths) * 34359738368;
}
