use Rattle.std.proofs.Common.{◌≡◌, ℕ, ◌<◌, length}
use Rattle.te_model.specs.Pairs.{pair_at}
use Rattle.shortest_path.specs.Costs.{costs_of}
use Rattle.shortest_path.specs.Paths.{IsDistance}
use Rattle.step_detail.specs.Pairs.{least_cost_at}
use Rattle.step_detail.proofs.least_cost.least_costs.Given as goal

abbrev pub invariant-loop-p : goal.invariant-loop-p
invariant-loop-p l = record {
  count : length l.least.items ≡ l.p;
  each : (q : ℕ) → q < l.p → IsDistance l.net (costs_of l.net) (pair_at l.pairs q).src (pair_at l.pairs q).dst (least_cost_at l.least.items q);
}
