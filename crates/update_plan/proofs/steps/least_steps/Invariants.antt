use Rattle.std.proofs.Common.{◌↔◌, ℕ, ◌<◌, ◌≤◌}
use Rattle.update_plan.specs.declared.path.TheConstants.{MAX_STEPS}
use Rattle.update_plan.specs.Loads.{AreEnoughOn}
use Rattle.update_plan.proofs.steps.least_steps.Given as goal

abbrev pub invariant-loop-h : goal.invariant-loop-h
invariant-loop-h l = record {
  some : 1 ≤ l.most;
  few : l.most ≤ MAX_STEPS;
  least : (K : ℕ) → 1 ≤ K → K ≤ MAX_STEPS → ((e : ℕ) → e < l.h → AreEnoughOn l.net l.loads K e) ↔ (l.most ≤ K);
}
