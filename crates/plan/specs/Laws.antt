-- What holds of each plan that is read, as a statement.
use Rattle.std.specs.Prelude.{ℕ, ◌≡◌, List, Ok}
use Rattle.plan.specs.declared.experiment.Experiment.{Experiment}
use Rattle.plan.specs.Plan.{plan_of, InRange}

-- what the bytes of a plan say is in range
abbrev pub PlansAreInRange : Type 0
PlansAreInRange = (bytes : List ℕ) (plan : Experiment) → plan_of bytes ≡ Ok plan → InRange plan
