-- The files of a plan: the plan is read, its topology and its matrices, its predictions, and its failures.
use Rattle.std.specs.Prelude.{ℕ, List, Option, Some, None}
use Rattle.te_model.specs.declared.network.Network.{Network}
use Rattle.traffic_matrix.specs.declared.series.Series.{Series}
use Rattle.failure.specs.Series.{no_failures}
use Rattle.failure.specs.declared.outage.Failures.{Failures}
use Rattle.plan.specs.declared.experiment.Experiment.{Experiment}
use Rattle.command_frame.specs.Reading.{Reading, reads}
use Rattle.command_files.specs.TopologyFile.{topologies}
use Rattle.command_files.specs.MatrixFile.{matrices, matrices_for}
use Rattle.command_files.specs.FailureFile.{failure_files}
use Rattle.command_files.specs.PlanFile.{plans}

-- a plan is read, then its topology and its matrices, which have this step where one is given
abbrev pub with_plan : Option ℕ → List ℕ → (Experiment → Network → Series → Reading) → Reading
with_plan step file next =
    reads Experiment plans file (λ plan. reads Network topologies plan.topology (λ network.
    reads Series (matrices_for step network) plan.matrices (λ series. next plan network series)))

-- a file of predicted matrices is read, where one is named
abbrev pub with_predictions : Network → Option (List ℕ) → (Option Series → Reading) → Reading
with_predictions network None next = next None
with_predictions network (Some file) next = reads Series (matrices network) file (λ predictions. next (Some predictions))

-- a failure file is read, where one is named
abbrev pub with_failures : Network → Series → Option (List ℕ) → (Failures → Reading) → Reading
with_failures network series None next = next no_failures
with_failures network series (Some file) next = reads Failures (failure_files network series) file next
