-- What is read of a plan and the files that it names.
use Rattle.std.specs.Prelude.{◌≡◌, ℕ, ◌<◌, List, IfSome, length, nat_lt, if◌then◌else◌, Option, Some, None, Result, Ok, Err}
use Rattle.te_ports.specs.Record.{Read as FileRead, pass}
use Rattle.te_ports.specs.Shown.{Shown}
use Rattle.te_model.specs.declared.network.Network.{Network}
use Rattle.traffic_matrix.specs.declared.series.Series.{Series}
use Rattle.failure.specs.declared.outage.Failures.{Failures}
use Rattle.failure.specs.Series.{no_failures}
use Rattle.plan.specs.declared.experiment.Experiment.{Experiment}
use Rattle.command_frame.specs.declared.answer.Fault.{Fault}
use Rattle.command_frame.specs.Files.{given_passes}
use Rattle.command_frame.specs.Reading.{Answers, answers, GivesIn}
use Rattle.command_frame.specs.Outcome.{KeepsDepot, ReadsFile, Follows}
use Rattle.command_files.specs.declared.inputs.Inputs.{Inputs}
use Rattle.command_files.specs.TopologyFile.{topologies}
use Rattle.command_files.specs.MatrixFile.{matrices, matrices_for}
use Rattle.command_files.specs.FailureFile.{failure_files}
use Rattle.command_files.specs.PlanFile.{plans}
use Rattle.command_files.specs.PlanReading.{with_plan}

-- nothing is answered
abbrev pub no_answer : Answers
no_answer = record { status = λ status. ⊥; text = λ status text. ⊥; proves = λ text. ⊥ }

-- the series has this step, where one is given
abbrev pub HasStep : Option ℕ → Series → Type 0
HasStep step series = IfSome step (λ k. k < length series.steps)

-- the step that is given, where the series does not have it
abbrev pub missing_step : Option ℕ → Series → Option ℕ
missing_step None series = None
missing_step (Some k) series = if nat_lt k (length series.steps) then None else Some k

-- the files of a plan gave this plan, its network and its series, which has this step where one is given, one after another
pub record GivesPlan (step : Option ℕ) (file : List ℕ) (old new : Shown) (plan : Experiment) (network : Network) (series : Series) : Type 0 where
  pub after_plan : List FileRead
  pub after_topology : List FileRead
  pub plan_given : GivesIn plans (given_passes new.gave) (pass file old.gave after_plan) plan
  pub network_given : GivesIn topologies (given_passes new.gave) (pass plan.topology after_plan after_topology) network
  pub series_given : GivesIn (matrices_for step network) (given_passes new.gave) (pass plan.matrices after_topology new.gave) series
  pub steady : new.faults ≡ old.faults
  pub may : KeepsDepot old new

-- a plan, its network and its series are read, or one of their files is refused or not read
abbrev pub ReadsInputs : Option ℕ → List ℕ → Shown → Shown → Result Inputs Fault → Type 0
ReadsInputs step file old new (Ok inputs) = GivesPlan step file old new inputs.plan inputs.network inputs.series
ReadsInputs step file old new (Err fault) = Follows (with_plan step file (λ plan network series. answers no_answer)) old new (Err fault)

-- the file gives the predicted matrices, or it is refused or not read
abbrev pub ReadsSeries : Network → List ℕ → Shown → Shown → Result (Option Series) Fault → Type 0
ReadsSeries network file old new (Ok None) = ⊥
ReadsSeries network file old new (Ok (Some series)) = ReadsFile (matrices network) file old new (Ok series)
ReadsSeries network file old new (Err fault) = ReadsFile (matrices network) file old new (Err fault)

-- the predictions are read from the file that is named, and there are none where none is, of which nothing is read
pub record ReadsPredictions (network : Network) (named : Option (List ℕ)) (old new : Shown) (result : Result (Option Series) Fault) : Type 0 where
  pub unnamed : named ≡ None → (result ≡ Ok None) × (new ≡ old)
  pub reads : (file : List ℕ) → named ≡ Some file → ReadsSeries network file old new result

-- the failures are read from the file that is named, and are none where none is, of which nothing is read
pub record ReadsFailures (network : Network) (series : Series) (named : Option (List ℕ)) (old new : Shown) (result : Result Failures Fault) : Type 0 where
  pub unnamed : named ≡ None → (result ≡ Ok no_failures) × (new ≡ old)
  pub reads : (file : List ℕ) → named ≡ Some file → ReadsFile (failure_files network series) file old new result
