-- What a command reads behind the plan, the topology and the matrices: the predictions that the plan names, and then the rest of its reading.
use Rattle.std.proofs.Common.{ℕ, List, Option, Some, Result, Ok, Err}
use Rattle.te_model.specs.declared.network.Network.{Network}
use Rattle.te_model.specs.Network.{node_count}
use Rattle.te_ports.specs.Shown.{Shown}
use Rattle.traffic_matrix.specs.declared.series.Series.{Series}
use Rattle.traffic_matrix.specs.Traffic.{traffic_of}
use Rattle.plan.specs.declared.experiment.Experiment.{Experiment}
use Rattle.step_detail.specs.declared.breakdown.Breakdown.{Breakdown}
use Rattle.command_frame.specs.declared.answer.Answer.{Answer}
use Rattle.command_frame.specs.declared.answer.Fault.{Fault}
use Rattle.command_frame.specs.Outcome.{Follows}
use Rattle.command_frame.specs.Reading.{Reading, answers}
use Rattle.command_files.specs.Outcome.{GivesPlan, ReadsPredictions}
use Rattle.command_files.specs.PlanReading.{with_plan, with_predictions, with_failures}
use Rattle.command_files.proofs.PlanReads.{plan_goes_on, predictions_stop, predictions_go_on}
use Rattle.plan_commands.specs.BreakDown.{breakdown_of}
use Rattle.plan_commands.specs.Publish.{publication_of}
use Rattle.plan_commands.specs.Report.{report_of}

-- what each command reads behind the predictions
abbrev pub publication_reading : Experiment → Network → Series → Option Series → Reading
publication_reading plan n series predictions = answers (publication_of plan n (traffic_of (node_count n) series predictions).sent)

abbrev pub report_reading : Experiment → Network → Series → Option Series → Reading
report_reading plan n series predictions =
    with_failures n series plan.failures (λ failures. answers (report_of plan n (traffic_of (node_count n) series predictions) failures))

abbrev pub breakdown_reading : Breakdown → ℕ → Experiment → Network → Series → Option Series → Reading
breakdown_reading breakdown k plan n series predictions =
    with_failures n series plan.failures (λ failures. answers (breakdown_of breakdown plan n (traffic_of (node_count n) series predictions) failures k))

-- what it reads behind the matrices
abbrev pub behind_matrices : (Experiment → Network → Series → Option Series → Reading) → Experiment → Network → Series → Reading
behind_matrices next plan n series = with_predictions n plan.predictions (next plan n series)

-- the predictions are refused or not read
pub predictions_unread : (step : Option ℕ) (file : List ℕ) (next : Experiment → Network → Series → Option Series → Reading) (plan : Experiment) (n : Network)
    (series : Series) (old mid new : Shown) (fault : Fault) → GivesPlan step file old mid plan n series →
    ReadsPredictions n plan.predictions mid new (Err fault) → Follows (with_plan step file (behind_matrices next)) old new (Err fault)
predictions_unread step file next plan n series old mid new fault gives read =
    plan_goes_on step file (behind_matrices next) plan n series old mid new (Err fault) gives
    (predictions_stop n plan.predictions (next plan n series) mid new fault read)

-- they are read, and the rest follows
pub predictions_read : (step : Option ℕ) (file : List ℕ) (next : Experiment → Network → Series → Option Series → Reading) (plan : Experiment) (n : Network)
    (series : Series) (predictions : Option Series) (old mid then new : Shown) (result : Result Answer Fault) → GivesPlan step file old mid plan n series →
    ReadsPredictions n plan.predictions mid then (Ok predictions) → Follows (next plan n series predictions) then new result →
    Follows (with_plan step file (behind_matrices next)) old new result
predictions_read step file next plan n series predictions old mid then new result gives read rest =
    plan_goes_on step file (behind_matrices next) plan n series old mid new result gives
    (predictions_go_on n plan.predictions (next plan n series) predictions mid then new result read rest)
