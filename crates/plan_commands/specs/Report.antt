-- What `run` answers of a plan on its network, its traffic and its failures: the report of its schemes.
use Rattle.std.specs.Prelude.{◌≡◌, ℕ, List, None}
use Rattle.te_model.specs.declared.network.Network.{Network}
use Rattle.te_model.specs.Network.{node_count}
use Rattle.traffic_matrix.specs.declared.traffic.Traffic.{Traffic}
use Rattle.traffic_matrix.specs.Traffic.{traffic_of}
use Rattle.failure.specs.declared.outage.Failures.{Failures}
use Rattle.plan.specs.declared.experiment.Experiment.{Experiment}
use Rattle.experiment.specs.Report.{IsReport}
use Rattle.command_frame.specs.Reading.{Answers, answers}
use Rattle.command_frame.specs.Table.{Entry}
use Rattle.command_files.specs.PlanReading.{with_plan, with_predictions, with_failures}

-- a report states no oblivious ratio
abbrev pub report_of : Experiment → Network → Traffic → Failures → Answers
report_of plan network traffic failures = record {
  status = λ status. status ≡ 0;
  text = λ status text. (status ≡ 0) × IsReport plan network traffic failures text;
  proves = IsReport plan network traffic failures;
}

-- `run PLAN` writes a report
abbrev pub run_entry : List ℕ → Entry
run_entry plan = record {
  reading = with_plan None plan (λ named network series. with_predictions network named.predictions (λ predictions.
      with_failures network series named.failures (λ failures.
      answers (report_of named network (traffic_of (node_count network) series predictions) failures))));
  may_answer = λ status text. status ≡ 0;
  has_one_text = ⊥;
  in_range = Unit {0};
}
