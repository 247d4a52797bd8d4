-- What `links`, `pairs` and `paths` answer of a plan on its network, its traffic and its failures: a step of its schemes, broken down.
use Rattle.std.specs.Prelude.{◌≡◌, ℕ, List, Option, Some, None, nat_lt, if◌then◌else◌}
use Rattle.te_model.specs.declared.network.Network.{Network}
use Rattle.te_model.specs.Network.{node_count}
use Rattle.traffic_matrix.specs.declared.traffic.Traffic.{Traffic}
use Rattle.traffic_matrix.specs.Traffic.{traffic_of}
use Rattle.failure.specs.declared.outage.Failures.{Failures}
use Rattle.plan.specs.declared.experiment.Experiment.{Experiment}
use Rattle.step_detail.specs.declared.breakdown.Breakdown.{Breakdown}
use Rattle.step_detail.specs.Breakdown.{IsBreakdown}
use Rattle.command_frame.specs.Reading.{Answers, answers}
use Rattle.command_frame.specs.Table.{Entry}
use Rattle.command_files.specs.DecimalNumber.{decimal_number}
use Rattle.command_files.specs.PlanReading.{with_plan, with_predictions, with_failures}

-- the number of a step that a series may have
abbrev pub step_within : Option ℕ → Option ℕ
step_within None = None
step_within (Some k) = if nat_lt k 1024 then Some k else None

abbrev pub step_number : List ℕ → Option ℕ
step_number word = step_within (decimal_number word)

-- the text is that of step k of the plan's schemes
abbrev pub breakdown_of : Breakdown → Experiment → Network → Traffic → Failures → ℕ → Answers
breakdown_of breakdown plan network traffic failures k = record {
  status = λ status. status ≡ 0;
  text = λ status text. (status ≡ 0) × IsBreakdown breakdown plan network traffic failures k text;
  proves = IsBreakdown breakdown plan network traffic failures k;
}

-- `links PLAN STEP`, `pairs PLAN STEP` and `paths PLAN STEP` write a step that the series of the plan has
abbrev pub break_down_entry : Breakdown → List ℕ → ℕ → Entry
break_down_entry breakdown plan k = record {
  reading = with_plan (Some k) plan (λ named network series. with_predictions network named.predictions (λ predictions.
      with_failures network series named.failures (λ failures.
      answers (breakdown_of breakdown named network (traffic_of (node_count network) series predictions) failures k))));
  may_answer = λ status text. status ≡ 0;
  has_one_text = ⊥;
  in_range = Unit {0};
}
