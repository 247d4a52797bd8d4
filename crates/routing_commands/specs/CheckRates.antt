-- What `check-rates` answers of a certificate, matrices of its network and rates of its pairs.
use Rattle.std.specs.Prelude.{◌≤◌, ◌<◌, ℕ, List, length, slice_index}
use Rattle.te_model.specs.declared.certificate.Head.{Head}
use Rattle.te_model.specs.declared.route.Pair.{Pair}
use Rattle.traffic_matrix.specs.First.{first_matrix}
use Rattle.traffic_matrix.specs.declared.series.Series.{Series}
use Rattle.fault_rates.specs.declared.plan.RatePlan.{RatePlan}
use Rattle.fault_rates.specs.Answers.{IsRatesAnswer, RoutesPairs}
use Rattle.fault_rates.specs.Plan.{protection_by}
use Rattle.fault_rates.specs.Protection.{SurvivesFailures}
use Rattle.command_frame.specs.Reading.{Answers, Reading, answers, reads}
use Rattle.command_frame.specs.Table.{Entry}
use Rattle.command_files.specs.DemandReading.{with_demands}
use Rattle.command_files.specs.RateFile.{rate_files}

-- the certificate routes the declared pairs, no pair is granted more than it demands, and whichever links fail, no more than so many,
-- every grant is carried whole by the routing, within the allocations and the capacities
pub record IsRatesProof (head : Head) (pairs : List Pair) (demand : List ℕ) (plan : RatePlan) : Type 0 where
  pub pairs_agree : RoutesPairs head pairs
  pub wanted : (p : ℕ) → p < length head.routes → slice_index plan.grant p ≤ slice_index demand p
  pub survive : SurvivesFailures (protection_by head.network head.routes demand plan)

-- a yes proves that the rates survive under the first matrix
abbrev pub rate_verdict_on : Head → Series → RatePlan → Answers
rate_verdict_on head series plan = record {
  status = λ status. (text : List ℕ) × IsRatesAnswer head series.pairs.list (first_matrix series).demand plan status text;
  text = IsRatesAnswer head series.pairs.list (first_matrix series).demand plan;
  proves = λ text. IsRatesProof head series.pairs.list (first_matrix series).demand plan;
}

-- the rates of a head's routes are read
abbrev pub rates_reading : List ℕ → Head → Series → Reading
rates_reading rates head series = reads RatePlan (rate_files head.routes) rates (λ plan. answers (rate_verdict_on head series plan))

-- `check-rates CERT MATRICES RATES` says yes or no of the rates, in one text
abbrev pub check_rates_entry : List ℕ → List ℕ → List ℕ → Entry
check_rates_entry certificate file rates = record {
  reading = with_demands certificate file (rates_reading rates);
  may_answer = λ status text. status ≤ 1;
  has_one_text = Unit {0};
  in_range = Unit {0};
}
