-- The files of a plan are read in one way, and what they give is within the limits.
use Rattle.std.proofs.Common.{◌≡◌, ◌<◌, ◌≤◌, ◌∙◌, ℕ, List, Bool, true, false, cond, length, Option, Some, None, Result, Ok, Err, refl, sym, ap, subst}
use Rattle.std.specs.Prelude.{IfSome, IsTrue, nat_lt}
use Rattle.std.proofs.lemmas.Bool.{ltb-true}
use Rattle.te_model.specs.declared.network.Network.{Network}
use Rattle.te_model.specs.Network.{is_well_formed, link_count, node_count}
use Rattle.topology.specs.Topology.{topology_of}
use Rattle.topology.proofs.SoundLemmas.{topologies_are_formed}
use Rattle.failure.specs.declared.outage.Failures.{Failures}
use Rattle.failure.specs.File.{failures_of}
use Rattle.failure.specs.Series.{no_failures}
use Rattle.traffic_matrix.specs.declared.series.Series.{Series}
use Rattle.traffic_matrix.specs.Limits.{IsSeries}
use Rattle.traffic_matrix.specs.Rows.{series_in}
use Rattle.traffic_matrix.proofs.LimitLemmas.{series_are_in_range}
use Rattle.plan.specs.declared.experiment.Experiment.{Experiment}
use Rattle.plan.specs.Plan.{InRange, plan_of}
use Rattle.plan.proofs.Ranges.{plans_are_in_range}
use Rattle.command_frame.specs.Reading.{Answers, Reading, answers}
use Rattle.command_frame.specs.Sound.{AreRegular, AtEnd, IsRegular}
use Rattle.command_frame.proofs.Ending.{ok_once, ok_or_err}
use Rattle.command_files.specs.InputFile.{in_words}
use Rattle.command_files.specs.FailureFile.{failures_reason}
use Rattle.command_files.specs.Limits.{input_limits}
use Rattle.command_files.specs.MatrixFile.{matrices_for, matrices_reason, no_step_reason, with_step}
use Rattle.command_files.specs.Outcome.{HasStep}
use Rattle.command_files.specs.PlanFile.{plan_reason}
use Rattle.command_files.specs.TopologyFile.{topology_reason}
use Rattle.command_files.specs.PlanReading.{with_failures, with_plan, with_predictions}
use Rattle.command_files.proofs.Regular.{inputs_regular}

-- the value that a reader gave
pub given_by : {A F : Type 0} (reason : F → List ℕ) (r : Result A F) (value : A) → in_words reason r ≡ Ok value → r ≡ Ok value
given_by reason (Ok x) value is = ap Ok (ok_once x value is)
given_by reason (Err e) value is = absurd (ok_or_err value (reason e) (sym is))

-- what the matrices of a network give is within the limits
pub series_in_range : (rows : List ℕ) (n : Network) (series : Series) → IsTrue (is_well_formed n) → in_words matrices_reason (series_in n rows) ≡ Ok series →
    IsSeries (node_count n) series
series_in_range rows n series formed reads = series_are_in_range n rows series formed (given_by matrices_reason (series_in n rows) series reads)

-- a series that has a step was given by the reader
with_step_given : (k : ℕ) (r : Result Series (List ℕ)) (series : Series) → with_step k r ≡ Ok series → (r ≡ Ok series) × (k < length series.steps)
with_step_given k (Err words) series is = absurd (ok_or_err series words (sym is))
with_step_given k (Ok s) series is = go (nat_lt k (length s.steps)) refl is
  where
    go : (b : Bool) → nat_lt k (length s.steps) ≡ b → ◌≡◌ {A = Result Series (List ℕ)} (cond b (Ok s) (Err (no_step_reason k))) (Ok series) →
        (◌≡◌ {A = Result Series (List ℕ)} (Ok s) (Ok series)) × (k < length series.steps)
    go true less same = (same, subst (λ (x : Series). k < length x.steps) (ok_once s series same) (ltb-true k (length s.steps) less))
    go false more same = absurd (ok_or_err series (no_step_reason k) (sym same))

-- so was one of the files for a command
series_given : (step : Option ℕ) (n : Network) (bytes : List ℕ) (series : Series) → (matrices_for step n).gives bytes (Ok series) →
    (in_words matrices_reason (series_in n bytes) ≡ Ok series) × HasStep step series
series_given None n bytes series gives = (gives, tt)
series_given (Some k) n bytes series gives = with_step_given k (in_words matrices_reason (series_in n bytes)) series gives

-- what the files of a plan give is within the limits
pub inputs_in_range : (step : Option ℕ) (bytes rows demands : List ℕ) (plan : Experiment) (n : Network) (series : Series) →
    in_words plan_reason (plan_of bytes) ≡ Ok plan → in_words topology_reason (topology_of rows) ≡ Ok n → (matrices_for step n).gives demands (Ok series) →
    InRange plan × IsTrue (is_well_formed n) × (1 ≤ link_count n) × IsSeries (node_count n) series × HasStep step series
inputs_in_range step bytes rows demands plan n series says makes reads =
    let network = topologies_are_formed rows n (given_by topology_reason (topology_of rows) n makes) in
    let given = series_given step n demands series reads in (
      plans_are_in_range bytes plan (given_by plan_reason (plan_of bytes) plan says),
      network.0,
      network.1,
      series_in_range demands n series network.0 given.0,
      given.1,
    )

-- matrices are read in one way
series_regular : (step : Option ℕ) (n : Network) → IsRegular (matrices_for step n)
series_regular None n = inputs_regular matrices_reason (series_in n)
series_regular (Some k) n = record {
  limited = input_limits;
  once = λ bytes x y p q. sym p ∙ q;
  some = λ bytes. (with_step k (in_words matrices_reason (series_in n bytes)), refl);
}

-- what follows them is read in one way, and so is all
pub plan_regular : (step : Option ℕ) (file : List ℕ) (next : Experiment → Network → Series → Reading) →
    ((plan : Experiment) (n : Network) (series : Series) → AreRegular (next plan n series)) → AreRegular (with_plan step file next)
plan_regular step file next rest = (
  inputs_regular plan_reason plan_of,
  λ plan. (inputs_regular topology_reason topology_of, λ n. (series_regular step n, λ series. rest plan n series)),
)

-- so are the predictions, whatever follows them
pub predictions_regular : (n : Network) (named : Option (List ℕ)) (next : Option Series → Reading) →
    ((predictions : Option Series) → AreRegular (next predictions)) → AreRegular (with_predictions n named next)
predictions_regular n None next rest = rest None
predictions_regular n (Some file) next rest = (inputs_regular matrices_reason (series_in n), λ series. rest (Some series))

-- what holds at the end of all that follows predictions within the limits holds at the end
pub at_end_of_predictions : (P : Answers → Type 0) (n : Network) (named : Option (List ℕ)) (next : Option Series → Reading) → IsTrue (is_well_formed n) →
    ((predictions : Option Series) → IfSome predictions (IsSeries (node_count n)) → AtEnd (next predictions) P) → AtEnd (with_predictions n named next) P
at_end_of_predictions P n None next formed holds = holds None tt
at_end_of_predictions P n (Some file) next formed holds = λ bytes series gives. holds (Some series) (series_in_range bytes n series formed gives)

-- after the failures nothing is read
pub failures_regular : (n : Network) (series : Series) (named : Option (List ℕ)) (answers_of : Failures → Answers) →
    AreRegular (with_failures n series named (λ failures. answers (answers_of failures)))
failures_regular n series None answers_of = tt
failures_regular n series (Some file) answers_of =
    (inputs_regular failures_reason (failures_of (link_count n) (length series.steps)), λ failures. tt)

-- what holds of the answers for any failures holds at the end
pub at_end_of_failures : (P : Answers → Type 0) (n : Network) (series : Series) (named : Option (List ℕ)) (answers_of : Failures → Answers) →
    ((failures : Failures) → P (answers_of failures)) → AtEnd (with_failures n series named (λ failures. answers (answers_of failures))) P
at_end_of_failures P n series None answers_of holds = holds no_failures
at_end_of_failures P n series (Some file) answers_of holds = λ bytes failures gives. holds failures
