-- The plan, its network, its series and its failures are read, and the rest of a command follows.
use Rattle.std.proofs.Common.{◌≡◌, ℕ, List, Option, Some, None, Result, Ok, Err, inl, inr, refl, ◌∙◌, subst, string_bytes}
use Rattle.te_model.specs.declared.network.Network.{Network}
use Rattle.traffic_matrix.specs.declared.series.Series.{Series}
use Rattle.failure.specs.declared.outage.Failures.{Failures}
use Rattle.plan.specs.declared.experiment.Experiment.{Experiment}
use Rattle.command_frame.specs.declared.answer.Answer.{Answer}
use Rattle.command_frame.specs.declared.answer.Fault.{Fault}
use Rattle.command_frame.specs.declared.answer.Fault.TheVariants.{Refused, Read, Memory}
use Rattle.te_ports.specs.Record.{Read as FileRead}
use Rattle.command_frame.specs.Files.{Passes, given_passes}
use Rattle.command_frame.specs.Reading.{Reading, answers, reads, MeansAfter, ReadFailedAfter}
use Rattle.command_frame.specs.Order.{ReadsAlong}
use Rattle.command_files.specs.TopologyFile.{topologies}
use Rattle.command_files.specs.MatrixFile.{matrices, matrices_for}
use Rattle.failure.specs.Series.{no_failures}
use Rattle.command_files.specs.FailureFile.{failure_files}
use Rattle.command_files.specs.PlanFile.{plans}
use Rattle.command_files.specs.PlanReading.{with_plan, with_predictions, with_failures}
use Rattle.te_ports.specs.Ports.{Rose}
use Rattle.te_ports.specs.Shown.{Shown}
use Rattle.command_frame.specs.Outcome.{ReadsFile, Meant, OnRead, Follows}
use Rattle.command_files.specs.Outcome.{GivesPlan, ReadsFailures, ReadsPredictions, no_answer}
use Rattle.command_frame.proofs.Following.{none_read, meant_on, failed_on, failed_since, both, goes_on, stops}

-- what is read after a plan, and after its network
abbrev then_series : Option ℕ → (Experiment → Network → Series → Reading) → Experiment → Network → Reading
then_series step next plan network = reads Series (matrices_for step network) plan.matrices (λ series. next plan network series)

abbrev then_network : Option ℕ → (Experiment → Network → Series → Reading) → Experiment → Reading
then_network step next plan = reads Network topologies plan.topology (then_series step next plan)

-- the plan, its topology or its matrices are refused or not read
pub plan_unread : (step : Option ℕ) (file : List ℕ) (next : Experiment → Network → Series → Reading) (old new : Shown) (fault : Fault) →
    ReadsFile plans file old new (Err fault) → Follows (with_plan step file next) old new (Err fault)
plan_unread step file next old new fault read = stops Experiment plans file (then_network step next) old new fault read

pub topology_unread : (step : Option ℕ) (file : List ℕ) (next : Experiment → Network → Series → Reading) (plan : Experiment) (old mid new : Shown) (fault : Fault) →
    ReadsFile plans file old mid (Ok plan) → ReadsFile topologies plan.topology mid new (Err fault) → Follows (with_plan step file next) old new (Err fault)
topology_unread step file next plan old mid new fault first read =
    goes_on Experiment plans file (then_network step next) plan old mid new (Err fault) first
    (stops Network topologies plan.topology (then_series step next plan) mid new fault read)

pub matrices_unread : (step : Option ℕ) (file : List ℕ) (next : Experiment → Network → Series → Reading) (plan : Experiment) (network : Network) (old mid then new : Shown) (fault : Fault) →
    ReadsFile plans file old mid (Ok plan) → ReadsFile topologies plan.topology mid then (Ok network) →
    ReadsFile (matrices_for step network) plan.matrices then new (Err fault) → Follows (with_plan step file next) old new (Err fault)
matrices_unread step file next plan network old mid then new fault first second read =
    goes_on Experiment plans file (then_network step next) plan old mid new (Err fault) first
    (goes_on Network topologies plan.topology (then_series step next plan) network mid then new (Err fault) second
    (stops Series (matrices_for step network) plan.matrices (λ series. next plan network series) then new fault read))

-- all three are read
pub all_read : (step : Option ℕ) (file : List ℕ) (plan : Experiment) (network : Network) (series : Series) (old mid then new : Shown) →
    ReadsFile plans file old mid (Ok plan) → ReadsFile topologies plan.topology mid then (Ok network) →
    ReadsFile (matrices_for step network) plan.matrices then new (Ok series) → GivesPlan step file old new plan network series
all_read step file plan network series old mid then new first second third = record {
  after_plan = mid.gave;
  after_topology = then.gave;
  plan_given = first.reads;
  network_given = second.reads;
  series_given = third.reads;
  steady = third.steady (λ e. cc) ∙ second.steady (λ e. cc) ∙ first.steady (λ e. cc);
  may = both old mid new first.may (both mid then new second.may third.may);
}

-- a refusal of one of the files is one whatever comes after them
plan_means : (step : Option ℕ) (file : List ℕ) (next : Experiment → Network → Series → Reading) (passes : Passes) (before : List FileRead) (line : List ℕ) →
    MeansAfter (with_plan step file (λ plan network series. answers no_answer)) passes before 3 line → MeansAfter (with_plan step file next) passes before 3 line
plan_means step file next passes before line (inl x) = inl x
plan_means step file next passes before line (inr (p, now, gives, inl x)) = inr (p, now, gives, inl x)
plan_means step file next passes before line (inr (p, now, gives, inr (n, then, makes, inl x))) = inr (p, now, gives, inr (n, then, makes, inl x))
plan_means step file next passes before line (inr (p, now, gives, inr (n, then, makes, inr (s, last, demands, x)))) = absurd x.0

-- and so is a failed read
plan_failed : (step : Option ℕ) (file : List ℕ) (next : Experiment → Network → Series → Reading) (passes : Passes) (before : List FileRead) (Fails : List ℕ → Type 0) →
    ReadFailedAfter (with_plan step file (λ plan network series. answers no_answer)) passes before Fails → ReadFailedAfter (with_plan step file next) passes before Fails
plan_failed step file next passes before Fails (inl x) = inl x
plan_failed step file next passes before Fails (inr (p, now, gives, inl x)) = inr (p, now, gives, inl x)
plan_failed step file next passes before Fails (inr (p, now, gives, inr (n, then, makes, inl x))) = inr (p, now, gives, inr (n, then, makes, inl x))
plan_failed step file next passes before Fails (inr (p, now, gives, inr (n, then, makes, inr (s, last, demands, x)))) = absurd x

-- what was read of the files was read whatever comes after them
plan_order : (step : Option ℕ) (file : List ℕ) (next : Experiment → Network → Series → Reading) (before now : List FileRead) →
    ((plan : Experiment) (network : Network) (series : Series) → ReadsAlong (next plan network series) now now) →
    ReadsAlong (with_plan step file (λ plan network series. answers no_answer)) before now → ReadsAlong (with_plan step file next) before now
plan_order step file next before now none (inl x) = inl x
plan_order step file next before now none (inr (p, one, gives, inl x)) = inr (p, one, gives, inl x)
plan_order step file next before now none (inr (p, one, gives, inr (n, two, makes, inl x))) = inr (p, one, gives, inr (n, two, makes, inl x))
plan_order step file next before now none (inr (p, one, gives, inr (n, two, makes, inr (s, three, demands, x)))) =
    inr (p, one, gives, inr (n, two, makes, inr (s, three, demands, subst (λ reads. ReadsAlong (next p n s) reads now) x (none p n s))))

pub plan_stops : (step : Option ℕ) (file : List ℕ) (next : Experiment → Network → Series → Reading) (old new : Shown) (fault : Fault) →
    Follows (with_plan step file (λ plan network series. answers no_answer)) old new (Err fault) → Follows (with_plan step file next) old new (Err fault)
plan_stops step file next old new fault follows = record {
  means = meant fault follows.means;
  failed = unread (λ f. Rose (old.faults f) (new.faults f)) fault follows.failed;
  order = plan_order step file next old.gave new.gave (λ plan network series. none_read (next plan network series) new.gave) follows.order;
  steady = follows.steady;
  may = follows.may;
}
  where
    meant : (f : Fault) → Meant (MeansAfter (with_plan step file (λ plan network series. answers no_answer)) (given_passes new.gave) old.gave) (Err f) →
        Meant (MeansAfter (with_plan step file next) (given_passes new.gave) old.gave) (Err f)
    meant (Refused line) is = plan_means step file next (given_passes new.gave) old.gave (string_bytes line) is
    meant Read is = tt
    meant Memory is = tt

    unread : (Fails : List ℕ → Type 0) (f : Fault) →
        OnRead {A = Answer} (Err f) (ReadFailedAfter (with_plan step file (λ plan network series. answers no_answer)) (given_passes new.gave) old.gave Fails) →
        OnRead {A = Answer} (Err f) (ReadFailedAfter (with_plan step file next) (given_passes new.gave) old.gave Fails)
    unread Fails (Refused line) is = tt
    unread Fails Read is = plan_failed step file next (given_passes new.gave) old.gave Fails is
    unread Fails Memory is = tt

pub plan_goes_on : (step : Option ℕ) (file : List ℕ) (next : Experiment → Network → Series → Reading) (plan : Experiment) (network : Network) (series : Series)
    (old mid new : Shown) (result : Result Answer Fault) → GivesPlan step file old mid plan network series → Follows (next plan network series) mid new result →
    Follows (with_plan step file next) old new result
plan_goes_on step file next plan network series old mid new result gives rest =
    let passes = given_passes new.gave in
    let Fails : List ℕ → Type 0 = λ f. Rose (old.faults f) (new.faults f) in
    let one = gives.after_plan in
    let two = gives.after_topology in
    record {
      means = meant_on Experiment plans file (then_network step next) plan passes old.gave one result gives.plan_given
          (meant_on Network topologies plan.topology (then_series step next plan) network passes one two result gives.network_given
          (meant_on Series (matrices_for step network) plan.matrices (λ s. next plan network s) series passes two mid.gave result gives.series_given rest.means));
      failed = failed_on Experiment plans file (then_network step next) plan passes old.gave one Fails result gives.plan_given
          (failed_on Network topologies plan.topology (then_series step next plan) network passes one two Fails result gives.network_given
          (failed_on Series (matrices_for step network) plan.matrices (λ s. next plan network s) series passes two mid.gave Fails result gives.series_given
          (failed_since (next plan network series) passes mid.gave old.faults mid.faults new.faults result gives.steady rest.failed)));
      order = inr (plan, one, gives.plan_given, inr (network, two, gives.network_given, inr (series, mid.gave, gives.series_given, rest.order)));
      steady = λ other. rest.steady other ∙ gives.steady;
      may = both old mid new gives.may rest.may;
    }

err_is_ok : {A : Type 0} (x : A) (y : Fault) → ◌≡◌ {A = Result A Fault} (Err y) (Ok x) → ⊥
err_is_ok x y e = cc

same_ok : {A : Type 0} (x y : A) → ◌≡◌ {A = Result A Fault} (Ok x) (Ok y) → x ≡ y
same_ok x y e = cc

pub predictions_stop : (network : Network) (named : Option (List ℕ)) (next : Option Series → Reading) (old new : Shown) (fault : Fault) →
    ReadsPredictions network named old new (Err fault) → Follows (with_predictions network named next) old new (Err fault)
predictions_stop network None next old new fault read = absurd (err_is_ok None fault (read.unnamed refl).0)
predictions_stop network (Some file) next old new fault read = stops Series (matrices network) file (λ s. next (Some s)) old new fault (read.reads file refl)

pub predictions_go_on : (network : Network) (named : Option (List ℕ)) (next : Option Series → Reading) (predictions : Option Series) (old mid new : Shown)
    (result : Result Answer Fault) → ReadsPredictions network named old mid (Ok predictions) → Follows (next predictions) mid new result →
    Follows (with_predictions network named next) old new result
predictions_go_on network None next predictions old mid new result read rest =
    let unnamed = read.unnamed refl in
    subst (λ s. Follows (next None) s new result) unnamed.1
    (subst (λ p. Follows (next p) mid new result) (same_ok predictions None unnamed.0) rest)
predictions_go_on network (Some file) next (Some series) old mid new result read rest =
    goes_on Series (matrices network) file (λ s. next (Some s)) series old mid new result (read.reads file refl) rest
predictions_go_on network (Some file) next None old mid new result read rest = absurd (read.reads file refl)

pub failures_stop : (network : Network) (series : Series) (named : Option (List ℕ)) (next : Failures → Reading) (old new : Shown) (fault : Fault) →
    ReadsFailures network series named old new (Err fault) → Follows (with_failures network series named next) old new (Err fault)
failures_stop network series None next old new fault read = absurd (err_is_ok no_failures fault (read.unnamed refl).0)
failures_stop network series (Some file) next old new fault read = stops Failures (failure_files network series) file next old new fault (read.reads file refl)

pub failures_go_on : (network : Network) (series : Series) (named : Option (List ℕ)) (next : Failures → Reading) (failures : Failures) (old mid new : Shown)
    (result : Result Answer Fault) → ReadsFailures network series named old mid (Ok failures) → Follows (next failures) mid new result →
    Follows (with_failures network series named next) old new result
failures_go_on network series None next failures old mid new result read rest =
    let unnamed = read.unnamed refl in
    subst (λ s. Follows (next no_failures) s new result) unnamed.1
    (subst (λ f. Follows (next f) mid new result) (same_ok failures no_failures unnamed.0) rest)
failures_go_on network series (Some file) next failures old mid new result read rest =
    goes_on Failures (failure_files network series) file next failures old mid new result (read.reads file refl) rest
