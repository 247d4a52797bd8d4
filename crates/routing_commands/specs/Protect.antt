-- What `protect` answers of a certificate, matrices of its network and a number of links that may fail.
use Rattle.std.specs.Prelude.{◌≡◌, ◌⊎◌, ◌<◌, ◌≤◌, ℕ, List, length, Option, Some, None, nat_le, if◌then◌else◌}
use Rattle.te_model.specs.declared.certificate.Head.{Head}
use Rattle.te_model.specs.declared.route.Pair.{Pair}
use Rattle.traffic_matrix.specs.First.{first_matrix}
use Rattle.traffic_matrix.specs.declared.series.Series.{Series}
use Rattle.fault_rates.specs.declared.plan.RatePlan.{RatePlan}
use Rattle.fault_rates.specs.Answers.{IsProtectionAnswer, RoutesPairs, SaysNoPairs}
use Rattle.fault_rates.specs.File.{rates_text}
use Rattle.fault_rates.specs.Making.{IsProtection}
use Rattle.command_frame.specs.Reading.{Answers, Reading, answers}
use Rattle.command_frame.specs.Table.{Entry}
use Rattle.routing_commands.specs.CheckRates.{IsRatesProof}
use Rattle.command_files.specs.DecimalNumber.{decimal_number}
use Rattle.command_files.specs.DemandReading.{with_demands}

-- a number of at most 8, where there is one
abbrev pub few_failures : Option ℕ → Option ℕ
few_failures None = None
few_failures (Some n) = if nat_le n 8 then Some n else None

-- the number of links that may fail, of which the word is the digit
abbrev pub failures_of : List ℕ → Option ℕ
failures_of word = few_failures (decimal_number word)

-- 0 where the certificate routes the declared pairs, else 1
abbrev pub IsProtectionStatus : Head → List Pair → ℕ → Type 0
IsProtectionStatus head pairs status = ((status ≡ 0) × RoutesPairs head pairs) ⊎ ((status ≡ 1) × (¬ RoutesPairs head pairs))

-- the text is the file of rates for so many failures, which survive, and of which nothing can be raised
pub record IsProvedProtection (head : Head) (pairs : List Pair) (demand : List ℕ) (failures : ℕ) (text : List ℕ) : Type 0 where
  pub plan : RatePlan
  pub protects : IsProtection head.network head.routes demand failures plan
  pub text_is : text ≡ rates_text plan
  pub proof : IsRatesProof head pairs demand plan

-- under the first matrix
abbrev pub grants_for : Head → Series → ℕ → Answers
grants_for head series failures = record {
  status = IsProtectionStatus head series.pairs.list;
  text = IsProtectionAnswer head series.pairs.list (first_matrix series).demand failures;
  proves = IsProvedProtection head series.pairs.list (first_matrix series).demand failures;
}

abbrev pub grants_reading : ℕ → Head → Series → Reading
grants_reading failures head series = answers (grants_for head series failures)

-- the text of some rates for so many failures
pub record IsTextOfRates (failures : ℕ) (text : List ℕ) : Type 0 where
  pub plan : RatePlan
  pub failures_are : plan.failures ≡ failures
  pub text_is : text ≡ rates_text plan
  pub short : length text < 6000000

-- `protect CERT MATRICES K` writes rates, or says that the declared pairs are others
abbrev pub protect_entry : List ℕ → List ℕ → ℕ → Entry
protect_entry certificate file failures = record {
  reading = with_demands certificate file (grants_reading failures);
  may_answer = λ status text. SaysNoPairs status text ⊎ ((status ≡ 0) × IsTextOfRates failures text);
  has_one_text = ⊥;
  in_range = failures ≤ 8;
}
