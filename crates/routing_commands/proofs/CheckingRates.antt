-- What `check-rates` answers: one text, and a yes proves that the rates survive.
use Rattle.std.proofs.Common.{◌≤◌, ℕ, List, inl, inr, refl, arith}
use Rattle.te_model.specs.declared.certificate.Head.{Head}
use Rattle.te_model.specs.declared.route.Pair.{Pair}
use Rattle.te_model.specs.Validity.{IsValidHead}
use Rattle.traffic_matrix.specs.First.{first_matrix}
use Rattle.traffic_matrix.specs.Rows.{series_in}
use Rattle.traffic_matrix.specs.declared.series.Series.{Series}
use Rattle.te_model.proofs.ValidHeads.{head_routing}
use Rattle.fault_rates.specs.declared.plan.RatePlan.{RatePlan}
use Rattle.fault_rates.specs.Answers.{verdict_by, IsRatesAnswer}
use Rattle.fault_rates.specs.Plan.{protection_by}
use Rattle.fault_rates.specs.Reading.{MeansRates}
use Rattle.fault_rates.proofs.Answered.{status_small, yes_at_zero}
use Rattle.fault_rates.proofs.OneRates.{rates_have_one_meaning}
use Rattle.fault_rates.proofs.SomeAnswers.{answers_exist}
use Rattle.fault_rates.proofs.Verdicts.{verdict_survives, verdict_yes}
use Rattle.command_frame.specs.Sound.{HasText, IsSound}
use Rattle.command_frame.specs.Table.{IsSoundEntry}
use Rattle.routing_commands.specs.CheckRates.{check_rates_entry, rate_verdict_on, IsRatesProof}
use Rattle.command_files.specs.MatrixFile.{matrices_reason}
use Rattle.command_files.specs.RateFile.{rates_reason}
use Rattle.command_files.proofs.Regular.{certificates_regular, inputs_regular, meant_regular}
use Rattle.command_files.proofs.Streaming.{spelled_head}

pub rates_small : (h : Head) (pairs : List Pair) (demand : List ℕ) (plan : RatePlan) (s : ℕ) (text : List ℕ) → IsRatesAnswer h pairs demand plan s text → s ≤ 1
rates_small h pairs demand plan s text (inl (routed, is)) =
    let small = status_small (verdict_by h demand plan) in
    let same = is.0 in
    omega (arith, small, same)
rates_small h pairs demand plan s text (inr (others, is)) = omega (arith, is.0)

-- a yes is a proof
rates_prove : (h : Head) (pairs : List Pair) (demand : List ℕ) (plan : RatePlan) (text : List ℕ) → IsRatesAnswer h pairs demand plan 0 text →
    IsRatesProof h pairs demand plan
rates_prove h pairs demand plan text (inl (routed, is)) =
    let x = protection_by h.network h.routes demand plan in
    let verdict = verdict_by h demand plan in
    let yes = yes_at_zero verdict is.0 in
    record { pairs_agree = routed; wanted = ((verdict_yes x verdict refl).0 yes).wanted; survive = verdict_survives x verdict refl yes }
rates_prove h pairs demand plan text (inr (others, is)) = absurd (omega (arith, is.0))

rates_text_of : (h : Head) (series : Series) (plan : RatePlan) → IsValidHead h → HasText (rate_verdict_on h series plan)
rates_text_of h series plan valid = answers_exist.rates h series.pairs.list (first_matrix series).demand plan (head_routing h valid)

rates_sound : (h : Head) (series : Series) (plan : RatePlan) → IsValidHead h → IsSound (λ s text. s ≤ 1) (rate_verdict_on h series plan)
rates_sound h series plan valid =
    let pairs = series.pairs.list in
    let demand = (first_matrix series).demand in
    record {
      once = λ s t p q. (answers_exist.one_of_rates h pairs demand plan s t p.0 q.0 p.1 q.1).0;
      some = let is = rates_text_of h series plan valid in (is.0, (is.1, is.2));
      of_text = λ s text is. (text, is);
      proves = λ text is. rates_prove h pairs demand plan text is;
      form = λ s text is. rates_small h pairs demand plan s text is;
      accepted = λ text is. let small = rates_small h pairs demand plan 3 text is in omega arith;
    }

pub check_rates_is_sound : (certificate file rates : List ℕ) → IsSoundEntry (check_rates_entry certificate file rates)
check_rates_is_sound certificate file rates = record {
  regular = (certificates_regular, λ c. (inputs_regular matrices_reason (series_in c.head.network), λ series. (meant_regular rates_reason (MeansRates c.head.routes) (rates_have_one_meaning c.head.routes), λ plan. tt)));
  sound = λ bytes c spells rows series makes lines plan means. rates_sound c.head series plan (spelled_head bytes c spells);
  one_text = λ is bytes c spells rows series makes lines plan means s t x y p q.
      (answers_exist.one_of_rates c.head series.pairs.list (first_matrix series).demand plan s t x y p q).1;
  some_text = λ is bytes c spells rows series makes lines plan means. rates_text_of c.head series plan (spelled_head bytes c spells);
}
