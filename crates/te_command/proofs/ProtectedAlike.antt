-- What `protect` and `check-rates` say of a file and of the one that `convert` makes of it, and what the second says of the first's text.
use Rattle.std.proofs.Common.{◌≡◌, ◌≤◌, ℕ, List, [], length, Option, Some, Ok, inl, inr, refl, sym, ap, subst, arith}
use Rattle.te_ports.specs.Record.{Read as FileRead}
use Rattle.te_model.specs.declared.certificate.Certificate.{Certificate}
use Rattle.te_model.specs.declared.certificate.Head.{Head}
use Rattle.te_model.specs.declared.route.Pair.{Pair}
use Rattle.te_model.specs.Upgrade.{upgraded_certificate}
use Rattle.te_model.specs.Validity.{IsValidHead}
use Rattle.traffic_matrix.specs.First.{first_matrix}
use Rattle.traffic_matrix.specs.declared.series.Series.{Series}
use Rattle.fault_rates.specs.declared.plan.RatePlan.{RatePlan}
use Rattle.fault_rates.specs.declared.verdict.RateVerdict.{RateVerdict}
use Rattle.fault_rates.specs.declared.verdict.RateVerdict.TheVariants.{Yes}
use Rattle.fault_rates.specs.Answers.{verdict_line, verdict_status, IsProtectionAnswer, IsProtectionText, IsRatesAnswer}
use Rattle.fault_rates.specs.Reading.{MeansRates}
use Rattle.fault_rates.proofs.Answered.{protection_is_yes, text_means}
use Rattle.fault_rates.proofs.ShortTexts.{rate_texts_are_short}
use Rattle.command_frame.specs.Files.{told_files, told_passes}
use Rattle.command_frame.specs.Reading.{Means, MeansAfter}
use Rattle.routing_commands.specs.CheckRates.{rates_reading}
use Rattle.te_command.specs.Commands.{check_rates, convert, protect, reading_of}
use Rattle.command_files.specs.DemandReading.{with_matrices}
use Rattle.command_files.specs.InputFile.{input_limit}
use Rattle.routing_commands.specs.Protect.{grants_reading}
use Rattle.te_command.proofs.Alike.{after_conversion}
use Rattle.routing_commands.proofs.HeadCounts.{head_has_few_pairs, head_has_few_paths}
use Rattle.command_files.proofs.Streaming.{spelled_head}

-- ---- of a head no more counts than its network and its routes

protection_kept : (c : Certificate) (pairs : List Pair) (demand : List ℕ) (failures status : ℕ) (text : List ℕ) →
    IsProtectionAnswer c.head pairs demand failures status text → IsProtectionAnswer (upgraded_certificate c).head pairs demand failures status text
protection_kept c pairs demand failures status text (inl (routed, is)) = inl (routed, is)
protection_kept c pairs demand failures status text (inr (others, says)) = inr (others, says)

rates_kept : (c : Certificate) (pairs : List Pair) (demand : List ℕ) (plan : RatePlan) (status : ℕ) (text : List ℕ) →
    IsRatesAnswer c.head pairs demand plan status text → IsRatesAnswer (upgraded_certificate c).head pairs demand plan status text
rates_kept c pairs demand plan status text (inl (routed, is)) = inl (routed, is)
rates_kept c pairs demand plan status text (inr (others, says)) = inr (others, says)

after_protected : (c : Certificate) (content : List ℕ → Option (List ℕ)) (file : List ℕ) (failures : ℕ) (before : List FileRead) (status : ℕ) (text : List ℕ) →
    MeansAfter (with_matrices file c.head (grants_reading failures c.head)) (told_passes content) before status text →
    MeansAfter (with_matrices file (upgraded_certificate c).head (grants_reading failures (upgraded_certificate c).head)) (told_passes content) before status text
after_protected c content file failures before status text (inl refused) = inl refused
after_protected c content file failures before status text (inr (series, now, makes, (is, ended))) =
    inr (series, now, makes, (protection_kept c series.pairs.list (first_matrix series).demand failures status text is, ended))

after_rates : (c : Certificate) (content : List ℕ → Option (List ℕ)) (file rates : List ℕ) (before : List FileRead) (status : ℕ) (text : List ℕ) →
    MeansAfter (with_matrices file c.head (rates_reading rates c.head)) (told_passes content) before status text →
    MeansAfter (with_matrices file (upgraded_certificate c).head (rates_reading rates (upgraded_certificate c).head)) (told_passes content) before status text
after_rates c content file rates before status text (inl refused) = inl refused
after_rates c content file rates before status text (inr (series, now, makes, inl refused)) = inr (series, now, makes, inl refused)
after_rates c content file rates before status text (inr (series, now, makes, inr (plan, then, gives, (is, ended)))) =
    inr (series, now, makes, inr (plan, then, gives, (rates_kept c series.pairs.list (first_matrix series).demand plan status text is, ended)))

pub protected_alike : (content : List ℕ → Option (List ℕ)) (file made matrices made_text text : List ℕ) (failures status : ℕ) → content made ≡ Some made_text →
    Means (reading_of (convert file)) (told_files content) 0 made_text → Means (reading_of (protect file matrices failures)) (told_files content) status text →
    Means (reading_of (protect made matrices failures)) (told_files content) status text
protected_alike content file made matrices made_text text failures status at converted means =
    after_conversion content file made made_text (λ spelled. with_matrices matrices spelled.head (grants_reading failures spelled.head)) [] status text at converted
    (λ c now. after_protected c content matrices failures now status text) means

pub rates_alike : (content : List ℕ → Option (List ℕ)) (file made matrices rates made_text text : List ℕ) (status : ℕ) → content made ≡ Some made_text →
    Means (reading_of (convert file)) (told_files content) 0 made_text → Means (reading_of (check_rates file matrices rates)) (told_files content) status text →
    Means (reading_of (check_rates made matrices rates)) (told_files content) status text
rates_alike content file made matrices rates made_text text status at converted means =
    after_conversion content file made made_text (λ spelled. with_matrices matrices spelled.head (rates_reading rates spelled.head)) [] status text at converted
    (λ c now. after_rates c content matrices rates now status text) means

-- ---- what `protect` writes is answered yes

gives_protected : (h : Head) (demand : List ℕ) (failures : ℕ) (text : List ℕ) (is : IsProtectionText h.network h.routes demand failures text) →
    MeansRates h.routes text (Ok is.plan)
gives_protected h demand failures text is =
    subst (λ (t : List ℕ). MeansRates h.routes t (Ok is.plan)) (sym is.text_is) (text_means h.routes is.plan is.protects.valid)

protected_fits : (h : Head) (demand : List ℕ) (failures : ℕ) (text : List ℕ) → IsValidHead h → IsProtectionText h.network h.routes demand failures text →
    length text ≤ input_limit
protected_fits h demand failures text valid is =
    let short = rate_texts_are_short h.routes is.plan (head_has_few_pairs h valid) (head_has_few_paths h valid) is.protects.valid in
    let same = ap (λ (t : List ℕ). length t) is.text_is in
    omega (arith, short, same)

says_yes : (h : Head) (demand : List ℕ) (failures : ℕ) (text : List ℕ) (is : IsProtectionText h.network h.routes demand failures text) →
    (0 ≡ verdict_status Yes) × (verdict_line failures Yes ≡ verdict_line is.plan.failures Yes)
says_yes h demand failures text is = (refl, ap (λ n. verdict_line n Yes) (sym is.protects.failures))

answer_yes : (h : Head) (pairs : List Pair) (demand : List ℕ) (failures : ℕ) (text : List ℕ) (is : IsProtectionText h.network h.routes demand failures text) →
    IsProtectionAnswer h pairs demand failures 0 text → IsRatesAnswer h pairs demand is.plan 0 (verdict_line failures Yes)
answer_yes h pairs demand failures text is (inl (routed, also)) =
    inl (
      routed,
      subst (λ (v : RateVerdict). (0 ≡ verdict_status v) × (verdict_line failures Yes ≡ verdict_line is.plan.failures v))
          (sym (protection_is_yes h.network h.routes demand failures is.plan is.protects)) (says_yes h demand failures text is),
    )
answer_yes h pairs demand failures text is (inr (others, says)) = absurd (omega (arith, says.0))

rates_after : (h : Head) (series : Series) (content : List ℕ → Option (List ℕ)) (rates : List ℕ) (failures : ℕ) (text : List ℕ) (before : List FileRead) →
    IsValidHead h → content rates ≡ Some text → IsProtectionAnswer h series.pairs.list (first_matrix series).demand failures 0 text →
    MeansAfter (rates_reading rates h series) (told_passes content) before 0 (verdict_line failures Yes)
rates_after h series content rates failures text before valid told (inl (routed, (zero, is))) =
    let demand = (first_matrix series).demand in
    inr (
      is.plan,
      before,
      (text, told, protected_fits h demand failures text valid is, gives_protected h demand failures text is),
      (answer_yes h series.pairs.list demand failures text is (inl (routed, (zero, is))), tt),
    )
rates_after h series content rates failures text before valid told (inr (others, says)) = absurd (omega (arith, says.0))

pub protections_are_answered_yes : (content : List ℕ → Option (List ℕ)) (file matrices : List ℕ) (failures : ℕ) (rates text : List ℕ) →
    Means (reading_of (protect file matrices failures)) (told_files content) 0 text → content rates ≡ Some text →
    Means (reading_of (check_rates file matrices rates)) (told_files content) 0 (verdict_line failures Yes)
protections_are_answered_yes content file matrices failures rates text (inl (three, now, refused, ended)) told = absurd (omega (arith, three))
protections_are_answered_yes content file matrices failures rates text (inr (c, now, gives, inl (three, then, refused, ended))) told = absurd (omega (arith, three))
protections_are_answered_yes content file matrices failures rates text (inr (c, now, (bytes, told_as, few, spells), inr (series, then, makes, (is, ended)))) told =
    inr (
      c,
      now,
      (bytes, told_as, few, spells),
      inr (series, then, makes, rates_after c.head series content rates failures text then (spelled_head bytes c spells) told is),
    )
