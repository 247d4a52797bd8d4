-- What `protect` answers: rates that survive, or that the declared pairs are others.
use Rattle.std.proofs.Common.{◌≡◌, ◌⊎◌, ◌≤◌, ℕ, List, length, inl, inr, refl, sym, ap, ◌∙◌, arith}
use Rattle.te_model.specs.declared.certificate.Head.{Head}
use Rattle.te_model.specs.declared.route.Pair.{Pair}
use Rattle.te_model.specs.Network.{node_count}
use Rattle.te_model.specs.Validity.{IsValidHead}
use Rattle.traffic_matrix.specs.First.{first_matrix}
use Rattle.traffic_matrix.specs.Limits.{IsSeries}
use Rattle.traffic_matrix.specs.Rows.{series_in}
use Rattle.traffic_matrix.specs.declared.series.Series.{Series}
use Rattle.traffic_matrix.proofs.FirstMatrix.{first_demands}
use Rattle.te_model.proofs.ValidHeads.{head_routing}
use Rattle.ratio_checker.proofs.FormedHeads.{head_formed}
use Rattle.fault_rates.specs.Answers.{IsProtectionAnswer, SaysNoPairs}
use Rattle.fault_rates.specs.Plan.{protection_by}
use Rattle.fault_rates.proofs.ShortTexts.{rate_texts_are_short}
use Rattle.fault_rates.proofs.SomeAnswers.{answers_exist}
use Rattle.fault_rates.proofs.Survival.{survives}
use Rattle.command_frame.specs.Sound.{HasText, IsSound}
use Rattle.command_frame.specs.Table.{IsSoundEntry}
use Rattle.command_files.specs.MatrixFile.{matrices_reason}
use Rattle.routing_commands.specs.Protect.{grants_for, protect_entry, IsProtectionStatus, IsProvedProtection, IsTextOfRates}
use Rattle.routing_commands.proofs.HeadCounts.{head_has_few_pairs, head_has_few_paths}
use Rattle.command_files.proofs.PlanFiles.{series_in_range}
use Rattle.command_files.proofs.Regular.{certificates_regular, inputs_regular}
use Rattle.command_files.proofs.Streaming.{spelled_head}

-- the status is 1 with its line, or 0 with a text of rates
protection_form : (h : Head) (pairs : List Pair) (demand : List ℕ) (failures s : ℕ) (text : List ℕ) → IsValidHead h →
    IsProtectionAnswer h pairs demand failures s text → SaysNoPairs s text ⊎ ((s ≡ 0) × IsTextOfRates failures text)
protection_form h pairs demand failures s text valid (inl (routed, (zero, is))) =
    let few = rate_texts_are_short h.routes is.plan (head_has_few_pairs h valid) (head_has_few_paths h valid) is.protects.valid in
    let same = ap (λ (t : List ℕ). length t) is.text_is in
    inr (zero, record { plan = is.plan; failures_are = is.protects.failures; text_is = is.text_is; short = omega (arith, few, same) })
protection_form h pairs demand failures s text valid (inr (others, says)) = inl says

pub protection_small : (h : Head) (pairs : List Pair) (demand : List ℕ) (failures s : ℕ) (text : List ℕ) → IsProtectionAnswer h pairs demand failures s text → s ≤ 1
protection_small h pairs demand failures s text (inl (routed, (zero, is))) = omega (arith, zero)
protection_small h pairs demand failures s text (inr (others, says)) = omega (arith, says.0)

protection_proves : (h : Head) (pairs : List Pair) (demand : List ℕ) (failures : ℕ) (text : List ℕ) → IsProtectionAnswer h pairs demand failures 0 text →
    IsProvedProtection h pairs demand failures text
protection_proves h pairs demand failures text (inl (routed, (zero, is))) = record {
  plan = is.plan;
  protects = is.protects;
  text_is = is.text_is;
  proof = record {
    pairs_agree = routed;
    wanted = is.protects.guarded.wanted;
    survive = survives (protection_by h.network h.routes demand is.plan) is.protects.guarded;
  };
}
protection_proves h pairs demand failures text (inr (others, says)) = absurd (omega (arith, says.0))

protection_status : (h : Head) (pairs : List Pair) (demand : List ℕ) (failures s : ℕ) (text : List ℕ) → IsProtectionAnswer h pairs demand failures s text →
    IsProtectionStatus h pairs s
protection_status h pairs demand failures s text (inl (routed, (zero, is))) = inl (zero, routed)
protection_status h pairs demand failures s text (inr (others, says)) = inr (says.0, others)

status_once : (h : Head) (pairs : List Pair) (s t : ℕ) → IsProtectionStatus h pairs s → IsProtectionStatus h pairs t → s ≡ t
status_once h pairs s t (inl p) (inl q) = p.0 ∙ sym q.0
status_once h pairs s t (inl p) (inr q) = absurd (q.1 p.1)
status_once h pairs s t (inr p) (inl q) = absurd (p.1 q.1)
status_once h pairs s t (inr p) (inr q) = p.0 ∙ sym q.0

some_status : (h : Head) (pairs : List Pair) → IsValidHead h → (s : ℕ) × IsProtectionStatus h pairs s
some_status h pairs valid = elim (answers_exist.routed h pairs (head_routing h valid)) [
  | inl routed ↦ (0, inl (refl, routed))
  | inr others ↦ (1, inr (refl, others))
]

protect_sound : (h : Head) (series : Series) (failures : ℕ) → IsValidHead h →
    IsSound (λ s text. SaysNoPairs s text ⊎ ((s ≡ 0) × IsTextOfRates failures text)) (grants_for h series failures)
protect_sound h series failures valid =
    let pairs = series.pairs.list in
    let demand = (first_matrix series).demand in
    record {
      once = λ s t p q. status_once h pairs s t p q;
      some = some_status h pairs valid;
      of_text = λ s text is. protection_status h pairs demand failures s text is;
      proves = λ text is. protection_proves h pairs demand failures text is;
      form = λ s text is. protection_form h pairs demand failures s text valid is;
      accepted = λ text is. let small = protection_small h pairs demand failures 3 text is in omega arith;
    }

protect_text_of : (h : Head) (series : Series) (failures : ℕ) → IsValidHead h → IsSeries (node_count h.network) series → failures ≤ 8 →
    HasText (grants_for h series failures)
protect_text_of h series failures valid is few =
    answers_exist.demands h series.pairs.list (first_matrix series).demand failures (head_routing h valid) (first_demands (node_count h.network) series is) few

pub protect_is_sound : (certificate file : List ℕ) (failures : ℕ) → IsSoundEntry (protect_entry certificate file failures)
protect_is_sound certificate file failures = record {
  regular = (certificates_regular, λ c. (inputs_regular matrices_reason (series_in c.head.network), λ series. tt));
  sound = λ bytes c spells rows series makes. protect_sound c.head series failures (spelled_head bytes c spells);
  one_text = λ is. absurd is;
  some_text = λ few bytes c spells rows series makes.
      let valid = spelled_head bytes c spells in
      protect_text_of c.head series failures valid (series_in_range rows c.head.network series (head_formed c.head valid) makes) few;
}
