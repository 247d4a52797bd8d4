-- What `update` answers of two certificates and matrices: one text, which at status 0 is that of a safe plan.
use Rattle.std.proofs.Common.{◌≡◌, ◌⊎◌, ◌≤◌, ℕ, List, inl, inr, arith}
use Rattle.te_model.specs.declared.certificate.Head.{Head}
use Rattle.te_model.specs.declared.route.Pair.{Pair}
use Rattle.te_model.specs.Validity.{IsValidHead}
use Rattle.traffic_matrix.specs.First.{first_matrix}
use Rattle.traffic_matrix.specs.Rows.{series_in}
use Rattle.traffic_matrix.specs.declared.series.Series.{Series}
use Rattle.update_plan.specs.Answer.{IsUpdateText}
use Rattle.update_plan.proofs.OneAnswer.{one_answer}
use Rattle.update_plan.proofs.SomeAnswer.{some_answer}
use Rattle.te_model.proofs.ValidHeads.{head_routing}
use Rattle.command_frame.specs.Sound.{HasText, IsSound}
use Rattle.command_frame.specs.Table.{IsSoundEntry}
use Rattle.command_files.specs.MatrixFile.{matrices_reason}
use Rattle.routing_commands.specs.Update.{IsSafeUpdate, IsTextOfPlan, update_between, update_entry}
use Rattle.command_files.proofs.Regular.{certificates_regular, inputs_regular}
use Rattle.command_files.proofs.Streaming.{spelled_head}

-- the status is 1, or 0 with the text of a plan
answer_form : (old new : Head) (pairs : List Pair) (demand : List ℕ) (s : ℕ) (text : List ℕ) → IsUpdateText old new pairs demand s text →
    (s ≡ 1) ⊎ ((s ≡ 0) × IsTextOfPlan text)
answer_form old new pairs demand s text (inl (apart, is, line)) = inl is
answer_form old new pairs demand s text (inr (inl (same, differ, is, line))) = inl is
answer_form old new pairs demand s text (inr (inr (same, have, inl is))) =
    inr (is.status_is, record { plan = is.plan; some = is.is_plan.1.some; few = is.is_plan.1.few; text_is = is.text_is })
answer_form old new pairs demand s text (inr (inr (same, have, inr is))) = inl is.status_is

one_or_zero : (s : ℕ) (text : List ℕ) → (s ≡ 1) ⊎ ((s ≡ 0) × IsTextOfPlan text) → s ≤ 1
one_or_zero s text (inl one) = omega (arith, one)
one_or_zero s text (inr zero) = omega (arith, zero.0)

pub answer_small : (old new : Head) (pairs : List Pair) (demand : List ℕ) (s : ℕ) (text : List ℕ) → IsUpdateText old new pairs demand s text → s ≤ 1
answer_small old new pairs demand s text is = one_or_zero s text (answer_form old new pairs demand s text is)

-- a text at status 0 is that of a safe plan
answer_proves : (old new : Head) (pairs : List Pair) (demand text : List ℕ) → IsUpdateText old new pairs demand 0 text → IsSafeUpdate old new pairs demand text
answer_proves old new pairs demand text (inl (apart, is, line)) = absurd (omega (arith, is))
answer_proves old new pairs demand text (inr (inl (same, differ, is, line))) = absurd (omega (arith, is))
answer_proves old new pairs demand text (inr (inr (same, have, inl is))) =
    record { networks_agree = same; pairs_agree = have; plan = is.plan; is_plan = is.is_plan; text_is = is.text_is }
answer_proves old new pairs demand text (inr (inr (same, have, inr is))) = let other = is.status_is in absurd (omega (arith, other))

update_text_of : (old new : Head) (series : Series) → IsValidHead old → IsValidHead new → HasText (update_between old new series)
update_text_of old new series valid valid' =
    some_answer old new series.pairs.list (first_matrix series).demand (head_routing old valid) (head_routing new valid')

update_sound : (old new : Head) (series : Series) → IsValidHead old → IsValidHead new →
    IsSound (λ s text. (s ≡ 1) ⊎ ((s ≡ 0) × IsTextOfPlan text)) (update_between old new series)
update_sound old new series valid valid' =
    let pairs = series.pairs.list in
    let demand = (first_matrix series).demand in
    record {
      once = λ s t p q. (one_answer old new pairs demand s t p.0 q.0 p.1 q.1).0;
      some = let is = update_text_of old new series valid valid' in (is.0, (is.1, is.2));
      of_text = λ s text is. (text, is);
      proves = λ text is. answer_proves old new pairs demand text is;
      form = λ s text is. answer_form old new pairs demand s text is;
      accepted = λ text is. let small = answer_small old new pairs demand 3 text is in omega arith;
    }

pub update_is_sound : (old new file : List ℕ) → IsSoundEntry (update_entry old new file)
update_is_sound old new file = record {
  regular = (certificates_regular, λ c. (certificates_regular, λ d. (inputs_regular matrices_reason (series_in c.head.network), λ series. tt)));
  sound = λ bytes c spells lines d spelled rows series makes. update_sound c.head d.head series (spelled_head bytes c spells) (spelled_head lines d spelled);
  one_text = λ is bytes c spells lines d spelled rows series makes s t x y p q.
      (one_answer c.head d.head series.pairs.list (first_matrix series).demand s t x y p q).1;
  some_text = λ is bytes c spells lines d spelled rows series makes.
      update_text_of c.head d.head series (spelled_head bytes c spells) (spelled_head lines d spelled);
}
