-- What `attack` answers of a certificate: the file of a witness to which `check-witness` says yes.
use Rattle.std.proofs.Common.{◌≡◌, ◌≤◌, ℕ, List, [], length, Option, Some, None, inl, inr, refl, sym, ap, ◌∙◌, arith}
use Rattle.te_ports.specs.Record.{Read as FileRead}
use Rattle.te_model.specs.declared.certificate.Certificate.{Certificate}
use Rattle.te_model.specs.declared.certificate.Head.{Head}
use Rattle.te_model.specs.declared.certificate.RuleFault.{RuleFault}
use Rattle.te_model.specs.Text.{Spells, text as text_of}
use Rattle.te_model.specs.Validity.{IsValidHead}
use Rattle.text_size.proofs.ValidSizes.{fits_file}
use Rattle.mcf_lengths.proofs.Existence.{balanced_routings_exist, flow_plans_exist}
use Rattle.ratio_witness.specs.declared.witness.Witness.{Witness}
use Rattle.ratio_witness.specs.Answers.{verdict_line, verdict_status, yes_line, IsBoundVerdict}
use Rattle.ratio_witness.specs.Text.{witness_text, IsWitnessOf}
use Rattle.ratio_witness.specs.Verdict.{verdict_fault, verdict_of}
use Rattle.te_model.proofs.ValidHeads.{valid_without_blocks}
use Rattle.ratio_witness.proofs.WitnessSizes.{witness_texts_are_short}
use Rattle.witness_search.specs.Attack.{IsAttack}
use Rattle.witness_search.specs.Attempts.{RoutesBy, pairs_of}
use Rattle.witness_search.proofs.ChosenWitness.{chosen_yes}
use Rattle.witness_search.proofs.Existence.{attacks_exist}
use Rattle.experiment.specs.Schemes.{flow_scheme}
use Rattle.command_frame.specs.Files.{told_files, told_passes}
use Rattle.command_frame.specs.Reading.{Means, MeansAfter}
use Rattle.command_frame.specs.Sound.{IsSound, HasText}
use Rattle.command_frame.specs.Table.{IsSoundEntry}
use Rattle.certificate_commands.specs.Attack.{attack_entry, attack_of, IsFlowAttack, IsProvedAttack, IsWitnessedYes, SaysYesTo}
use Rattle.certificate_commands.specs.CheckWitness.{check_witness_entry, witness_reading, IsBoundProof}
use Rattle.command_files.specs.WitnessFile.{witness_limit}
use Rattle.certificate_commands.proofs.CheckingWitnesses.{verdict_proves}
use Rattle.command_files.proofs.Regular.{certificates_regular}
use Rattle.command_files.proofs.Streaming.{spelled_head}

-- ---- the verdict on a witness to which it is yes

attack_yes : (h : Head) (w : Witness) → IsValidHead h → IsAttack flow_scheme.is_plan flow_scheme.relates h w → verdict_fault h w ≡ None
attack_yes h w valid is = chosen_yes h (RoutesBy (flow_scheme.relates h.network (pairs_of h) is.plan)) w valid is.chosen

yes_verdict : (h : Head) (w : Witness) → verdict_fault h w ≡ None → IsBoundVerdict h w 0 (yes_line w.bound)
yes_verdict h w none = (
  sym (ap (λ (o : Option RuleFault). verdict_status (verdict_of o)) none),
  sym (ap (λ (o : Option RuleFault). verdict_line w.bound (verdict_of o)) none),
)

witness_fits : (h : Head) (w : Witness) (bytes : List ℕ) → IsValidHead h → IsWitnessOf h w → bytes ≡ witness_text w → length bytes ≤ witness_limit
witness_fits h w bytes valid is file =
    let short = witness_texts_are_short h w valid is in
    let same = ap (λ (text : List ℕ). length text) file in
    omega (arith, short, same)

pub yes_proof : (h : Head) (w : Witness) → IsValidHead h → IsWitnessOf h w → verdict_fault h w ≡ None → IsBoundProof h w
yes_proof h w valid is none = verdict_proves h w (yes_line w.bound) valid is.rules (yes_verdict h w none)

attack_proves : (h : Head) (text : List ℕ) → IsValidHead h → IsFlowAttack h text → IsProvedAttack h text
attack_proves h text valid (w, is, file) =
    record { witness = w; chosen = is; file = file; proof = yes_proof h w valid is.of_head (attack_yes h w valid is) }

-- ---- told a certificate and the file, `check-witness` says yes

yes_after : (h : Head) (w : Witness) (content : List ℕ → Option (List ℕ)) (name bytes : List ℕ) (before : List FileRead) → IsValidHead h →
    IsWitnessOf h w → verdict_fault h w ≡ None → bytes ≡ witness_text w → content name ≡ Some bytes →
    MeansAfter (witness_reading name h) (told_passes content) before 0 (yes_line w.bound)
yes_after h w content name bytes before valid is none file told =
    inr (w, before, (bytes, told, witness_fits h w bytes valid is file, (is, file)), (yes_verdict h w none, tt))

pub says_yes : (c : Certificate) (w : Witness) (content : List ℕ → Option (List ℕ)) (certificate name text bytes : List ℕ) → IsValidHead c.head →
    IsWitnessOf c.head w → verdict_fault c.head w ≡ None → Spells text c → content certificate ≡ Some text → bytes ≡ witness_text w →
    content name ≡ Some bytes → Means (check_witness_entry certificate name).reading (told_files content) 0 (yes_line w.bound)
says_yes c w content certificate name text bytes valid is none spells told file told_too =
    inr (c, [], (text, told, fits_file text c spells, spells), yes_after c.head w content name bytes [] valid is none file told_too)

pub yes_answered : (h : Head) (w : Witness) (text : List ℕ) → IsValidHead h → IsWitnessOf h w → verdict_fault h w ≡ None → text ≡ witness_text w →
    IsWitnessedYes text
yes_answered h w text valid is none file =
    let c : Certificate = record { head = h; blocks = [] } in
    record {
      fits = witness_fits h w text valid is file;
      head = h;
      valid = valid;
      witness = w;
      of_head = is;
      file = file;
      proof = yes_proof h w valid is none;
      answer = λ content certificate name told told_too. says_yes c w content certificate name (text_of c) text valid is none (valid_without_blocks h valid, refl) told file told_too;
    }

attack_answered : (h : Head) (text : List ℕ) → IsValidHead h → IsFlowAttack h text → IsWitnessedYes text
attack_answered h text valid (w, is, file) = yes_answered h w text valid is.of_head (attack_yes h w valid is) file

-- ---- the answers

attack_sound : (h : Head) → IsValidHead h → IsSound (λ s text. (s ≡ 0) × IsWitnessedYes text) (attack_of h)
attack_sound h valid = record {
  once = λ s t p q. p ∙ sym q;
  some = (0, refl);
  of_text = λ s text is. is.0;
  proves = λ text is. attack_proves h text valid is.1;
  form = λ s text is. (is.0, attack_answered h text valid is.1);
  accepted = λ text is. omega (arith, is.0);
}

pub attack_exists : (h : Head) → IsValidHead h → (text : List ℕ) × IsFlowAttack h text
attack_exists h valid =
    attacks_exist flow_scheme.is_plan flow_scheme.relates
    (λ net pairs formed are reached.
    let (plan, planned) = flow_plans_exist net pairs formed are reached in
    record {
      plan = plan;
      planned = planned;
      routings = λ demand of.
          let (routes, note, routing, few, balanced, low) = balanced_routings_exist net pairs plan demand formed planned of in
          (routes, note, routing, few, balanced);
    })
    h valid

attack_text : (h : Head) → IsValidHead h → HasText (attack_of h)
attack_text h valid = let (text, is) = attack_exists h valid in (0, text, (refl, is))

pub attack_is_sound : (file : List ℕ) → IsSoundEntry (attack_entry file)
attack_is_sound file = record {
  regular = (certificates_regular, λ c. tt);
  sound = λ bytes c spells. attack_sound c.head (spelled_head bytes c spells);
  one_text = λ is. absurd is;
  some_text = λ is bytes c spells. attack_text c.head (spelled_head bytes c spells);
}

-- what `attack` means of a told certificate is what `check-witness` says yes to
pub attacks_are_witnessed : (content : List ℕ → Option (List ℕ)) (file made text : List ℕ) → Means (attack_entry file).reading (told_files content) 0 text →
    content made ≡ Some text → (line : List ℕ) × SaysYesTo text line × Means (check_witness_entry file made).reading (told_files content) 0 line
attacks_are_witnessed content file made text (inl (three, now, refused, ended)) told = absurd (omega (arith, three))
attacks_are_witnessed content file made text (inr (c, now, (bytes, told_as, few, spells), ((zero_status, (w, is, file_is)), ended))) told = (
  yes_line w.bound,
  record { witness = w; file = file_is; line_is = refl },
  says_yes c w content file made bytes text (spelled_head bytes c spells) is.of_head (attack_yes c.head w (spelled_head bytes c spells) is) spells told_as file_is told,
)
