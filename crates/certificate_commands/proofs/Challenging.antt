-- What `challenge` answers of a certificate: the file of a witness to which `check-witness` says yes, no less than one of `attack`.
use Rattle.std.proofs.Common.{◌≡◌, ℕ, List, Option, Some, inl, inr, refl, sym, ◌∙◌, arith}
use Rattle.te_model.specs.declared.certificate.Head.{Head}
use Rattle.te_model.specs.Validity.{IsValidHead}
use Rattle.ratio_witness.specs.Answers.{yes_line}
use Rattle.ratio_witness.specs.Text.{witness_text}
use Rattle.witness_search.specs.Attempts.{RoutesBy, pairs_of}
use Rattle.witness_search.proofs.ChosenWitness.{chosen_yes}
use Rattle.witness_search.proofs.Raising.{raised_self}
use Rattle.experiment.specs.Schemes.{flow_scheme}
use Rattle.command_frame.specs.Files.{told_files}
use Rattle.command_frame.specs.Reading.{Means}
use Rattle.command_frame.specs.Sound.{IsSound, HasText}
use Rattle.command_frame.specs.Table.{IsSoundEntry}
use Rattle.certificate_commands.specs.Attack.{IsWitnessedYes, SaysYesTo, attack_entry}
use Rattle.certificate_commands.specs.Challenge.{challenge_entry, challenge_of, IsFlowChallenge, IsProvedChallenge, ShowsNoLess}
use Rattle.certificate_commands.specs.CheckWitness.{check_witness_entry}
use Rattle.certificate_commands.proofs.Attacking.{attack_exists, says_yes, yes_answered, yes_proof}
use Rattle.command_files.proofs.Regular.{certificates_regular}
use Rattle.command_files.proofs.Streaming.{spelled_head}

challenge_proves : (h : Head) (text : List ℕ) → IsValidHead h → IsFlowChallenge h text → IsProvedChallenge h text
challenge_proves h text valid (w, is, file) =
    record { witness = w; challenge = is; file = file; proof = yes_proof h w valid is.raised.of_head is.raised.yes }

challenge_answered : (h : Head) (text : List ℕ) → IsValidHead h → IsFlowChallenge h text → IsWitnessedYes text
challenge_answered h text valid (w, is, file) = yes_answered h w text valid is.raised.of_head is.raised.yes file

challenge_sound : (h : Head) → IsValidHead h → IsSound (λ s text. (s ≡ 0) × IsWitnessedYes text) (challenge_of h)
challenge_sound h valid = record {
  once = λ s t p q. p ∙ sym q;
  some = (0, refl);
  of_text = λ s text is. is.0;
  proves = λ text is. challenge_proves h text valid is.1;
  form = λ s text is. (is.0, challenge_answered h text valid is.1);
  accepted = λ text is. omega (arith, is.0);
}

-- a witness that an attack chooses is one
challenge_exists : (h : Head) → IsValidHead h → (text : List ℕ) × IsFlowChallenge h text
challenge_exists h valid =
    let (text, (w, is, file)) = attack_exists h valid in
    let Routes = RoutesBy (flow_scheme.relates h.network (pairs_of h) is.plan) in
    (text, (w, record { own = w; attack = is; raised = raised_self h Routes w is.of_head (chosen_yes h Routes w valid is.chosen) }, file))

challenge_text : (h : Head) → IsValidHead h → HasText (challenge_of h)
challenge_text h valid = let (text, is) = challenge_exists h valid in (0, text, (refl, is))

pub challenge_is_sound : (file : List ℕ) → IsSoundEntry (challenge_entry file)
challenge_is_sound file = record {
  regular = (certificates_regular, λ c. tt);
  sound = λ bytes c spells. challenge_sound c.head (spelled_head bytes c spells);
  one_text = λ is. absurd is;
  some_text = λ is bytes c spells. challenge_text c.head (spelled_head bytes c spells);
}

-- what `challenge` means of a told certificate is what `check-witness` says yes to
pub challenges_are_witnessed : (content : List ℕ → Option (List ℕ)) (file made text : List ℕ) → Means (challenge_entry file).reading (told_files content) 0 text →
    content made ≡ Some text → (line : List ℕ) × SaysYesTo text line × Means (check_witness_entry file made).reading (told_files content) 0 line
challenges_are_witnessed content file made text (inl (three, now, refused, ended)) told = absurd (omega (arith, three))
challenges_are_witnessed content file made text (inr (c, now, (bytes, told_as, few, spells), ((zero_status, (w, is, file_is)), ended))) told = (
  yes_line w.bound,
  record { witness = w; file = file_is; line_is = refl },
  says_yes c w content file made bytes text (spelled_head bytes c spells) is.raised.of_head is.raised.yes spells told_as file_is told,
)

-- and has no lesser bound than what `attack` means of it
pub challenges_show_no_less : (content : List ℕ → Option (List ℕ)) (file text : List ℕ) → Means (challenge_entry file).reading (told_files content) 0 text →
    (own : List ℕ) × Means (attack_entry file).reading (told_files content) 0 own × ShowsNoLess own text
challenges_show_no_less content file text (inl (three, now, refused, ended)) = absurd (omega (arith, three))
challenges_show_no_less content file text (inr (c, now, (bytes, told_as, few, spells), ((zero_status, (w, is, file_is)), ended))) = (
  witness_text is.own,
  inr (c, now, (bytes, told_as, few, spells), ((refl, (is.own, is.attack, refl)), ended)),
  record { own = is.own; witness = w; own_file = refl; file = file_is; no_less = is.raised.no_less },
)
