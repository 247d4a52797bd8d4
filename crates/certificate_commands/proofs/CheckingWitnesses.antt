-- What `check-witness` answers of a certificate and a witness: one text, and a yes is a proof.
use Rattle.std.proofs.Common.{◌≡◌, ◌≤◌, ℕ, List, refl, sym, ◌∙◌, arith}
use Rattle.te_model.specs.declared.certificate.Head.{Head}
use Rattle.te_model.specs.Validity.{IsValidHead}
use Rattle.ratio_witness.specs.declared.verdict.WitnessVerdict.{WitnessVerdict}
use Rattle.ratio_witness.specs.declared.verdict.WitnessVerdict.TheVariants.{Yes, No}
use Rattle.ratio_witness.specs.declared.witness.Witness.{Witness}
use Rattle.ratio_witness.specs.Answers.{IsBoundVerdict, verdict_line, verdict_status}
use Rattle.ratio_witness.specs.Rules.{KeepsRules}
use Rattle.ratio_witness.specs.Verdict.{verdict_fault, verdict_of}
use Rattle.ratio_witness.proofs.KeptRules.{is_rival}
use Rattle.ratio_witness.proofs.Verdicts.{yes_is_member, yes_shows}
use Rattle.command_frame.specs.Sound.{IsSound}
use Rattle.command_frame.specs.Table.{IsSoundEntry}
use Rattle.certificate_commands.specs.CheckWitness.{bound_verdict_on, check_witness_entry, IsBoundProof}
use Rattle.command_files.proofs.Regular.{certificates_regular}
use Rattle.command_files.proofs.Streaming.{spelled_head}
use Rattle.command_files.proofs.WitnessFiles.{witnesses_regular}

status_small : (v : WitnessVerdict) → verdict_status v ≤ 1
status_small Yes = omega arith
status_small (No rule place) = omega arith

is_yes : (v : WitnessVerdict) → 0 ≡ verdict_status v → v ≡ Yes
is_yes Yes e = refl
is_yes (No rule place) e = absurd (omega (arith, e))

verdict_once : (h : Head) (w : Witness) (s t : ℕ) (x y : List ℕ) → IsBoundVerdict h w s x → IsBoundVerdict h w t y → (s ≡ t) × (x ≡ y)
verdict_once h w s t x y p q = (p.0 ∙ sym q.0, p.1 ∙ sym q.1)

verdict_some : (h : Head) (w : Witness) → (s : ℕ) × (text : List ℕ) × IsBoundVerdict h w s text
verdict_some h w = let v = verdict_of (verdict_fault h w) in (verdict_status v, verdict_line w.bound v, (refl, refl))

verdict_small : (h : Head) (w : Witness) (s : ℕ) (text : List ℕ) → IsBoundVerdict h w s text → s ≤ 1
verdict_small h w s text is = let small = status_small (verdict_of (verdict_fault h w)) in let same = is.0 in omega (arith, small, same)

-- a yes is a proof
pub verdict_proves : (h : Head) (w : Witness) (text : List ℕ) → IsValidHead h → KeepsRules h w → IsBoundVerdict h w 0 text → IsBoundProof h w
verdict_proves h w text valid keeps is =
    let says = is_yes (verdict_of (verdict_fault h w)) is.0 in
    record { member = yes_is_member h w keeps says; rival = is_rival h w keeps; bound = yes_shows h w valid keeps says }

verdict_sound : (h : Head) (w : Witness) → IsValidHead h → KeepsRules h w → IsSound (λ s text. s ≤ 1) (bound_verdict_on h w)
verdict_sound h w valid keeps = record {
  once = λ s t p q. (verdict_once h w s t p.0 q.0 p.1 q.1).0;
  some = let is = verdict_some h w in (is.0, (is.1, is.2));
  of_text = λ s text is. (text, is);
  proves = λ text is. verdict_proves h w text valid keeps is;
  form = λ s text is. verdict_small h w s text is;
  accepted = λ text is. let small = verdict_small h w 3 text is in omega arith;
}

pub check_witness_is_sound : (file witness : List ℕ) → IsSoundEntry (check_witness_entry file witness)
check_witness_is_sound file witness = record {
  regular = (certificates_regular, λ c. (witnesses_regular c.head, λ w. tt));
  sound = λ bytes c spells lines w is. verdict_sound c.head w (spelled_head bytes c spells) is.0.rules;
  one_text = λ is bytes c spells lines w gives s t x y p q. (verdict_once c.head w s t x y p q).1;
  some_text = λ is bytes c spells lines w gives. verdict_some c.head w;
}
