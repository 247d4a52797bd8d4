-- What `check-hose` answers: one text, and a yes proves that the routing is bounded.
use Rattle.std.proofs.Common.{◌≡◌, ◌≤◌, ℕ, List, refl, sym, ◌∙◌, arith}
use Rattle.te_model.specs.declared.certificate.Head.{Head}
use Rattle.te_model.specs.Validity.{IsValidHead}
use Rattle.hose_bound.specs.declared.hose.HoseCert.{HoseCert}
use Rattle.hose_bound.specs.declared.verdict.HoseVerdict.{HoseVerdict}
use Rattle.hose_bound.specs.declared.verdict.HoseVerdict.TheVariants.{Yes, No}
use Rattle.hose_bound.specs.Answers.{IsBoundedBy, IsHoseVerdict, hose_verdict, verdict_line, verdict_status}
use Rattle.hose_bound.specs.Reading.{MeansHoseCert}
use Rattle.hose_bound.proofs.Answered.{answered_bound}
use Rattle.hose_bound.proofs.Meaning.{hose_certs_have_one_meaning}
use Rattle.witness_search.proofs.Heads.{head_pairs}
use Rattle.command_frame.specs.Sound.{IsSound}
use Rattle.command_frame.specs.Table.{IsSoundEntry}
use Rattle.routing_commands.specs.CheckHose.{check_hose_entry, hose_verdict_on}
use Rattle.command_files.specs.HoseFile.{hose_reason}
use Rattle.command_files.proofs.Regular.{certificates_regular, meant_regular}
use Rattle.command_files.proofs.Streaming.{spelled_head}

status_small : (v : HoseVerdict) → verdict_status v ≤ 1
status_small Yes = omega arith
status_small (No link rule place) = omega arith

pub hose_small : (h : Head) (c : HoseCert) (s : ℕ) (text : List ℕ) → IsHoseVerdict h c s text → s ≤ 1
hose_small h c s text is = let small = status_small (hose_verdict h.network h.routes c) in let same = is.0 in omega (arith, small, same)

hose_once : (h : Head) (c : HoseCert) (s t : ℕ) (x y : List ℕ) → IsHoseVerdict h c s x → IsHoseVerdict h c t y → (s ≡ t) × (x ≡ y)
hose_once h c s t x y p q = (p.0 ∙ sym q.0, p.1 ∙ sym q.1)

hose_some : (h : Head) (c : HoseCert) → (s : ℕ) × (text : List ℕ) × IsHoseVerdict h c s text
hose_some h c = let v = hose_verdict h.network h.routes c in (verdict_status v, verdict_line c.bound v, (refl, refl))

-- a yes is a proof
hose_proves : (h : Head) (c : HoseCert) (text : List ℕ) → IsValidHead h → IsHoseVerdict h c 0 text → IsBoundedBy h.network h.routes c
hose_proves h c text valid is =
    answered_bound h.network h.routes c (hose_verdict h.network h.routes c) (head_pairs h valid) refl (sym is.0)

hose_sound : (h : Head) (c : HoseCert) → IsValidHead h → IsSound (λ s text. s ≤ 1) (hose_verdict_on h c)
hose_sound h c valid = record {
  once = λ s t p q. (hose_once h c s t p.0 q.0 p.1 q.1).0;
  some = let is = hose_some h c in (is.0, (is.1, is.2));
  of_text = λ s text is. (text, is);
  proves = λ text is. hose_proves h c text valid is;
  form = λ s text is. hose_small h c s text is;
  accepted = λ text is. let small = hose_small h c 3 text is in omega arith;
}

pub check_hose_is_sound : (certificate file : List ℕ) → IsSoundEntry (check_hose_entry certificate file)
check_hose_is_sound certificate file = record {
  regular = (certificates_regular, λ c. (meant_regular hose_reason (MeansHoseCert c.head.network) (hose_certs_have_one_meaning c.head.network), λ hose. tt));
  sound = λ bytes c spells lines hose means. hose_sound c.head hose (spelled_head bytes c spells);
  one_text = λ is bytes c spells lines hose means s t x y p q. (hose_once c.head hose s t x y p q).1;
  some_text = λ is bytes c spells lines hose means. hose_some c.head hose;
}
