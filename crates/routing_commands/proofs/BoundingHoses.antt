-- What `hose` answers: the file of a hose certificate, by whose bound the routing is bounded.
use Rattle.std.proofs.Common.{◌≡◌, ℕ, List, Option, Some, None, Result, Ok, length, refl, sym, subst, ap, ◌∙◌, arith}
use Rattle.te_model.specs.declared.certificate.Head.{Head}
use Rattle.te_model.specs.declared.certificate.RuleFault.{RuleFault}
use Rattle.te_model.specs.declared.network.Network.{Network}
use Rattle.te_model.specs.Network.{node_count}
use Rattle.te_model.specs.Validity.{IsValidHead}
use Rattle.hose_bound.specs.declared.fault.HoseFault.{HoseFault}
use Rattle.hose_bound.specs.declared.hose.Hose.{Hose}
use Rattle.hose_bound.specs.Answers.{IsHoseText}
use Rattle.hose_bound.specs.Files.{hose_cert_text}
use Rattle.hose_bound.specs.Reading.{MeansHose, hose_misshaped, hose_spelled, read_unless}
use Rattle.hose_bound.specs.Rules.{IsValidHose, hose_fault}
use Rattle.hose_bound.proofs.Answered.{hose_text_is}
use Rattle.hose_bound.proofs.Meaning.{hoses_have_one_meaning}
use Rattle.hose_bound.proofs.ShortTexts.{hose_texts_are_short}
use Rattle.hose_bound.proofs.SomeCert.{hose_certs_exist}
use Rattle.te_model.proofs.ValidHeads.{head_routing}
use Rattle.witness_search.proofs.Heads.{head_pairs}
use Rattle.command_frame.specs.Sound.{HasText, IsSound}
use Rattle.command_frame.specs.Table.{IsSoundEntry}
use Rattle.routing_commands.specs.BoundHose.{bound_hose_entry, bounding_of, IsTextOfCert}
use Rattle.command_files.specs.HoseFile.{hose_reason}
use Rattle.command_files.proofs.Regular.{certificates_regular, meant_regular}
use Rattle.command_files.proofs.Streaming.{spelled_head}
use Rattle.ratio_checker.proofs.FormedHeads.{head_formed}

-- the hose that bytes mean keeps K1
meant_is_valid : (net : Network) (bytes : List ℕ) (hose : Hose) → MeansHose net bytes (Ok hose) → IsValidHose (node_count net) hose
meant_is_valid net bytes hose (hose_misshaped k leaves gives) = cc
meant_is_valid net bytes hose (hose_spelled h spells gives) = go (hose_fault (node_count net) h) refl gives
  where
    go : (o : Option RuleFault) → hose_fault (node_count net) h ≡ o → ◌≡◌ {A = Result Hose HoseFault} (Ok hose) (read_unless o h) → IsValidHose (node_count net) hose
    go None none e =
        let same : h ≡ hose = cc in
        subst (IsValidHose (node_count net)) same (record { shaped = spells.0; no_fault = none })
    go (Some f) some e = cc

hose_form : (h : Head) (hose : Hose) (text : List ℕ) → IsValidHead h → IsHoseText h.network h.routes hose text → IsTextOfCert text
hose_form h hose text valid is =
    let few = hose_texts_are_short h.network is.cert (head_formed h valid) is.made.valid in
    let same = ap (λ (t : List ℕ). length t) is.text_is in
    record { cert = is.cert; text_is = is.text_is; short = omega (arith, few, same) }

hose_text_sound : (h : Head) (hose : Hose) → IsValidHead h → IsSound (λ s text. (s ≡ 0) × IsTextOfCert text) (bounding_of h hose)
hose_text_sound h hose valid = record {
  once = λ s t p q. p ∙ sym q;
  some = (0, refl);
  of_text = λ s text is. is.0;
  proves = λ text is. is.1;
  form = λ s text is. (is.0, hose_form h hose text valid is.1);
  accepted = λ text is. omega (arith, is.0);
}

hose_text_of : (h : Head) (hose : Hose) → IsValidHead h → IsValidHose (node_count h.network) hose → HasText (bounding_of h hose)
hose_text_of h hose valid kept =
    let made = hose_certs_exist h.network h.routes hose (head_formed h valid) (head_routing h valid) (head_pairs h valid) kept in
    (0, hose_cert_text made.0, (refl, hose_text_is h.network h.routes hose made.0 (head_pairs h valid) made.1))

pub bound_hose_is_sound : (certificate bounds : List ℕ) → IsSoundEntry (bound_hose_entry certificate bounds)
bound_hose_is_sound certificate bounds = record {
  regular = (certificates_regular, λ c. (meant_regular hose_reason (MeansHose c.head.network) (hoses_have_one_meaning c.head.network), λ hose. tt));
  sound = λ bytes c spells lines hose means. hose_text_sound c.head hose (spelled_head bytes c spells);
  one_text = λ is. absurd is;
  some_text = λ is bytes c spells lines hose means.
      hose_text_of c.head hose (spelled_head bytes c spells) (meant_is_valid c.head.network lines hose means);
}
