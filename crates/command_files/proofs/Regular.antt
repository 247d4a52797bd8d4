-- The files of each kind are read in one way.
use Rattle.std.proofs.Common.{◌≡◌, ◌⊎◌, ℕ, List, codes, Result, Ok, Err, inl, inr, refl, sym, ap, ◌∙◌}
use Rattle.te_model.specs.declared.certificate.Certificate.{Certificate}
use Rattle.te_model.specs.declared.certificate.RuleFault.{RuleFault}
use Rattle.te_model.specs.Text.{Spells}
use Rattle.te_model.specs.Faults.{IsShapeFault, IsRuleFault}
use Rattle.cert_text.proofs.Laws.{one_spelling, one_fault, one_rule_fault, spelled_or_ruled, some_reading}
use Rattle.command_files.specs.CertificateFile.{certificates, GivesCertificate}
use Rattle.command_files.specs.InputFile.{inputs, inputs_meant, in_words, GivesMeant}
use Rattle.command_files.specs.Refusals.{shape_reason, rule_reason}
use Rattle.command_files.specs.Limits.{certificate_limits, input_limits}
use Rattle.command_frame.specs.Sound.{IsRegular}

fault_once : (bytes x y : List ℕ) → GivesCertificate bytes (Err x) → GivesCertificate bytes (Err y) → x ≡ y
fault_once bytes x y (inl p) (inl q) = p.2 ∙ ap shape_reason (one_fault bytes p.0 q.0 p.1 q.1) ∙ sym q.2
fault_once bytes x y (inl p) (inr q) = absurd (p.1.no_file q.1.spelled q.1.shaped q.1.file)
fault_once bytes x y (inr p) (inl q) = absurd (q.1.no_file p.1.spelled p.1.shaped p.1.file)
fault_once bytes x y (inr p) (inr q) = p.2 ∙ ap (rule_reason (codes "V")) (one_rule_fault bytes p.0 q.0 p.1 q.1) ∙ sym q.2

-- a file that spells a certificate is not refused
pub spelled_accepted : (bytes : List ℕ) (c : Certificate) (x : List ℕ) → Spells bytes c → GivesCertificate bytes (Err x) → ⊥
spelled_accepted bytes c x spells (inl p) = p.1.no_file c spells.0.0 spells.1
spelled_accepted bytes c x spells (inr p) = spelled_or_ruled bytes c p.0 spells p.1

certificate_once : (bytes : List ℕ) (x y : Result Certificate (List ℕ)) → GivesCertificate bytes x → GivesCertificate bytes y → x ≡ y
certificate_once bytes (Ok c) (Ok d) p q = ap Ok (one_spelling bytes c d p q)
certificate_once bytes (Ok c) (Err y) p q = absurd (spelled_accepted bytes c y p q)
certificate_once bytes (Err x) (Ok d) p q = absurd (spelled_accepted bytes d x q p)
certificate_once bytes (Err x) (Err y) p q = ap Err (fault_once bytes x y p q)

certificate_some : (bytes : List ℕ) → ((c : Certificate) × Spells bytes c) ⊎ (((k : ℕ) × IsShapeFault bytes k) ⊎ ((f : RuleFault) × IsRuleFault bytes f)) →
    (x : Result Certificate (List ℕ)) × GivesCertificate bytes x
certificate_some bytes (inl c) = (Ok c.0, c.1)
certificate_some bytes (inr (inl k)) = (Err (shape_reason k.0), inl (k.0, k.1, refl))
certificate_some bytes (inr (inr f)) = (Err (rule_reason (codes "V") f.0), inr (f.0, f.1, refl))

pub certificates_regular : IsRegular certificates
certificates_regular = record { limited = certificate_limits; once = certificate_once; some = λ bytes. certificate_some bytes (some_reading bytes) }

-- what a function of the bytes reads is read in one way
pub inputs_regular : {A F : Type 0} (reason : F → List ℕ) (reader : List ℕ → Result A F) → IsRegular (inputs reason reader)
inputs_regular reason reader = record { limited = input_limits; once = λ bytes x y p q. sym p ∙ q; some = λ bytes. (in_words reason (reader bytes), refl) }

-- ---- what bytes mean, in one way

module _ {A F : Type 0} (reason : F → List ℕ) (Means : List ℕ → Result A F → Type 0)
    (one : (bytes : List ℕ) → (answer : Result A F) × Means bytes answer × ((other : Result A F) → Means bytes other → answer ≡ other)) where
  same_meaning : (bytes : List ℕ) (x y : Result A F) → Means bytes x → Means bytes y → x ≡ y
  same_meaning bytes x y means also = let is = one bytes in sym (is.2 x means) ∙ is.2 y also

  value_or_fault : (value : A) (fault : F) → ◌≡◌ {A = Result A F} (Ok value) (Err fault) → ⊥
  value_or_fault value fault same = cc

  meant_once : (bytes : List ℕ) (x y : Result A (List ℕ)) → GivesMeant reason Means bytes x → GivesMeant reason Means bytes y → x ≡ y
  meant_once bytes (Ok p) (Ok q) means also = ap (in_words reason) (same_meaning bytes (Ok p) (Ok q) means also)
  meant_once bytes (Ok p) (Err y) means (f, also, is) = absurd (value_or_fault p f (same_meaning bytes (Ok p) (Err f) means also))
  meant_once bytes (Err x) (Ok q) (f, means, is) also = absurd (value_or_fault q f (same_meaning bytes (Ok q) (Err f) also means))
  meant_once bytes (Err x) (Err y) (f, means, is) (g, also, too) =
      ap Err is ∙ (ap (in_words reason) (same_meaning bytes (Err f) (Err g) means also) ∙ sym (ap Err too))

  meant_some : (bytes : List ℕ) (answer : Result A F) → Means bytes answer → (x : Result A (List ℕ)) × GivesMeant reason Means bytes x
  meant_some bytes (Ok value) means = (Ok value, means)
  meant_some bytes (Err fault) means = (Err (reason fault), (fault, means, refl))

  pub meant_regular : IsRegular (inputs_meant reason Means)
  meant_regular = record {
    limited = input_limits;
    once = meant_once;
    some = λ bytes. let is = one bytes in meant_some bytes is.0 is.1;
  }
