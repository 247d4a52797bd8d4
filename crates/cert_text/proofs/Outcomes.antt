-- Which answer the bytes determine.
use Rattle.std.proofs.Common.{◌≡◌, ℕ, List, [], Some, None, Result, Ok, Err, refl, sym, ap, subst, ◌∙◌, inl, inr}
use Rattle.std.specs.Prelude.{IfOk, MatchResult}
use Rattle.te_model.specs.declared.certificate.Certificate.{Certificate}
use Rattle.te_model.specs.declared.certificate.RuleFault.{RuleFault}
use Rattle.te_model.specs.Validity.{first_rule}
use Rattle.te_model.specs.Text.{text, Spells}
use Rattle.te_model.specs.Faults.{IsShapeFault, IsRuleFault}
use Rattle.cert_text.specs.declared.fault.CertFault.{CertFault}
use Rattle.cert_text.specs.declared.fault.CertFault.TheVariants as faults
use Rattle.cert_text.specs.Place.{Place, place}
use Rattle.cert_text.specs.Reading.{narrow_number}
use Rattle.cert_text.specs.Grammar.{read_certificate}
use Rattle.cert_text.specs.Fits.{FitsFormat}
use Rattle.cert_text.specs.Kept.{keep_certificate}
use Rattle.cert_text.specs.Answer.{IsShaped, IsAnswerOfReading}
use Rattle.cert_text.specs.Outcome.{IsDueOrMemory}
use Rattle.cert_text.proofs.Decimals.{ok_is}
use Rattle.cert_text.proofs.Shaped.{shaped_fits, fits_shaped}
use Rattle.cert_text.proofs.KeptRules.{first_rule_kept, valid_kept}
use Rattle.cert_text.proofs.Laws.{read_is_text, text_is_read, fault_is, one_fault}

-- what is read of the bytes
abbrev pub read_of : List ℕ → Result (Certificate × Place) ℕ
read_of bytes = read_certificate narrow_number (place 1 bytes)

-- what is read of a text is what is kept of its certificate
what_is_read : (bytes : List ℕ) (e c : Certificate) (q : Place) → FitsFormat e → bytes ≡ text e → read_of bytes ≡ Ok (c, q) → c ≡ keep_certificate e
what_is_read bytes e c q fits same read =
    let again = text_is_read e fits in
    let both : Ok (c, q) ≡ Ok (keep_certificate e, place again.0 []) = sym read ∙ ap read_of same ∙ again.1 in
    ap (λ (y : Certificate × Place). y.0) (ok_is {A = Certificate × Place} (c, q) (keep_certificate e, place again.0 []) both)

-- a text is read without a fault
no_fault : (bytes : List ℕ) (e : Certificate) (k : ℕ) → FitsFormat e → bytes ≡ text e → ¬ (read_of bytes ≡ Err k)
no_fault bytes e k fits same fault =
    let again = text_is_read e fits in
    let both : Err k ≡ Ok (keep_certificate e, place again.0 []) = sym fault ∙ ap read_of same ∙ again.1 in
    absurd cc

pub is_spelled : (bytes : List ℕ) (r : Result Certificate CertFault) → IsAnswerOfReading r (read_of bytes) → IfOk r (λ c. Spells bytes c)
is_spelled bytes (Err f) h = tt
is_spelled bytes (Ok c) h =
    let was = read_is_text bytes c h.0 h.1 in
    let fits = was.1 in
    let valid : first_rule was.0 ≡ None = sym (first_rule_kept was.0 fits) ∙ ap first_rule (sym was.3) ∙ h.2 in
    let same : was.0 ≡ c = sym (valid_kept was.0 fits valid) ∙ sym was.3 in
    subst (λ (y : Certificate). Spells bytes y) same ((fits_shaped was.0 fits, valid), was.2)

pub is_accepted : (bytes : List ℕ) (r : Result Certificate CertFault) → IsAnswerOfReading r (read_of bytes) → (c : Certificate) → Spells bytes c → IsDueOrMemory r (Ok c)
is_accepted bytes (Ok x) h c s =
    let fits = shaped_fits c s.0.0 in
    let read : x ≡ keep_certificate c = what_is_read bytes c x h.0 fits s.1 h.1 in
    inl (ap (λ (y : Certificate). Ok y) (read ∙ valid_kept c fits s.0.1))
is_accepted bytes (Err faults.Memory) h c s = inr refl
is_accepted bytes (Err (faults.Shape k)) h c s = absurd (no_fault bytes c k (shaped_fits c s.0.0) s.1 h)
is_accepted bytes (Err (faults.Rule f)) h c s =
    let fits = shaped_fits c s.0.0 in
    let read : h.0 ≡ keep_certificate c = what_is_read bytes c h.0 h.1 fits s.1 h.2 in
    let fault : None ≡ Some f = sym s.0.1 ∙ ap first_rule (sym (read ∙ valid_kept c fits s.0.1)) ∙ h.3 in
    absurd cc

pub is_shape_fault : (bytes : List ℕ) (r : Result Certificate CertFault) → IsAnswerOfReading r (read_of bytes) → (k : ℕ) → r ≡ Err (faults.Shape k) → IsShapeFault bytes k
is_shape_fault bytes (Ok c) h k e = absurd cc
is_shape_fault bytes (Err faults.Memory) h k e = absurd cc
is_shape_fault bytes (Err (faults.Rule f)) h k e = absurd cc
is_shape_fault bytes (Err (faults.Shape j)) h k e = let same : j ≡ k = cc in subst (IsShapeFault bytes) same (fault_is bytes j h)

pub is_misshaped : (bytes : List ℕ) (r : Result Certificate CertFault) → IsAnswerOfReading r (read_of bytes) → (k : ℕ) → IsShapeFault bytes k → IsDueOrMemory r (Err (faults.Shape k))
is_misshaped bytes (Ok c) h k fault =
    let was = read_is_text bytes c h.0 h.1 in
    absurd (fault.no_file was.0 (fits_shaped was.0 was.1) was.2)
is_misshaped bytes (Err faults.Memory) h k fault = inr refl
is_misshaped bytes (Err (faults.Shape j)) h k fault = inl (ap (λ (i : ℕ). Err (faults.Shape i)) (one_fault bytes j k (fault_is bytes j h) fault))
is_misshaped bytes (Err (faults.Rule f)) h k fault =
    let was = read_is_text bytes h.0 h.1 h.2 in
    absurd (fault.no_file was.0 (fits_shaped was.0 was.1) was.2)

pub is_rule_fault : (bytes : List ℕ) (r : Result Certificate CertFault) → IsAnswerOfReading r (read_of bytes) → (f : RuleFault) → r ≡ Err (faults.Rule f) → IsRuleFault bytes f
is_rule_fault bytes (Ok c) h f e = absurd cc
is_rule_fault bytes (Err faults.Memory) h f e = absurd cc
is_rule_fault bytes (Err (faults.Shape k)) h f e = absurd cc
is_rule_fault bytes (Err (faults.Rule g)) h f e =
    let same : g ≡ f = cc in
    let was = read_is_text bytes h.0 h.1 h.2 in
    let first : first_rule was.0 ≡ Some g = sym (first_rule_kept was.0 was.1) ∙ ap first_rule (sym was.3) ∙ h.3 in
    subst (IsRuleFault bytes) same (record { spelled = was.0; shaped = fits_shaped was.0 was.1; file = was.2; first = first })

pub is_invalid : (bytes : List ℕ) (r : Result Certificate CertFault) → IsAnswerOfReading r (read_of bytes) → (f : RuleFault) → IsRuleFault bytes f → IsDueOrMemory r (Err (faults.Rule f))
is_invalid bytes (Ok c) h f fault =
    let fits = shaped_fits fault.spelled fault.shaped in
    let read : c ≡ keep_certificate fault.spelled = what_is_read bytes fault.spelled c h.0 fits fault.file h.1 in
    let both : None ≡ Some f = sym h.2 ∙ ap first_rule read ∙ first_rule_kept fault.spelled fits ∙ fault.first in
    absurd cc
is_invalid bytes (Err faults.Memory) h f fault = inr refl
is_invalid bytes (Err (faults.Shape k)) h f fault = absurd (no_fault bytes fault.spelled k (shaped_fits fault.spelled fault.shaped) fault.file h)
is_invalid bytes (Err (faults.Rule g)) h f fault =
    let fits = shaped_fits fault.spelled fault.shaped in
    let read : h.0 ≡ keep_certificate fault.spelled = what_is_read bytes fault.spelled h.0 h.1 fits fault.file h.2 in
    let both : Some g ≡ Some f = sym h.3 ∙ ap first_rule read ∙ first_rule_kept fault.spelled fits ∙ fault.first in
    let same : g ≡ f = cc in
    inl (ap (λ (x : RuleFault). Err (faults.Rule x)) same)

-- a fault of shape, or want of memory, is the answer
pub shape_answers : (bytes : List ℕ) (e : CertFault) → IsShaped (Err e) (read_of bytes) → IsAnswerOfReading (Err e) (read_of bytes)
shape_answers bytes faults.Memory h = tt
shape_answers bytes (faults.Shape k) h = h
shape_answers bytes (faults.Rule f) h = absurd h

-- else the answer is by the rules
pub rules_answer : (bytes : List ℕ) (x : Certificate) (r : Result Certificate CertFault) → IsShaped (Ok x) (read_of bytes)
    → MatchResult r (λ c. (c ≡ x) × (first_rule x ≡ None)) (λ e. (f : RuleFault) × (e ≡ faults.Rule f) × (first_rule x ≡ Some f))
    → IsAnswerOfReading r (read_of bytes)
rules_answer bytes x (Ok c) h m = subst (λ (y : Certificate). IsAnswerOfReading (Ok y) (read_of bytes)) (sym m.0) (h.0, h.1, m.1)
rules_answer bytes x (Err e) h m = subst (λ (y : CertFault). IsAnswerOfReading (Err y) (read_of bytes)) (sym m.1) (x, h.0, h.1, m.2)

-- ---- who does more with what was read

-- a refusal of one is a refusal of the other
pub same_refusal : (X Y : Type 0) (e due : CertFault) → IsDueOrMemory {X = X} (Err e) (Err due) → IsDueOrMemory {X = Y} (Err e) (Err due)
same_refusal X Y e due (inl same) = let is : e ≡ due = cc in inl (ap (λ (f : CertFault). Err f) is)
same_refusal X Y e due (inr short) = let is : e ≡ faults.Memory = cc in inr (ap (λ (f : CertFault). Err f) is)
