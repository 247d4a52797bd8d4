-- What is read is the text of a certificate, and the text of a certificate is read.
use Rattle.std.proofs.Common.{◌≡◌, ℕ, ◌<◌, ◌+◌, arith, ◌++◌, List, [], Result, Ok, Err, Option, Some, None, refl, sym, ap, subst, ◌∙◌, eqb, cond, Bool, true, false, zero, suc, append_assoc, ◌⊎◌, ◌∷◌, length, ◌-◌, ◌≤◌, inl, inr}
use Rattle.std.specs.Prelude.{IsTrue}
use Rattle.std.proofs.lemmas.List.{append-nil}
use Rattle.te_model.specs.declared.certificate.Certificate.{Certificate}
use Rattle.te_model.specs.Text.{text, Spells}
use Rattle.te_model.specs.Validity.{first_rule}
use Rattle.te_model.specs.Shape.{is_shaped}
use Rattle.te_model.specs.declared.certificate.RuleFault.{RuleFault}
use Rattle.te_model.specs.Formats.{limits_of}
use Rattle.cert_text.specs.Place.{Place, place}
use Rattle.cert_text.specs.Reading.{narrow_number}
use Rattle.cert_text.specs.Grammar.{read_certificate}
use Rattle.cert_text.specs.Fits.{FitsFormat}
use Rattle.cert_text.specs.Kept.{keep_certificate}
use Rattle.cert_text.proofs.Decimals.{bind_ok, ok_is}
use Rattle.cert_text.proofs.Tokens.{exact}
use Rattle.cert_text.proofs.Whole.{certificate_takes, certificate_again, at_end}
use Rattle.cert_text.proofs.Lines.{text_is}
use Rattle.cert_text.proofs.Natural.{carry, certificate_kept}
use Rattle.te_model.specs.Faults.{line_ends, SharesLines, BeginsFile, BeginsOne, IsShapeFault, IsRuleFault, LeavesAt}
use Rattle.cert_text.proofs.Local.{GoesSame}
use Rattle.cert_text.proofs.Steady.{certificate_steady}
use Rattle.cert_text.proofs.Completable.{begins_with_none}
use Rattle.cert_text.proofs.Shaped.{shaped_fits, fits_shaped}
use Rattle.std.proofs.lemmas.Bool.{cases_lt}
use Rattle.std.proofs.lemmas.Bool.Decides.{nat_tests}

abbrev pub WasText : List ℕ → Certificate → Type 0
WasText bytes c = (e : Certificate) × FitsFormat e × (bytes ≡ text e) × (c ≡ keep_certificate e)

pub read_is_text : (bytes : List ℕ) (c : Certificate) (q : Place) → read_certificate narrow_number (place 1 bytes) ≡ Ok (c, q) → WasText bytes c
read_is_text bytes c q e =
    let natural : carry keep_certificate (read_certificate exact (place 1 bytes)) ≡ Ok (c, q) = sym (certificate_kept (place 1 bytes)) ∙ e in
    let a = bind_ok (read_certificate exact (place 1 bytes)) (λ x. Ok (keep_certificate x.0, x.1)) (c, q) natural in
    let t = certificate_takes (place 1 bytes) a.0.0 a.0.1 a.1 in
    let same : keep_certificate a.0.0 ≡ c = ap (λ (y : Certificate × Place). y.0) (ok_is {A = Certificate × Place} (keep_certificate a.0.0, a.0.1) (c, q) a.2) in
    (a.0.0, t.good, t.parts ∙ sym (text_is a.0.0), sym same)

-- a text is read again, and nothing after it
text_again : (e : Certificate) (r : List ℕ) → FitsFormat e → (m : ℕ) × (read_certificate exact (place 1 (text e ++ r)) ≡ at_end e m r)
text_again e r fits =
    let a = certificate_again e 1 r fits in
    (a.0, ap (λ (bs : List ℕ). read_certificate exact (place 1 (bs ++ r))) (text_is e) ∙ a.1)

pub text_is_read : (e : Certificate) → FitsFormat e → (m : ℕ) × (read_certificate narrow_number (place 1 (text e)) ≡ Ok (keep_certificate e, place m []))
text_is_read e fits =
    let a = text_again e [] fits in
    let whole : read_certificate exact (place 1 (text e)) ≡ Ok (e, place a.0 []) = ap (λ (bs : List ℕ). read_certificate exact (place 1 bs)) (sym (append-nil (text e))) ∙ a.1 in
    (a.0, certificate_kept _ ∙ ap (carry keep_certificate) whole)

-- no text of the format has the first k lines of the bytes
abbrev IsNoTextsLine : List ℕ → ℕ → Type 0
IsNoTextsLine bytes k = (e : Certificate) → FitsFormat e → SharesLines k bytes (text e) → ⊥

-- what stopped gave nothing
stopped : {A : Type 0} (r : Result A ℕ) (k : ℕ) (y : A) → r ≡ Err k → r ≡ Ok y → ⊥
stopped r k y e f = cc

-- up to the line at fault the bytes are those of no text
no_text : (bytes : List ℕ) (k : ℕ) → read_certificate exact (place 1 bytes) ≡ Err k → IsNoTextsLine bytes k
no_text bytes k fault e fits shares =
    let front = shares.0 in
    let here : read_certificate exact (place 1 (front ++ shares.1)) ≡ Err k = ap (λ (bs : List ℕ). read_certificate exact (place 1 bs)) (sym shares.3) ∙ fault in
    let there : read_certificate exact (place 1 (front ++ shares.2)) ≡ Err k = moved (read_certificate exact (place 1 (front ++ shares.1))) here ((certificate_steady exact).local 1 front shares.1 shares.2).1 in
    let again = text_again e [] fits in
    stopped (read_certificate exact (place 1 (front ++ shares.2))) k (e, place again.0 []) there
    (ap (λ (bs : List ℕ). read_certificate exact (place 1 bs)) (sym shares.4 ∙ sym (append-nil (text e))) ∙ again.1)
  where
    moved : (r : Result (Certificate × Place) ℕ) → r ≡ Err k → GoesSame (1 + line_ends shares.0) shares.1 shares.2 r (read_certificate exact (place 1 (shares.0 ++ shares.2))) → read_certificate exact (place 1 (shares.0 ++ shares.2)) ≡ Err k
    moved (Ok x) e h = absurd cc
    moved (Err j) e h = let same : j ≡ k = cc in let below : j < 1 + line_ends shares.0 = omega (arith, shares.5) in h below ∙ ap (λ (i : ℕ). Err i) same

-- a fault is one whether or not wide numbers are kept whole
fault_exact : (p : Place) (k : ℕ) → read_certificate narrow_number p ≡ Err k → read_certificate exact p ≡ Err k
fault_exact p k fault = carried (read_certificate exact p) (sym (certificate_kept p) ∙ fault)
  where
    carried : (r : Result (Certificate × Place) ℕ) → carry keep_certificate r ≡ Err k → r ≡ Err k
    carried (Ok x) e = absurd cc
    carried (Err j) e = cc

-- some certificate of the format shares the first k lines of its text with the bytes
abbrev pub HasTextsLines : List ℕ → ℕ → Type 0
HasTextsLines bytes k = (e : Certificate) × FitsFormat e × SharesLines k bytes (text e)

text_goes_on : (bytes front left more : List ℕ) (e : Certificate) (line : ℕ) → bytes ≡ front ++ left → read_certificate exact (place 1 (front ++ more)) ≡ Ok (e, place line [])
    → HasTextsLines bytes (line_ends front)
text_goes_on bytes front left more e line parts read =
    let t = certificate_takes (place 1 (front ++ more)) e (place line []) read in
    (e, t.good, (front, left, more, parts, text_is e ∙ sym t.parts, refl))

-- before the line at fault the bytes are those of a text
pub fault_reached : (bytes : List ℕ) (k : ℕ) → read_certificate exact (place 1 bytes) ≡ Err k → (1 ≤ k) × HasTextsLines bytes (k - 1)
fault_reached bytes k fault =
    let c = (certificate_steady exact).completable in
    let h = c.completes 1 bytes k (begins_with_none bytes) fault in (
      h.0,
      elim (cases_lt 1 k) [
        | inl lt ↦
            let m = h.1 lt in
            let lines : line_ends m.front ≡ k - 1 = let l = m.lines in omega arith in
            subst (HasTextsLines bytes) lines (text_goes_on bytes m.front m.left (m.more ++ []) m.value m.line m.parts (m.again [] refl))
        | inr ge ↦
            let m = c.starts 1 in
            let first : 0 ≡ k - 1 = let up = h.0 in omega arith in
            subst (HasTextsLines bytes) first (text_goes_on bytes [] bytes (m.more ++ []) m.value m.line refl (m.again [] refl))
      ],
    )

-- no text begins another: where the text of one certificate begins with that of another, they are one
pub one_text : (e o : Certificate) (r : List ℕ) → FitsFormat e → FitsFormat o → text o ≡ text e ++ r → (e ≡ o) × (r ≡ [])
one_text e o r fits fits' longer =
    let one = text_again e r fits in
    let two = text_again o [] fits' in
    let again : read_certificate exact (place 1 (text e ++ r)) ≡ Ok (o, place two.0 []) =
    ap (λ (bs : List ℕ). read_certificate exact (place 1 bs)) (sym longer ∙ sym (append-nil (text o))) ∙ two.1 in
    ended r one.0 two.0 (sym one.1 ∙ again)
  where
    ended : (r : List ℕ) (m k : ℕ) → at_end e m r ≡ Ok (o, place k []) → (e ≡ o) × (r ≡ [])
    ended [] m k h = (ap (λ (y : Certificate × Place). y.0) (ok_is {A = Certificate × Place} (e, place m []) (o, place k []) h), refl)
    ended (b ∷ bs) m k h = absurd (let some : eqb (length (b ∷ bs)) 0 ≡ false = grind (arith, nat_tests) in let no : Err m ≡ Ok (o, place k []) = rw some at h in cc)

-- ---- faults of shape

-- a text is read
text_is_exact : (bytes : List ℕ) (e : Certificate) → FitsFormat e → bytes ≡ text e → (m : ℕ) × (read_certificate exact (place 1 bytes) ≡ Ok (e, place m []))
text_is_exact bytes e fits same =
    let again = text_again e [] fits in
    (again.0, ap (λ (bs : List ℕ). read_certificate exact (place 1 bs)) (same ∙ sym (append-nil (text e))) ∙ again.1)

-- the line at which reading stops is that of the fault of shape
pub stop_is_fault : (bytes : List ℕ) (k : ℕ) → read_certificate exact (place 1 bytes) ≡ Err k → IsShapeFault bytes k
stop_is_fault bytes k fault =
    let reached = fault_reached bytes k fault in
    record {
      counted = reached.0;
      no_file = λ e shaped same. let t = text_is_exact bytes e (shaped_fits e shaped) same in stopped (read_certificate exact (place 1 bytes)) k (e, place t.0 []) fault t.1;
      before = let t = reached.1 in (t.0, fits_shaped t.0 t.1, t.2);
      leaves = λ begins. no_text bytes k fault begins.0 (shaped_fits begins.0 begins.1) begins.2;
    }

-- the bytes up to the end of line j
pub cut : (front : List ℕ) (j : ℕ) → j ≤ line_ends front → (u : List ℕ) × (v : List ℕ) × (front ≡ u ++ v) × (line_ends u ≡ j)
cut [] j le = ([], [], refl, omega arith)
cut (b ∷ bs) zero le = ([], b ∷ bs, refl, refl)
cut (b ∷ bs) (suc j) le = chosen (eqb b 10) refl le (λ h. cut bs j h) (λ h. cut bs (suc j) h)
  where
    chosen : (t : Bool) → eqb b 10 ≡ t → suc j ≤ cond t (suc (line_ends bs)) (line_ends bs)
        → (j ≤ line_ends bs → (u : List ℕ) × (v : List ℕ) × (bs ≡ u ++ v) × (line_ends u ≡ j))
        → (suc j ≤ line_ends bs → (u : List ℕ) × (v : List ℕ) × (bs ≡ u ++ v) × (line_ends u ≡ suc j))
        → (u : List ℕ) × (v : List ℕ) × ((b ∷ bs) ≡ u ++ v) × (line_ends u ≡ suc j)
    chosen true is le here later = let c = here (omega arith) in (b ∷ c.0, c.1, ap (λ (x : List ℕ). b ∷ x) c.2, rw is (ap suc c.3))
    chosen false is le here later = let c = later le in (b ∷ c.0, c.1, ap (λ (x : List ℕ). b ∷ x) c.2, rw is c.3)

-- texts that share lines share fewer
fewer_lines : {A : Type 0} (IsOne : A → Type 0) (text_of : A → List ℕ) (bytes : List ℕ) (j k : ℕ) → j ≤ k → BeginsOne IsOne text_of k bytes →
    BeginsOne IsOne text_of j bytes
fewer_lines IsOne text_of bytes j k le begins =
    let s = begins.2 in
    let c = cut s.0 j (let ended = s.5 in omega (arith, ended, le)) in (
      begins.0,
      begins.1,
      (
        c.0,
        c.1 ++ s.1,
        c.1 ++ s.2,
        s.3 ∙ ap (λ (x : List ℕ). x ++ s.1) c.2 ∙ append_assoc c.0 c.1 s.1,
        s.4 ∙ ap (λ (x : List ℕ). x ++ s.2) c.2 ∙ append_assoc c.0 c.1 s.2,
        c.3,
      ),
    )

-- bytes leave the files of a set at one line at most
pub one_leaving : {A : Type 0} (IsOne : A → Type 0) (text_of : A → List ℕ) (bytes : List ℕ) (j k : ℕ) → LeavesAt IsOne text_of bytes j →
    LeavesAt IsOne text_of bytes k → j ≡ k
one_leaving IsOne text_of bytes j k f g =
    let first = f.counted in
    let second = g.counted in
    elim (cases_lt j k) [
      | inl lt ↦ absurd (f.leaves (fewer_lines IsOne text_of bytes j (k - 1) (omega (arith, lt)) g.before))
      | inr ge ↦ elim (cases_lt k j) [
        | inl lt ↦ absurd (g.leaves (fewer_lines IsOne text_of bytes k (j - 1) (omega (arith, lt)) f.before))
        | inr le ↦ omega (arith, ge, le)
      ]
    ]

-- bytes have one fault of shape at most
pub one_shape_fault : (bytes : List ℕ) (j k : ℕ) → IsShapeFault bytes j → IsShapeFault bytes k → j ≡ k
one_shape_fault bytes j k f g = one_leaving (λ (c : Certificate). IsTrue (is_shaped (limits_of c.head.format) c)) text bytes j k f g

-- bytes are the file of some rightly shaped certificate, or have a fault of shape
pub file_or_fault : (bytes : List ℕ)
    → ((e : Certificate) × FitsFormat e × (bytes ≡ text e)) ⊎ ((k : ℕ) × IsShapeFault bytes k)
file_or_fault bytes = cases (read_certificate exact (place 1 bytes)) refl
  where
    cases : (r : Result (Certificate × Place) ℕ) → read_certificate exact (place 1 bytes) ≡ r → ((e : Certificate) × FitsFormat e × (bytes ≡ text e)) ⊎ ((k : ℕ) × IsShapeFault bytes k)
    cases (Ok x) read = let t = certificate_takes (place 1 bytes) x.0 x.1 read in inl (x.0, t.good, t.parts ∙ sym (text_is x.0))
    cases (Err k) read = inr (k, stop_is_fault bytes k read)

pub fault_is : (bytes : List ℕ) (k : ℕ) → read_certificate narrow_number (place 1 bytes) ≡ Err k → IsShapeFault bytes k
fault_is bytes k fault = stop_is_fault bytes k (fault_exact (place 1 bytes) k fault)

pub one_fault : (bytes : List ℕ) (j k : ℕ) → IsShapeFault bytes j → IsShapeFault bytes k → j ≡ k
one_fault bytes j k f g = one_shape_fault bytes j k f g

-- ---- the one reading of bytes

-- bytes spell a certificate, have a fault of shape, or have a rule's fault
pub some_reading : (bytes : List ℕ) → ((c : Certificate) × Spells bytes c) ⊎ (((k : ℕ) × IsShapeFault bytes k) ⊎ ((f : RuleFault) × IsRuleFault bytes f))
some_reading bytes = elim (file_or_fault bytes) [
  | inl file ↦ ruled file.0 file.1 file.2 (first_rule file.0) refl
  | inr fault ↦ inr (inl fault)
]
  where
    ruled : (e : Certificate) → FitsFormat e → bytes ≡ text e → (r : Option RuleFault) → first_rule e ≡ r
        → ((c : Certificate) × Spells bytes c) ⊎ (((k : ℕ) × IsShapeFault bytes k) ⊎ ((f : RuleFault) × IsRuleFault bytes f))
    ruled e fits same None none = inl (e, ((fits_shaped e fits, none), same))
    ruled e fits same (Some f) first = inr (inr (f, record { spelled = e; shaped = fits_shaped e fits; file = same; first = first }))

-- two rightly shaped certificates whose text the bytes are
one_file : (bytes : List ℕ) (c d : Certificate) → is_shaped (limits_of c.head.format) c ≡ true → is_shaped (limits_of d.head.format) d ≡ true → bytes ≡ text c → bytes ≡ text d → c ≡ d
one_file bytes c d sc sd e f = (one_text c d [] (shaped_fits c sc) (shaped_fits d sd) (sym f ∙ e ∙ sym (append-nil (text c)))).0

pub one_spelling : (bytes : List ℕ) (c d : Certificate) → Spells bytes c → Spells bytes d → c ≡ d
one_spelling bytes c d s t = one_file bytes c d s.0.0 t.0.0 s.1 t.1

pub one_rule_fault : (bytes : List ℕ) (f g : RuleFault) → IsRuleFault bytes f → IsRuleFault bytes g → f ≡ g
one_rule_fault bytes f g p q =
    let same : p.spelled ≡ q.spelled = one_file bytes p.spelled q.spelled p.shaped q.shaped p.file q.file in
    let both : Some f ≡ Some g = sym p.first ∙ ap first_rule same ∙ q.first in
    cc

pub spelled_or_ruled : (bytes : List ℕ) (c : Certificate) (f : RuleFault) → Spells bytes c → IsRuleFault bytes f → ⊥
spelled_or_ruled bytes c f s p =
    let same : c ≡ p.spelled = one_file bytes c p.spelled s.0.0 p.shaped s.1 p.file in
    differs (sym s.0.1 ∙ ap first_rule same ∙ p.first)
  where
    differs : None ≡ Some f → ⊥
    differs e = cc
