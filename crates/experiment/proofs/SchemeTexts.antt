-- The texts of schemes so far, and one more.
use Rattle.std.proofs.Common.{◌≡◌, ◌<◌, ◌∙◌, All, List, [], ◌∷◌, ◌++◌, Option, Some, ℕ, ap, get_or, length, subst, sym}
use Rattle.std.specs.Option.{IfSome}
use Rattle.std.specs.List.{HoldsAt}
use Rattle.std.proofs.lemmas.List.Elements.{All-get_or, All-push}
use Rattle.plan.specs.declared.scheme_name.SchemeName.{SchemeName}
use Rattle.plan.specs.Words.{scheme_word}
use Rattle.series_simulation.specs.declared.step_row.StepRow.{StepRow}
use Rattle.experiment.specs.declared.report_input.ReportInput.{ReportInput}
use Rattle.experiment.specs.declared.scheme_texts.SchemeText.{SchemeText}
use Rattle.experiment.specs.Schemes.{AreSchemeRows}
use Rattle.experiment.specs.SchemeTexts.{IsSchemeText}
use Rattle.experiment.specs.Text.{scheme_lines}

-- the lines of the scheme under its word are its text
text_of : (input : ReportInput) (scheme : SchemeText) (name : SchemeName) (word : List ℕ) → scheme.name ≡ name → word ≡ scheme_word name →
    (rows : List StepRow) → AreSchemeRows name input.plan.now input.network.now input.traffic.now input.failures.now rows →
    scheme.text.items ≡ scheme_lines word rows → IsSchemeText input scheme
text_of input scheme name word named spelled rows are text = (
  rows,
  subst (λ (n : SchemeName). AreSchemeRows n input.plan.now input.network.now input.traffic.now input.failures.now rows) (sym named) are,
  text ∙ ap (λ (w : List ℕ). scheme_lines w rows) (spelled ∙ ap scheme_word (sym named)),
)

-- one text more
pub texts_more : (input : ReportInput) (texts more : List SchemeText) (scheme : SchemeText) (name : SchemeName) (word : List ℕ) → scheme.name ≡ name →
    word ≡ scheme_word name → (rows : List StepRow) →
    AreSchemeRows name input.plan.now input.network.now input.traffic.now input.failures.now rows → scheme.text.items ≡ scheme_lines word rows →
    All (IsSchemeText input) texts → more ≡ texts ++ scheme ∷ [] → All (IsSchemeText input) more
texts_more input texts more scheme name word named spelled rows are text all grown =
    subst (λ (ts : List SchemeText). All (IsSchemeText input) ts) (sym grown)
    (All-push (IsSchemeText input) texts scheme all (text_of input scheme name word named spelled rows are text))

-- the text at the place of a name has the lines of the scheme of that name
pub text_read : (input : ReportInput) (texts : List SchemeText) (place : ℕ) (scheme : SchemeText) (name : SchemeName) → place < length texts →
    All (IsSchemeText input) texts → HoldsAt (λ t. t.name ≡ name) texts place → scheme ≡ get_or texts place scheme →
    (rows : List StepRow) × AreSchemeRows name input.plan.now input.network.now input.traffic.now input.failures.now rows
    × (scheme.text.items ≡ scheme_lines (scheme_word name) rows)
text_read input texts place scheme name below all named read =
    let at = subst (λ (t : SchemeText). t.name ≡ name) (sym read) (named scheme) in
    let is = subst (λ (t : SchemeText). IsSchemeText input t) (sym read) (All-get_or (IsSchemeText input) texts place scheme below all) in
    subst (λ (n : SchemeName). (rows : List StepRow) × AreSchemeRows n input.plan.now input.network.now input.traffic.now input.failures.now rows
    × (scheme.text.items ≡ scheme_lines (scheme_word n) rows)) at is

-- the place of a name among the texts that were looked through
pub text_found : (texts read : List SchemeText) (name : SchemeName) (o : Option ℕ) (place : ℕ) → read ≡ texts → o ≡ Some place →
    IfSome o (λ p. (p < length read) × HoldsAt (λ t. t.name ≡ name) read p) → (place < length texts) × HoldsAt (λ t. t.name ≡ name) texts place
text_found texts read name o place same is found =
    subst (λ (ts : List SchemeText). (place < length ts) × HoldsAt (λ t. t.name ≡ name) ts place) same
    (subst (λ (p : Option ℕ). IfSome p (λ q. (q < length read) × HoldsAt (λ t. t.name ≡ name) read q)) is found)
