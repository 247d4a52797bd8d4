-- What reading a file of rates answers.
use Rattle.std.proofs.Common.{◌≡◌, ◌∙◌, ℕ, suc, ◌+◌, ◌≤◌, List, [], ◌∷◌, ◌++◌, length, Some, None, Result, Ok, Err, arith, refl, ap, sym, subst, inl, inr}
use Rattle.std.specs.Prelude.{All, codes, nat_le}
use Rattle.std.proofs.lemmas.List.{append-nil, length-append}
use Rattle.std.proofs.lemmas.List.Elements.{All-cons, All-nil}
use Rattle.std.proofs.lemmas.Bool.Decides.{nat_tests}
use Rattle.cert_text.specs.Fits.{AreWords}
use Rattle.cert_text.specs.Reading.{narrow_number}
use Rattle.te_model.specs.declared.certificate.RuleFault.{RuleFault}
use Rattle.te_model.specs.declared.route.PairRoutes.{PairRoutes}
use Rattle.te_model.specs.Faults.{LeavesAt}
use Rattle.number_tables.specs.declared.due.DueLines.{DueLines}
use Rattle.number_tables.specs.declared.fault.TableFault.{TableFault}
use Rattle.number_tables.specs.declared.fault.TableFault.TheVariants as tables
use Rattle.number_tables.specs.declared.line.NumLine.{NumLine}
use Rattle.number_tables.specs.Due.{first_undue, has_count, word_line, LeavesSmallFiles}
use Rattle.number_tables.specs.Table.{AreLines, table_text}
use Rattle.number_tables.specs.TakingDue.{IsBefore, TakesDue, next_line, BeginsWithEnd, BeginsWithNumber, LeavesAtEnd, LeavesAtLine}
use Rattle.number_tables.proofs.TakingDue.{after_line, fails_as, fails_behind, leaves_files}
use Rattle.fault_rates.specs.declared.fault.RateFault.TheVariants as faults
use Rattle.fault_rates.specs.declared.plan.RatePlan.{RatePlan}
use Rattle.fault_rates.specs.File.{FitPairs, pair_lines, pairs_due, rate_lines, rates_due}
use Rattle.fault_rates.specs.PairLines.{BeginsWithPairs, LeavesAtPairs}
use Rattle.fault_rates.specs.Plan.{plan_fault}
use Rattle.fault_rates.specs.Reading.{GivesRates, KeptHasSameFault, spelled, misshaped, SpellsKept, fault_of, read_unless, with_kept_failures}
use Rattle.fault_rates.proofs.Files.{fit_shape, rates_end}
use Rattle.fault_rates.proofs.Judged.{few_failures}
use Rattle.fault_rates.proofs.PairLines.{pairs_later}

abbrev pub rates_first : List ℕ
rates_first = codes "yates-rates 1"

-- a file of which these lines are left after its first one
pub record StandsAtRates (bytes : List ℕ) (start : DueLines) (ls : List NumLine) : Type 0 where
  pub file : bytes ≡ table_text rates_first ls
  pub before : IsBefore start ls
  pub second : next_line start ≡ 2

abbrev LeavesRates : List PairRoutes → List NumLine → ℕ → Type 0
LeavesRates routes ls j = first_undue (rates_due routes) ls ≡ Some j

-- lines that are not due
undue_spells : {X : Type 0} (Begins : X → List NumLine → List NumLine → Type 0) (routes : List PairRoutes) (bytes : List ℕ) (start after : DueLines) (ls : List NumLine) (e : TableFault) →
    StandsAtRates bytes start ls → TakesDue Begins (LeavesRates routes) (Err e) start after ls → SpellsKept routes bytes (Err e)
undue_spells Begins routes bytes start after ls tables.Memory at fails = tt
undue_spells Begins routes bytes start after ls (tables.Shape k) at fails =
    let here : fails.0 + 2 ≡ k = (let e = fails.1 in let second = at.second in omega (arith, e, second)) in
    subst (λ n. LeavesSmallFiles rates_first (rates_due routes) bytes n) here
    (leaves_files rates_first (rates_due routes) bytes ls fails.0 refl (rates_end routes) at.before.0 at.file fails.2)

-- bytes that are no table
pub table_spells : (routes : List PairRoutes) (bytes : List ℕ) (e : TableFault) →
    ((k : ℕ) → ◌≡◌ {A = Result DueLines TableFault} (Err e) (Err (tables.Shape k)) → LeavesAt AreLines (table_text rates_first) bytes k) → SpellsKept routes bytes (Err e)
table_spells routes bytes tables.Memory shape = tt
table_spells routes bytes (tables.Shape k) shape = inl (shape k refl)

-- the line of the number of failures
pub number_spells : (routes : List PairRoutes) (bytes : List ℕ) (start after : DueLines) (ls : List NumLine) (e : TableFault) → StandsAtRates bytes start ls →
    TakesDue (BeginsWithNumber (codes "failures")) (LeavesAtLine (codes "failures") (has_count 1)) (Err e) start after ls → SpellsKept routes bytes (Err e)
number_spells routes bytes start after ls e at fails =
    undue_spells (BeginsWithNumber (codes "failures")) routes bytes start after ls e at
    (fails_as (BeginsWithNumber (codes "failures")) (LeavesAtLine (codes "failures") (has_count 1)) (BeginsWithNumber (codes "failures")) (LeavesRates routes)
    e start after after ls (λ j leaves. leaves (λ _. pairs_due routes)) fails)

-- behind it, the first line that is not due comes one place later
behind_number : (routes : List PairRoutes) (number : ℕ) (more : List NumLine) (j : ℕ) → LeavesAtPairs routes more j →
    LeavesRates routes (word_line (codes "failures") (number ∷ []) ∷ more) (1 + j)
behind_number routes number more j leaves =
    let next : 1 + j ≡ suc j = omega arith in
    rw next (after_line (codes "failures") (has_count 1) (λ _. pairs_due routes) (number ∷ []) more j refl leaves)

pub record TookNumber (start now : DueLines) (number : ℕ) (ls : List NumLine) : Type 0 where
  pub more : List NumLine
  pub parts : ls ≡ word_line (codes "failures") (number ∷ []) ∷ more
  pub before : IsBefore now more
  pub count : next_line now + length more ≡ next_line start + length ls

pub took_number : (start now : DueLines) (number : ℕ) (ls : List NumLine) →
    TakesDue (BeginsWithNumber (codes "failures")) (LeavesAtLine (codes "failures") (has_count 1)) (Ok number) start now ls → TookNumber start now number ls
took_number start now number ls taken = record { more = taken.0; parts = taken.1; before = taken.2; count = taken.3 }

-- the lines of the pairs
pub pairs_spell : (routes : List PairRoutes) (bytes : List ℕ) (start now after : DueLines) (number : ℕ) (ls : List NumLine) (e : TableFault) → StandsAtRates bytes start ls →
    (took : TookNumber start now number ls) →
    TakesDue (BeginsWithPairs routes) (LeavesAtPairs routes) (Err e) now after took.more → SpellsKept routes bytes (Err e)
pairs_spell routes bytes start now after number ls e at took fails =
    let Begins = BeginsWithPairs routes in
    let whole : length ls ≡ 1 + length took.more = (let l = ap length took.parts in omega (arith, l)) in
    undue_spells Begins routes bytes start after ls e at
    (fails_behind Begins (LeavesAtPairs routes) Begins (LeavesRates routes) e start now after ls took.more 1 took.count whole
    (λ j leaves. subst (λ (m : List NumLine). LeavesRates routes m (1 + j)) (sym took.parts) (behind_number routes number took.more j leaves)) fails)

-- the end
pub end_spells : (routes : List PairRoutes) (bytes : List ℕ) (start now mid after : DueLines) (number : ℕ) (plan : RatePlan) (ls : List NumLine) (e : TableFault) → StandsAtRates bytes start ls →
    (took : TookNumber start now number ls) →
    (pairs : TakesDue (BeginsWithPairs routes) (LeavesAtPairs routes) (Ok plan) now mid took.more) →
    TakesDue BeginsWithEnd LeavesAtEnd (Err e) mid after pairs.0 → SpellsKept routes bytes (Err e)
end_spells routes bytes start now mid after number plan ls e at took pairs fails =
    let lines = pair_lines plan.grant plan.allocation in
    let Begins = BeginsWithPairs routes in
    let whole : length took.more ≡ length lines + length pairs.0 = ap length pairs.1.1 ∙ length-append lines pairs.0 in
    pairs_spell routes bytes start now after number ls e at took
    (fails_behind BeginsWithEnd LeavesAtEnd Begins (LeavesAtPairs routes) e now mid after took.more pairs.0 (length lines) pairs.3 whole
    (λ j leaves. subst (λ (m : List NumLine). LeavesAtPairs routes m (length lines + j)) (sym pairs.1.1)
    (pairs_later routes plan.grant plan.allocation pairs.0 j pairs.1.0 leaves)) fails)

-- ---- what the whole file spells

pair_words : (routes : List PairRoutes) (gs : List ℕ) (xs : List (List ℕ)) → FitPairs routes gs xs → AreLines (pair_lines gs xs) → AreWords gs × All AreWords xs
pair_words [] [] [] fit lines = (tt, All-nil AreWords)
pair_words [] [] (a ∷ xs) fit lines = absurd fit
pair_words [] (g ∷ gs) xs fit lines = absurd fit
pair_words (r ∷ rs) [] xs fit lines = absurd fit
pair_words (r ∷ rs) (g ∷ gs) [] fit lines = absurd fit
pair_words (r ∷ rs) (g ∷ gs) (a ∷ xs) fit lines =
    let rest = pair_words rs gs xs fit.1 lines.1 in
    ((lines.0.numbers.0, rest.0), All-cons AreWords a xs lines.0.numbers.1 rest.1)

pub rates_spelled : (routes : List PairRoutes) (bytes : List ℕ) (start now mid after : DueLines) (number : ℕ) (plan : RatePlan) (ls : List NumLine) → StandsAtRates bytes start ls →
    (took : TookNumber start now number ls) → plan.failures ≡ narrow_number number →
    (pairs : TakesDue (BeginsWithPairs routes) (LeavesAtPairs routes) (Ok plan) now mid took.more) →
    TakesDue BeginsWithEnd LeavesAtEnd (Ok tt) mid after pairs.0 → SpellsKept routes bytes (Ok plan)
rates_spelled routes bytes start now mid after number plan ls at took kept pairs ended =
    let all : RatePlan = record { failures = number; grant = plan.grant; allocation = plan.allocation } in
    let fit = pairs.1.0 in
    let lines = pair_lines plan.grant plan.allocation in
    let same : ls ≡ rate_lines all =
    took.parts ∙ ap (λ (m : List NumLine). word_line (codes "failures") (number ∷ []) ∷ m)
    (pairs.1.1 ∙ ap (λ (m : List NumLine). lines ++ m) ended.1.0 ∙ append-nil lines)
    in
    let words = subst AreLines same at.before.0 in
    let numbers = pair_words routes plan.grant plan.allocation fit words.1 in
    let shape = fit_shape routes plan.grant plan.allocation fit in (
      all,
      record {
        shaped = record { grants = shape.0; pairs = shape.1; paths = shape.2 };
        words = record { failures = words.0.numbers.0; grants = numbers.0; allocations = numbers.1 };
        file = at.file ∙ ap (table_text rates_first) same;
      },
      λ i. record { failures = kept i; grant = plan.grant; allocation = plan.allocation },
    )

-- ---- the rules of what is kept

kept_is_few : (n : ℕ) → nat_le (narrow_number n) 8 ≡ nat_le n 8
kept_is_few n = grind (arith, nat_tests)

pub kept_has_same_fault : KeptHasSameFault
kept_has_same_fault plan = rw (kept_is_few plan.failures) refl

-- a number of failures that is kept and passes is the one that was spelled
pub kept_whole : (n : ℕ) → narrow_number n ≤ 8 → narrow_number n ≡ n
kept_whole n few = omega (arith, few)

-- ---- the answer

pub plan_read : (routes : List PairRoutes) (bytes : List ℕ) (kept : RatePlan) → SpellsKept routes bytes (Ok kept) → plan_fault kept ≡ None → GivesRates routes bytes (Ok kept)
plan_read routes bytes kept spells none =
    let all = spells.0 in
    let same : kept ≡ with_kept_failures all = spells.2 in
    let none_all : plan_fault all ≡ None = sym (kept_has_same_fault all) ∙ ap plan_fault (sym same) ∙ none in
    let few = few_failures (with_kept_failures all) (ap plan_fault (sym same) ∙ none) in
    let whole : with_kept_failures all ≡ all = λ i. record { failures = kept_whole all.failures few i; grant = all.grant; allocation = all.allocation } in
    inl (spelled all spells.1 (ap (λ (p : RatePlan). Ok p) (same ∙ whole) ∙ ap (λ o. read_unless o all) (sym none_all)))

pub rule_read : (routes : List PairRoutes) (bytes : List ℕ) (kept : RatePlan) (f : RuleFault) → SpellsKept routes bytes (Ok kept) → plan_fault kept ≡ Some f →
    GivesRates routes bytes (Err (faults.Rule f))
rule_read routes bytes kept f spells some =
    let all = spells.0 in
    let of_all : plan_fault all ≡ Some f = sym (kept_has_same_fault all) ∙ ap plan_fault (sym spells.2) ∙ some in
    inl (spelled all spells.1 (ap (λ o. read_unless o all) (sym of_all)))

pub fault_read : (routes : List PairRoutes) (bytes : List ℕ) (e : TableFault) → SpellsKept routes bytes (Err e) → GivesRates routes bytes (Err (fault_of e))
fault_read routes bytes tables.Memory spells = inr refl
fault_read routes bytes (tables.Shape k) spells = inl (misshaped k spells refl)
