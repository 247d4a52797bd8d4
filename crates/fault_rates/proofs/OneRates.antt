-- A file is that of one plan.
use Rattle.std.proofs.Common.{◌≡◌, ◌∙◌, ◌⊎◌, ℕ, List, [], ◌∷◌, Result, Ok, Err, Option, Some, None, drop, slice_index, refl, ap, sym, inl, inr}
use Rattle.te_model.specs.declared.certificate.RuleFault.{RuleFault}
use Rattle.te_model.specs.declared.route.PairRoutes.{PairRoutes}
use Rattle.number_tables.specs.declared.line.NumLine.{NumLine}
use Rattle.number_tables.specs.Due.{AreFile, LeavesSmallFiles}
use Rattle.number_tables.specs.Table.{table_text}
use Rattle.number_tables.proofs.EachFile.{small_file_or_fault}
use Rattle.number_tables.proofs.FirstUndue.{one_small_fault}
use Rattle.number_tables.proofs.Whole.{one_table}
use Rattle.fault_rates.specs.declared.fault.RateFault.{RateFault}
use Rattle.fault_rates.specs.declared.fault.RateFault.TheVariants as faults
use Rattle.fault_rates.specs.declared.plan.RatePlan.{RatePlan}
use Rattle.fault_rates.specs.File.{FitPairs, pair_lines, rate_lines, rates_due, rates_text}
use Rattle.fault_rates.specs.Plan.{plan_fault}
use Rattle.fault_rates.specs.Reading.{GivesRates, GivesRatesOrMemory, MeansRates, RatesHaveOneMeaning, spelled, misshaped, SpellsRates, read_unless}
use Rattle.fault_rates.proofs.Files.{fit_pairs, rates_end, rates_file, rates_of}
use Rattle.fault_rates.proofs.ReadRates.{rates_first}

abbrev first_numbers : List NumLine → List ℕ
first_numbers [] = []
first_numbers (l ∷ ls) = l.numbers

abbrev rest_of : List NumLine → List NumLine
rest_of ls = drop 1 ls

abbrev ArePairsOf : List ℕ → List (List ℕ) → List ℕ → List (List ℕ) → Type 0
ArePairsOf gs xs hs bs = (gs ≡ hs) × (xs ≡ bs)

one_pairs : (routes : List PairRoutes) (gs : List ℕ) (xs : List (List ℕ)) (hs : List ℕ) (bs : List (List ℕ)) → FitPairs routes gs xs → FitPairs routes hs bs →
    pair_lines gs xs ≡ pair_lines hs bs → ArePairsOf gs xs hs bs
one_pairs [] [] [] [] [] fit fit' same = (refl, refl)
one_pairs [] [] [] [] (b ∷ bs) fit fit' same = absurd fit'
one_pairs [] [] [] (h ∷ hs) bs fit fit' same = absurd fit'
one_pairs [] [] (a ∷ xs) hs bs fit fit' same = absurd fit
one_pairs [] (g ∷ gs) xs hs bs fit fit' same = absurd fit
one_pairs (r ∷ rs) [] xs hs bs fit fit' same = absurd fit
one_pairs (r ∷ rs) (g ∷ gs) [] hs bs fit fit' same = absurd fit
one_pairs (r ∷ rs) (g ∷ gs) (a ∷ xs) [] bs fit fit' same = absurd fit'
one_pairs (r ∷ rs) (g ∷ gs) (a ∷ xs) (h ∷ hs) [] fit fit' same = absurd fit'
one_pairs (r ∷ rs) (g ∷ gs) (a ∷ xs) (h ∷ hs) (b ∷ bs) fit fit' same =
    let rest = one_pairs rs gs xs hs bs fit.1 fit'.1 (ap rest_of same) in
    let grant : g ≡ h = ap (λ (ls : List NumLine). slice_index (first_numbers ls) 0) same in
    let own : a ≡ b = ap (λ (ls : List NumLine). drop 1 (first_numbers ls)) same in
    (λ i. grant i ∷ rest.0 i, λ i. own i ∷ rest.1 i)

pub one_plan : (routes : List PairRoutes) (bytes : List ℕ) (p q : RatePlan) → SpellsRates routes bytes p → SpellsRates routes bytes q → p ≡ q
one_plan routes bytes p q sp sq =
    let fp = rates_file routes p sp.shaped sp.words in
    let fq = rates_file routes q sq.shaped sq.words in
    let lines : rate_lines p ≡ rate_lines q = one_table rates_first (rate_lines p) (rate_lines q) refl fp.0 fq.0 (sym sp.file ∙ sq.file) in
    let failures : p.failures ≡ q.failures = ap (λ (ls : List NumLine). slice_index (first_numbers ls) 0) lines in
    let pairs = one_pairs routes p.grant p.allocation q.grant q.allocation
    (fit_pairs routes p.grant p.allocation sp.shaped.grants sp.shaped.pairs sp.shaped.paths)
    (fit_pairs routes q.grant q.allocation sq.shaped.grants sq.shaped.pairs sq.shaped.paths) (ap rest_of lines)
    in
    λ i. record { failures = failures i; grant = pairs.0 i; allocation = pairs.1 i }

-- what is read of the text of rates that keep the rules
pub read_of_print : (routes : List PairRoutes) (plan : RatePlan) (answer : Result RatePlan RateFault) → SpellsRates routes (rates_text plan) plan → plan_fault plan ≡ None →
    GivesRates routes (rates_text plan) answer → GivesRatesOrMemory answer plan
read_of_print routes plan answer spells none (inr memory) = inr memory
read_of_print routes plan answer spells none (inl (spelled other is gives)) =
    let same = one_plan routes (rates_text plan) other plan is spells in
    inl (gives ∙ ap (λ (p : RatePlan). read_unless (plan_fault p) p) same ∙ ap (λ o. read_unless o plan) none)
read_of_print routes plan answer spells none (inl (misshaped k leaves gives)) =
    absurd ((one_small_fault rates_first (rates_due routes) (rates_text plan)).1 (rate_lines plan) (rates_file routes plan spells.shaped spells.words) refl k leaves)

-- the text of rates that are read is what was read
pub print_of_read : (routes : List PairRoutes) (bytes : List ℕ) (plan : RatePlan) → GivesRates routes bytes (Ok plan) → bytes ≡ rates_text plan
print_of_read routes bytes plan (inr memory) = cc
print_of_read routes bytes plan (inl (misshaped k leaves gives)) = cc
print_of_read routes bytes plan (inl (spelled other is gives)) = go (plan_fault other) gives
  where
    same_plan : (p q : RatePlan) → ◌≡◌ {A = Result RatePlan RateFault} (Ok p) (Ok q) → p ≡ q
    same_plan p q e = cc

    go : (o : Option RuleFault) → ◌≡◌ {A = Result RatePlan RateFault} (Ok plan) (read_unless o other) → bytes ≡ rates_text plan
    go None e = is.file ∙ ap rates_text (sym (same_plan plan other e))
    go (Some f) e = cc

-- bytes that are the file of rates leave the files of rates nowhere
no_leaving : (routes : List PairRoutes) (bytes : List ℕ) (plan : RatePlan) (k : ℕ) → SpellsRates routes bytes plan →
    LeavesSmallFiles rates_first (rates_due routes) bytes k → ⊥
no_leaving routes bytes plan k is leaves =
    (one_small_fault rates_first (rates_due routes) bytes).1 (rate_lines plan) (rates_file routes plan is.shaped is.words) is.file k leaves

one_meaning : (routes : List PairRoutes) (bytes : List ℕ) (x y : Result RatePlan RateFault) → MeansRates routes bytes x → MeansRates routes bytes y → x ≡ y
one_meaning routes bytes x y (spelled p is gives) (spelled q also too) =
    gives ∙ (ap (λ (r : RatePlan). read_unless (plan_fault r) r) (one_plan routes bytes p q is also) ∙ sym too)
one_meaning routes bytes x y (spelled p is gives) (misshaped k leaves too) = absurd (no_leaving routes bytes p k is leaves)
one_meaning routes bytes x y (misshaped k leaves gives) (spelled q also too) = absurd (no_leaving routes bytes q k also leaves)
one_meaning routes bytes x y (misshaped j here gives) (misshaped k there too) =
    gives ∙ (ap (λ n. Err (faults.Shape n)) ((one_small_fault rates_first (rates_due routes) bytes).0 j k here there) ∙ sym too)

-- bytes have one meaning
pub rates_have_one_meaning : RatesHaveOneMeaning
rates_have_one_meaning routes bytes = go (small_file_or_fault rates_first refl (rates_due routes) (rates_end routes) bytes)
  where
    go : ((ls : List NumLine) × AreFile (rates_due routes) ls × (bytes ≡ table_text rates_first ls)) ⊎ ((k : ℕ) × LeavesSmallFiles rates_first (rates_due routes) bytes k) →
        (answer : Result RatePlan RateFault) × MeansRates routes bytes answer × ((other : Result RatePlan RateFault) → MeansRates routes bytes other → answer ≡ other)
    go (inl file) =
        let of = rates_of routes file.0 file.1 in
        let means : MeansRates routes bytes (read_unless (plan_fault of.0) of.0) =
        spelled of.0 (record { shaped = of.1; words = of.2; file = file.2 ∙ ap (table_text rates_first) of.3 }) refl
        in
        (read_unless (plan_fault of.0) of.0, means, λ other also. one_meaning routes bytes _ other means also)
    go (inr fault) =
        let means : MeansRates routes bytes (Err (faults.Shape fault.0)) = misshaped fault.0 fault.1 refl in
        (Err (faults.Shape fault.0), means, λ other also. one_meaning routes bytes _ other means also)
