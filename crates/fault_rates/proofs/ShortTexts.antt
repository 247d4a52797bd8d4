-- The text of rates that keep the rules is short.
use Rattle.std.proofs.Common.{true, ◌≡◌, ℕ, suc, ◌+◌, ◌*◌, ◌<◌, ◌≤◌, ◌^◌, ◌&&◌, List, [], ◌∷◌, ◌++◌, length, map, slice_index, arith, refl, length-append}
use Rattle.std.specs.Prelude.{All, codes, slice_index_or}
use Rattle.std.specs.List.{list_all}
use Rattle.std.proofs.lemmas.Bool.{and_parts, leb-true}
use Rattle.std.proofs.lemmas.List.Elements.{All-cons, All-get_or, All-nil}
use Rattle.te_model.specs.declared.route.PairRoutes.{PairRoutes}
use Rattle.te_model.specs.Path.{no_routes, routes_at}
use Rattle.text_size.proofs.Widths.{digit_count, widest, widest_of_amount, widths-le, length-words, line-numbers}
use Rattle.number_tables.specs.Due.{word_line}
use Rattle.number_tables.specs.Table.{file_of, line_text}
use Rattle.fault_rates.specs.File.{FitPairs, RateTextsAreShort, pair_lines, rate_lines}
use Rattle.fault_rates.specs.Plan.{is_rate}
use Rattle.fault_rates.proofs.Files.{fit_pairs}
use Rattle.fault_rates.proofs.Judged.{few_failures, small_rates}

-- a number of at most 8 takes two bytes with what stands beside it
two : widest 8 ≡ 2
unfolding digit_count
two = refl

file_cons : (line : List ℕ) (lines : List (List ℕ)) → length (file_of (line ∷ lines)) ≡ length line + 1 + length (file_of lines)
file_cons line lines =
    let whole = length-append (line ++ 10 ∷ []) (file_of lines) in
    let one = length-append line (10 ∷ []) in
    omega (arith, whole, one)

file_append : (a b : List (List ℕ)) → length (file_of (a ++ b)) ≡ length (file_of a) + length (file_of b)
file_append [] b = omega arith
file_append (line ∷ lines) b =
    let rest = file_append lines b in
    let whole = file_cons line (lines ++ b) in
    let front = file_cons line lines in
    omega (arith, rest, whole, front)

rates_small : (xs : List ℕ) → list_all is_rate xs ≡ true → All (λ x. x ≤ 2 ^ 32) xs
rates_small [] all = All-nil (λ x. x ≤ 2 ^ 32)
rates_small (x ∷ xs) all =
    let both = and_parts (is_rate x) (list_all is_rate xs) all in
    All-cons (λ x. x ≤ 2 ^ 32) x xs (leb-true _ _ both.0) (rates_small xs both.1)

-- a line of a pair
line_short : (g : ℕ) (a : List ℕ) → is_rate g ≡ true → list_all is_rate a ≡ true → length a ≤ 32 → length (line_text (word_line [] (g ∷ a))) + 1 ≤ 363
line_short g a small all few =
    let line = line-numbers g a in
    let each = All-cons (λ x. x ≤ 2 ^ 32) g a (leb-true _ _ small) (rates_small a all) in
    let most = widths-le 33 (2 ^ 32) (g ∷ a) (omega (arith, few)) (omega arith) each in
    let width = widest_of_amount in
    omega (arith, line, most, width)

pairs_short : (routes : List PairRoutes) (gs : List ℕ) (xs : List (List ℕ)) → FitPairs routes gs xs →
    ((p : ℕ) → p < length routes → length (routes_at routes p).paths ≤ 32) →
    ((p : ℕ) → p < length gs → (is_rate (slice_index gs p) && list_all is_rate (slice_index_or xs p [])) ≡ true) →
    length (file_of (map line_text (pair_lines gs xs))) ≤ length routes * 363
pairs_short [] [] [] fit few small = omega arith
pairs_short [] [] (a ∷ xs) fit few small = absurd fit
pairs_short [] (g ∷ gs) xs fit few small = absurd fit
pairs_short (r ∷ rs) [] xs fit few small = absurd fit
pairs_short (r ∷ rs) (g ∷ gs) [] fit few small = absurd fit
pairs_short (r ∷ rs) (g ∷ gs) (a ∷ xs) fit few small =
    let rest = pairs_short rs gs xs fit.1 (λ p below. few (suc p) (omega (arith, below))) (λ p below. small (suc p) (omega (arith, below))) in
    let both = and_parts (is_rate g) (list_all is_rate a) (small 0 (omega arith)) in
    let here = line_short g a both.0 both.1 (let n = few 0 (omega arith) in let same = fit.0 in omega (arith, n, same)) in
    let whole = file_cons (line_text (word_line [] (g ∷ a))) (map line_text (pair_lines gs xs)) in
    omega (arith, rest, here, whole)

first_line_short : (k : ℕ) → k ≤ 8 → length (line_text (word_line (codes "failures") (k ∷ []))) + 1 ≤ 11
first_line_short k few =
    let line = length-words (codes "failures") (k ∷ []) in
    let most = widths-le 1 8 (k ∷ []) (omega arith) (omega arith) (All-cons (λ x. x ≤ 8) k [] few (All-nil (λ x. x ≤ 8))) in
    let width = two in
    omega (arith, line, most, width)

pub rate_texts_are_short : RateTextsAreShort
rate_texts_are_short routes plan count few valid =
    let shaped = valid.shaped in
    let fit = fit_pairs routes plan.grant plan.allocation shaped.grants shaped.pairs shaped.paths in
    let pairs = pairs_short routes plan.grant plan.allocation fit (λ p below. All-get_or (λ r. length r.paths ≤ 32) routes p no_routes below few) (small_rates plan valid.no_fault) in
    let failures = first_line_short plan.failures (few_failures plan valid.no_fault) in
    let second = line_text (word_line (codes "failures") (plan.failures ∷ [])) in
    let lines = map line_text (pair_lines plan.grant plan.allocation) in
    let whole = file_cons (codes "yates-rates 1") (map line_text (rate_lines plan) ++ codes "end" ∷ []) in
    let body = file_cons second (lines ++ codes "end" ∷ []) in
    let ended = file_append lines (codes "end" ∷ []) in
    omega (arith, pairs, failures, whole, body, ended, count)
