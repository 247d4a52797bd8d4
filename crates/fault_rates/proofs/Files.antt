-- The files of rates are those of rates of this shape, and each that was begun can be ended.
use Rattle.std.proofs.Common.{true, ◌≡◌, ◌∙◌, ℕ, zero, suc, ◌+◌, ◌<◌, ◌^◌, List, [], ◌∷◌, length, replicate, arith, refl, ap}
use Rattle.std.specs.Prelude.{All, codes, slice_index_or}
use Rattle.std.proofs.lemmas.Bool.{eq-eqb, eqb-true, le-leb}
use Rattle.std.proofs.lemmas.List.{length-replicate}
use Rattle.std.proofs.lemmas.List.Elements.{All-cons, All-head, All-nil, All-tail}
use Rattle.cert_text.specs.Fits.{AreWords}
use Rattle.te_model.specs.declared.route.PairRoutes.{PairRoutes}
use Rattle.te_model.specs.Path.{routes_at}
use Rattle.number_tables.specs.declared.line.NumLine.{NumLine}
use Rattle.number_tables.specs.Due.{AreFile, CanEnd, has_count, word_line}
use Rattle.number_tables.specs.Table.{IsLine}
use Rattle.fault_rates.specs.declared.plan.RatePlan.{RatePlan}
use Rattle.fault_rates.specs.File.{FilesOfRates, FitPairs, HasWords, pair_lines, pairs_due, rate_lines, rates_due}
use Rattle.fault_rates.specs.Plan.{IsShapedPlan}

-- ---- shapes by place and by recursion

pub fit_pairs : (routes : List PairRoutes) (gs : List ℕ) (xs : List (List ℕ)) → length gs ≡ length routes → length xs ≡ length routes →
    ((p : ℕ) → p < length routes → length (slice_index_or xs p []) ≡ length (routes_at routes p).paths) → FitPairs routes gs xs
fit_pairs [] [] [] e f each = tt
fit_pairs [] [] (a ∷ xs) e f each = absurd (omega (arith, f))
fit_pairs [] (g ∷ gs) xs e f each = absurd (omega (arith, e))
fit_pairs (r ∷ rs) [] xs e f each = absurd (omega (arith, e))
fit_pairs (r ∷ rs) (g ∷ gs) [] e f each = absurd (omega (arith, f))
fit_pairs (r ∷ rs) (g ∷ gs) (a ∷ xs) e f each =
    (each 0 (omega arith), fit_pairs rs gs xs (omega (arith, e)) (omega (arith, f)) (λ p below. each (suc p) (omega (arith, below))))

-- and the other way round
pub fit_shape : (routes : List PairRoutes) (gs : List ℕ) (xs : List (List ℕ)) → FitPairs routes gs xs →
    (length gs ≡ length routes) × (length xs ≡ length routes)
    × ((p : ℕ) → p < length routes → length (slice_index_or xs p []) ≡ length (routes_at routes p).paths)
fit_shape [] [] [] fit = (refl, refl, λ p below. absurd (omega (arith, below)))
fit_shape [] [] (a ∷ xs) fit = absurd fit
fit_shape [] (g ∷ gs) xs fit = absurd fit
fit_shape (r ∷ rs) [] xs fit = absurd fit
fit_shape (r ∷ rs) (g ∷ gs) [] fit = absurd fit
fit_shape (r ∷ rs) (g ∷ gs) (a ∷ xs) fit =
    let rest = fit_shape rs gs xs fit.1 in (omega (arith, rest.0), omega (arith, rest.1), at rest.2)
  where
    at : ((p : ℕ) → p < length rs → length (slice_index_or xs p []) ≡ length (routes_at rs p).paths) →
        (p : ℕ) → p < length (r ∷ rs) → length (slice_index_or (a ∷ xs) p []) ≡ length (routes_at (r ∷ rs) p).paths
    at each zero below = fit.0
    at each (suc p) below = each p (omega (arith, below))

-- a line of a pair
pair_line : (g : ℕ) (a : List ℕ) → g < 2 ^ 64 → AreWords a → IsLine (word_line [] (g ∷ a))
pair_line g a small words = record { begun = le-leb 1 (length (g ∷ a)) (omega arith); numbers = (small, words) }

-- the lines of pairs are those that are due
pairs_file : (routes : List PairRoutes) (gs : List ℕ) (xs : List (List ℕ)) → FitPairs routes gs xs → AreWords gs → All AreWords xs →
    AreFile (pairs_due routes) (pair_lines gs xs)
pairs_file [] [] [] fit grants allocations = (tt, tt)
pairs_file (r ∷ rs) (g ∷ gs) (a ∷ xs) fit grants allocations =
    let rest = pairs_file rs gs xs fit.1 grants.1 (All-tail AreWords a xs allocations) in
    let count : length (g ∷ a) ≡ 1 + length r.paths = omega (arith, fit.0) in (
      (pair_line g a grants.0 (All-head AreWords a xs allocations), rest.0),
      (refl, eq-eqb (length (g ∷ a)) (1 + length r.paths) count, rest.1),
    )
pairs_file [] [] (a ∷ xs) fit grants allocations = absurd fit
pairs_file [] (g ∷ gs) xs fit grants allocations = absurd fit
pairs_file (r ∷ rs) [] xs fit grants allocations = absurd fit
pairs_file (r ∷ rs) (g ∷ gs) [] fit grants allocations = absurd fit

-- lines that are due are those of pairs
pub record ArePairLines (routes : List PairRoutes) (ls : List NumLine) : Type 0 where
  pub grants : List ℕ
  pub allocations : List (List ℕ)
  pub fit : FitPairs routes grants allocations
  pub grant_words : AreWords grants
  pub allocation_words : All AreWords allocations
  pub lines : ls ≡ pair_lines grants allocations

pub pairs_of : (routes : List PairRoutes) (ls : List NumLine) → AreFile (pairs_due routes) ls → ArePairLines routes ls
pairs_of [] [] file = record { grants = []; allocations = []; fit = tt; grant_words = tt; allocation_words = All-nil AreWords; lines = refl }
pairs_of [] (l ∷ ls) file = absurd file.1
pairs_of (r ∷ rs) [] file = absurd file.1
pairs_of (r ∷ rs) (l ∷ ls) file =
    by_numbers l.word l.numbers file.0.0 file.1.0 file.1.1 (pairs_of rs ls (file.0.1, file.1.2))
  where
    by_numbers : (word numbers : List ℕ) → IsLine (word_line word numbers) → word ≡ [] → has_count (1 + length r.paths) numbers ≡ true →
        ArePairLines rs ls → ArePairLines (r ∷ rs) (word_line word numbers ∷ ls)
    by_numbers word [] is empty count rest = absurd (omega (arith, eqb-true 0 (1 + length r.paths) count))
    by_numbers word (g ∷ a) is empty count rest =
        let longer = eqb-true (length (g ∷ a)) (1 + length r.paths) count in
        record {
          grants = g ∷ rest.grants;
          allocations = a ∷ rest.allocations;
          fit = (omega (arith, longer), rest.fit);
          grant_words = (is.numbers.0, rest.grant_words);
          allocation_words = All-cons AreWords a rest.allocations is.numbers.1 rest.allocation_words;
          lines = ap (λ (w : List ℕ). word_line w (g ∷ a) ∷ ls) empty ∙ ap (λ (m : List NumLine). word_line [] (g ∷ a) ∷ m) rest.lines;
        }

-- a line that is due can follow: zeros
pairs_end : (routes : List PairRoutes) → CanEnd (pairs_due routes)
pairs_end [] = tt
pairs_end (r ∷ rs) = (
  (
    0 ∷ replicate (length r.paths) 0,
    pair_line 0 (replicate (length r.paths) 0) (omega arith) (zero_words (length r.paths)),
    eq-eqb (length (0 ∷ replicate (length r.paths) 0)) (1 + length r.paths) (let count = length-replicate {A = ℕ} (length r.paths) 0 in omega (arith, count)),
  ),
  λ numbers passes. pairs_end rs,
)
  where
    zero_words : (n : ℕ) → AreWords (replicate n 0)
    zero_words zero = tt
    zero_words (suc n) = (omega arith, zero_words n)

-- ---- the whole file

pub rates_file : (routes : List PairRoutes) (plan : RatePlan) → IsShapedPlan routes plan → HasWords plan → AreFile (rates_due routes) (rate_lines plan)
rates_file routes plan shaped words =
    let fit = fit_pairs routes plan.grant plan.allocation shaped.grants shaped.pairs shaped.paths in
    let pairs = pairs_file routes plan.grant plan.allocation fit words.grants words.allocations in (
      (record { begun = refl; numbers = (words.failures, tt) }, pairs.0),
      (refl, refl, pairs.1),
    )

pub rates_of : (routes : List PairRoutes) (ls : List NumLine) → AreFile (rates_due routes) ls →
    (plan : RatePlan) × IsShapedPlan routes plan × HasWords plan × (ls ≡ rate_lines plan)
rates_of routes [] file = absurd file.1
rates_of routes (l ∷ ls) file =
    by_numbers l.word l.numbers file.0.0 file.1.0 file.1.1 (pairs_of routes ls (file.0.1, file.1.2))
  where
    by_numbers : (word numbers : List ℕ) → IsLine (word_line word numbers) → word ≡ codes "failures" → has_count 1 numbers ≡ true →
        ArePairLines routes ls → (plan : RatePlan) × IsShapedPlan routes plan × HasWords plan × (word_line word numbers ∷ ls ≡ rate_lines plan)
    by_numbers word [] is named count rest = cc
    by_numbers word (k ∷ j ∷ more) is named count rest = absurd (omega (arith, eqb-true (length (k ∷ j ∷ more)) 1 count))
    by_numbers word (k ∷ []) is named count rest =
        let shape = fit_shape routes rest.grants rest.allocations rest.fit in (
          record { failures = k; grant = rest.grants; allocation = rest.allocations },
          record { grants = shape.0; pairs = shape.1; paths = shape.2 },
          record { failures = is.numbers.0; grants = rest.grant_words; allocations = rest.allocation_words },
          ap (λ (w : List ℕ). word_line w (k ∷ []) ∷ ls) named ∙ ap (λ (m : List NumLine). word_line (codes "failures") (k ∷ []) ∷ m) rest.lines,
        )

pub rates_end : (routes : List PairRoutes) → CanEnd (rates_due routes)
rates_end routes = ((0 ∷ [], record { begun = refl; numbers = (omega arith, tt) }, refl), λ numbers passes. pairs_end routes)

pub files_of_rates : FilesOfRates
files_of_rates = record { rates = rates_file; of_rates = rates_of; end = rates_end }
