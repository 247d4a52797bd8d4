-- The file of rates: a table with the lines that are due for the pairs of a routing.
use Rattle.std.specs.Prelude.{◌≡◌, ℕ, ◌+◌, ◌^◌, ◌<◌, ◌≤◌, List, [], ◌∷◌, length, codes, All}
use Rattle.cert_text.specs.Fits.{AreWords}
use Rattle.te_model.specs.declared.limits.TheConstants.{FORMAT_2}
use Rattle.te_model.specs.declared.route.PairRoutes.{PairRoutes}
use Rattle.routing.specs.Routes.{HasFewPaths}
use Rattle.number_tables.specs.declared.line.NumLine.{NumLine}
use Rattle.number_tables.specs.Due.{Due, done, line, has_count, word_line, AreFile, CanEnd}
use Rattle.number_tables.specs.Table.{table_text}
use Rattle.fault_rates.specs.declared.plan.RatePlan.{RatePlan}
use Rattle.fault_rates.specs.Plan.{IsShapedPlan, IsValidPlan}

-- a line for each pair: its grant, and its allocations
abbrev pub pair_lines : List ℕ → List (List ℕ) → List NumLine
pair_lines [] allocations = []
pair_lines (g ∷ gs) [] = []
pair_lines (g ∷ gs) (a ∷ xs) = word_line [] (g ∷ a) ∷ pair_lines gs xs

-- the number of failures, and the pairs
abbrev pub rate_lines : RatePlan → List NumLine
rate_lines plan = word_line (codes "failures") (plan.failures ∷ []) ∷ pair_lines plan.grant plan.allocation

-- the file of rates
abbrev pub rates_text : RatePlan → List ℕ
rates_text plan = table_text (codes "yates-rates 1") (rate_lines plan)

-- numbers of 64 bits
pub record HasWords (plan : RatePlan) : Type 0 where
  pub failures : plan.failures < 2 ^ 64
  pub grants : AreWords plan.grant
  pub allocations : All AreWords plan.allocation

-- for each pair a line of one number more than it has paths
abbrev pub pairs_due : List PairRoutes → Due
pairs_due [] = done
pairs_due (r ∷ rs) = line [] (has_count (1 + length r.paths)) (λ _. pairs_due rs)

-- the number of failures, and the pairs
abbrev pub rates_due : List PairRoutes → Due
rates_due routes = line (codes "failures") (has_count 1) (λ _. pairs_due routes)

-- one grant for each of the pairs, and one allocation for each of its paths
abbrev pub FitPairs : List PairRoutes → List ℕ → List (List ℕ) → Type 0
FitPairs [] [] [] = Unit {0}
FitPairs (r ∷ rs) (g ∷ gs) (a ∷ xs) = (length a ≡ length r.paths) × FitPairs rs gs xs
FitPairs routes grants allocations = ⊥

-- The files are those of rates of this shape, each of some rates; and each that was begun can be ended.
pub record FilesOfRates : Type 0 where
  pub rates : (routes : List PairRoutes) (plan : RatePlan) → IsShapedPlan routes plan → HasWords plan → AreFile (rates_due routes) (rate_lines plan)
  pub of_rates : (routes : List PairRoutes) (ls : List NumLine) → AreFile (rates_due routes) ls →
      (plan : RatePlan) × IsShapedPlan routes plan × HasWords plan × (ls ≡ rate_lines plan)
  pub end : (routes : List PairRoutes) → CanEnd (rates_due routes)

-- The text of rates that keep the rules is short, where a routing has no more pairs than a certificate and few paths for each.
abbrev pub RateTextsAreShort : Type 0
RateTextsAreShort =
    (routes : List PairRoutes) (plan : RatePlan) → length routes ≤ FORMAT_2.pairs → HasFewPaths 32 routes → IsValidPlan routes plan →
    length (rates_text plan) < 6000000
