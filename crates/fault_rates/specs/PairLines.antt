-- Reading the lines of a file of rates, one after the other.
use Rattle.std.specs.Prelude.{◌≡◌, ℕ, List, [], ◌∷◌, ◌++◌, length, Some}
use Rattle.te_model.specs.declared.route.PairRoutes.{PairRoutes}
use Rattle.number_tables.specs.declared.line.NumLine.{NumLine}
use Rattle.number_tables.specs.Due.{first_undue, word_line}
use Rattle.fault_rates.specs.declared.plan.RatePlan.{RatePlan}
use Rattle.fault_rates.specs.declared.reader.PairRates.{PairRates}
use Rattle.fault_rates.specs.File.{FitPairs, pair_lines, pairs_due}

-- the line of a pair with so many paths
abbrev pub BeginsWithPair : ℕ → PairRates → List NumLine → List NumLine → Type 0
BeginsWithPair paths rates ls more =
    (length rates.allocation ≡ paths) × (ls ≡ word_line [] (rates.grant ∷ rates.allocation) ∷ more)

-- the lines of these pairs
abbrev pub BeginsWithPairs : List PairRoutes → RatePlan → List NumLine → List NumLine → Type 0
BeginsWithPairs routes plan ls more =
    FitPairs routes plan.grant plan.allocation × (ls ≡ pair_lines plan.grant plan.allocation ++ more)

-- no such lines
abbrev pub LeavesAtPairs : List PairRoutes → List NumLine → ℕ → Type 0
LeavesAtPairs routes ls j = first_undue (pairs_due routes) ls ≡ Some j
