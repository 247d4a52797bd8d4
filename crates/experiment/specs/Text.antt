-- The text of a report: fields apart by commas (44), lines ended by a line feed (10).
use Rattle.std.specs.Prelude.{ℕ, ◌+◌, ◌≤◌, max, List, [], ◌∷◌, ◌++◌, Option, Some, None, codes, decimal, flat_map, fold}
use Rattle.std.specs.List.{join_with_byte}
use Rattle.series_simulation.specs.declared.step_row.StepRow.{StepRow}
use Rattle.experiment.specs.declared.figures.Figures.{Figures}

-- the figures of a step
abbrev pub figures_of : StepRow → Figures
figures_of row = record {
  offered = row.result.offered;
  delivered = row.result.delivered;
  lost_full = row.result.lost_full;
  lost_failed = row.result.lost_failed;
  lost_no_path = row.result.lost_no_path;
  peak = row.peak;
  parts = row.parts;
}

-- the figures of no step
abbrev pub no_figures : Figures
no_figures = record { offered = 0; delivered = 0; lost_full = 0; lost_failed = 0; lost_no_path = 0; peak = 0; parts = 0 }

-- with those of one step more: its amounts are added, and the greater utilisations stay
abbrev pub with_step : Figures → Figures → Figures
with_step f step = record {
  offered = f.offered + step.offered;
  delivered = f.delivered + step.delivered;
  lost_full = f.lost_full + step.lost_full;
  lost_failed = f.lost_failed + step.lost_failed;
  lost_no_path = f.lost_no_path + step.lost_no_path;
  peak = max f.peak step.peak;
  parts = max f.parts step.parts;
}

-- the figures of all steps: the sums of the amounts, and the greatest utilisations
abbrev pub total_of : List StepRow → Figures
total_of rows = fold (λ f row. with_step f (figures_of row)) no_figures rows

-- each amount is at most this
pub record AmountsAtMost (bound : ℕ) (f : Figures) : Type 0 where
  pub offered : f.offered ≤ bound
  pub delivered : f.delivered ≤ bound
  pub lost_full : f.lost_full ≤ bound
  pub lost_failed : f.lost_failed ≤ bound
  pub lost_no_path : f.lost_no_path ≤ bound

-- a number in decimal, or a dash for none
abbrev pub number_or_dash : Option ℕ → List ℕ
number_or_dash None = codes "-"
number_or_dash (Some number) = decimal number

abbrev pub header : List ℕ
header = codes "scheme,step,offered,delivered,lost_full,lost_failed,lost_no_path,peak,parts,low\n"

-- a line, whose fields are as the header names them
abbrev pub line : List ℕ → List ℕ → Figures → Option ℕ → List ℕ
line word step f low =
    join_with_byte 44 (word ∷ step ∷ decimal f.offered ∷ decimal f.delivered ∷ decimal f.lost_full ∷ decimal f.lost_failed
    ∷ decimal f.lost_no_path ∷ decimal f.peak ∷ decimal f.parts ∷ number_or_dash low ∷ [])
    ++ 10 ∷ []

abbrev pub step_line : List ℕ → StepRow → List ℕ
step_line word row = line word (decimal row.step) (figures_of row) row.low

abbrev pub total_line : List ℕ → List StepRow → List ℕ
total_line word rows = line word (codes "total") (total_of rows) None

-- a line for each step, and the total
abbrev pub scheme_lines : List ℕ → List StepRow → List ℕ
scheme_lines word rows = flat_map (step_line word) rows ++ total_line word rows
