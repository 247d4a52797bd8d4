-- The report of an experiment (after YATES; Kumar et al., 2018).
use Rattle.std.specs.Prelude.{ℕ, ◌≡◌, List, ◌++◌, flat_map, zip}
use Rattle.std.specs.List.{AllZip}
use Rattle.te_model.specs.declared.network.Network.{Network}
use Rattle.failure.specs.declared.outage.Failures.{Failures}
use Rattle.traffic_matrix.specs.declared.traffic.Traffic.{Traffic}
use Rattle.plan.specs.declared.experiment.Experiment.{Experiment}
use Rattle.plan.specs.declared.scheme_name.SchemeName.{SchemeName}
use Rattle.plan.specs.Words.{scheme_word}
use Rattle.series_simulation.specs.declared.step_row.StepRow.{StepRow}
use Rattle.experiment.specs.Schemes.{AreSchemeRows}
use Rattle.experiment.specs.Text.{header, scheme_lines}

-- the lines of each scheme with its rows, in order
abbrev pub lines_of_schemes : List SchemeName → List (List StepRow) → List ℕ
lines_of_schemes names rows = flat_map (λ part. scheme_lines (scheme_word part.0) part.1) (zip names rows)

-- the bytes are the header, and the lines of rows of each of these schemes, in order
pub record IsReportOfSchemes (names : List SchemeName) (plan : Experiment) (net : Network) (traffic : Traffic) (failures : Failures) (bytes : List ℕ) : Type 0 where
  pub rows : List (List StepRow)
  pub are_rows : AllZip (λ name part. AreSchemeRows name plan net traffic failures part) names rows
  pub text_is : bytes ≡ header ++ lines_of_schemes names rows

-- a report of the plan's schemes
abbrev pub IsReport : Experiment → Network → Traffic → Failures → List ℕ → Type 0
IsReport plan net traffic failures bytes = IsReportOfSchemes plan.schemes plan net traffic failures bytes
