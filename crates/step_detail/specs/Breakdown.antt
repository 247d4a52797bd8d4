-- A step of each scheme of a plan, broken down by links, by pairs or by paths.
use Rattle.std.specs.Prelude.{◌≡◌, ℕ, Bool, List, ◌++◌, Option, flat_map, zip}
use Rattle.std.specs.List.{AllZip}
use Rattle.te_model.specs.declared.network.Network.{Network}
use Rattle.failure.specs.declared.outage.Failures.{Failures}
use Rattle.failure.specs.Series.{marks_of}
use Rattle.traffic_matrix.specs.declared.traffic.Traffic.{Traffic}
use Rattle.plan.specs.declared.experiment.Experiment.{Experiment}
use Rattle.plan.specs.declared.scheme_name.SchemeName.{SchemeName}
use Rattle.plan.specs.Words.{scheme_word}
use Rattle.series_simulation.specs.declared.step_row.SimulatedStep.{SimulatedStep}
use Rattle.series_simulation.specs.Rows.{IsStepAt}
use Rattle.traffic_matrix.specs.Traffic.{sent_in}
use Rattle.experiment.specs.Schemes.{SchemeMeaning, meaning_of}
use Rattle.step_detail.specs.declared.breakdown.Breakdown.{Breakdown}
use Rattle.step_detail.specs.declared.breakdown.Breakdown.TheVariants.{Links, Pairs, Paths}
use Rattle.step_detail.specs.Links.{links_header, link_use_lines}
use Rattle.step_detail.specs.Pairs.{AreLeastCosts, pairs_header, pair_result_lines}
use Rattle.step_detail.specs.Paths.{paths_header, weighted_path_lines}

-- step k of a scheme, as in the rows of a report
abbrev pub IsStepBy : SchemeMeaning → Experiment → Network → Traffic → Failures → ℕ → SimulatedStep → Type 0
IsStepBy scheme plan net traffic failures k step =
    IsStepAt scheme.limit scheme.is_plan scheme.relates scheme.low scheme.path_set scheme.adapts net traffic failures plan.recovery k step

-- of the scheme of this name, with the plan's numbers and recovery
abbrev pub IsSchemeStep : SchemeName → Experiment → Network → Traffic → Failures → ℕ → SimulatedStep → Type 0
IsSchemeStep name plan net traffic failures k step = IsStepBy (meaning_of name plan) plan net traffic failures k step

abbrev pub header_of : Breakdown → List ℕ
header_of Links = links_header
header_of Pairs = pairs_header
header_of Paths = paths_header

-- the lines of a scheme: its step on a network with these failed links, demands and least costs
abbrev pub lines_of : Breakdown → Network → List Bool → List ℕ → List (Option ℕ) → List ℕ → SimulatedStep → List ℕ
lines_of Links net failed demand least word step = link_use_lines net failed demand word step
lines_of Pairs net failed demand least word step = pair_result_lines net least word step
lines_of Paths net failed demand least word step = weighted_path_lines net word step

-- the lines of each scheme with its step, in order
abbrev pub lines_of_schemes : Breakdown → Network → List Bool → List ℕ → List (Option ℕ) → List SchemeName → List SimulatedStep → List ℕ
lines_of_schemes breakdown net failed demand least names steps =
    flat_map (λ part. lines_of breakdown net failed demand least (scheme_word part.0) part.1) (zip names steps)

-- the bytes are the header, and the lines of step k of each of these schemes, in order
pub record IsBreakdownOfSchemes (names : List SchemeName) (breakdown : Breakdown) (plan : Experiment) (net : Network) (traffic : Traffic) (failures : Failures) (k : ℕ) (bytes : List ℕ) : Type 0 where
  pub steps : List SimulatedStep
  pub are_steps : AllZip (λ name step. IsSchemeStep name plan net traffic failures k step) names steps
  pub least : List (Option ℕ)
  pub are_least : breakdown ≡ Pairs → AreLeastCosts net traffic.sent.pairs.list least
  pub text_is : bytes ≡ header_of breakdown ++ lines_of_schemes breakdown net (marks_of net failures k) (sent_in traffic k) least names steps

-- of the plan's schemes
abbrev pub IsBreakdown : Breakdown → Experiment → Network → Traffic → Failures → ℕ → List ℕ → Type 0
IsBreakdown breakdown plan net traffic failures k bytes = IsBreakdownOfSchemes plan.schemes breakdown plan net traffic failures k bytes
