-- The texts of the schemes of a report, each computed once.
use Rattle.std.specs.Prelude.{ℕ, ◌≡◌, IsTrue, List, Option}
use Rattle.te_model.specs.declared.network.Network.{Network}
use Rattle.te_model.specs.declared.route.Pair.{Pair}
use Rattle.te_model.specs.declared.route.PairRoutes.{PairRoutes}
use Rattle.te_model.specs.Network.{is_well_formed, node_count}
use Rattle.traffic_matrix.specs.Traffic.{IsTraffic}
use Rattle.plan.specs.Plan.{InRange}
use Rattle.plan.specs.Words.{scheme_word}
use Rattle.series_simulation.specs.declared.step_row.StepRow.{StepRow}
use Rattle.series_simulation.specs.Rows.{AreStepRows}
use Rattle.experiment.specs.declared.report_input.ReportInput.{ReportInput}
use Rattle.experiment.specs.declared.scheme_texts.SchemeText.{SchemeText}
use Rattle.experiment.specs.Schemes.{AreSchemeRows}
use Rattle.experiment.specs.Text.{scheme_lines}

-- a plan, a network, and traffic there
pub record IsReportInput (input : ReportInput) : Type 0 where
  pub plan : InRange input.plan.now
  pub network : IsTrue (is_well_formed input.network.now)
  pub traffic : IsTraffic (node_count input.network.now) input.traffic.now

module _ {Plan Note : Type 0} (limit : ℕ) (is_plan : Network → List Pair → Plan → Type 0)
    (relates : Network → List Pair → Plan → List ℕ → List PairRoutes → Note → Type 0) (low : Note → Option ℕ)
    (path_set : Plan → Option (List PairRoutes)) (adapts : Network → List PairRoutes → List ℕ → List PairRoutes → Option ℕ → Type 0) where
  -- the lines of rows of a scheme, under a word
  abbrev pub AreLinesOf : ReportInput → List ℕ → List ℕ → Type 0
  AreLinesOf input word bytes =
      (rows : List StepRow)
      × AreStepRows limit is_plan relates low path_set adapts input.network.now input.traffic.now input.failures.now input.plan.now.recovery rows
      × (bytes ≡ scheme_lines word rows)

-- the lines of rows of the scheme of its name
abbrev pub IsSchemeText : ReportInput → SchemeText → Type 0
IsSchemeText input scheme =
    (rows : List StepRow) × AreSchemeRows scheme.name input.plan.now input.network.now input.traffic.now input.failures.now rows
    × (scheme.text.items ≡ scheme_lines (scheme_word scheme.name) rows)
