use Rattle.std.proofs.Common.{All, take}
use Rattle.experiment.specs.Report.{IsReportOfSchemes}
use Rattle.experiment.specs.SchemeTexts.{IsSchemeText}
use Rattle.experiment.proofs.reporting.report.Given as goal

abbrev pub invariant-loop-name : goal.invariant-loop-name
invariant-loop-name l = record {
  written : IsReportOfSchemes (take l.name-index l.plan.schemes) l.plan l.network l.traffic l.failures l.text.items;
  texts : All (IsSchemeText l.input) l.texts.items;
}
