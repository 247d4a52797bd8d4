use Rattle.std.proofs.Common.{ap, ◌∙◌}
use Rattle.experiment.specs.Text.{with_step}
use Rattle.experiment.proofs.lines.add_row.Goals as goal

pub returns-clause-line : goal.returns-clause-line
returns-clause-line c = c.in_ok-print_row.ensures

pub returns-clause-total : goal.returns-clause-total
returns-clause-total c = c.add.ensures.total ∙ ap (with_step c.args.total.now) c.of.ensures.figures

pub returns-clause-small : goal.returns-clause-small
returns-clause-small c = c.add.ensures.small
