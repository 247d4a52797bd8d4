use Rattle.std.proofs.Common.{◌∙◌}
use Rattle.ratio_witness.proofs.Verdicts.{margin_between, box_between}
use Rattle.ratio_witness.proofs.verdict.is_in_set.Goals as goal

pub returns-in-Margin : goal.returns-in-Margin
returns-in-Margin c =
    c.is_between.ensures ∙ margin_between c.args.head.now.set c.in-Margin.num c.in-Margin.den c.in-Margin.base c.args.witness.now c.args.p c.in-Margin.is

pub returns-in-Box : goal.returns-in-Box
returns-in-Box c =
    c.is_between-in-Box.ensures ∙ box_between c.args.head.now.set c.in-Box.lower c.in-Box.upper c.args.witness.now c.args.p c.in-Box.is
