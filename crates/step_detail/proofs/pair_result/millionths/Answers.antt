use Rattle.std.proofs.Common.{◌*◌, ap, ◌∙◌}
use Rattle.step_detail.proofs.pair_result.millionths.Goals as goal

pub returns : goal.returns
returns c = ap (λ a. a * c.from-2.result) c.from.ensures ∙ ap (λ b. c.args.cost * b) c.from-2.ensures
