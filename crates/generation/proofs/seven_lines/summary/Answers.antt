use Rattle.std.proofs.lemmas.Result.{IfOk-weaker}
use Rattle.generation.specs.Summary.{IsSummary}
use Rattle.generation.proofs.seven_lines.summary.Goals as goal

pub returns : goal.returns
returns c =
    IfOk-weaker c.summary_of.result _ (λ text. IsSummary c.args.nodes c.args.seed text.items)
    (λ text is. is c.args.nodes c.in_ok-network.ensures.drawn) c.summary_of.ensures
