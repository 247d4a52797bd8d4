use Rattle.std.proofs.Common.{ap, sym}
use Rattle.experiment.specs.Published.{margin_set}
use Rattle.experiment.proofs.demand_set.margin_set.Goals as goal

pub returns-in-None : goal.returns-in-None
returns-in-None c = sym (ap (λ m. margin_set m c.args.series.now) c.in-None.is)
