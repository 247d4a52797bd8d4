use Rattle.std.proofs.Common.{ap, sym}
use Rattle.te_model.specs.declared.demand.DemandSet.{DemandSet}
use Rattle.best_blocks.specs.Best.{needs_row}
use Rattle.best_blocks.proofs.sharing.needs_row.Goals as goal

pub returns-in-Box : goal.returns-in-Box
returns-in-Box c = sym (ap (λ (s : DemandSet). needs_row s c.args.share) c.in-Box.is)
