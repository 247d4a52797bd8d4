use Rattle.std.proofs.Common.{◌∙◌, refl, sym}
use Rattle.experiment.proofs.published_file.seed_count.Goals as goal

pub returns-else-draws : goal.returns-else-draws
returns-else-draws c = rw (sym c.draws.ensures ∙ c.if-draws.false) refl
