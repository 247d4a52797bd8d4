use Rattle.std.proofs.Common.{ℕ, List, set, ap, ◌∙◌}
use Rattle.ratio_certificate.proofs.better.BlockChanges.weights_with.Goals as goal

pub returns : goal.returns
returns c = ap (λ (ws : List ℕ). set ws c.args.link c.args.weight) (c.in_ok-weights.ensures.items ∙ c.as_slice.ensures)
