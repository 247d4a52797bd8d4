use Rattle.std.proofs.Common.{◌≡◌, List, length, replicate, ap, ◌∙◌, rules}
use Rattle.te_model.specs.declared.network.Link.{Link}
use Rattle.dual_bounds.proofs.dual.unit_lengths.Goals as goal

pub returns-clause-lengths : goal.returns-clause-lengths
returns-clause-lengths c =
    let made : c.in_ok-unit.unit.items ≡ replicate (length c.as_slice.result.now) 1 = search rules in
    made ∙ ap (λ (l : List Link). replicate (length l) 1) c.as_slice.ensures
