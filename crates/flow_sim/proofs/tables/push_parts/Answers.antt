use Rattle.std.proofs.Common.{ℕ, List, ◌++◌, ap, ◌∙◌}
use Rattle.te_model.specs.Apportion.{apportion}
use Rattle.flow_sim.proofs.tables.push_parts.Goals as goal

pub returns : goal.returns
returns c =
    let weights = c.as_slice-2.ensures.value ∙ c.in_ok-weights.ensures in
    let parts = c.as_slice-3.ensures.value ∙ (c.in_ok-parts.ensures.parts ∙ ap (apportion c.args.demand) weights) in
    c.in_ok-extend_from_slice.ensures.items ∙ ap (λ (l : List ℕ). c.args.units.now.items ++ l) parts
