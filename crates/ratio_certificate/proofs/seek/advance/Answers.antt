use Rattle.std.proofs.Common.{◌≡◌, ◌^◌, List, ℕ, length, ap, sym, subst, ◌∙◌}
use Rattle.te_model.proofs.Lists.{written_whole}
use Rattle.centred_steps.specs.Weights.{AreWeightsUpTo}
use Rattle.ratio_certificate.proofs.seek.advance.Goals as goal

pub step_weights-requires-clause-weights : goal.step_weights-requires-clause-weights
step_weights-requires-clause-weights c =
    subst (AreWeightsUpTo (2 ^ 27)) (sym (c.deref_mut.ensures.value ∙ c.in_ok-weights.ensures.items ∙ c.as_slice.ensures)) c.requires.search.weights

pub move_to-requires-clause-weights : goal.move_to-requires-clause-weights
move_to-requires-clause-weights c =
    let old = c.in_ok-weights.weights.items in
    let kept : length c.step_weights.new.weights ≡ length old = c.step_weights.auto.weights ∙ ap (λ (l : List ℕ). length l) c.deref_mut.ensures.value in
    rw (written_whole c.in_ok-weights.weights.len c.step_weights.new.weights old kept c.in_ok-weights.weights.ok.0) c.step_weights.ensures.weights
