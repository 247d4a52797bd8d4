use Rattle.std.proofs.Common.{◌≡◌, ◌^◌, List, ℕ, length, arith, ap, sym, subst, ◌∙◌}
use Rattle.std.proofs.lemmas.List.{with_items_is}
use Rattle.centred_steps.specs.Weights.{AreWeightsUpTo}
use Rattle.ratio_certificate.proofs.restricted.make_stage.Goals as goal

pub go_on-requires-clause-at : goal.go_on-requires-clause-at
go_on-requires-clause-at c =
    let at = c.loop.invariant.0 in
    let new = c.step_weights.new.weights in
    let is = with_items_is c.loop.at.weights new (omega (arith, c.step_weights.auto.weights, c.deref_mut.ensures.len)) in
    let kept : length new ≡ length c.loop.at.weights.items = c.step_weights.ensures.count ∙ ap (λ (l : List ℕ). length l) c.deref_mut.ensures.value in
    record {
      search = at.search;
      count = ap (λ (l : List ℕ). length l) is ∙ kept ∙ at.count;
      weights = subst (AreWeightsUpTo (2 ^ 27)) (sym is) c.step_weights.ensures.weights;
      kept = at.kept;
      between = at.between;
    }
