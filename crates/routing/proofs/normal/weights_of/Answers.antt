use Rattle.std.proofs.Common.{ℕ, ◌∙◌, ap, sym, ◌++◌, ◌∷◌, [], List, map, take}
use Rattle.std.proofs.lemmas.List.{map_more, take_all}
use Rattle.te_model.specs.declared.route.PathShare.{PathShare}
use Rattle.routing.proofs.normal.weights_of.Goals as goal

pub loop-part-preserved : goal.loop-part-preserved
loop-part-preserved c =
    let parts = c.args.parts.now in
    let i = c.loop-part.part-index in
    let part = c.part-item.result in
    c.in_ok-push.ensures.items
    ∙ (ap (λ (l : List ℕ). l ++ part.weight ∷ []) c.loop-part.invariant
    ∙ (ap (λ (s : PathShare). map (λ (s : PathShare). s.weight) (take i parts) ++ s.weight ∷ []) c.part-item.is
    ∙ sym (map_more (λ (s : PathShare). s.weight) parts i part c.loop-part-test.true)))

pub returns : goal.returns
returns c = c.loop-part.invariant ∙ ap (map (λ (s : PathShare). s.weight)) (take_all c.loop-part.part-index c.args.parts.now c.loop-part-test.false)
