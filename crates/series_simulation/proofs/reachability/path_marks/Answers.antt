use Rattle.std.proofs.Common.{ℕ, List, Option, None, map, is_some, arith, ap, refl, ◌∙◌}
use Rattle.std.proofs.lemmas.List.{take_all}
use Rattle.te_model.proofs.Choices.{mapped_more}
use Rattle.series_simulation.proofs.reachability.path_marks.Goals as goal

pub loop-distance-preserved : goal.loop-distance-preserved
loop-distance-preserved c =
    mapped_more is_some c.args.distances.now c.args.distances.now c.loop-distance.distance-index None c.is_some.result c.loop-distance.marks.items
    c.push.new.self.items refl c.loop-distance-test.true c.loop-distance.invariant c.in_ok-push.ensures.items c.is_some.ensures

pub returns : goal.returns
returns c =
    c.new.ensures ∙ (c.loop-distance.invariant
    ∙ ap (λ (ds : List (Option ℕ)). map (λ d. is_some d) ds) (take_all c.loop-distance.distance-index c.args.distances.now (omega (arith, c.loop-distance-test.false))))
