use Rattle.std.proofs.Common.{◌≡◌, [], length, take, arith, ap, sym, ◌∙◌, rules, subst}
use Rattle.std.proofs.lemmas.List.{map-id}
use Rattle.std.proofs.lemmas.List.Sums.{sum_by_more_le}
use Rattle.std.proofs.lemmas.Iterator.Adapters.{YieldsList-from_vec}
use Rattle.std.proofs.lemmas.Iterator.Consumers.{YieldsList-so_far, YieldsList-turn}
use Rattle.te_model.specs.declared.route.PathShare.{PathShare}
use Rattle.routing.specs.Merge.{IsMerge}
use Rattle.routing.specs.Split.{total_weight}
use Rattle.routing.proofs.Adding.{merge_more, merge_total}
use Rattle.routing.proofs.MergesMade.{merge_none}
use Rattle.routing.proofs.merging.merge.Goals as goal

pub add-requires-clause-fits : goal.add-requires-clause-fits
add-requires-clause-fits c =
    let xs = c.args.parts.items in
    let road = YieldsList-from_vec {s = c.into_iter-part-iterator.result} xs (search rules) (search rules) in
    let turn = YieldsList-turn road c.loop-part.yielded c.loop-part.part-iterator c.loop-part.yielded_by c.next.result c.next.new.self c.in-Some.part c.in-Some.is c.next.ensures.steps in
    let so_far = YieldsList-so_far road c.loop-part.yielded c.loop-part.part-iterator c.loop-part.yielded_by in
    let le = sum_by_more_le (λ (s : PathShare). s.weight) xs (length c.loop-part.yielded) c.in-Some.part turn.0 in
    let weight = ap (λ (s : PathShare). s.weight) turn.1 in
    let sums : total_weight c.loop-part.yielded ≡ total_weight (take (length c.loop-part.yielded) xs) =
    ap total_weight (sym (map-id c.loop-part.yielded) ∙ so_far)
    in
    omega (arith, le, weight, sums, merge_total c.loop-part.yielded c.loop-part.merged.items c.loop-part.invariant, c.requires)

pub loop-part-init : goal.loop-part-init
loop-part-init c = subst (IsMerge []) (sym c.new-merged.ensures.items) merge_none

pub loop-part-preserved : goal.loop-part-preserved
loop-part-preserved c =
    merge_more c.loop-part.yielded c.loop-part.merged.items c.add.new.merged.items c.in-Some.part c.loop-part.invariant c.in_ok-add.ensures
