use Rattle.std.proofs.Common.{◌≡◌, length, rules, subst, ap, ◌∙◌}
use Rattle.worst_matrices.specs.Members.{IsNotOfSet, numerator_of, denominator_of}
use Rattle.worst_matrices.proofs.NearestDemands.{mean_shows_none}
use Rattle.worst_matrices.proofs.members.member_near.Goals as goal

pub returns-else-is_of_set-clause-none : goal.returns-else-is_of_set-clause-none
returns-else-is_of_set-clause-none c = λ _.
    let set = c.args.set.now in
    let sums = c.args.sums.now in
    let demand = c.in_ok-demand.demand.items in
    let x = c.scale_of-scale.result.x in
    let y = c.scale_of-scale.result.y in
    let no = subst (IsNotOfSet set x y) c.deref.ensures.value (c.is_of_set.ensures.no c.if-is_of_set.false) in
    let n_is : c.len.result ≡ length sums.demand.items = search rules in
    let x_is = c.scale_of-scale.ensures.numerator ∙ ap (numerator_of set) n_is in
    let y_is = c.scale_of-scale.ensures.denominator ∙ ap (denominator_of set) n_is in
    mean_shows_none set sums x y demand x_is y_is c.in_ok-demand.ensures.small.count c.in_ok-demand.ensures.demands no
