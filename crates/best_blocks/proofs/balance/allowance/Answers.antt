use Rattle.std.proofs.Common.{◌≡◌, ◌+◌, ◌*◌, slice_index, add-one, arith, ap}
use Rattle.te_model.specs.Demand.{lower_of}
use Rattle.te_model.specs.Inequalities.{weigh}
use Rattle.te_model.proofs.Sizes.{bound_term}
use Rattle.best_blocks.proofs.balance.allowance.Goals as goal

pub loop-p-preserved : goal.loop-p-preserved
loop-p-preserved c =
    let p = c.loop-p.p in
    let lower = lower_of c.args.set.now in
    let distance = slice_index c.args.distances.now in
    let term = ap (λ x. x * distance p) c.lower.ensures in
    let small = bound_term (lower p) (distance p) (c.requires.lower p) (omega (arith, c.requires.near p)) in
    let more : weigh (p + 1) lower distance ≡ weigh p lower distance + lower p * distance p = ap (λ n. weigh n lower distance) (add-one p) in
    (omega (arith, c.loop-p.invariant.0, term, more), omega (arith, c.loop-p.invariant.1, term, small))
