use Rattle.std.proofs.Common.{◌≤◌, List, length, arith, ap}
use Rattle.routing.specs.declared.shares.PairShare.{PairShare}
use Rattle.best_blocks.proofs.AllowedUse.{sum_more, sum_small, sum_whole}
use Rattle.best_blocks.proofs.balance.used_by_shares.Goals as goal

pub overflow_add-sum : goal.overflow_add-sum
overflow_add-sum c =
    let small = sum_small c.args.set.now c.args.shared.now c.args.distances.now c.args.b c.loop-entry.entry-index c.loop-entry.sum c.requires.numbers
    c.requires.listed c.requires.b c.loop-entry.invariant
    in omega (arith, small, c.requires.numbers.few, c.used_by-sum.ensures.small)

pub returns : goal.returns
returns c =
    let all : length c.args.shared.now.list ≤ c.loop-entry.entry-index =
    omega (arith, ap (λ (xs : List PairShare). length xs) c.as_slice-entry-items.ensures)
    in
    sum_whole c.args.set.now c.args.shared.now c.args.distances.now c.args.b c.loop-entry.entry-index c.loop-entry.sum c.requires.listed all
    c.loop-entry.invariant

pub loop-entry-preserved : goal.loop-entry-preserved
loop-entry-preserved c =
    sum_more c.args.set.now c.args.shared.now c.args.distances.now c.args.b c.loop-entry.entry-index c.loop-entry.sum c.used_by-sum.result
    c.as_slice-entry-items.result.now c.requires.listed c.as_slice-entry-items.ensures c.loop-entry-test.true c.used_by-sum.ensures.value c.loop-entry.invariant
