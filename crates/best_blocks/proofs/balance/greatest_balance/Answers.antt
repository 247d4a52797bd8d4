use Rattle.std.proofs.Common.{◌≡◌, ◌+◌, ◌-◌, ◌/◌, false, arith, length, slice_index, sym, ◌∙◌}
use Rattle.te_model.specs.Demand.{lower_of, upper_of}
use Rattle.best_blocks.specs.Best.{balances}
use Rattle.best_blocks.proofs.Balances.{balances_no_more}
use Rattle.best_blocks.proofs.balance.greatest_balance.Goals as goal

pub loop-high-preserved : goal.loop-high-preserved
loop-high-preserved c =
    let kept = c.loop-high.invariant in
    let middle = c.loop-high.low + (c.loop-high.high - c.loop-high.low) / 2 in
    let shares = slice_index c.args.shared.now.shares in
    let distance = slice_index c.args.distances.now in
    let lower = lower_of c.args.set.now in
    let upper = upper_of c.args.set.now in
    let n = length c.args.shared.now.shares in
    let fails : balances lower upper n shares distance middle ≡ false =
    sym c.balances-in-loop-high.ensures ∙ c.if-balances.false
    in (
      kept.0,
      omega arith,
      omega (arith, kept.2),
      kept.3,
      λ b above small. balances_no_more lower upper n shares distance middle b above fails,
    )

pub returns-clause-some : goal.returns-clause-some
returns-clause-some c =
    let kept = c.loop-high.invariant in
    record {
      some = kept.0;
      small = omega arith;
      balanced = kept.3;
      greatest = λ b above small. kept.4 b (omega (arith, above)) small;
    }
