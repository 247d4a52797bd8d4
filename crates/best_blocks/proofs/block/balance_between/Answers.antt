use Rattle.std.proofs.Common.{◌+◌, ◌-◌, List, ℕ, ap, sym, slice_index, subst, ◌∙◌}
use Rattle.shortest_path.specs.Pairs.{AreValues}
use Rattle.best_blocks.specs.Best.{minus_amount, plus_amount}
use Rattle.best_blocks.proofs.Growing.{value_pushed}
use Rattle.best_blocks.proofs.block.balance_between.Goals as goal

pub loop-p-preserved : goal.loop-p-preserved
loop-p-preserved c =
    let distance = slice_index c.args.distances.now in
    let plus = plus_amount (slice_index c.args.shares.now) distance c.args.b in
    let minus = minus_amount (slice_index c.args.shares.now) distance c.args.b in
    let p = c.loop-p.p in
    let weighed = c.weighed_share-weighed.ensures.value in
    let more = c.saturating_sub.result in
    let less = c.saturating_sub-in-loop-p.result in
    record {
      added_is = subst (AreValues (p + 1) plus) (sym {A = List ℕ} c.in_ok-push.ensures.items)
          (value_pushed p plus c.loop-p.plus.items more c.loop-p.invariant.added_is (c.saturating_sub.ensures ∙ ap (λ w. w - distance p) weighed));
      taken_is = subst (AreValues (p + 1) minus) (sym {A = List ℕ} c.in_ok-push-2.ensures.items)
          (value_pushed p minus c.loop-p.minus.items less c.loop-p.invariant.taken_is (c.saturating_sub-in-loop-p.ensures ∙ ap (λ w. distance p - w) weighed));
    }
