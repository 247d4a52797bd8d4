use Rattle.std.proofs.Common.{arith}
use Rattle.ratio_checker.proofs.LinkPairLists.{with_share}
use Rattle.ratio_checker.proofs.link_pairs.LinkPairs.add.Goals as goal

pub returns-in_ok-push-2 : goal.returns-in_ok-push-2
returns-in_ok-push-2 c = λ routes e has is.
    let own = c.args.self.now in
    rw (c.in_ok-push.ensures.items, c.in_ok-push-2.ensures.items)
    (with_share routes e c.args.pair c.args.amount own.pairs.items own.shares.items has is (omega (arith, c.if-amount-ne0.true)))
