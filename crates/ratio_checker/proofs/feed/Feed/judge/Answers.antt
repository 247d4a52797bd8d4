use Rattle.te_model.specs.Network.{link_count}
use Rattle.ratio_checker.proofs.feed.Feed.judge.Goals as goal

pub shares_failure-shares-requires-clause-shares : goal.shares_failure-shares-requires-clause-shares
shares_failure-shares-requires-clause-shares c =
    let head = c.args.self.now.head in
    c.on.ensures head.routes (link_count head.network) c.requires.feed.shares c.requires.block.link
