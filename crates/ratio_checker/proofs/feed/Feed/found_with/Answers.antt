use Rattle.std.proofs.Common.{◌-◌, refl}
use Rattle.te_model.specs.Counting.{or_else}
use Rattle.te_model.specs.Inequalities.{of_link, block_failure}
use Rattle.ratio_checker.specs.Feeds.{failure_without}
use Rattle.ratio_checker.proofs.FedBlocks.{found_first}
use Rattle.ratio_checker.proofs.feed.Feed.found_with.Goals as goal

pub returns-in-Yes : goal.returns-in-Yes
returns-in-Yes c = λ first was.
    let feed = c.args.self.now in
    let b = c.args.block.now in
    found_first first (or_else (failure_without feed.head.routes feed.next (b.link - feed.next)) (of_link b.link (block_failure feed.head b)))
    feed.found c.judge.result was (λ yes. c.judge.ensures) (λ other. absurd (other c.in-Yes.is))

pub returns-in-No : goal.returns-in-No
returns-in-No c = λ first was.
    let feed = c.args.self.now in
    let b = c.args.block.now in
    let no = c.in-No.is in
    found_first first (or_else (failure_without feed.head.routes feed.next (b.link - feed.next)) (of_link b.link (block_failure feed.head b)))
    feed.found feed.found was (λ yes. cc) (λ other. refl)
