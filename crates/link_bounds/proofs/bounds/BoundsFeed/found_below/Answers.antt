use Rattle.std.proofs.Common.{◌-◌, refl}
use Rattle.ratio_checker.proofs.FedBlocks.{found_first}
use Rattle.link_bounds.specs.Feeds.{infeasibility_from}
use Rattle.link_bounds.proofs.bounds.BoundsFeed.found_below.Goals as goal

pub returns-in-Yes : goal.returns-in-Yes
returns-in-Yes c = λ first was.
    let feed = c.args.self.now in
    found_first first (infeasibility_from feed.head c.args.blocks.now feed.next (c.args.end - feed.next)) feed.found c.infeasibility_from.result
    was (λ yes. c.infeasibility_from.ensures) (λ other. absurd (other c.in-Yes.is))

pub returns-in-No : goal.returns-in-No
returns-in-No c = λ first was.
    let feed = c.args.self.now in
    let no = c.in-No.is in
    found_first first (infeasibility_from feed.head c.args.blocks.now feed.next (c.args.end - feed.next)) feed.found feed.found
    was (λ yes. cc) (λ other. refl)
