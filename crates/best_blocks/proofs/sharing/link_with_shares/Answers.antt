use Rattle.std.proofs.Common.{arith, sym, subst}
use Rattle.routing.specs.Shares.{AreSharesOn}
use Rattle.best_blocks.proofs.SharesListed.{link_within, listed_some}
use Rattle.best_blocks.proofs.sharing.link_with_shares.Goals as goal

pub on-requires : goal.on-requires
on-requires c =
    let inside = link_within c.args.net.now c.args.routing.now.routes c.args.link c.requires.routing.splits c.requires.some in
    omega (arith, inside, c.in_ok-all.ensures.count)

pub shared_link-requires-clause-link : goal.shared_link-requires-clause-link
shared_link-requires-clause-link c = link_within c.args.net.now c.args.routing.now.routes c.args.link c.requires.routing.splits c.requires.some

pub shared_link-requires-clause-list : goal.shared_link-requires-clause-list
shared_link-requires-clause-list c =
    let inside = link_within c.args.net.now c.args.routing.now.routes c.args.link c.requires.routing.splits c.requires.some in
    subst (AreSharesOn c.args.routing.now.routes c.args.link) (sym c.on.ensures) (c.in_ok-all.ensures.each c.args.link inside)

pub shared_link-requires-clause-some : goal.shared_link-requires-clause-some
shared_link-requires-clause-some c =
    let inside = link_within c.args.net.now c.args.routing.now.routes c.args.link c.requires.routing.splits c.requires.some in
    let list = subst (AreSharesOn c.args.routing.now.routes c.args.link) (sym c.on.ensures) (c.in_ok-all.ensures.each c.args.link inside) in
    listed_some c.args.routing.now.routes c.args.link c.on.result.now list c.requires.some
