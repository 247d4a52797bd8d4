use Rattle.std.proofs.Common.{◌≡◌, ◌+◌, ◌<◌, length, arith, sym, subst}
use Rattle.std.proofs.lemmas.List.{get_or_read}
use Rattle.shortest_path.specs.declared.rows.Direction.TheVariants.{Forward}
use Rattle.shortest_path.specs.Rows.{IsSearchGraph}
use Rattle.shortest_path.proofs.Sound.{sound}
use Rattle.best_blocks.specs.Best.{IsBestBlock}
use Rattle.ratio_certificate.specs.declared.weighting.Weighting.{Weighting}
use Rattle.ratio_certificate.specs.Making.{AreBlocksOf}
use Rattle.ratio_certificate.specs.Places.{no_weighting, weighting_at}
use Rattle.ratio_certificate.specs.Weighting.{IsWeighting}
use Rattle.ratio_certificate.proofs.LinkLists.{block_added, link_read, shared_read}
use Rattle.ratio_certificate.proofs.making.blocks_of.Goals as goal

pub block_of-requires-clause-weighting : goal.block_of-requires-clause-weighting
block_of-requires-clause-weighting c =
    let list = c.args.list.now in
    let k = c.loop-k.k in
    let inside : k < length list = omega arith in
    let at : c.index-list-k.result ≡ weighting_at list k = get_or_read list k c.index-list-k.result inside c.index-list-k.is no_weighting in
    subst (IsWeighting c.args.problem.now.net.now c.args.problem.now.routing.now.routes c.args.problem.now.set.now) (sym at) (c.requires.list.each k (omega (arith, inside, c.requires.list.count)))

pub loop-k-preserved : goal.loop-k-preserved
loop-k-preserved c =
    let net = c.args.problem.now.net.now in
    let routes = c.args.problem.now.routing.now.routes in
    let wanted = c.args.problem.now.set.now in
    let list = c.args.list.now in
    let k = c.loop-k.k in
    let inside : k < length list = omega arith in
    let block = c.in_ok-block.block in
    let at : c.index-list-k.result ≡ weighting_at list k = get_or_read list k c.index-list-k.result inside c.index-list-k.is no_weighting in
    let best = subst (λ (w : Weighting). IsBestBlock net routes wanted w.link w.weights block) at c.in_ok-block.ensures.best in
    let added = subst (AreBlocksOf (k + 1) net routes wanted list) (sym c.in_ok-push.ensures.items)
    (block_added k net routes wanted list c.loop-k.blocks.items block c.loop-k.invariant.0 best)
    in
    (added, subst (IsSearchGraph net Forward) (sym c.in_ok-block.ensures.same) c.loop-k.invariant.1)

pub block_of-requires-clause-link : goal.block_of-requires-clause-link
block_of-requires-clause-link c =
    let list = c.args.list.now in
    link_read c.args.problem.now c.args.links.now list list c.loop-k.k c.index-links-k.result c.index-list-k.result c.loop-k-test.true c.index-links-k.is c.index-list-k.is
    c.requires.list

pub block_of-requires-clause-shared : goal.block_of-requires-clause-shared
block_of-requires-clause-shared c =
    shared_read c.args.problem.now c.args.links.now c.loop-k.k c.index-links-k.result (omega (arith, c.loop-k-test.true, c.requires.list.count)) c.index-links-k.is c.requires.links

pub with_orders-requires : goal.with_orders-requires
with_orders-requires c = sound c.args.problem.now.net.now c.requires.links.problem.network
