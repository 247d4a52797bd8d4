use Rattle.std.proofs.Common.{◌≡◌, List, length, replicate, arith, ap, sym, subst, ◌∙◌}
use Rattle.te_model.specs.declared.route.PairRoutes.{PairRoutes}
use Rattle.best_blocks.proofs.SharesListed.{AreWritten, all_written, none_written, one_written}
use Rattle.best_blocks.proofs.sharing.shares_by.Goals as goal

pub loop-entry-init : goal.loop-entry-init
loop-entry-init c =
    let routes = c.args.routing.now.routes in
    let are : c.in_ok-shares.shares.items ≡ replicate (length routes) 0 =
    c.in_ok-shares.ensures.items_if_clones_equal (λ y same. same) ∙ ap (λ (rs : List PairRoutes). replicate (length rs) 0) c.as_slice.ensures
    in
    subst (AreWritten 0 routes c.args.link c.args.list.now) (sym are) (none_written routes c.args.link c.args.list.now)

pub loop-entry-preserved : goal.loop-entry-preserved
loop-entry-preserved c =
    one_written c.args.routing.now.routes c.args.link c.loop-entry.entry-index c.args.list.now c.loop-entry.shares.items c.requires c.loop-entry-test.true
    c.loop-entry.invariant

pub returns : goal.returns
returns c =
    let routes = c.args.routing.now.routes in
    let list = c.args.list.now in
    let shares = c.loop-entry.shares.items in
    let all : c.loop-entry.entry-index ≡ length list = omega (arith, c.loop-entry-test.false, c.loop-entry.auto.entry-index-end) in
    all_written routes c.args.link list shares c.requires (subst (λ n. AreWritten n routes c.args.link list shares) all c.loop-entry.invariant)
