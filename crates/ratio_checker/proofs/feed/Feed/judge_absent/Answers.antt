use Rattle.std.proofs.Common.{◌∙◌, ◌≡◌, ◌<◌, sym, ap, arith, Some, None}
use Rattle.te_model.specs.Network.{link_count}
use Rattle.te_model.specs.Certificate.{empty_block}
use Rattle.te_model.specs.Inequalities.{shares_failure}
use Rattle.ratio_checker.specs.Finding.{finding_of}
use Rattle.ratio_checker.proofs.FedBlocks.{absent_found, absent_next, shares_alone}
use Rattle.ratio_checker.proofs.feed.Feed.judge_absent.Goals as goal

pub returns-in-Some : goal.returns-in-Some
returns-in-Some c =
    let feed = c.args.self.now in
    let routes = feed.head.routes in
    let link = c.loop-link.link in
    let within : link < link_count feed.head.network = omega (arith, c.loop-link-test.true, c.requires.within) in
    let row = c.first_share.ensures routes link (c.on.ensures routes (link_count feed.head.network) c.requires.feed.shares within) ∙ shares_alone routes link in
    let fails : shares_failure routes (empty_block link) ≡ Some c.in-Some.failure = sym row ∙ c.in-Some.is in
    c.finding_on.ensures
    ∙ sym (ap finding_of (absent_found routes feed.next link c.loop-link.auto.link c.loop-link.invariant c.args.end c.in-Some.failure c.loop-link-test.true fails))

pub loop-link-preserved : goal.loop-link-preserved
loop-link-preserved c =
    let feed = c.args.self.now in
    let routes = feed.head.routes in
    let link = c.loop-link.link in
    let within : link < link_count feed.head.network = omega (arith, c.loop-link-test.true, c.requires.within) in
    let row = c.first_share.ensures routes link (c.on.ensures routes (link_count feed.head.network) c.requires.feed.shares within) ∙ shares_alone routes link in
    let holds : shares_failure routes (empty_block link) ≡ None = sym row ∙ c.in_default.is in
    absent_next routes feed.next link c.loop-link.auto.link c.loop-link.invariant holds
