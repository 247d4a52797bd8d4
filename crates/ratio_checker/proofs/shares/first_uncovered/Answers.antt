use Rattle.std.proofs.Common.{◌+◌, ◌∙◌, ap, sym, subst}
use Rattle.te_model.specs.Counting.{first_below, unless}
use Rattle.te_model.specs.Network.{link_count}
use Rattle.te_model.specs.Certificate.{block_of}
use Rattle.te_model.specs.Inequalities.{covers_share}
use Rattle.ratio_checker.specs.Uncovered.{IsFirstUncovered}
use Rattle.ratio_checker.proofs.UncoveredLinks.{limit_of, uncovered_stays, uncovered_moves}
use Rattle.ratio_checker.proofs.shares.first_uncovered.Goals.{in-Some, in_default}
use Rattle.ratio_checker.proofs.shares.first_uncovered.Goals as goal

pub loop-p-preserved : goal.loop-p-preserved
loop-p-preserved c =
    let routes = c.args.head.now.routes in
    let blocks = c.args.blocks.now in
    let links = link_count c.args.head.now.network in
    let p = c.loop-p.p in
    let u = c.loop-p.first in
    let found = ap (λ n. first_below n (λ e. unless (covers_share routes (block_of blocks e) p) e)) (sym c.loop-p.invariant.limit) ∙ sym c.uncovered_link.ensures in
    elim c.match-uncovered_link.branch [
      | in-Some w ↦ record {
        is = subst (IsFirstUncovered routes blocks links (p + 1)) (sym w.first-is)
            (uncovered_moves routes blocks links p u w.in-Some.link c.loop-p.invariant.is (found ∙ w.in-Some.is));
        limit = w.limit-is ∙ ap (λ x. limit_of x links) (sym w.first-is);
      }
      | in_default w ↦ record {
        is = subst (IsFirstUncovered routes blocks links (p + 1)) (sym w.first-is)
            (uncovered_stays routes blocks links p u c.loop-p.invariant.is (found ∙ w.in_default.is));
        limit = w.limit-is ∙ c.loop-p.invariant.limit ∙ ap (λ x. limit_of x links) (sym w.first-is);
      }
    ]
