use Rattle.std.proofs.Common.{◌+◌, ◌∙◌, ap, sym, subst}
use Rattle.te_model.specs.Counting.{first_below, unless}
use Rattle.hose_bound.specs.Judging.{IsFirstUncoveredPair}
use Rattle.hose_bound.specs.Verdict.{hose_block_of, covers_pair}
use Rattle.hose_bound.proofs.UncoveredPairs.{limit_of, uncovered_stays, uncovered_moves}
use Rattle.hose_bound.proofs.pairs.first_uncovered.Goals.{in-Some, in_default}
use Rattle.hose_bound.proofs.pairs.first_uncovered.Goals as goal

pub loop-p-preserved : goal.loop-p-preserved
loop-p-preserved c =
    let routes = c.args.routes.now in
    let blocks = c.args.blocks.now in
    let links = c.args.links in
    let p = c.loop-p.p in
    let u = c.loop-p.first in
    let found = ap (λ n. first_below n (λ e. unless (covers_pair routes e (hose_block_of blocks e) p) e)) (sym c.loop-p.invariant.limit) ∙ sym c.uncovered_link.ensures in
    elim c.match-uncovered_link.branch [
      | in-Some w ↦ record {
        is = subst (IsFirstUncoveredPair routes blocks links (p + 1)) (sym w.first-is)
            (uncovered_moves routes blocks links p u w.in-Some.link c.loop-p.invariant.is (found ∙ w.in-Some.is));
        limit = w.limit-is ∙ ap (λ x. limit_of x links) (sym w.first-is);
      }
      | in_default w ↦ record {
        is = subst (IsFirstUncoveredPair routes blocks links (p + 1)) (sym w.first-is)
            (uncovered_stays routes blocks links p u c.loop-p.invariant.is (found ∙ w.in_default.is));
        limit = w.limit-is ∙ c.loop-p.invariant.limit ∙ ap (λ x. limit_of x links) (sym w.first-is);
      }
    ]
