use Rattle.std.proofs.Common.{◌∙◌, ◌-◌, sym, ap, subst, arith}
use Rattle.te_model.specs.Counting.{or_else}
use Rattle.te_model.specs.Inequalities.{of_link, block_failure}
use Rattle.te_model.specs.Validity.{IsValidBlock}
use Rattle.ratio_checker.specs.Feeds.{failure_below, failure_without}
use Rattle.ratio_checker.specs.Finding.{finding_of}
use Rattle.ratio_checker.proofs.FedBlocks.{block_more}
use Rattle.ratio_checker.proofs.MoreBlocks.{before_more, count_more, link_is_there, valid_more}
use Rattle.ratio_checker.proofs.Validity.{valid_block}
use Rattle.ratio_checker.proofs.feed.FeedBlockFeed.block.Goals as goal

pub found_with-self-requires-clause-block : goal.found_with-self-requires-clause-block
found_with-self-requires-clause-block c = valid_block c.args.self.now.head c.args.block.now c.requires.block

pub returns-clause-fed : goal.returns-clause-fed
returns-clause-fed c = λ head blocks stands.
    let old = c.args.self.now in
    let b = c.args.block.now in
    let next = old.next in
    let above = c.requires.above in
    let sound = subst (λ h. IsValidBlock h b) stands.same c.requires.block in
    let judged = c.found_with-self.ensures (failure_below next head blocks) stands.found
    ∙ ap (λ h. finding_of (or_else (failure_below next head blocks) (or_else (failure_without h.routes next (b.link - next)) (of_link b.link (block_failure h b)))))
    stands.same
    in
    record {
      same = stands.same;
      valid = valid_more head blocks b next stands.valid sound stands.before stands.count above;
      judges = record { head = stands.judges.head; shares = stands.judges.shares };
      before = before_more blocks b next stands.before above;
      count = count_more blocks b next stands.count above;
      within = let there = link_is_there head b sound in omega arith;
      found = judged ∙ ap finding_of (sym (block_more head blocks b next stands.before above));
    }
