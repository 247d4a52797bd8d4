use Rattle.std.proofs.Common.{◌∙◌, ◌-◌, ◌+◌, ◌<◌, [], ◌∷◌, ◌++◌, slice_set, sym, ap, subst, arith}
use Rattle.std.specs.Prelude.{All, IsTrue}
use Rattle.std.proofs.lemmas.List.Elements.{All-cons, All-nil}
use Rattle.te_model.specs.Counting.{or_else}
use Rattle.te_model.specs.Network.{is_well_formed}
use Rattle.te_model.specs.Validity.{IsValidBlock}
use Rattle.best_blocks.specs.Need.{need_of}
use Rattle.ratio_checker.specs.Ascending.{AscendsFrom}
use Rattle.ratio_checker.specs.Checked.{CanCheckBlock}
use Rattle.ratio_checker.specs.Finding.{finding_of}
use Rattle.ratio_checker.proofs.FormedHeads.{head_formed}
use Rattle.ratio_checker.proofs.MoreBlocks.{before_more, count_more, link_is_there, valid_more}
use Rattle.ratio_checker.proofs.Validity.{valid_block}
use Rattle.te_model.proofs.ValidParts.{valid_parts}
use Rattle.link_bounds.specs.Feeds.{HasNeeds, infeasibility_from}
use Rattle.link_bounds.proofs.FedBlocks.{block_more, needs_more}
use Rattle.link_bounds.proofs.bounds.BoundsFeedBlockFeed.block.Goals as goal

pub found_below-self-requires-clause-feed : goal.found_below-self-requires-clause-feed
found_below-self-requires-clause-feed c = c.requires.fed.2.finds

pub found_below-self-requires-clause-blocks : goal.found_below-self-requires-clause-blocks
found_below-self-requires-clause-blocks c =
    let head = c.args.self.now.head in
    let b = c.args.block.now in
    subst (All (CanCheckBlock head)) (sym c.from_ref.ensures.value)
    (All-cons (CanCheckBlock head) b [] (valid_block head b c.requires.block) (All-nil (CanCheckBlock head)))

pub found_below-self-requires-clause-ascend : goal.found_below-self-requires-clause-ascend
found_below-self-requires-clause-ascend c =
    subst (AscendsFrom (λ b. b.link) c.args.self.now.next) (sym c.from_ref.ensures.value) (c.requires.above, tt)

pub found_below-self-requires-clause-within : goal.found_below-self-requires-clause-within
found_below-self-requires-clause-within c =
    let there = link_is_there c.args.self.now.head c.args.block.now c.requires.block in omega arith

pub need-requires-clause-network : goal.need-requires-clause-network
need-requires-clause-network c =
    let stands = c.requires.fed.2 in
    let parts = (valid_parts (record { head = c.requires.fed.0; blocks = c.requires.fed.1 })).0 stands.valid in
    subst (λ h. IsTrue (is_well_formed h.network)) (sym stands.same) (head_formed c.requires.fed.0 parts.head)

pub returns-clause-fed : goal.returns-clause-fed
returns-clause-fed c = λ head blocks stands.
    let old = c.args.self.now in
    let b = c.args.block.now in
    let next = old.next in
    let above = c.requires.above in
    let sound = subst (λ h. IsValidBlock h b) stands.same c.requires.block in
    let there = link_is_there head b sound in
    let judged = c.found_below-self.ensures (infeasibility_from head blocks 0 next) stands.found
    ∙ ap (λ bs. finding_of (or_else (infeasibility_from head blocks 0 next) (infeasibility_from old.head bs next (b.link + 1 - next)))) c.from_ref.ensures.value
    ∙ ap (λ h. finding_of (or_else (infeasibility_from head blocks 0 next) (infeasibility_from h (b ∷ []) next (b.link + 1 - next)))) stands.same
    in
    let lower : All (λ x. x.link < b.link) blocks = λ k d within. let below = stands.before k d within in omega (arith, below, above) in
    record {
      same = stands.same;
      valid = valid_more head blocks b next stands.valid sound stands.before stands.count above;
      finds = record { head = stands.finds.head; shares = stands.finds.shares };
      before = before_more blocks b next stands.before above;
      count = count_more blocks b next stands.count above;
      within = omega (arith, there);
      found = judged ∙ ap finding_of (sym (block_more head blocks b next stands.before above));
      needs = subst (λ n. HasNeeds (record { head = head; blocks = blocks ++ b ∷ [] }) (slice_set old.needs.items b.link n))
          (sym (c.need.ensures.value ∙ ap (λ h. need_of h.network b) stands.same)) (needs_more head blocks b old.needs.items there stands.needs lower);
    }
