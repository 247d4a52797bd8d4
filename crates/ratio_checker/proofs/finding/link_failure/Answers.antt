use Rattle.std.proofs.Common.{◌≡◌, ◌∙◌, sym, ap, Some, None}
use Rattle.te_model.specs.Inequalities.{block_failure}
use Rattle.ratio_checker.proofs.Absent.{first_block, no_block, only_shares_fail}
use Rattle.ratio_checker.proofs.finding.link_failure.Goals as goal

pub returns-in_default : goal.returns-in_default
returns-in_default c =
    let absent = no_block c.args.blocks.now c.args.link c.requires.ascend (λ x first same.
    let is : Some c.in-Some.block.now ≡ Some x = c.in-Some.ensures.value ∙ first in
    let one : x ≡ c.in-Some.block.now = cc in
    c.if-block-link.false (sym (ap (λ b. b.link) one) ∙ same)) in
    c.requires.shares ∙ only_shares_fail c.args.head.now c.args.blocks.now c.args.link absent

pub returns-in_default-2 : goal.returns-in_default-2
returns-in_default-2 c =
    let absent = no_block c.args.blocks.now c.args.link c.requires.ascend (λ x first same.
    let is : None ≡ Some x = (rw c.in_default.is at c.first.ensures.value) ∙ first in
    cc) in
    c.requires.shares ∙ only_shares_fail c.args.head.now c.args.blocks.now c.args.link absent

pub returns-in-Some : goal.returns-in-Some
returns-in-Some c =
    c.block_failure.ensures
    ∙ ap (block_failure c.args.head.now) (sym (first_block c.args.blocks.now c.args.link c.in-Some.block.now c.in-Some.ensures.value c.if-block-link.true))
