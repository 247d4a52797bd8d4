use Rattle.std.proofs.Common.{◌≡◌, ◌∙◌, sym, ap, Some, None}
use Rattle.te_model.specs.Counting.{unless}
use Rattle.te_model.specs.Inequalities.{failure_at}
use Rattle.hose_bound.specs.Verdict.{pays_numbers}
use Rattle.hose_bound.proofs.Absent.{first_block, no_block, zeros_pay}
use Rattle.hose_bound.proofs.verdict.bound_failure_on.Goals as goal

pub returns-in-Some : goal.returns-in-Some
returns-in-Some c =
    c.bound_failure.ensures
    ∙ ap (λ b. unless (pays_numbers c.args.net.now c.args.cert.now.hose c.args.cert.now.bound c.args.link b) (failure_at 2 0))
    (sym (first_block c.args.blocks.now c.args.link c.in-Some.block.now c.in-Some.ensures.value c.if-block-link.true))

pub returns-in_default : goal.returns-in_default
returns-in_default c =
    let absent = no_block c.args.blocks.now c.args.link c.requires.ascend (λ x first same.
    let is : Some c.in-Some.block.now ≡ Some x = c.in-Some.ensures.value ∙ first in
    let one : x ≡ c.in-Some.block.now = cc in
    c.if-block-link.false (sym (ap (λ b. b.link) one) ∙ same)) in
    rw absent (sym (ap (λ t. unless t (failure_at 2 0)) (zeros_pay c.args.net.now c.args.cert.now.hose c.args.cert.now.bound c.args.link)))

pub returns-in_default-2 : goal.returns-in_default-2
returns-in_default-2 c =
    let absent = no_block c.args.blocks.now c.args.link c.requires.ascend (λ x first same.
    let is : None ≡ Some x = (rw c.in_default.is at c.first.ensures.value) ∙ first in
    cc) in
    rw absent (sym (ap (λ t. unless t (failure_at 2 0)) (zeros_pay c.args.net.now c.args.cert.now.hose c.args.cert.now.bound c.args.link)))
