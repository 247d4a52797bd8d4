use Rattle.std.proofs.Common.{◌≡◌, ◌∙◌, sym, ap, subst, Some, None}
use Rattle.ratio_checker.specs.Shares.{AreSharesOn}
use Rattle.ratio_checker.proofs.Absent.{first_block}
use Rattle.te_model.specs.Feasible.{infeasibility}
use Rattle.link_bounds.proofs.AbsentBlocks.{absent_infeasibility}
use Rattle.link_bounds.proofs.feasibility.link_infeasibility.Goals as goal
use Rattle.link_bounds.proofs.feasibility.link_infeasibility.Goals.{in_default-via-in-Some+else-block-link, in_default-via-in_default}

pub returns-in_default : goal.returns-in_default
returns-in_default c =
    c.first_share.ensures c.args.head.now.routes c.args.link c.requires.shares
    ∙ absent_infeasibility c.args.head.now c.args.blocks.now c.args.link c.requires.ascend (λ x first same.
    elim c.in_default.branch [
      | in_default-via-in-Some+else-block-link w ↦
          let is : Some w.in-Some.block.now ≡ Some x = w.in-Some.ensures.value ∙ first in
          let one : x ≡ w.in-Some.block.now = cc in
          w.if-block-link.false (sym (ap (λ b. b.link) one) ∙ same)
      | in_default-via-in_default w ↦
          let is : None ≡ Some x = (rw w.in_default.is at c.first.ensures.value) ∙ first in
          cc
    ])

pub shares_failure-requires-clause-shares : goal.shares_failure-requires-clause-shares
shares_failure-requires-clause-shares c =
    subst (λ e. AreSharesOn c.args.head.now.routes e c.args.shares.now) (sym c.if-block-link.true) c.requires.shares

pub returns-in-Some : goal.returns-in-Some
returns-in-Some c =
    c.infeasibility.ensures
    ∙ ap (infeasibility c.args.head.now) (sym (first_block c.args.blocks.now c.args.link c.in-Some.block.now c.in-Some.ensures.value c.if-block-link.true))
