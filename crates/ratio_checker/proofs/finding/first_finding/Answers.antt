use Rattle.std.proofs.Common.{◌≡◌, ◌<◌, ◌≤◌, ap, sym, ◌∙◌, arith, refl, subst, Some, None}
use Rattle.std.specs.Prelude.{All}
use Rattle.te_model.specs.Network.{link_count}
use Rattle.te_model.specs.Certificate.{block_of}
use Rattle.te_model.specs.Inequalities.{block_failure, shares_failure, of_link}
use Rattle.te_model.proofs.Searches.{first_below_more}
use Rattle.ratio_checker.specs.Ascending.{AscendsFrom}
use Rattle.ratio_checker.specs.Checked.{CanCheckBlock}
use Rattle.ratio_checker.specs.Finding.{finding_of}
use Rattle.ratio_checker.proofs.Validity.{valid_head, valid_blocks, blocks_in_order}
use Rattle.ratio_checker.proofs.UncoveredLinks.{fault_here}
use Rattle.ratio_checker.proofs.Verdicts.{first_failure_found}
use Rattle.ratio_checker.proofs.finding.first_finding.Goals as goal

pub loop-e-init : goal.loop-e-init
loop-e-init c =
    let cert = c.args.cert.now in
    let is = sym c.as_slice-blocks.ensures in
    record {
      none = refl;
      ascend = subst (AscendsFrom (λ b. b.link) 0) is (blocks_in_order cert c.requires);
      same = λ k above. ap (λ bs. block_of bs k) c.as_slice-blocks.ensures;
      checked = subst (All (CanCheckBlock cert.head)) is (valid_blocks cert c.requires);
    }

pub first_uncovered-uncovered-requires-clause-head : goal.first_uncovered-uncovered-requires-clause-head
first_uncovered-uncovered-requires-clause-head c = valid_head c.args.cert.now c.requires

pub first_uncovered-uncovered-requires-clause-blocks : goal.first_uncovered-uncovered-requires-clause-blocks
first_uncovered-uncovered-requires-clause-blocks c =
    subst (All (CanCheckBlock c.args.cert.now.head)) (sym c.as_slice-blocks.ensures) (valid_blocks c.args.cert.now c.requires)

pub first_uncovered-uncovered-requires-clause-ascend : goal.first_uncovered-uncovered-requires-clause-ascend
first_uncovered-uncovered-requires-clause-ascend c =
    subst (AscendsFrom (λ b. b.link) 0) (sym c.as_slice-blocks.ensures) (blocks_in_order c.args.cert.now c.requires)

pub link_failure-requires-clause-shares : goal.link_failure-requires-clause-shares
link_failure-requires-clause-shares c =
    let cert = c.args.cert.now in
    let e = c.loop-e.e in
    let below : e < link_count cert.head.network = grind arith in
    let is = rw c.as_slice-blocks.ensures at c.first_uncovered-uncovered.ensures in
    c.fault_on.ensures ∙ fault_here cert c.first_uncovered-uncovered.result e is below c.loop-e.invariant.none
    ∙ ap (shares_failure cert.head.routes) (sym (c.loop-e.invariant.same e (omega arith)))

pub link_failure-requires-clause-head : goal.link_failure-requires-clause-head
link_failure-requires-clause-head c = valid_head c.args.cert.now c.requires

pub returns-in-Some : goal.returns-in-Some
returns-in-Some c =
    let cert = c.args.cert.now in
    let e = c.loop-e.e in
    let here : e ≤ e = omega arith in
    let below : e < link_count cert.head.network = grind arith in
    let fails : block_failure cert.head (block_of cert.blocks e) ≡ Some c.in-Some.failure =
    ap (block_failure cert.head) (sym (c.loop-e.invariant.same e here)) ∙ sym c.in-Some.ensures
    in
    c.finding_on.ensures ∙ sym (ap finding_of (first_failure_found cert e c.in-Some.failure below c.loop-e.invariant.none fails))

pub loop-e-preserved : goal.loop-e-preserved
loop-e-preserved c =
    let cert = c.args.cert.now in
    let e = c.loop-e.e in
    let here : e ≤ e = omega arith in
    let holds : block_failure cert.head (block_of cert.blocks e) ≡ None =
    ap (block_failure cert.head) (sym (c.loop-e.invariant.same e here)) ∙ sym c.in_default.ensures
    in
    record {
      none = first_below_more e (λ k. of_link k (block_failure cert.head (block_of cert.blocks k))) c.loop-e.invariant.none (ap (of_link e) holds);
      ascend = c.blocks_after-blocks.ensures.ascend;
      same = λ k later. c.blocks_after-blocks.ensures.same k (omega arith) ∙ c.loop-e.invariant.same k (omega arith);
      checked = c.blocks_after-blocks.ensures.rest cert.head c.loop-e.invariant.checked;
    }
