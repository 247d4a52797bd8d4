use Rattle.std.proofs.Common.{◌≡◌, ◌∙◌, ◌+◌, ◌<◌, ◌≤◌, ℕ, ap, arith, refl, sym, Some, None}
use Rattle.te_model.specs.Certificate.{block_of}
use Rattle.te_model.specs.Feasible.{infeasibility}
use Rattle.te_model.specs.Network.{link_count}
use Rattle.ratio_checker.specs.Finding.{finding_of}
use Rattle.link_bounds.specs.Feeds.{infeasibility_from}
use Rattle.link_bounds.proofs.FirstInfeasible.{found_from, none_from}
use Rattle.link_bounds.proofs.feasibility.infeasibility_from.Goals as goal

pub loop-link-init : goal.loop-link-init
loop-link-init c = record {
  none = λ count is. ap (infeasibility_from c.args.head.now c.args.blocks.now c.args.from) (none_yet count is);
  ascend = c.requires.ascend;
  same = λ k above. refl;
  checked = c.requires.blocks;
}
  where
    none_yet : (count : ℕ) → c.args.from + count ≡ c.args.from → count ≡ 0
    none_yet count is = omega (arith, is)

pub on-requires : goal.on-requires
on-requires c =
    let head = c.args.head.now in
    let inside : c.loop-link.link < link_count head.network = omega (arith, c.loop-link-test.true, c.requires.within) in
    (head.routes, link_count head.network, c.requires.shares, inside)

pub link_infeasibility-requires-clause-shares : goal.link_infeasibility-requires-clause-shares
link_infeasibility-requires-clause-shares c =
    let head = c.args.head.now in
    let inside : c.loop-link.link < link_count head.network = omega (arith, c.loop-link-test.true, c.requires.within) in
    c.on.ensures head.routes (link_count head.network) c.requires.shares inside

pub returns-in-Some : goal.returns-in-Some
returns-in-Some c =
    let head = c.args.head.now in
    let blocks = c.args.blocks.now in
    let link = c.loop-link.link in
    let here : link ≤ link = omega arith in
    let fails : infeasibility head (block_of blocks link) ≡ Some c.in-Some.failure =
    ap (infeasibility head) (sym (c.loop-link.invariant.same link here)) ∙ sym c.in-Some.ensures
    in
    c.finding_on.ensures
    ∙ sym (ap finding_of (found_from head blocks c.args.from link c.loop-link.auto.link c.loop-link.invariant.none c.args.end c.in-Some.failure c.loop-link-test.true fails))

pub loop-link-preserved : goal.loop-link-preserved
loop-link-preserved c =
    let head = c.args.head.now in
    let blocks = c.args.blocks.now in
    let link = c.loop-link.link in
    let here : link ≤ link = omega arith in
    let holds : infeasibility head (block_of blocks link) ≡ None =
    ap (infeasibility head) (sym (c.loop-link.invariant.same link here)) ∙ sym c.in_default.ensures
    in
    record {
      none = none_from head blocks c.args.from link c.loop-link.auto.link c.loop-link.invariant.none holds;
      ascend = c.blocks_after-rest.ensures.ascend;
      same = λ k later. c.blocks_after-rest.ensures.same k (omega arith) ∙ c.loop-link.invariant.same k (omega arith);
      checked = c.blocks_after-rest.ensures.rest head c.loop-link.invariant.checked;
    }
