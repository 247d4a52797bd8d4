use Rattle.std.proofs.Common.{◌≡◌, ◌∙◌, max, List, arith, subst}
use Rattle.std.specs.Prelude.{All, IsTrue}
use Rattle.std.proofs.lemmas.List.{take_all}
use Rattle.hose_bound.specs.declared.hose.HoseBlock.{HoseBlock}
use Rattle.hose_bound.specs.Verdict.{pays_numbers}
use Rattle.hose_bound.proofs.LeastBounds.{bound_pays_more, one_of_all}
use Rattle.te_model.proofs.Choices.{ord_max_is}
use Rattle.hose_bound.proofs.maker.least_bound.Goals as goal

pub loop-block-preserved : goal.loop-block-preserved
loop-block-preserved c =
    let net = c.args.net.now in
    let h = c.args.hose.now in
    let blocks = c.args.blocks.now in
    let k = c.loop-block.block-index in
    let b = c.block-item.result in
    let bound = c.loop-block.bound in
    let one = c.bound_of.result in
    let grows : c.max-bound.result ≡ max bound one = c.max-bound.ensures ∙ ord_max_is bound one in
    record {
      pays = bound_pays_more net h blocks k b bound one c.max-bound.result c.loop-block-test.true c.block-item.is grows c.loop-block.invariant.pays c.bound_of.ensures.pays;
      least = λ other all.
          let before = c.loop-block.invariant.least other all in
          let here = c.bound_of.ensures.least other (one_of_all net h other blocks k b c.loop-block-test.true c.block-item.is all) in
          omega (arith, grows, before, here);
      small = omega (arith, grows, c.loop-block.invariant.small, c.bound_of.ensures.small);
    }

pub returns-clause-bound : goal.returns-clause-bound
returns-clause-bound c = record {
  pays = subst (λ (bs : List HoseBlock). All (λ (b : HoseBlock). IsTrue (pays_numbers c.args.net.now c.args.hose.now c.loop-block.bound b.link b)) bs)
      (take_all c.loop-block.block-index c.args.blocks.now c.loop-block-test.false) c.loop-block.invariant.pays;
  least = c.loop-block.invariant.least;
}
