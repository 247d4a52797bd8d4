use Rattle.std.proofs.Common.{◌≡◌, ℕ, ◌<◌, ◌≤◌, arith, ap, rules, ◌∙◌}
use Rattle.std.proofs.lemmas.List.{get_or_read}
use Rattle.te_model.specs.declared.certificate.Block.{Block}
use Rattle.te_model.specs.Certificate.{empty_block}
use Rattle.te_model.specs.Validity.{block_at}
use Rattle.worst_matrices.specs.Neediest.{need_on}
use Rattle.worst_matrices.proofs.FirstGreatest.{found_next, found_stays}
use Rattle.worst_matrices.proofs.neediest.neediest_link.Goals.{then-need-most, else-need-most}
use Rattle.worst_matrices.proofs.neediest.neediest_link.Goals as goal

pub loop-block-preserved : goal.loop-block-preserved
loop-block-preserved c =
    let net = c.args.net.now in
    let shares = c.args.shares.now in
    let blocks = c.args.blocks.now in
    let i = c.loop-block.block-index in
    let number = λ (k : ℕ). need_on net shares (block_at blocks k) in
    let value = λ (k : ℕ). (block_at blocks k).link in
    let is : c.block-item.result ≡ block_at blocks i = get_or_read blocks i c.block-item.result c.loop-block-test.true c.block-item.is (empty_block 0) in
    let need_is : c.need_on-need.result ≡ number i = c.need_on-need.ensures ∙ ap (need_on net shares) is in
    let link_is : c.block-item.result.link ≡ value i = ap (λ (b : Block). b.link) is in
    elim c.if-need-most.branch [
      | then-need-most w ↦
          let more : c.loop-block.most < number i = omega (arith, w.if-need-most.true, need_is) in
          record {
            within = rw w.found-is (search rules);
            neediest = rw w.found-is (rw w.most-is (rw need_is (rw link_is (found_next number value i c.loop-block.most c.loop-block.found c.loop-block.invariant.neediest more))));
          }
      | else-need-most w ↦
          let less : number i ≤ c.loop-block.most = omega (arith, w.if-need-most.false, need_is) in
          record {
            within = rw w.found-is c.loop-block.invariant.within;
            neediest = rw w.found-is (rw w.most-is (found_stays number value i c.loop-block.most c.loop-block.found c.loop-block.invariant.neediest less));
          }
    ]
