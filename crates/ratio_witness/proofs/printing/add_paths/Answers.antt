use Rattle.ratio_witness.specs.Text.{share_line}
use Rattle.ratio_witness.proofs.PutLines.{all_images, one_image_more}
use Rattle.ratio_witness.proofs.printing.add_paths.Goals as goal

pub loop-path-preserved : goal.loop-path-preserved
loop-path-preserved c =
    one_image_more share_line _ _ _ c.in_ok-next.next c.args.paths.now c.loop-path.path-index c.path-item.result c.loop-path-test.true c.path-item.is
    c.in_ok-next.ensures c.loop-path.invariant c.in_ok-push.ensures.items

pub returns : goal.returns
returns c = all_images share_line _ _ c.args.paths.now c.loop-path.path-index c.loop-path-test.false c.loop-path.invariant
